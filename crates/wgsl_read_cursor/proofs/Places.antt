-- The fault that is named of a text is in it, or ends one byte past it.
use Rattle.std.proofs.Common.{◌≡◌, ℕ, ◌+◌, ◌≤◌, Bool, true, false, List, [], ◌∷◌, ◌++◌, refl, sym, ap, subst, ◌∙◌, arith, if◌then◌else◌, nat_lt, append_assoc}
use Rattle.std.specs.Prelude.{Some}
use Rattle.grammar.specs.Tokens.{Token, Fault, Span, last_end, span_of}
use Rattle.grammar.specs.Endings.{Ending, Ending.carried}
use Rattle.wgsl_model.specs.Faults.Kinds.{span_of_token, next_place, last_place, unexpected_end}
use Rattle.wgsl_model.specs.Grammar.Checks.{Checked, right, wrong, fault_in}
use Rattle.wgsl_model.specs.Faults.Checked.{IsCheckedFault, IsCheckedFault.reserved_fault, IsCheckedFault.severity_fault_at, IsCheckedFault.attribute_fault_at, IsCheckedFault.var_template_fault}
use Rattle.wgsl_model.specs.Faults.NamedFault.{IsNamed, IsNamed.checked_first, IsNamed.unexpected_first, IsNamed.carried_last, IsNamed.missing_last, IsNamedUnchecked, IsNamedUnchecked.unchecked_unexpected, IsNamedUnchecked.unchecked_carried, IsNamedUnchecked.unchecked_missing}
use Rattle.wgsl_model.specs.Grammar.Symbols.{Dialect, Symbol}
use Rattle.wgsl_model.specs.Tokens.TokenList.{IsTokenList, width}
use Rattle.wgsl_lexer.specs.InOrder.{AreInOrder, IsFaultAfter}
use Rattle.wgsl_error.specs.declared.Error.{Error}
use Rattle.wgsl_read_cursor.specs.Answers.{IsOutOfMemory}
use Rattle.wgsl_read_cursor.specs.Places.{StandsWithin}
use Rattle.wgsl_lexer.proofs.InOrder.{tokens_in_order, fault_after, one_in_order, last_in_order}

-- a span in a text of a number of bytes, or that ends one byte past it
abbrev Within : Span → ℕ → Type 0
Within s size = (s.start ≤ s.end) × (s.end ≤ size + 1)

-- a token among tokens in order
token_within : (to : ℕ) (p us : List Token) (t : Token) → AreInOrder 0 (p ++ (t ∷ us)) to → Within (span_of_token t) to
token_within to p us t h = let o = one_in_order 0 to p us t h in (omega (arith, o.1), omega (arith, o.2))

-- what is after tokens in order is in order
after_in_order : (from to : ℕ) (p us : List Token) → AreInOrder from (p ++ us) to → AreInOrder (last_end from p) us to
after_in_order from to [] us h = h
after_in_order from to (t ∷ p) us h = after_in_order t.end to p us h.2

-- what is before others ends before them
before_in_order : (from to : ℕ) (p us : List Token) → AreInOrder from (p ++ us) to
    → (from ≤ last_end from p) × (last_end from p ≤ to)
before_in_order from to [] us h = let k = last_in_order from to us h in (omega arith, omega (arith, k.0, k.1))
before_in_order from to (t ∷ p) us h = let k = before_in_order t.end to p us h.2 in (omega (arith, h.0, h.1, k.0), k.1)

-- a slice of tokens in order
slice_within : (to : ℕ) (before slice ys : List Token) → AreInOrder 0 (before ++ (slice ++ ys)) to
    → Within (span_of slice) to
slice_within to before [] ys h = (omega arith, omega arith)
slice_within to before (t ∷ slice) ys h =
    let from = after_in_order 0 to before ((t ∷ slice) ++ ys) h in
    let k = before_in_order t.end to slice ys from.2 in
    (omega (arith, from.1, k.0), omega (arith, k.1))

-- what a check finds has the span that was checked
span_in : {A : Type 0} (c : Checked A) (f : List ℕ → Fault) (span : Span) (x : Fault)
    → ((text : List ℕ) → (f text).span ≡ span) → fault_in c f ≡ Some x → x.span ≡ span
span_in (right a) f span x h e = absurd cc
span_in (wrong text) f span x h e = let same : f text ≡ x = cc in sym (ap (λ (y : Fault). y.span) same) ∙ h text

-- a checked fault
checked_within : (to : ℕ) (ts : List Token) (ending : Ending) (x : Fault) (ys : List Token)
    → AreInOrder 0 ts to → IsCheckedFault ts ending x ys → Within x.span to
checked_within to ts ending x ys h (reserved_fault (before, t, e, n, c, is)) =
    subst (λ (y : Fault). Within y.span to) (sym is) (token_within to before ys t (subst (λ z. AreInOrder 0 z to) e h))
checked_within to ts ending x ys h (severity_fault_at (before, d, p, t, e, n, dc, pc, tc, l, is)) =
    subst (λ (y : Fault). Within y.span to) (sym is) (token_within to (before ++ (d ∷ (p ∷ []))) ys t
    (subst (λ z. AreInOrder 0 z to) (e ∙ sym (append_assoc before (d ∷ (p ∷ [])) (t ∷ ys))) h))
checked_within to ts ending x ys h (attribute_fault_at (before, slice, a, e, d, w, is)) =
    subst (λ (s : Span). Within s to) (sym (span_in _ _ (span_of slice) x (λ text. refl) is))
    (slice_within to before slice ys (subst (λ z. AreInOrder 0 z to) e h))
checked_within to ts ending x ys h (var_template_fault (before, slice, es, e, n, d, is)) =
    subst (λ (s : Span). Within s to) (sym (span_in _ _ (span_of slice) x (λ text. refl) is))
    (slice_within to before slice ys (subst (λ z. AreInOrder 0 z to) e h))

-- the place after a place
next_is : (p : ℕ) → (p ≤ next_place p) × (next_place p ≤ p + 1)
next_is p = by_test (nat_lt p last_place)
  where
    by_test : (b : Bool) → (p ≤ (if b then p + 1 else p)) × ((if b then p + 1 else p) ≤ p + 1)
    by_test true = (omega arith, omega arith)
    by_test false = (omega arith, omega arith)

-- a token that can't be where it is
unexpected_within : (source : List ℕ) (ts : List Token) (e : Ending) (p us : List Token) (t : Token)
    → IsTokenList source ts e → ts ≡ p ++ (t ∷ us) → Within (span_of_token t) (width source)
unexpected_within source ts e p us t l h = token_within (width source) p us t
    (subst (λ (z : List Token). AreInOrder 0 z (width source)) h (tokens_in_order source ts e l))

-- what ended the tokens
carried_within : (source : List ℕ) (ts : List Token) (e : Ending) (y : Fault)
    → IsTokenList source ts e → e ≡ carried y → Within y.span (width source)
carried_within source ts e y l q =
    let b = subst (λ (z : Ending). IsFaultAfter ts z (width source)) q (fault_after source ts e l) in
    (omega (arith, b.1), omega (arith, b.2))

-- an end after which a token is missing
missing_within : (source : List ℕ) (ts : List Token) (e : Ending) → IsTokenList source ts e
    → Within (unexpected_end (last_end 0 ts)).span (width source)
missing_within source ts e l =
    let o = last_in_order 0 (width source) ts (tokens_in_order source ts e l) in
    let w = next_is (last_end 0 ts) in
    (w.0, omega (arith, o.1, w.1))

-- the fault that is named
pub named_within : (n : Symbol) (source : List ℕ) (ts : List Token) (e : Ending) (x : Fault)
    → IsTokenList source ts e → IsNamed n ts e x → Within x.span (width source)
named_within n source ts e x l (checked_first p us y h v f m) =
    checked_within (width source) ts e x us (tokens_in_order source ts e l) f
named_within n source ts e x l (unexpected_first p us t h v r m) = unexpected_within source ts e p us t l h
named_within n source ts e x l (carried_last y v m q) = carried_within source ts e y l q
named_within n source ts e x l (missing_last v r m q) = missing_within source ts e l

-- the same where nothing is checked
pub unchecked_within : (L : Dialect) (n : Symbol) (source : List ℕ) (ts : List Token) (e : Ending) (x : Fault)
    → IsTokenList source ts e → IsNamedUnchecked L n ts e x → Within x.span (width source)
unchecked_within L n source ts e x l (unchecked_unexpected p us t h v r) = unexpected_within source ts e p us t l h
unchecked_within L n source ts e x l (unchecked_carried y v q) = carried_within source ts e y l q
unchecked_within L n source ts e x l (unchecked_missing v r q) = missing_within source ts e l

-- a failed allocation
pub memory_within : (size : ℕ) (e : Error) → IsOutOfMemory e → StandsWithin e.span size
memory_within size e is = subst (λ (x : Error). StandsWithin x.span size) (sym is) (omega arith, omega arith)
