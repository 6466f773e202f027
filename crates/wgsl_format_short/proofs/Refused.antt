-- What is said of an error after a byte order mark.
use Rattle.std.proofs.Common.{◌≡◌, ◌⊎◌, inl, inr, ℕ, ◌+◌, List, sym, ap, subst, ◌∙◌, arith}
use Rattle.grammar.specs.Tokens.{Token, Fault}
use Rattle.grammar.specs.Endings.{Ending, Ending.carried}
use Rattle.wgsl_model.specs.Tokens.TokenList.{TokensOf, at_end, at_fault, before_template, before_more, width, place}
use Rattle.wgsl_model.specs.Faults.Kinds.{invalid_token_kind, out_of_memory_kind, invalid_token}
use Rattle.wgsl_model.specs.Faults.NamedFault.{IsSyntaxFault, IsNamedUnchecked.unchecked_unexpected, IsNamedUnchecked.unchecked_carried, IsNamedUnchecked.unchecked_missing}
use Rattle.wgsl_model_tidy.specs.Formatted.{mark_of, unmarked}
use Rattle.wgsl_model_tidy.specs.Syntax.{IsSyntaxFaultOf, fault_after, IsFaultAfterMark}
use Rattle.wgsl_error.specs.declared.Error.{Error}
use Rattle.wgsl_error.specs.declared.ErrorKind.TheVariants as kinds
use Rattle.wgsl_error.specs.View.{kind_number, fault_view}
use Rattle.wgsl_read_cursor.specs.Answers.{IsOutOfMemory}
use Rattle.wgsl_read_cursor.specs.Places.{StandsWithin}

-- a fault that ends a token list is an invalid token
carried_kind : (total : ℕ) (text : List ℕ) (ts : List Token) (e : Ending) (x : Fault)
    → TokensOf total text ts e → e ≡ carried x → x.kind ≡ invalid_token_kind
carried_kind total text _ _ x (at_end t r) q = absurd cc
carried_kind total text _ _ x (at_fault t from after r) q =
    let same : invalid_token (record { start = place total from; end = place total after }) ≡ x = cc in
    ap (λ (y : Fault). y.kind) (sym same)
carried_kind total text _ _ x (before_template t from after rest k us ts e r c i h) q =
    carried_kind total rest ts e x h q
carried_kind total text _ _ x (before_more t from after k ts e r n h) q = carried_kind total after ts e x h q

-- so no fault of the syntax is that allocation failed
syntax_kind : (source : List ℕ) (ts : List Token) (e : Ending) (x : Fault)
    → TokensOf (width source) source ts e → IsSyntaxFault ts e x → x.kind ≡ out_of_memory_kind → ⊥
syntax_kind source ts e _ h (unchecked_unexpected p us t w v unmet) k = absurd cc
syntax_kind source ts e _ h (unchecked_carried x v q) k =
    let kind = carried_kind (width source) source ts e x h q in absurd (omega (arith, kind, k))
syntax_kind source ts e _ h (unchecked_missing v unmet q) k = absurd cc

no_memory : (source : List ℕ) (e : Error) → IsSyntaxFaultOf source (fault_view e) → e.error ≡ kinds.OutOfMemory → ⊥
no_memory source e f m = syntax_kind source f.0 f.1 (fault_view e) f.2 f.3 (ap kind_number m)

-- an error of the text after a number of bytes, and the same with its place in the source
pub record IsMoved (n : ℕ) (before after : Error) : Type 0 where
  pub memory : before.error ≡ kinds.OutOfMemory → after ≡ before
  pub fault : (before.error ≡ kinds.OutOfMemory → ⊥) → fault_view after ≡ fault_after n (fault_view before)

pub moved_refused : (source body : List ℕ) (n : ℕ) (before after : Error)
    → body ≡ unmarked source → n ≡ width (mark_of source)
    → IsOutOfMemory before ⊎ IsSyntaxFaultOf body (fault_view before) → IsMoved n before after
    → IsOutOfMemory after ⊎ IsFaultAfterMark source (fault_view after)
moved_refused source body n before after b w (inl m) moved = inl (moved.memory (ap (λ (e : Error). e.error) m) ∙ m)
moved_refused source body n before after b w (inr f) moved =
    inr (
      fault_view before,
      subst (λ xs. IsSyntaxFaultOf xs (fault_view before)) b f,
      moved.fault (no_memory body before f) ∙ ap (λ i. fault_after i (fault_view before)) w,
    )

-- it is within the source
pub moved_placed : (body : List ℕ) (n size whole : ℕ) (before after : Error) → n + size ≡ whole
    → IsOutOfMemory before ⊎ IsSyntaxFaultOf body (fault_view before)
    → StandsWithin before.span size → IsMoved n before after → StandsWithin after.span whole
moved_placed body n size whole before after w (inl m) p moved =
    let same = moved.memory (ap (λ (e : Error). e.error) m) in
    subst (λ (e : Error). StandsWithin e.span whole) (sym same) (p.0, omega (arith, p.1, w))
moved_placed body n size whole before after w (inr f) p moved =
    let same = moved.fault (no_memory body before f) in
    let start = ap (λ (x : Fault). x.span.start) same in
    let end = ap (λ (x : Fault). x.span.end) same in
    (omega (arith, start, end, p.0), omega (arith, end, p.1, w))
