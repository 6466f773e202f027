-- Tokens are in order in their text, and so does the fault that ends them.
use Rattle.std.proofs.Common.{◌≡◌, ℕ, ◌<◌, ◌≤◌, ◌++◌, Bool, false, subst, List, [], ◌∷◌, drop, arith}
use Rattle.grammar.specs.Tokens.{Token, last_end}
use Rattle.grammar.specs.Endings.{Ending, Ending.finished, Ending.carried}
use Rattle.wgsl_model.specs.Tokens.Raw.{Raw, invalid, token, raw}
use Rattle.wgsl_model.specs.Tokens.Templates.{is_word}
use Rattle.wgsl_model.specs.Tokens.TokenList.{IsTokenList, place, width}
use Rattle.wgsl_theory_templates.specs.Rest.Left.{LeftOf, left_nothing, left_fault, left_end, left_start, left_token}
use Rattle.wgsl_lexer.specs.InOrder.{AreInOrder, IsFaultAfter}
use Rattle.wgsl_theory_grammar.proofs.Tokens.Cuts.{CutsIn, IsCut, raw-cuts, cut_at}
use Rattle.wgsl_theory_grammar.proofs.Tokens.Widths.{within, past, past_first}
use Rattle.wgsl_theory_templates.proofs.Rest.LeftTokens.{stream}

-- where a token is in a source of a number of bytes that a text ends
abbrev Stands : ℕ → List ℕ → List ℕ → List ℕ → Type 0
Stands total text from after =
    (place total text ≤ place total from) × (place total from < place total after)
    × (place total after ≤ total) × (width after ≤ total)

-- what a token is cut from and what follows it are in order in the source
stands : (total : ℕ) (text from after : List ℕ) → width text ≤ total → CutsIn text from after
    → Stands total text from after
stands total text from after fits cut =
    let w = within text from cut.0 in
    let p = past from after cut.1 in
    (omega arith, omega arith, omega arith, omega arith)

-- the same of whatever a text begins with
stands_at : (total : ℕ) (text from after : List ℕ) (r : Raw) → raw text ≡ r → width text ≤ total
    → (IsCut text r → CutsIn text from after) → Stands total text from after
stands_at total text from after r is fits cut = stands total text from after fits
    (cut (subst (IsCut text) is (raw-cuts text)))

-- a fault is after a place, is not empty, and ends at a place or before it
abbrev FaultFrom : ℕ → List Token → Ending → ℕ → Type 0
FaultFrom from ts finished to = Unit {0}
FaultFrom from ts (carried x) to = (last_end from ts ≤ x.span.start) × (x.span.start < x.span.end) × (x.span.end ≤ to)

-- what ends a list is one character
ends_one : (total : ℕ) (text from after : List ℕ) → width text ≤ total → CutsIn text from after
    → (place total text ≤ place total from) × (place total from < place total (drop 1 from))
    × (width (drop 1 from) ≤ total)
ends_one total text from after fits cut =
    let w = within text from cut.0 in
    let p = past from (drop 1 from) (past_first from after cut.1) in
    (omega arith, omega arith, omega arith)

-- the tokens that are left of a text are in order after its place
tokens-order : (total : ℕ) (ends : List ℕ) (word : Bool) (text : List ℕ) (ts : List Token) (e : Ending)
    → width text ≤ total → LeftOf total ends word text ts e → AreInOrder (place total text) ts total
tokens-order total ends word text ts e fits (left_nothing x w s r) = omega arith
tokens-order total ends word text ts e fits (left_fault x w s from after r) = omega arith
tokens-order total ends word text ts e fits (left_end x w s from after kind us f r h) =
    let p = ends_one total text from after fits (cut_at text from after kind r) in
    (p.0, p.1, tokens-order total x false (drop 1 from) us e p.2 h)
tokens-order total ends word text ts e fits (left_start x s from after end kind us f r b c k h) =
    let p = stands_at total text from after (token kind from after) r fits (λ c. c) in
    (p.0, p.1, tokens-order total (place total end ∷ ends) false after us e p.3 h)
tokens-order total ends word text ts e fits (left_token x w s from after kind us f r b n h) =
    let p = stands_at total text from after (token kind from after) r fits (λ c. c) in
    (p.0, p.1, tokens-order total ends (is_word kind.class) after us e p.3 h)

-- the fault that ends them is after them
fault-following : (total : ℕ) (ends : List ℕ) (word : Bool) (text : List ℕ) (ts : List Token) (e : Ending)
    → width text ≤ total → LeftOf total ends word text ts e → FaultFrom (place total text) ts e total
fault-following total ends word text ts e fits (left_nothing x w s r) = tt
fault-following total ends word text ts e fits (left_fault x w s from after r) =
    let p = stands_at total text from after (invalid from after) r fits (λ c. c) in
    (p.0, p.1, p.2)
fault-following total ends word text ts e fits (left_end x w s from after kind us f r h) =
    let p = ends_one total text from after fits (cut_at text from after kind r) in
    fault-following total x false (drop 1 from) us e p.2 h
fault-following total ends word text ts e fits (left_start x s from after end kind us f r b c k h) =
    let p = stands_at total text from after (token kind from after) r fits (λ c. c) in
    fault-following total (place total end ∷ ends) false after us e p.3 h
fault-following total ends word text ts e fits (left_token x w s from after kind us f r b n h) =
    let p = stands_at total text from after (token kind from after) r fits (λ c. c) in
    fault-following total ends (is_word kind.class) after us e p.3 h

-- a source starts at 0
at_zero : (source : List ℕ) → place (width source) source ≡ 0
at_zero source = omega arith

-- the tokens of a source are in order in it
pub tokens_in_order : (source : List ℕ) (ts : List Token) (e : Ending) → IsTokenList source ts e
    → AreInOrder 0 ts (width source)
tokens_in_order source ts e h = subst (λ p. AreInOrder p ts (width source)) (at_zero source)
    (tokens-order (width source) [] false source ts e (omega arith) (stream (width source) source ts e (omega arith) h))

-- the invalid token that ends them is after them
pub fault_after : (source : List ℕ) (ts : List Token) (e : Ending) → IsTokenList source ts e
    → IsFaultAfter ts e (width source)
fault_after source ts finished h = tt
fault_after source ts (carried x) h =
    subst (λ p. FaultFrom p ts (carried x) (width source)) (at_zero source)
    (fault-following (width source) [] false source ts (carried x) (omega arith)
    (stream (width source) source ts (carried x) (omega arith) h))

-- a token that is among tokens in order is not empty and ends at the last place or before it
pub one_in_order : (from to : ℕ) (before after : List Token) (t : Token)
    → AreInOrder from (before ++ (t ∷ after)) to → (from ≤ t.start) × (t.start < t.end) × (t.end ≤ to)
one_in_order from to [] after t h = (h.0, h.1, ends t.end to after h.2) where
  ends : (from to : ℕ) (ts : List Token) → AreInOrder from ts to → from ≤ to
  ends from to [] h = h
  ends from to (t ∷ ts) h = let k = ends t.end to ts h.2 in omega (arith, h.0, h.1)
one_in_order from to (b ∷ before) after t h =
    let k = one_in_order b.end to before after t h.2 in (omega (arith, h.0, h.1, k.0), k.1, k.2)

-- the last of tokens in order ends at the last place or before it
pub last_in_order : (from to : ℕ) (ts : List Token) → AreInOrder from ts to
    → (from ≤ last_end from ts) × (last_end from ts ≤ to)
last_in_order from to [] h = (omega arith, h)
last_in_order from to (t ∷ ts) h = let k = last_in_order t.end to ts h.2 in (omega (arith, h.0, h.1, k.0), k.1)
