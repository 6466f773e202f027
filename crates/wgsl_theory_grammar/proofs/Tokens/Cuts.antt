-- Where a token cuts a text: what the token is taken from and what follows it are ends of the text.
use Rattle.std.proofs.Common.{◌≡◌, ℕ, ◌<◌, ◌≤◌, ◌==◌, ◌&&◌, Bool, true, false, cond, suc, refl, sym, ap, subst, ◌∙◌, append_assoc, List, [], ◌∷◌, ◌++◌, Option, Some, None, drop, length, length-append, arith}
use Rattle.wgsl_model.specs.Tokens.Kind.{Kind}
use Rattle.wgsl_model.specs.Tokens.Characters.{is_blank, is_line_break}
use Rattle.wgsl_model.specs.Tokens.Pattern.{or_else, begins, begins_any, spells, after_longest, after_spelling}
use Rattle.wgsl_model.specs.Tokens.Spelling.{spelling}
use Rattle.wgsl_model.specs.Tokens.Trivia.{Place, outside, in_line, in_block, second, out_of_block, first_or_zero, after_trivia}
use Rattle.wgsl_model.specs.Tokens.Raw.{Raw, none_left, invalid, token, front, kind_of_spelling, valued, spelled, raw_at, raw}

-- the text ends with the rest
abbrev pub EndsWith : List ℕ → List ℕ → Type 0
EndsWith text rest = (before : List ℕ) × (text ≡ before ++ rest)

-- the text ends with the rest, after at least one character
abbrev pub EndsPast : List ℕ → List ℕ → Type 0
EndsPast text rest = (c : ℕ) × (before : List ℕ) × (text ≡ (c ∷ before) ++ rest)

-- the text of a token and what follows it
abbrev pub CutsIn : List ℕ → List ℕ → List ℕ → Type 0
CutsIn text from after = EndsWith text from × EndsPast from after

-- the same of whatever a text begins with
abbrev pub IsCut : List ℕ → Raw → Type 0
IsCut text none_left = Unit {0}
IsCut text (invalid from after) = CutsIn text from after
IsCut text (token kind from after) = CutsIn text from after

-- after one character more, an end is after some character
past : (c : ℕ) (cs rest : List ℕ) → EndsWith cs rest → EndsPast (c ∷ cs) rest
past c cs rest h = (c, h.0, ap (λ s. c ∷ s) h.1)

-- an end of a text ends the text with one character more in front
longer : (c : ℕ) (cs rest : List ℕ) → EndsWith cs rest → EndsWith (c ∷ cs) rest
longer c cs rest h = (c ∷ h.0, ap (λ s. c ∷ s) h.1)

-- the text is an end of itself
here-ends : (b : Bool) (text rest : List ℕ) → cond b (Some text) None ≡ Some rest → EndsWith text rest
here-ends true text rest e = ([], cc)
here-ends false text rest e = absurd (cc)

-- what is found in the text or after its first character ends it
either-ends : (c : ℕ) (cs rest : List ℕ) (o : Option (List ℕ)) (b : Bool) → ((r : List ℕ) → o ≡ Some r → EndsWith cs r)
    → or_else o (cond b (Some (c ∷ cs)) None) ≡ Some rest → EndsWith (c ∷ cs) rest
either-ends c cs rest None b h e = here-ends b (c ∷ cs) rest e
either-ends c cs rest (Some r) b h e = longer c cs rest (h rest e)

-- what follows the longest front that passes ends the text
longest-ends : (p : List ℕ → Bool) (text rest : List ℕ) → after_longest p text ≡ Some rest → EndsWith text rest
unfolding after_longest
longest-ends p [] rest e = here-ends (p []) [] rest e
longest-ends p (c ∷ cs) rest e =
    either-ends c cs rest (after_longest (λ front. p (c ∷ front)) cs) (p [])
    (λ r k. longest-ends (λ front. p (c ∷ front)) cs r k) e

-- what is found after its first character alone is after some character
either-passes : (c : ℕ) (cs rest : List ℕ) (o : Option (List ℕ)) (b : Bool) → b ≡ false
    → ((r : List ℕ) → o ≡ Some r → EndsWith cs r)
    → or_else o (cond b (Some (c ∷ cs)) None) ≡ Some rest → EndsPast (c ∷ cs) rest
either-passes c cs rest None true n h e = absurd (cc)
either-passes c cs rest None false n h e = absurd (cc)
either-passes c cs rest (Some r) b n h e = past c cs rest (h rest e)

-- where the empty front does not pass, at least one character is before
longest-passes : (p : List ℕ → Bool) (c : ℕ) (cs rest : List ℕ) → p [] ≡ false
    → after_longest p (c ∷ cs) ≡ Some rest → EndsPast (c ∷ cs) rest
unfolding after_longest
longest-passes p c cs rest n e =
    either-passes c cs rest (after_longest (λ front. p (c ∷ front)) cs) (p []) n
    (λ r k. longest-ends (λ front. p (c ∷ front)) cs r k) e

-- nothing is no spelling of a token
empty-spells : spells spelling [] ≡ false
unfolding begins begins_any
empty-spells = refl

-- a spelling has at least one character
spelling-passes : (c : ℕ) (cs rest : List ℕ) → after_spelling spelling (c ∷ cs) ≡ Some rest → EndsPast (c ∷ cs) rest
unfolding after_spelling
spelling-passes c cs rest e = longest-passes (spells spelling) c cs rest empty-spells e

-- so a spelling cuts a text, whatever its value is
valued-cuts : (text rest : List ℕ) (o : Option Kind) → EndsPast text rest → IsCut text (valued text rest o)
valued-cuts text rest None h = (([], refl), h)
valued-cuts text rest (Some kind) h = (([], refl), h)

-- and a text with no spelling is cut after one character
spelled-cuts : (c : ℕ) (cs : List ℕ) (o : Option (List ℕ)) → after_spelling spelling (c ∷ cs) ≡ o
    → IsCut (c ∷ cs) (spelled (c ∷ cs) cs o)
spelled-cuts c cs None e = (([], refl), (c, [], refl))
spelled-cuts c cs (Some rest) e = valued-cuts (c ∷ cs) rest (kind_of_spelling (front (c ∷ cs) rest))
    (spelling-passes c cs rest e)

-- the token at the front of a text without trivia cuts it
raw_at-cuts : (text : List ℕ) → IsCut text (raw_at text)
raw_at-cuts [] = tt
raw_at-cuts (c ∷ cs) = spelled-cuts c cs (after_spelling spelling (c ∷ cs)) refl

-- whichever of two ends is chosen
chosen : (b : Bool) (text x y : List ℕ) → EndsWith text x → EndsWith text y → EndsWith text (cond b x y)
chosen true text x y h k = h
chosen false text x y h k = k

-- what follows trivia ends the text
pub trivia-ends : (p : Place) (text : List ℕ) → EndsWith text (after_trivia p text)
unfolding after_trivia
trivia-ends p [] = ([], refl)
trivia-ends outside (c ∷ cs) =
    let text : List ℕ = c ∷ cs in
    chosen (is_blank c) text _ _ (longer c cs _ (trivia-ends outside cs)) (
    chosen (c == 47 && first_or_zero cs == 47) text _ _ (longer c cs _ (trivia-ends (second in_line) cs)) (
    chosen (c == 47 && first_or_zero cs == 42) text _ _
    (longer c cs _ (trivia-ends (second (in_block 0)) cs)) ([], refl)))
trivia-ends in_line (c ∷ cs) =
    chosen (is_line_break c) (c ∷ cs) _ _ (longer c cs _ (trivia-ends outside cs))
    (longer c cs _ (trivia-ends in_line cs))
trivia-ends (in_block n) (c ∷ cs) =
    chosen (c == 47 && first_or_zero cs == 42) (c ∷ cs) _ _
    (longer c cs _ (trivia-ends (second (in_block (suc n))) cs)) (
    chosen (c == 42 && first_or_zero cs == 47) (c ∷ cs) _ _ (longer c cs _
    (trivia-ends (second (out_of_block n)) cs)) (longer c cs _ (trivia-ends (in_block n) cs)))
trivia-ends (second p) (c ∷ cs) = longer c cs _ (trivia-ends p cs)

-- an end of an end is an end
pub joined : (text middle rest : List ℕ) → EndsWith text middle → EndsWith middle rest → EndsWith text rest
joined text middle rest h k = (h.0 ++ k.0, h.1 ∙ ap (λ s. h.0 ++ s) k.1 ∙ sym (append_assoc h.0 k.0 rest))

-- what cuts an end of a text cuts the text
cut-joined : (text middle : List ℕ) (r : Raw) → EndsWith text middle → IsCut middle r → IsCut text r
cut-joined text middle none_left h k = tt
cut-joined text middle (invalid from after) h k = (joined text middle from h k.0, k.1)
cut-joined text middle (token kind from after) h k = (joined text middle from h k.0, k.1)

-- the token at the front of a text cuts it
pub raw-cuts : (text : List ℕ) → IsCut text (raw text)
raw-cuts text = cut-joined text (after_trivia outside text) (raw text) (trivia-ends outside text)
    (raw_at-cuts (after_trivia outside text))

-- what a token is cut from, and what follows it
pub cut_at : (text from after : List ℕ) (kind : Kind) → raw text ≡ token kind from after → CutsIn text from after
cut_at text from after kind e = subst (IsCut text) e (raw-cuts text)

-- an end of a text is no longer
pub ends_length : (text rest : List ℕ) → EndsWith text rest → length rest ≤ length text
ends_length text rest h = omega (arith, ap length h.1, length-append h.0 rest)

-- less is left after a token
pub shorter : (text from after : List ℕ) (kind : Kind) → raw text ≡ token kind from after → length after < length text
shorter text from after kind e =
    let c = cut_at text from after kind e in
    omega (arith, ends_length text from c.0, ap length c.1.2, length-append c.1.1 after)

-- and that is an end of the text
pub after_token : (text from after : List ℕ) (kind : Kind) → raw text ≡ token kind from after → EndsWith text after
after_token text from after kind e =
    let c = cut_at text from after kind e in
    joined text from after c.0 (c.1.0 ∷ c.1.1, c.1.2)

-- so is what follows its first character
pub after_first : (text : List ℕ) → EndsWith text (drop 1 text)
after_first [] = ([], refl)
after_first (c ∷ cs) = (c ∷ [], refl)
