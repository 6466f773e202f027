-- What is in brackets and in braces.
use Rattle.std.proofs.Common.{◌≡◌, ◌≢◌, refl, sym, ap, ◌∙◌, subst, ℕ, ◌-◌, ◌+◌, ◌<◌, ◌==◌, List, [], ◌∷◌, ◌++◌, get_or, length, take, Option, Some, None, ◌≤◌, if◌then◌else◌, arith, Bor}
use Rattle.std.proofs.lemmas.List.{length_push, get_or_push, take_at, take_more, take_all}
use Rattle.std.specs.Option.{MatchOption, option_copied}
use Rattle.wgsl_editorconfig.specs.Globs.{list_in}
use Rattle.wgsl_editorconfig.specs.Lines.{before_bracket, section_of}

-- what `strip_prefix` returns of a character, and `strip_suffix`
abbrev pub Strips : ℕ → List ℕ → Option (Bor (List ℕ)) → Type 0
Strips c text r = MatchOption r ((rest : List ℕ) → text ≢ c ∷ rest) (λ x. text ≡ c ∷ x.now)

abbrev pub StripsEnd : ℕ → List ℕ → Option (Bor (List ℕ)) → Type 0
StripsEnd c text r = MatchOption r ((front : List ℕ) → text ≢ front ++ (c ∷ [])) (λ x. text ≡ x.now ++ (c ∷ []))

-- a text that does not begin with `{` is no list
not_a_list : (text : List ℕ) → ((rest : List ℕ) → text ≢ 123 ∷ rest) → list_in text ≡ None
not_a_list [] apart = refl
not_a_list (c ∷ cs) apart =
    let other : c ≢ 123 = λ e. apart cs (ap (λ x. x ∷ cs) e) in
    grind (arith, other)

pub no_list : (text : List ℕ) (r : Option (Bor (List ℕ))) → Strips 123 text r → r ≡ None → list_in text ≡ None
no_list text r found is = not_a_list text (subst (λ x. Strips 123 text x) is found)

-- a text that does not begin with `[` is no section
not_a_section : (text : List ℕ) → ((rest : List ℕ) → text ≢ 91 ∷ rest) → section_of text ≡ None
not_a_section [] apart = refl
not_a_section (c ∷ cs) apart =
    let other : c ≢ 91 = λ e. apart cs (ap (λ x. x ∷ cs) e) in
    grind (arith, other)

pub no_section : (text : List ℕ) (r : Option (Bor (List ℕ))) → Strips 91 text r → r ≡ None → section_of text ≡ None
no_section text r found is = not_a_section text (subst (λ x. Strips 91 text x) is found)

-- what comes before a place where `]` is
before_place : List ℕ → ℕ → Option (List ℕ)
before_place text n = if get_or text n 0 == 93 then Some (take n text) else None

-- what comes before the `]` that ends a text
ends : (text : List ℕ) → before_bracket (text ++ (93 ∷ [])) ≡ Some text
unfolding before_place
ends text =
    let whole : List ℕ = text ++ (93 ∷ []) in
    let last : length whole - 1 ≡ length text = omega (arith, length_push text 93) in
    ap (before_place whole) last
    ∙ ap (λ c. if c == 93 then Some (take (length text) whole) else None) (get_or_push text 93 0 (length text) refl)
    ∙ ap Some (take_at text (93 ∷ []) (length text) refl)

no_end : (text : List ℕ) → ((front : List ℕ) → text ≢ front ++ (93 ∷ [])) → before_bracket text ≡ None
no_end [] apart = refl
no_end (c ∷ cs) apart =
    let last : ℕ = length (c ∷ cs) - 1 in
    let within : last < length (c ∷ cs) = omega arith in
    let next : length (c ∷ cs) ≤ last + 1 = omega arith in
    let parts : take (last + 1) (c ∷ cs) ≡ take last (c ∷ cs) ++ get_or (c ∷ cs) last 0 ∷ [] =
    take_more (c ∷ cs) last 0 within in
    let whole : c ∷ cs ≡ take last (c ∷ cs) ++ get_or (c ∷ cs) last 0 ∷ [] =
    sym (take_all (last + 1) (c ∷ cs) next) ∙ parts in
    let other : get_or (c ∷ cs) last 0 ≢ 93 =
    λ e. apart (take last (c ∷ cs)) (whole ∙ ap (λ d. take last (c ∷ cs) ++ d ∷ []) e) in
    grind (arith, other)

before_bracket_is : (text : List ℕ) (r : Option (Bor (List ℕ))) → StripsEnd 93 text r
    → option_copied r ≡ before_bracket text
before_bracket_is text None apart = sym (no_end text apart)
before_bracket_is text (Some x) is = sym (ends x.now) ∙ ap before_bracket (sym is)

pub is_section : (text : List ℕ) (r : Option (Bor (List ℕ))) (rest : Bor (List ℕ)) (s : Option (Bor (List ℕ)))
    → Strips 91 text r → r ≡ Some rest → StripsEnd 93 rest.now s → option_copied s ≡ section_of text
is_section text r rest s found is end =
    before_bracket_is rest.now s end ∙ ap section_of (sym (subst (λ x. Strips 91 text x) is found))
