-- What is declared after the names of a part, and which of them stay.
use Rattle.std.proofs.Common.{◌≡◌, ℕ, Bool, true, false, cond, ◌&&◌, List, [], ◌∷◌, ◌++◌, Option, None, Some, length, take, refl, sym, ap, ap₂, ◌∙◌, append_assoc, append-nil}
use Rattle.std.specs.Option.{option_to_list}
use Rattle.wgsl_model_names.specs.Scopes.{Names, nothing, used, unknown, declared, alternative, ◌then◌, scope, under_if, under_elif, under_else, under_several, spelled}
use Rattle.wgsl_model_minify.specs.Occurrences.{Occurrence, scope_end, occurrences}
use Rattle.wgsl_minify_names.specs.InScope.{Declared, nothing_declared, is_in, none_open, same_name, with_alternative, with_declaration, staying, names_of, name_of, no_scopes}

-- ---- names
names-append : (os ps : List Occurrence) → names_of (os ++ ps) ≡ names_of os ++ names_of ps
names-append [] ps = refl
names-append (o ∷ os) ps = ap (λ l. name_of o ++ l) (names-append os ps)
    ∙ sym (append_assoc (name_of o) (names_of os) (names_of ps))

pub names_spelled : (n : Names) → names_of (occurrences n) ≡ spelled n
names_spelled nothing = refl
names_spelled (used x) = refl
names_spelled (unknown x) = refl
names_spelled (declared x) = refl
names_spelled (alternative branch name) = append-nil (option_to_list name)
names_spelled (a then b) = names-append (occurrences a) (occurrences b)
    ∙ ap₂ (λ l m. l ++ m) (names_spelled a) (names_spelled b)
names_spelled (scope a) = names-append (occurrences a) (scope_end ∷ [])
    ∙ append-nil (names_of (occurrences a)) ∙ names_spelled a

-- ---- what is declared
-- what is declared after a part
abbrev pub declared_after : Names → Declared → Declared
declared_after nothing known = known
declared_after (used x) known = known
declared_after (unknown x) known = known
declared_after (declared x) known = with_declaration (Some x) known
declared_after (alternative branch name) known = with_alternative branch name known
declared_after (a then b) known = declared_after b (declared_after a known)
declared_after (scope a) known = known

-- the names of a part that stay: with `outer` also those that are declared in no scope
abbrev pub found_in : Bool → Names → Declared → List (List ℕ)
found_in outer nothing known = []
found_in outer (used x) known = cond (is_in x known.names) [] (x ∷ [])
found_in outer (unknown x) known = x ∷ []
found_in outer (declared x) known = cond outer (x ∷ []) []
found_in outer (alternative branch name) known = cond outer (option_to_list name) []
found_in outer (a then b) known = found_in outer a known ++ found_in outer b (declared_after a known)
found_in outer (scope a) known = found_in false a known

-- names with more at the end
abbrev IsMore : List (List ℕ) → List (List ℕ) → Type 0
IsMore known names = (more : List (List ℕ)) × (names ≡ known ++ more)

no_more : (known : List (List ℕ)) → IsMore known known
no_more known = ([], sym (append-nil known))

more_name : (known : List (List ℕ)) (x : List ℕ) (b : Bool) → IsMore known (cond b known (known ++ x ∷ []))
more_name known x true = no_more known
more_name known x false = (x ∷ [], refl)

more_declared : (known : Declared) (name : Option (List ℕ)) → IsMore known.names (with_declaration name known).names
more_declared known None = no_more known.names
more_declared known (Some x) = more_name known.names x (is_in x known.names)

more_names : (n : Names) (known : Declared) → IsMore known.names (declared_after n known).names
more_names nothing known = no_more known.names
more_names (used x) known = no_more known.names
more_names (unknown x) known = no_more known.names
more_names (declared x) known = more_declared known (Some x)
more_names (alternative under_if name) known = no_more known.names
more_names (alternative under_elif name) known = no_more known.names
more_names (alternative under_else name) known = more_declared known (same_name known.in_each name)
more_names (alternative under_several name) known = no_more known.names
more_names (a then b) known =
    let first = more_names a known in
    let second = more_names b (declared_after a known) in
    (first.0 ++ second.0, second.1 ∙ ap (λ l. l ++ second.0) first.1 ∙ append_assoc known.names first.0 second.0)
more_names (scope a) known = no_more known.names

take-front : (xs ys : List (List ℕ)) → take (length xs) (xs ++ ys) ≡ xs
take-front [] ys = refl
take-front (x ∷ xs) ys = ap (λ l. x ∷ l) (take-front xs ys)

-- at its end those are declared that were before it
before_part : (n : Names) (known : Declared) → take (length known.names) (declared_after n known).names ≡ known.names
before_part n known =
    let more = more_names n known in
    ap (take (length known.names)) more.1 ∙ take-front known.names more.0

pub and_false : (b : Bool) → (b && false) ≡ false
and_false true = refl
and_false false = refl

-- ---- a part of a list
pub staying_past : (locals : Bool) (n : Names) (known : Declared) (starts : List (ℕ × Option (List ℕ)))
    (rest : List Occurrence)
    → staying locals (record { declared = known; starts = starts }) (occurrences n ++ rest)
    ≡ found_in (locals && none_open starts) n known
    ++ staying locals (record { declared = declared_after n known; starts = starts }) rest
staying_past locals nothing known starts rest = refl
staying_past locals (used x) known starts rest = refl
staying_past locals (unknown x) known starts rest = refl
staying_past locals (declared x) known starts rest = refl
staying_past locals (alternative branch name) known starts rest = refl
staying_past locals (a then b) known starts rest =
    ap (staying locals (record { declared = known; starts = starts }))
    (append_assoc (occurrences a) (occurrences b) rest)
    ∙ staying_past locals a known starts (occurrences b ++ rest)
    ∙ ap (λ l. found_in (locals && none_open starts) a known ++ l)
    (staying_past locals b (declared_after a known) starts rest)
    ∙ sym (append_assoc (found_in (locals && none_open starts) a known)
    (found_in (locals && none_open starts) b (declared_after a known))
    (staying locals (record { declared = declared_after b (declared_after a known); starts = starts }) rest))
staying_past locals (scope a) known starts rest =
    let inner = (length known.names, known.in_each) ∷ starts in
    ap (staying locals (record { declared = known; starts = inner }))
    (append_assoc (occurrences a) (scope_end ∷ []) rest)
    ∙ staying_past locals a known inner (scope_end ∷ rest)
    ∙ ap₂ (λ (b : Bool) (names : List (List ℕ)). found_in b a known
    ++ staying locals (record { declared = record { names = names; in_each = known.in_each }; starts = starts }) rest)
    (and_false locals) (before_part a known)

-- the names of a whole module that stay
abbrev pub all_found : Bool → Names → List (List ℕ)
all_found outer n = found_in outer n nothing_declared

pub staying_found : (locals : Bool) (n : Names) → staying locals no_scopes (occurrences n) ≡ all_found locals n
staying_found locals n =
    ap (staying locals no_scopes) (sym (append-nil (occurrences n))) ∙ staying_past locals n nothing_declared [] []
    ∙ append-nil (all_found (locals && true) n) ∙ ap (λ b. all_found b n) (and_true locals) where
      and_true : (b : Bool) → (b && true) ≡ b
      and_true true = refl
      and_true false = refl
