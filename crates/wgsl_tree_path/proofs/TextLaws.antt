-- The text of what a text reads as.
use Rattle.std.proofs.Common.{◌≡◌, ◌∙◌, ℕ, List, [], ◌∷◌, ◌++◌, Bool, true, false, ◌&&◌, if◌then◌else◌, refl, sym, ap, Ok, Err, drop, replicate, codes}
use borrow.Author.Tests.{eqb-true}
use Rattle.std.specs.Str.{bytes_eq}
use Rattle.std.specs.List.{flat_map, filter_map, onto_first}
use Rattle.std.proofs.lemmas.Slice.Eq.{bytes_eq-Decides}
use Rattle.std.proofs.lemmas.Bool.{and_parts}
use Rattle.wgsl_model.specs.Printed.Joining.{joined}
use Rattle.wgsl_model.specs.Tokens.Words.{look_up}
use Rattle.wgsl_model.specs.Trees.Paths.{PathOrigin, absolute, relative, of_package, ModulePath, PathFault, empty, is_colon, path_parts, first_words, unless_faults, path_from, levels, path_of_parts, read_path, origin_text, path_text}
use Rattle.wgsl_tree_path.proofs.Reading.{levels_suc, levels_other, after_super}

abbrev Names : Type 0
Names = List (List ℕ)

abbrev further : Names → List ℕ
further texts = flat_map (λ text. codes "::" ++ text) texts

abbrev joined_parts : Names → List ℕ
joined_parts parts = joined (codes "::") parts

-- the parts of a text, joined, are the text

no_first : (cuts : Bool) (a : ℕ) (rest others : Names)
    → further (if cuts then [] ∷ rest else onto_first a others)
    ≡ codes "::" ++ joined_parts (if cuts then [] ∷ rest else onto_first a others)
no_first true a rest others = refl
no_first false a rest [] = refl
no_first false a rest (part ∷ parts) = refl

some_part : (text : List ℕ) → further (path_parts text) ≡ codes "::" ++ joined_parts (path_parts text)
some_part [] = refl
some_part (a ∷ []) = refl
some_part (a ∷ (b ∷ bs)) = no_first (is_colon a && is_colon b) a (path_parts bs) (path_parts (b ∷ bs))

onto : (a : ℕ) (parts : Names) → joined_parts (onto_first a parts) ≡ a ∷ joined_parts parts
onto a [] = refl
onto a (part ∷ parts) = refl

step : (a b : ℕ) (bs : List ℕ) (cuts : Bool) (rest others : Names) → (is_colon a && is_colon b) ≡ cuts
    → further rest ≡ codes "::" ++ bs → joined_parts others ≡ b ∷ bs
    → joined_parts (if cuts then [] ∷ rest else onto_first a others) ≡ a ∷ (b ∷ bs)
step a b bs true rest others cuts following joins =
    let colons = and_parts (is_colon a) (is_colon b) cuts in
    following ∙ (λ i. sym (eqb-true a 58 colons.0) i ∷ (sym (eqb-true b 58 colons.1) i ∷ bs))
step a b bs false rest others cuts following joins = onto a others ∙ ap (λ text. a ∷ text) joins

pub parts_joined : (text : List ℕ) → joined_parts (path_parts text) ≡ text
parts_joined [] = refl
parts_joined (a ∷ []) = refl
parts_joined (a ∷ (b ∷ bs)) = step a b bs (is_colon a && is_colon b) (path_parts bs) (path_parts (b ∷ bs))
    refl (some_part bs ∙ ap (λ text. codes "::" ++ text) (parts_joined bs)) (parts_joined (b ∷ bs))

-- the text of a path is its parts, joined

unless : (origin : PathOrigin) (parts : Names) (faults : List PathFault) (path : ModulePath)
    → unless_faults faults (record { origin = origin; components = parts }) ≡ Ok path
    → path_text path ≡ joined_parts (origin_text origin ∷ parts)
unless origin parts [] path reads =
    let same : path ≡ record { origin = origin; components = parts } = cc in ap path_text same
unless origin parts (fault ∷ faults) path reads = absurd (cc)

from : (origin : PathOrigin) (parts : Names) (path : ModulePath) → path_from origin parts ≡ Ok path
    → path_text path ≡ joined_parts (origin_text origin ∷ parts)
from origin parts path reads = unless origin parts (filter_map (look_up first_words) parts) path reads

same_word : (part word : List ℕ) → bytes_eq part word ≡ true → part ≡ word
same_word part word same = (bytes_eq-Decides part word).0 same

-- the first `super`s have the text of a count of levels
supers_step : (part : List ℕ) (parts : Names) (is : Bool) → bytes_eq part (codes "super") ≡ is
    → further parts ≡ further (replicate (levels parts) (codes "super")) ++ further (drop (levels parts) parts)
    → further (part ∷ parts) ≡ further (replicate (levels (part ∷ parts)) (codes "super"))
    ++ further (drop (levels (part ∷ parts)) (part ∷ parts))
supers_step part parts true is rest =
    ap (λ text. codes "::" ++ (text ++ further parts)) (same_word part (codes "super") is)
    ∙ ap (λ text. codes "::super" ++ text) rest
    ∙ (λ i. further (replicate (sym (levels_suc part parts is) i) (codes "super"))
    ++ further (sym (after_super part parts is) i))
supers_step part parts false is rest =
    ap (λ n. further (replicate n (codes "super")) ++ further (drop n (part ∷ parts)))
    (sym (levels_other part parts is))

supers : (parts : Names)
    → further parts ≡ further (replicate (levels parts) (codes "super")) ++ further (drop (levels parts) parts)
supers [] = refl
supers (part ∷ parts) = supers_step part parts (bytes_eq part (codes "super")) refl (supers parts)

first_supers : (part : List ℕ) (parts : Names) → bytes_eq part (codes "super") ≡ true
    → joined_parts (origin_text (relative (levels (part ∷ parts)))
    ∷ drop (levels (part ∷ parts)) (part ∷ parts)) ≡ joined_parts (part ∷ parts)
first_supers part parts is =
    (λ i. joined_parts (origin_text (relative (levels_suc part parts is i)) ∷ after_super part parts is i))
    ∙ ap (λ text. codes "super" ++ text) (sym (supers parts))
    ∙ ap (λ word. word ++ further parts) (sym (same_word part (codes "super") is))

reads : (part : List ℕ) (parts : Names) (path : ModulePath) (is_package is_self is_super is_empty : Bool)
    → bytes_eq part (codes "package") ≡ is_package → bytes_eq part (codes "self") ≡ is_self
    → bytes_eq part (codes "super") ≡ is_super
    → (if is_package then path_from absolute parts else if is_self then path_from (relative 0) parts
    else if is_super then path_from (relative (levels (part ∷ parts))) (drop (levels (part ∷ parts))
    (part ∷ parts)) else if is_empty then Err empty else path_from (of_package part) parts) ≡ Ok path
    → path_text path ≡ joined_parts (part ∷ parts)
reads part parts path true b c d word other_self other_super e = from absolute parts path e
    ∙ ap (λ text. joined_parts (text ∷ parts)) (sym (same_word part (codes "package") word))
reads part parts path false true c d other word other_super e = from (relative 0) parts path e
    ∙ ap (λ text. joined_parts (text ∷ parts)) (sym (same_word part (codes "self") word))
reads part parts path false false true d other other_self word e =
    let origin = relative (levels (part ∷ parts)) in
    let following = drop (levels (part ∷ parts)) (part ∷ parts) in
    from origin following path e ∙ first_supers part parts word
reads part parts path false false false true other other_self other_super e = absurd (cc)
reads part parts path false false false false other other_self other_super e = from (of_package part) parts path e

of_parts : (parts : Names) (path : ModulePath) → path_of_parts parts ≡ Ok path → path_text path ≡ joined_parts parts
of_parts [] path e = absurd (cc)
of_parts (part ∷ parts) path e = reads part parts path (bytes_eq part (codes "package"))
    (bytes_eq part (codes "self")) (bytes_eq part (codes "super")) (bytes_eq part []) refl refl refl e

pub text_read : (text : List ℕ) (path : ModulePath) → read_path text ≡ Ok path → path_text path ≡ text
text_read text path e = of_parts (path_parts text) path e ∙ parts_joined text
