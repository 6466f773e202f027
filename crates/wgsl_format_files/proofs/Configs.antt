-- What is chosen for a file, one `.editorconfig` file after another.
use Rattle.std.proofs.Common.{◌≡◌, ◌≢◌, refl, sym, ap, ◌∙◌, subst, ℕ, ◌+◌, ◌<◌, true, false, Option, None, List, [], ◌∷◌, ◌++◌, String, string_bytes, length, drop, get_or, map, reverse, codes, arith}
use Rattle.std.proofs.lemmas.List.{append_assoc, at_drop_more, map-append, map_push, reverse-append}
use Rattle.std.specs.Borrow.{Bor}
use Rattle.std.specs.Option.{MatchOption}
use Rattle.std.specs.Str.{is_utf8}
use Rattle.wgsl_editorconfig.specs.Properties.{properties_of}
use Rattle.std.specs.declared.alloc.Global.{Global}
use Rattle.wgsl_choices.specs.declared.Choices.{Choices}
use Rattle.wgsl_choices.specs.Choices.{or}
use Rattle.wgsl_editorconfig.specs.declared.reading.Properties.{Properties}
use Rattle.wgsl_files.specs.Files.{Files}
use Rattle.wgsl_format_files.specs.Configs.{paths_from, paths_below, config_paths, nothing_said, said_by, IsSaidAt, IfRoot, AreChosenBy}

module _ (files : Files) (paths : List (String Global)) (i : ℕ) (d : String Global)
    (so_far : Choices) (said : Properties) (all : Choices) (within : i < length paths)
    (is : IsSaidAt files (string_bytes (get_or paths i d)) said) where
  -- what one file says, and then those after it
  pub chosen_more : said.root ≡ false
      → AreChosenBy files (or so_far said.choices) (map string_bytes (drop (i + 1) paths)) all
      → AreChosenBy files so_far (map string_bytes (drop i paths)) all
  chosen_more no_root rest =
      subst (λ ps. AreChosenBy files so_far ps all)
      (sym (at_drop_more (map string_bytes) paths i d within)) (
        said,
        is,
        subst (λ b. IfRoot b (all ≡ or so_far said.choices) (AreChosenBy files
            (or so_far said.choices) (map string_bytes (drop (i + 1) paths)) all)) (sym no_root) rest,
      )

  -- what a root says
  pub chosen_last : said.root ≡ true → all ≡ or so_far said.choices
      → AreChosenBy files so_far (map string_bytes (drop i paths)) all
  chosen_last root chosen =
      subst (λ ps. AreChosenBy files so_far ps all)
      (sym (at_drop_more (map string_bytes) paths i d within)) (
        said,
        is,
        subst (λ b. IfRoot b (all ≡ or so_far said.choices) (AreChosenBy files
            (or so_far said.choices) (map string_bytes (drop (i + 1) paths)) all)) (sym root) chosen,
      )

-- the path in one more folder
pub paths_more : (paths : List (String Global)) (path above next : String Global)
    (names : List (Bor (List ℕ))) (i : ℕ) (d : Bor (List ℕ)) (all : List (List ℕ)) → i < length names
    → string_bytes path ≡ string_bytes above ++ codes ".editorconfig"
    → string_bytes next ≡ string_bytes above ++ ((get_or names i d).now ++ codes "/")
    → map string_bytes paths ++ paths_from (string_bytes above) (map (λ one. one.now) (drop i names)) ≡ all
    → map string_bytes (paths ++ path ∷ [])
    ++ paths_from (string_bytes next) (map (λ one. one.now) (drop (i + 1) names)) ≡ all
paths_more paths path above next names i d all within at to so_far =
    let rest = map (λ (one : Bor (List ℕ)). one.now) (drop (i + 1) names) in
    ap (λ ps. ps ++ paths_from (string_bytes next) rest) (map-append string_bytes paths (path ∷ []))
    ∙ append_assoc (map string_bytes paths) (string_bytes path ∷ []) (paths_from (string_bytes next) rest)
    ∙ ap (λ p. map string_bytes paths ++ (p ∷ paths_from (string_bytes next) rest)) at
    ∙ ap (λ f. map string_bytes paths ++ ((string_bytes above ++ codes ".editorconfig") ∷ paths_from f rest)) to
    ∙ ap (λ ns. map string_bytes paths ++ paths_from (string_bytes above) ns)
    (sym (at_drop_more (map (λ (one : Bor (List ℕ)). one.now)) names i d within))
    ∙ so_far

-- a list in reverse, each element mapped
pub map_reverse : {X Y : Type 0} (f : X → Y) (xs : List X) → map f (reverse xs) ≡ reverse (map f xs)
map_reverse f [] = refl
map_reverse f (x ∷ xs) =
    ap (map f) (reverse-append (x ∷ []) xs) ∙ map_push f (reverse xs) x
    ∙ ap (λ l. l ++ f x ∷ []) (map_reverse f xs) ∙ sym (reverse-append (f x ∷ []) (map f xs))

-- a path that does not begin with `/`
not_from_root : (file : List ℕ) → ((rest : List ℕ) → file ≢ 47 ∷ rest) → config_paths file ≡ paths_below [] file
not_from_root [] apart = refl
not_from_root (c ∷ cs) apart =
    let other : c ≢ 47 = λ e. apart cs (ap (λ x. x ∷ cs) e) in
    grind (arith, other)

pub no_root : (file : List ℕ) (r : Option (Bor (List ℕ)))
    → MatchOption r ((rest : List ℕ) → file ≢ 47 ∷ rest) (λ x. file ≡ 47 ∷ x.now) → r ≡ None
    → config_paths file ≡ paths_below [] file
no_root file r found is = not_from_root file
    (subst (λ x. MatchOption x ((rest : List ℕ) → file ≢ 47 ∷ rest) (λ y. file ≡ 47 ∷ y.now)) is found)

-- what bytes say that are UTF-8, and that are not
pub said_utf8 : (bytes : List ℕ) → is_utf8 bytes ≡ true → said_by bytes ≡ properties_of bytes
said_utf8 bytes is = rw is refl

pub said_other : (bytes : List ℕ) → is_utf8 bytes ≡ false → said_by bytes ≡ nothing_said
said_other bytes is = rw is refl
