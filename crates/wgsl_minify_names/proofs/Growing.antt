-- A table with one more name.
use Rattle.std.proofs.Common.{◌≡◌, ℕ, ◌+◌, ◌<◌, List, [], ◌∷◌, ◌++◌, length, get_or, take, refl, sym, ap, ◌∙◌}
use Rattle.std.specs.Prelude.{String, string_bytes}
use Rattle.std.specs.Borrow.{Bor}
use Rattle.std.specs.Global.{Global}
use Rattle.std.specs.Map.{keys_of}
use Rattle.std.proofs.lemmas.Grind.{take_at_read}
use Rattle.wgsl_minify_names.specs.View.{table_view, texts}
use Rattle.wgsl_minify_names.proofs.Lists.{texts-append}

pub grown : (ps : List (String Global × String Global)) (p : String Global × String Global)
    → table_view (ps ++ p ∷ []) ≡ table_view ps ++ (string_bytes p.0, string_bytes p.1) ∷ []
grown [] p = refl
grown (q ∷ ps) p = ap (λ l. (string_bytes q.0, string_bytes q.1) ∷ l) (grown ps p)

keys_grown : (table : List (List ℕ × List ℕ)) (pair : List ℕ × List ℕ)
    → keys_of (table ++ pair ∷ []) ≡ keys_of table ++ pair.0 ∷ []
keys_grown [] pair = refl
keys_grown (p ∷ table) pair = ap (λ l. p.0 ∷ l) (keys_grown table pair)

pub names_grown : (table : List (List ℕ × List ℕ)) (pair : List ℕ × List ℕ)
    (xs : List (Bor (List ℕ))) (i : ℕ) (d : Bor (List ℕ))
    → i < length xs → keys_of table ≡ texts (take i xs) → pair.0 ≡ (get_or xs i d).now
    → keys_of (table ++ pair ∷ []) ≡ texts (take (i + 1) xs)
names_grown table pair xs i d lt same e =
    keys_grown table pair ∙ (λ j. same j ++ e j ∷ [])
    ∙ sym (ap texts (take_at_read xs i d lt).1 ∙ texts-append (take i xs) (get_or xs i d ∷ []))
