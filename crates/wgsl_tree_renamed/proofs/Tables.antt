-- Look-ups in a table of new names.
use Rattle.std.proofs.Common.{◌≡◌, refl, sym, ap, ◌∙◌, ℕ, Bool, true, false, cond, if◌then◌else◌, List, [], ◌∷◌, map, Option, None, Some, unwrap_or, string_bytes, bytes_eq}
use Rattle.std.specs.Option.{option_map}
use Rattle.std.specs.Map.{lookup}
use Rattle.std.specs.declared.alloc.Global.{Global}
use Rattle.std.specs.declared.string.String.{String}
use Rattle.std.proofs.lemmas.Bool.Decides.{same_from_decides}
use Rattle.std.proofs.lemmas.Slice.Eq.{bytes_eq-Decides}
use Rattle.wgsl_model.specs.Tokens.Words.{look_up}
use Rattle.wgsl_model_minify.specs.NewNames.{new_or}
use Rattle.wgsl_tree_renamed.specs.NewNames.{pair_view}
use denote.Ref.{Bor}

same_either_way : (xs ys : List ℕ) → bytes_eq xs ys ≡ bytes_eq ys xs
same_either_way xs ys =
    same_from_decides (bytes_eq xs ys) (bytes_eq ys xs) (bytes_eq-Decides xs ys)
    (λ h. sym ((bytes_eq-Decides ys xs).0 h), λ e. (bytes_eq-Decides ys xs).1 (sym e))

either : (b : Bool) (s : String Global) (o : Option (String Global)) (r : Option (List ℕ))
    → r ≡ option_map string_bytes o
    → (if b then Some (string_bytes s) else r) ≡ option_map string_bytes (cond b (Some s) o)
either true s o r h = refl
either false s o r h = h

-- what the table has for a name
pub looked_up : (es : List (String Global × String Global)) (name : List ℕ)
    → option_map string_bytes (lookup (λ k. bytes_eq name (string_bytes k)) es)
    ≡ look_up (map pair_view es) name
looked_up [] name = refl
looked_up (e ∷ es) name =
    sym (ap (λ b. if b then Some (string_bytes e.1) else look_up (map pair_view es) name)
    (same_either_way (string_bytes e.0) name)
    ∙ either (bytes_eq name (string_bytes e.0)) e.1 (lookup (λ k. bytes_eq name (string_bytes k)) es)
    (look_up (map pair_view es) name) (sym (looked_up es name)))

pub nothing : (o : Option (String Global)) → option_map string_bytes o ≡ None → o ≡ None
nothing None h = refl
nothing (Some s) h = cc

-- what a name becomes
pub new_or_own : (o : Option (Bor (List ℕ))) (own : Bor (List ℕ))
    → (unwrap_or o own).now ≡ new_or own.now (option_map (λ name. name.now) o)
new_or_own None own = refl
new_or_own (Some name) own = refl
