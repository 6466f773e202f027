-- Worked paths, computed.
use Rattle.std.proofs.Common.{◌≡◌, refl, ℕ, ◌-◌, ◌^◌, List, [], ◌∷◌, Result, Ok, Err, codes, lit<, arith}
use Rattle.wgsl_model.specs.Trees.Paths.{PathOrigin, absolute, relative, of_package, ModulePath, PathFault, empty, misplaced_package, misplaced_self, misplaced_super, path_parts, read_path, path_text, join_paths, JoinFits}

abbrev path : PathOrigin → List (List ℕ) → ModulePath
path origin components = record { origin = origin; components = components }

-- reading

pub reads_self : read_path (codes "self") ≡ Ok (path (relative 0) [])
reads_self = refl

pub reads_super : read_path (codes "super") ≡ Ok (path (relative 1) [])
reads_super = refl

pub reads_package : read_path (codes "package") ≡ Ok (path absolute [])
reads_package = refl

pub reads_name : read_path (codes "a") ≡ Ok (path (of_package (codes "a")) [])
reads_name = refl

pub reads_supers : read_path (codes "super::super::a") ≡ Ok (path (relative 2) (codes "a" ∷ []))
reads_supers = refl

pub reads_empty_components : read_path (codes "a::::b::")
    ≡ Ok (path (of_package (codes "a")) ([] ∷ codes "b" ∷ [] ∷ []))
reads_empty_components = refl

pub three_colons : path_parts (codes "a:::b") ≡ codes "a" ∷ codes ":b" ∷ []
three_colons = refl

pub refuses_late_super : read_path (codes "a::super") ≡ Err misplaced_super
refuses_late_super = refl

pub refuses_late_self : read_path (codes "super::self") ≡ Err misplaced_self
refuses_late_self = refl

pub refuses_late_package : read_path (codes "self::package::super") ≡ Err misplaced_package
refuses_late_package = refl

pub refuses_super_after_self : read_path (codes "self::super") ≡ Err misplaced_super
refuses_super_after_self = refl

pub refuses_nothing : read_path [] ≡ Err empty
refuses_nothing = refl

pub refuses_no_name : read_path (codes "::a::super") ≡ Err empty
refuses_no_name = refl

-- joining, by the texts

abbrev joined_text : List ℕ → List ℕ → Result (List ℕ) PathFault
joined_text text suffix = text_of (read_path text) (read_path suffix) where
  text_of : Result ModulePath PathFault → Result ModulePath PathFault → Result (List ℕ) PathFault
  text_of (Err fault) r = Err fault
  text_of (Ok path) (Err fault) = Err fault
  text_of (Ok path) (Ok suffix) = Ok (path_text (join_paths path suffix))

pub package_in_package : joined_text (codes "pkg::m") (codes "q::n") ≡ Ok (codes "pkg/q::n")
package_in_package = refl

pub root_in_root : joined_text (codes "package::m1") (codes "package::foo") ≡ Ok (codes "package::foo")
root_in_root = refl

pub self_in_root : joined_text (codes "package::m1") (codes "self::foo") ≡ Ok (codes "package::m1::foo")
self_in_root = refl

pub super_in_root : joined_text (codes "package::m1") (codes "super::foo") ≡ Ok (codes "package::foo")
super_in_root = refl

pub root_in_package : joined_text (codes "pkg::m1::m2") (codes "package::foo") ≡ Ok (codes "pkg::foo")
root_in_package = refl

pub self_in_package : joined_text (codes "pkg::m1::m2") (codes "self::foo") ≡ Ok (codes "pkg::m1::m2::foo")
self_in_package = refl

pub super_in_package : joined_text (codes "pkg::m1::m2") (codes "super::foo") ≡ Ok (codes "pkg::m1::foo")
super_in_package = refl

pub super_in_super : joined_text (codes "super") (codes "super::foo") ≡ Ok (codes "super::super::foo")
super_in_super = refl

pub self_in_super : joined_text (codes "super") (codes "self::foo") ≡ Ok (codes "super::foo")
self_in_super = refl

-- the greatest count of levels

abbrev most : ℕ
most = 2 ^ 64 - 1

pub one_level_too_many : JoinFits (path (relative most) []) (path (relative 1) []) → ⊥
one_level_too_many fits = omega arith

pub one_level_left : JoinFits (path (relative most) (codes "a" ∷ [])) (path (relative 1) [])
one_level_left = lit< tt
