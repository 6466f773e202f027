use Rattle.std.proofs.Common.{◌≡◌, true, ◌↔◌, ap}
use Rattle.std.specs.Hash as fed
use Rattle.std.proofs.lemmas.Slice.Eq.{bytes_eq-Decides}
use Rattle.wgsl_tree_expression.specs.declared.ident.Ident.{Ident}
use Rattle.wgsl_tree_expression.specs.View.{ident_name}
use Rattle.wgsl_tree_expression.specs.Equality.{equal_idents}
use Rattle.wgsl_tree_path.proofs.Equalities.{equivalence}
use Rattle.wgsl_laws.proofs.name_equality.ident_equality.Goals as goal

agree : (a b : Ident) → (equal_idents a b ≡ true) ↔ (ident_name a ≡ ident_name b)
agree a b = bytes_eq-Decides (ident_name a) (ident_name b)

pub returns-clause-equivalence : goal.returns-clause-equivalence
returns-clause-equivalence c = equivalence equal_idents ident_name agree

pub returns-clause-hash : goal.returns-clause-hash
returns-clause-hash c = λ a b same. ap fed.str ((agree a b).0 same)
