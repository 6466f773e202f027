use Rattle.std.proofs.Common.{refl, sym, ap, ◌-◌, take, length, nat_eq, codes, if◌then◌else◌}
use Rattle.std.proofs.lemmas.Bool.{false_from_ne_true}
use Rattle.std.proofs.lemmas.Bool.Decides.{Decides-eqb}
use Rattle.std.proofs.lemmas.Slice.Eq.{ends_is}
use Rattle.std.specs.List.{ends_with}
use Rattle.wgsl_files.proofs.folder.folder_of.Goals as goal

pub returns-in-None : goal.returns-in-None
unfolding lib.Utf8.encode
returns-in-None c =
    let path = c.args.path.now in
    let other = false_from_ne_true (ends_with nat_eq path (codes "/"))
    (λ ends. c.in-None.ensures.cases _ ((ends_is Decides-eqb path (codes "/") _ refl).0 ends)) in
    ap (λ ends. if ends then take (length path - 1) path else path) (sym other)
