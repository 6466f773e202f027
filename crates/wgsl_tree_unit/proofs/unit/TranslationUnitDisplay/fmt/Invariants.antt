use Rattle.std.proofs.Common.{◌≡◌, take, codes}
use denote.Text.{Utf8}
use denote.Shadow.{shadow}
use Rattle.std.specs.Fmt.{HasWritten, IsPlainFormatter}
use Rattle.wgsl_model.specs.Printed.Joining.{joined}
use Rattle.wgsl_tree_unit.proofs.Shown.{before_next, shown}
use Rattle.wgsl_tree_unit.proofs.unit.TranslationUnitDisplay.fmt.Given as goal

abbrev pub invariant-declarations : goal.invariant-declarations
invariant-declarations g l =
    let texts = shown (take l.declaration-index l.declaration-items) in
    record {
      before : l.before ≡ before_next (codes "\n\n") texts;
      utf8 : shadow (Utf8 l.before);
      written : IsPlainFormatter l.initial.f
          → HasWritten g.W.Write.write_str_gives l.initial.f (joined (codes "\n\n") texts) l.f;
    }
