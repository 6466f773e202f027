use Rattle.std.proofs.Common.{ap, ◌∙◌, [], ◌∷◌, ◌++◌, codes, if◌then◌else◌}
use Rattle.wgsl_diff.proofs.Texts.{text_pushed}
use Rattle.wgsl_diff.proofs.printing.push_text.Goals as goal

pub returns-in_ok-extend_from_slice-2 : goal.returns-in_ok-extend_from_slice-2
returns-in_ok-extend_from_slice-2 c =
    let out = c.args.output.now.items in
    let sign = c.args.sign in
    let text = c.args.text.now in
    let note = codes "\n\\ No newline at end of file\n" in
    text_pushed out _ _ _ sign text note c.in_ok-push.ensures.items
    c.in_ok-extend_from_slice.ensures.items c.in_ok-extend_from_slice-2.ensures.items
    ∙ ap (λ ends. out ++ sign ∷ (text ++ (if ends then [] else note))) c.if-not-ends_with.ensures.value
