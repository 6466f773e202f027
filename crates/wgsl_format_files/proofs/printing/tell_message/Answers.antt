use Rattle.std.proofs.Common.{rules, ◌≡◌, ap, ◌∙◌, sym, ℕ, List, ◌++◌, Option, Some, codes, subst}
use Rattle.wgsl_program.specs.Written.{Wrote}
use Rattle.wgsl_format_files.specs.Events.{told_after, pair_copied}
use Rattle.wgsl_program.proofs.Written.{wrote_then}
use Rattle.wgsl_format_files.proofs.printing.tell_message.Goals as goal

-- the texts that are written are those of the message
told_is : (name lead text a b t : List ℕ) (message : Option (List ℕ × List ℕ)) → a ≡ name → b ≡ lead
    → t ≡ text → Some (lead, text) ≡ message
    → (a ++ b) ++ (t ++ codes "\n") ≡ told_after name message
told_is name lead text a b t message first second third is =
    ap (λ bs. (bs ++ b) ++ (t ++ codes "\n")) first ∙ ap (λ bs. (name ++ bs) ++ (t ++ codes "\n")) second
    ∙ ap (λ bs. (name ++ lead) ++ (bs ++ codes "\n")) third ∙ ap (told_after name) is

pub returns : goal.returns
returns g c =
    let both = wrote_then c.put_both.result c.put_both-2.result _ _ _ _ _ c.put_both.ensures
    (search rules) c.put_both-2.ensures in
    let is = told_is _ _ _ _ _ _ _ c.as_bytes.ensures.value c.as_bytes-2.ensures.value
    c.as_bytes-3.ensures.value (sym (ap pair_copied c.in-Some.is) ∙ c.message.ensures) in
    subst (λ bs. Wrote c.put_both-2.result bs (g.E.Write.contents c.args.errors.now)
    (g.E.Write.contents c.put_both-2.new.writer)) is both
