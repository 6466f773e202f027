use Rattle.std.proofs.Common.{sym, subst, ℕ, List, Option, Bor}
use Rattle.std.specs.Option.{option_copied}
use Rattle.wgsl_files.specs.Files.{HasNone}
use Rattle.wgsl_minify_files.specs.Runs.{IsUnread}
use Rattle.wgsl_minify_files.proofs.Failures.{failed_for}
use Rattle.wgsl_minify_files.proofs.run.read_source.Goals as goal

pub returns-in-Err-clause-unread : goal.returns-in-Err-clause-unread
returns-in-Err-clause-unread g c =
    let files = g.S.Store.files c.args.store.now in
    subst (λ (path : Option (Bor (List ℕ))). IsUnread (option_copied path) files c.of.result) (sym c.in-Some.is)
    (failed_for (HasNone files c.in-Some.path.now) c.in-Some.path.now c.in-Err.error c.of.result
    c.in-Err.ensures.missing c.of.ensures.memory c.of.ensures.failed)
