use Rattle.std.proofs.Common.{rules, arith, ◌≡◌, ◌≤◌, subst, ℕ, true, List, [], All, chars, length}
use Rattle.std.proofs.lemmas.List.{take_all}
use Rattle.std.proofs.lemmas.List.Elements.{All-more}
use Rattle.std.specs.Borrow.{Bor}
use Rattle.wgsl_minify_files.specs.Kept.{HasName}
use Rattle.wgsl_minify_files.proofs.Names.{texts_all}
use Rattle.wgsl_minify_files.proofs.kept.check_kept.Goals as goal

pub keep-preserved : goal.keep-preserved
keep-preserved c =
    let has : c.in_ok-has_name.field-0 ≡ true = search rules in
    All-more (λ (text : Bor (List ℕ)). HasName true (chars c.args.source.now) text.now) c.args.keep.now
    c.keep.name-index (record { ref_ptr = (0, 0); now = [] }) c.keep-test.true c.keep.invariant
    (rw has at c.in_ok-has_name.ensures)

pub returns-clause-kept : goal.returns-clause-kept
returns-clause-kept c =
    let keep = c.args.keep.now in
    let long : length keep ≤ c.keep.name-index = grind (arith, c.keep-test.false) in
    texts_all (HasName true (chars c.args.source.now)) keep
    (subst (All (λ (text : Bor (List ℕ)). HasName true (chars c.args.source.now) text.now))
    (take_all c.keep.name-index keep long) c.keep.invariant)
