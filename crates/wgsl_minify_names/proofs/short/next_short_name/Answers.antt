use Rattle.std.proofs.Common.{◌≡◌, ◌+◌, ◌-◌, ℕ, List, false, sym, subst, arith}
use Rattle.std.specs.Prelude.{string_bytes}
use Rattle.wgsl_minify_names.specs.InScope.{is_in}
use Rattle.wgsl_minify_names.specs.Short.{AreTaken, IsWhole}
use Rattle.wgsl_minify_names.specs.View.{texts}
use Rattle.wgsl_minify_names.proofs.Identifiers.{letters_identifier}
use Rattle.wgsl_minify_names.proofs.Membership.{clash}
use Rattle.wgsl_minify_names.proofs.Taken.{short_alone, taken_more}
use Rattle.wgsl_minify_names.proofs.short.next_short_name.Goals as goal

-- a name that is free
abbrev IsFree : List (List ℕ) → List ℕ → Type 0
IsFree taken name = IsWhole name × (is_in name taken ≡ false)

pub loop-next-preserved : goal.loop-next-preserved
loop-next-preserved c =
    let taken = texts c.args.taken.now.keys in
    let name = string_bytes c.push_short_name.new.text in
    let short = short_alone (c.loop-next.next + 1) (string_bytes c.new-name.result) name c.new-name.ensures.bytes
    c.in_ok-push_short_name.ensures in
    taken_more taken c.args.number c.loop-next.next name c.loop-next.invariant short
    (λ free. clash c.is_free.result
    (c.is_free.ensures.1 (subst (IsFree taken) (sym c.deref.ensures) free)) c.if-is_free.false)

pub returns-then-is_free-clause-fresh : goal.returns-then-is_free-clause-fresh
returns-then-is_free-clause-fresh c =
    let taken = texts c.args.taken.now.keys in
    let name = string_bytes c.push_short_name.new.text in
    let short = short_alone (c.loop-next.next + 1) (string_bytes c.new-name.result) name c.new-name.ensures.bytes
    c.in_ok-push_short_name.ensures in
    let free : IsFree taken name = subst (IsFree taken) c.deref.ensures (c.is_free.ensures.0 c.if-is_free.true) in
    record { identifier = letters_identifier name short.letters free.0; free = free.1 }

pub returns-then-is_free-clause-skipped : goal.returns-then-is_free-clause-skipped
returns-then-is_free-clause-skipped c =
    let same : c.loop-next.next ≡ c.loop-next.next + 1 - 1 = omega arith in
    subst (AreTaken (texts c.args.taken.now.keys) c.args.number) same c.loop-next.invariant
