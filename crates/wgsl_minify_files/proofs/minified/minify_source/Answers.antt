use Rattle.std.proofs.Common.{subst, ℕ, List, true, chars, string_bytes}
use Rattle.std.proofs.lemmas.Bool.{false_from_ne_true}
use Rattle.std.proofs.lemmas.Result.{err_from_is_err_and}
use Rattle.std.proofs.lemmas.Str.{IsUtf8-had, is_utf8-from_IsUtf8, IsUtf8-from_is_utf8}
use Rattle.std.specs.Borrow.{Bor}
use Rattle.std.specs.List.{All}
use Rattle.std.specs.Str.{is_utf8}
use Rattle.wgsl_minify.specs.Modules.{IsMinified}
use Rattle.wgsl_minify_names.specs.View.{texts, which_view}
use Rattle.wgsl_tree_renamed.specs.NewNames.{pairs}
use Rattle.wgsl_minify_files.specs.Failures.{IsRefusal, LacksName, Refuses}
use Rattle.wgsl_minify_files.specs.Kept.{HasName}
use Rattle.wgsl_minify_files.proofs.Failures.{refused_lacking, refused_named, refused_undecoded}
use Rattle.wgsl_minify_files.proofs.minified.minify_source.Goals as goal

pub returns-in_default-clause-refused : goal.returns-in_default-clause-refused
returns-in_default-clause-refused c =
    let bytes = c.args.source.now in
    let keep = texts c.args.options.now.keep.items in
    subst (λ (name : List ℕ). IsRefusal (Refuses name keep bytes) c.not_utf8.result) c.name_of-name.ensures
    (refused_undecoded c.name_of-name.result.now keep bytes c.not_utf8.result (false_from_ne_true (is_utf8 bytes)
    (λ valid. c.in_default.ensures.cases.0 (IsUtf8-from_is_utf8 bytes valid))) c.not_utf8.ensures)

pub returns-in_ok-check_kept-in-Ok-minify_within-clause-minified : goal.returns-in_ok-check_kept-in-Ok-minify_within-clause-minified
returns-in_ok-check_kept-in-Ok-minify_within-clause-minified c =
    let source = c.in-Ok.ensures.cases in
    let options = c.args.options.now in
    let it = c.in-Ok-minify_within.minified in
    record {
      source_valid = is_utf8-from_IsUtf8 _ source.1;
      text_valid = is_utf8-from_IsUtf8 _ (IsUtf8-had _ it.text.ok);
      minified = subst (λ (keep : List (Bor (List ℕ))). IsMinified (which_view options.names) (texts keep)
          (chars c.args.source.now) (pairs it.names) (chars (string_bytes it.text))) c.as_slice-keep.ensures.value
          (subst (λ (s : List ℕ). IsMinified (which_view options.names) (texts c.as_slice-keep.result.now)
          (chars s) (pairs it.names) (chars (string_bytes it.text))) source.0 c.in-Ok-minify_within.ensures.minified);
      kept = subst (λ (keep : List (Bor (List ℕ))). All (HasName true (chars c.args.source.now)) (texts keep))
          c.as_slice-keep.ensures.value (subst (λ (s : List ℕ). All (HasName true (chars s))
          (texts c.as_slice-keep.result.now)) source.0 c.in_ok-check_kept-in-Ok-minify_within.ensures.kept);
    }

pub returns-in-Err-clause-refused : goal.returns-in-Err-clause-refused
returns-in-Err-clause-refused c =
    let source = c.in-Ok.ensures.cases in
    let keep = texts c.args.options.now.keep.items in
    subst (λ (name : List ℕ). IsRefusal (Refuses name keep c.args.source.now) c.refusal.result) c.name_of-name.ensures
    (refused_named c.name_of-name.result.now keep c.args.source.now c.in-Err.error c.refusal.result
    (is_utf8-from_IsUtf8 _ source.1) (rw source.0 at c.in-Err.ensures.refused) (rw source.0 at c.refusal.ensures))

pub returns-in_err-check_kept-in-Ok-minify_within-clause-refused : goal.returns-in_err-check_kept-in-Ok-minify_within-clause-refused
returns-in_err-check_kept-in-Ok-minify_within-clause-refused c =
    let source = c.in-Ok.ensures.cases in
    let bytes = c.args.source.now in
    let keep = texts c.args.options.now.keep.items in
    let p = err_from_is_err_and c.from_residual.result c.from_residual.ensures.1 in
    let failure = c.in_err-check_kept-in-Ok-minify_within.field-0.0 in
    let name = c.name_of-name.result.now in
    let lacks = subst (λ (k : List (Bor (List ℕ))). IsRefusal (LacksName name (texts k) (chars bytes)) failure)
    c.as_slice-keep.ensures.value (subst (λ (s : List ℕ). IsRefusal (LacksName name (texts c.as_slice-keep.result.now)
    (chars s)) failure) source.0 c.in_err-check_kept-in-Ok-minify_within.ensures.lacks) in
    rw (p.1, p.2) (subst (λ (n : List ℕ). IsRefusal (Refuses n keep bytes) failure) c.name_of-name.ensures
    (refused_lacking name keep bytes failure (is_utf8-from_IsUtf8 _ source.1) lacks))
