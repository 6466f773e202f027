use Rattle.std.proofs.Common.{◌∙◌, ap, inl, inr, refl, sym, ℕ, List, [], ◌∷◌, Option, Bor, map, string_bytes, codes}
use Rattle.std.proofs.lemmas.Result.{err_from_is_err_and}
use Rattle.std.specs.Option.{unwrap_or}
use Rattle.std.specs.Result.{result_ok}
use Rattle.clap.proofs.WalkLemmas.{first_value-rows, raw_values-rows}
use Rattle.clap.specs.Walk.{texts}
use Rattle.clap.specs.Words.{App, app_of, fault_of, found_of, matches_of, rows_of, is_simple, is_simple_and_free}
use Rattle.clap.specs.declared.error.kind.ErrorKind.TheVariants.{InvalidValue}
use Rattle.wgsl_format_options.specs.Options.{asked_with, is_given, source_of}
use Rattle.wgsl_format_options.proofs.Asked.{is_plain, is_free, gives_error, asked_options, asked_rows, chosen_rows, mode_rows, texts_or_none}
use Rattle.wgsl_format_options.proofs.options.read_options.Goals as goal

pub returns-in_err-matches : goal.returns-in_err-matches
returns-in_err-matches c =
    let p = err_from_is_err_and c.from_residual-in_err-matches.result c.from_residual-in_err-matches.ensures.1 in
    rw (p.1, p.2) (gives_error (map string_bytes c.args.arguments.now) (app_of c.in_ok-command.command)
    c.in_err-matches.field-0.0 c.in_ok-command.ensures c.in_err-matches.ensures.kinds)

pub returns-in-Err : goal.returns-in-Err
returns-in-Err c =
    let is = c.in_ok-command.ensures in
    let words = map string_bytes c.args.arguments.now in
    let found = found_of c.in_ok-matches.matches in
    let chosen = chosen_rows (rows_of found) (result_ok c.choices_of.result) _ _ _ c.choices_of.ensures
    (c.get_str-width.ensures ∙ first_value-rows found (codes "width"))
    (c.get_str-indent.ensures ∙ first_value-rows found (codes "indent"))
    (c.get_str-newlines.ensures ∙ first_value-rows found (codes "newlines")) in
    inr (
      InvalidValue ∷ [],
      asked_rows words (rows_of found)
          (ap (λ (a : App). fault_of a words) (sym is)
          ∙ c.in_ok-matches.ensures.kinds (ap is_simple_and_free is ∙ is_free))
          ((c.in_ok-matches.ensures.ok.2 (ap is_simple is ∙ is_plain)).0
          ∙ ap (λ (a : App). matches_of a words) is)
          ∙ ap (λ it. asked_with it (rows_of found)) (sym chosen ∙ ap result_ok c.in-Err.is),
      inl c.in_ok-error-in-Err.ensures.kind,
    )

pub returns : goal.returns
returns c =
    let is = c.in_ok-command.ensures in
    let words = map string_bytes c.args.arguments.now in
    let found = found_of c.in_ok-matches.matches in
    let rows = rows_of found in
    let chosen = chosen_rows rows (result_ok c.choices_of.result) _ _ _ c.choices_of.ensures
    (c.get_str-width.ensures ∙ first_value-rows found (codes "width"))
    (c.get_str-indent.ensures ∙ first_value-rows found (codes "indent"))
    (c.get_str-newlines.ensures ∙ first_value-rows found (codes "newlines")) in
    asked_options words rows
    (ap (λ (a : App). fault_of a words) (sym is)
    ∙ c.in_ok-matches.ensures.kinds (ap is_simple_and_free is ∙ is_free))
    ((c.in_ok-matches.ensures.ok.2 (ap is_simple is ∙ is_plain)).0 ∙ ap (λ (a : App). matches_of a words) is)
    (record {
      mode = c.mode_of.result;
      quiet = c.is_given.result;
      stdin_path = c.get_str-4.result;
      choices = c.in-Ok.choices;
      sources = c.in_ok-sources.sources;
    })
    (sym chosen ∙ ap result_ok c.in-Ok.is)
    (mode_rows rows c.mode_of.result c.is_given-check.result c.is_given-diff.result _ _ c.mode_of.ensures
    c.is_given-check.ensures c.is_given-diff.ensures
    (c.get_str.ensures ∙ first_value-rows found (codes "check"))
    (c.get_str-2.ensures ∙ first_value-rows found (codes "diff")))
    (c.is_given.ensures ∙ ap is_given (c.get_str-3.ensures ∙ first_value-rows found (codes "quiet")))
    (c.get_str-4.ensures ∙ first_value-rows found (codes "stdin-path"))
    (c.in_ok-sources.ensures ∙ ap (map source_of)
    (ap (λ (paths : Bor (List (Bor (List ℕ)))). texts paths.now) c.unwrap_or-paths.ensures
    ∙ texts_or_none c.get_strs.result _ refl
    ∙ ap (λ (lists : Option (List (List ℕ))). unwrap_or lists [])
    (c.get_strs.ensures ∙ raw_values-rows found (codes "PATH"))))
