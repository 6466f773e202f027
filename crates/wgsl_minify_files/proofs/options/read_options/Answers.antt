use Rattle.std.proofs.Common.{rules, ◌≡◌, ◌∙◌, ap, inl, inr, sym, subst, ℕ, List, [], ◌∷◌, Option, None, map, flat_map, option_map, string_bytes, codes}
use Rattle.std.proofs.lemmas.Result.{err_from_is_err_and}
use Rattle.std.specs.List.{slice_split}
use Rattle.std.specs.Option.{unwrap_or}
use Rattle.clap.proofs.WalkLemmas.{first_value-rows, raw_values-rows}
use Rattle.clap.specs.Words.{App, app_of, fault_of, found_of, matches_of, rows_of, is_simple, is_simple_and_free}
use Rattle.clap.specs.declared.error.kind.ErrorKind.TheVariants.{InvalidValue}
use Rattle.wgsl_minify_names.specs.View.{which_view}
use Rattle.wgsl_minify_files.specs.Options.{asked_with, is_comma, output_of, path_of, target_of, which_of}
use Rattle.wgsl_minify_files.specs.View.{Gives}
use Rattle.wgsl_minify_files.proofs.Asked.{is_plain, is_free, gives_error, asked_options, asked_rows}
use Rattle.wgsl_minify_files.proofs.options.read_options.Goals as goal

pub returns-in_err-matches : goal.returns-in_err-matches
returns-in_err-matches c =
    let p = err_from_is_err_and c.from_residual-in_err-matches.result c.from_residual-in_err-matches.ensures.1 in
    rw (p.1, p.2) (gives_error (map string_bytes c.args.arguments.now) (app_of c.in_ok-command.command)
    c.in_err-matches.field-0.0 c.in_ok-command.ensures c.in_err-matches.ensures.kinds)

pub returns-in_default : goal.returns-in_default
returns-in_default c =
    let is = c.in_ok-command.ensures in
    let words = map string_bytes c.args.arguments.now in
    let found = found_of c.in_ok-matches.matches in
    let none : c.which_of.result ≡ None = search rules in
    let first = c.get_str.ensures ∙ first_value-rows found (codes "names") in
    inr (
      InvalidValue ∷ [],
      asked_rows words (rows_of found)
          (ap (λ (a : App). fault_of a words) (sym is)
          ∙ c.in_ok-matches.ensures.kinds (ap is_simple_and_free is ∙ is_free))
          ((c.in_ok-matches.ensures.ok.2 (ap is_simple is ∙ is_plain)).0
          ∙ ap (λ (a : App). matches_of a words) is)
          ∙ ap (λ which. asked_with which (rows_of found)) (sym (c.which_of.ensures ∙ ap which_of first)
          ∙ ap (option_map which_view) none),
      inl c.in_ok-error.ensures.kind,
    )

pub returns : goal.returns
returns c =
    let words = map string_bytes c.args.arguments.now in
    let is = c.in_ok-command.ensures in
    let found = found_of c.in_ok-matches.matches in
    subst (λ meant. Gives meant c.with_own_map.result) (sym (asked_options words (rows_of found)
    (ap (λ (a : App). fault_of a words) (sym is)
    ∙ c.in_ok-matches.ensures.kinds (ap is_simple_and_free is ∙ is_free))
    ((c.in_ok-matches.ensures.ok.2 (ap is_simple is ∙ is_plain)).0 ∙ ap (λ (a : App). matches_of a words) is)
    (record {
      input = c.path_of.result;
      output = c.output_of.result;
      map = c.map_of.result;
      names = c.in-Some.names;
      keep = c.in_ok-keep.keep;
    })
    (sym (c.which_of.ensures ∙ ap which_of (c.get_str.ensures ∙ first_value-rows found (codes "names")))
    ∙ ap (option_map which_view) c.in-Some.is)
    (c.path_of.ensures ∙ ap path_of (c.get_str-2.ensures ∙ first_value-rows found (codes "FILE")))
    (c.output_of.ensures ∙ ap output_of (c.get_str-3.ensures ∙ first_value-rows found (codes "output")))
    (c.map_of.ensures ∙ ap (option_map target_of) (c.get_str-4.ensures ∙ first_value-rows found (codes "map")))
    (c.in_ok-keep.ensures ∙ ap (λ (lists : Option (List (List ℕ))). flat_map (slice_split is_comma) (unwrap_or lists []))
    (c.get_strs.ensures ∙ raw_values-rows found (codes "keep"))))) c.with_own_map.ensures
