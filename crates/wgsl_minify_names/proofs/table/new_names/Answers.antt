use Rattle.std.proofs.Common.{◌≡◌, ◌∙◌, ◌++◌, filter, not, ap, subst}
use Rattle.std.specs.List.{AllPairs}
use Rattle.wgsl_model_minify.specs.Renamed.{fixed_words}
use Rattle.wgsl_minify_names.specs.Counts.{ComesBefore}
use Rattle.wgsl_minify_names.specs.InScope.{is_in, names_of, no_scopes, staying}
use Rattle.wgsl_minify_names.specs.View.{table_view, texts}
use Rattle.wgsl_minify_names.proofs.Passed.{staying_found, names_spelled}
use Rattle.wgsl_minify_names.proofs.Serves.{others_of, serves}
use Rattle.wgsl_minify_names.proofs.table.new_names.Goals as goal

pub returns : goal.returns
returns c = λ unit e.
    let fixed = texts c.in_ok-staying-2.staying.keys in
    let kept = texts c.args.keep.now in
    let stay = ap texts c.deref.ensures.value ∙ c.in_ok-staying.ensures
    ∙ ap (λ os. staying c.args.locals no_scopes os ++ (kept ++ fixed_words)) e
    ∙ ap (λ l. l ++ (kept ++ fixed_words)) (staying_found c.args.locals unit) in
    let others : texts c.deref-2.result.now ≡ others_of unit fixed =
    ap texts c.deref-2.ensures.value ∙ c.in_ok-renamed.ensures
    ∙ ap (λ os. filter (λ x. not (is_in x fixed)) (names_of os)) e
    ∙ ap (filter (λ x. not (is_in x fixed))) (names_spelled unit) in
    serves c.args.locals kept unit fixed (texts c.in_ok-ordered.ordered.items)
    (table_view c.in_ok-table.table.items) (record {
      stay = λ x. c.in_ok-staying-2.ensures x ∙ ap (is_in x) stay;
      same = λ x. c.in_ok-ordered.ensures.same x ∙ ap (is_in x) others;
      once = c.in_ok-ordered.ensures.once;
      ordered = subst (λ l. AllPairs (ComesBefore l) (texts c.in_ok-ordered.ordered.items)) others
          c.in_ok-ordered.ensures.ordered;
      names = c.in_ok-table.ensures.names ∙ ap texts c.deref-3.ensures.value;
      fresh = c.in_ok-table.ensures.fresh;
      letters = c.in_ok-table.ensures.letters;
      rising = c.in_ok-table.ensures.rising;
      full = c.in_ok-table.ensures.full;
    })
