use Rattle.std.proofs.Common.{◌≡◌, ◌∙◌, ◌++◌, [], sym, ap, map, drop, append_assoc, append-nil}
use Rattle.std.proofs.lemmas.List.{drop_all}
use Rattle.wgsl_model_minify.specs.Renamed.{fixed_words}
use Rattle.wgsl_minify_names.specs.InScope.{no_scopes, staying, scopes_view}
use Rattle.wgsl_minify_names.specs.View.{occurrence_view, texts}
use Rattle.wgsl_minify_names.proofs.Lists.{texts-append}
use Rattle.wgsl_minify_names.proofs.staying.staying_names.Goals as goal

pub returns : goal.returns
returns c =
    let locals = c.args.locals in
    let names = c.args.names.now in
    let found = c.loop-occurrence.found.items in
    let none : drop c.loop-occurrence.occurrence-index names ≡ [] =
    drop_all c.loop-occurrence.occurrence-index names c.loop-occurrence-test.false in
    let here : texts found ≡ staying locals no_scopes (map occurrence_view names) =
    sym (ap (λ rest. texts found
    ++ staying locals (scopes_view c.loop-occurrence.scopes) (map occurrence_view rest)) none
    ∙ append-nil (texts found)) ∙ c.loop-occurrence.invariant in
    let kept : texts c.extend_from_slice.new.self.items ≡ texts found ++ texts c.args.keep.now =
    ap texts c.in_ok-extend_from_slice.ensures.items ∙ texts-append found c.args.keep.now in
    let words : texts c.extend_from_slice-2.new.self.items ≡ texts c.extend_from_slice.new.self.items ++ fixed_words =
    ap texts c.in_ok-extend_from_slice-2.ensures.items ∙ texts-append c.extend_from_slice.new.self.items _ in
    words ∙ ap (λ l. l ++ fixed_words) (kept ∙ ap (λ l. l ++ texts c.args.keep.now) here)
    ∙ append_assoc (staying locals no_scopes (map occurrence_view names)) (texts c.args.keep.now) fixed_words
