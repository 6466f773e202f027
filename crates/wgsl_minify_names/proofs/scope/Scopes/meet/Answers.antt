use Rattle.std.proofs.Common.{◌≡◌, ◌∙◌, ◌∷◌, [], sym, ap, map}
use Rattle.std.specs.Prelude.{reverse}
use Rattle.std.proofs.lemmas.List.{reverse-append}
use Rattle.wgsl_minify_names.specs.InScope.{past, after_scope, scopes_view, start_view}
use Rattle.wgsl_minify_names.specs.View.{name_view, occurrence_view, texts}
use Rattle.wgsl_minify_names.proofs.Lists.{texts-take}
use Rattle.wgsl_minify_names.proofs.scope.Scopes.meet.Goals as goal

pub returns-in-Some : goal.returns-in-Some
returns-in-Some c =
    let known = scopes_view c.args.self.now in
    let starts = map start_view (reverse c.pop.new.self.items) in
    let left : known.starts ≡ (c.in-Some.start, name_view c.in-Some.in_each) ∷ starts =
    ap (λ items. map start_view (reverse items)) c.in-Some.ensures.items
    ∙ ap (map start_view) (reverse-append c.pop.new.self.items ((c.in-Some.start, c.in-Some.in_each) ∷ [])) in
    let names = ap texts c.truncate.ensures.keys ∙ texts-take c.in-Some.start c.args.self.now.in_scope.keys in
    (λ i. record { declared = record { names = names i; in_each = name_view c.in-Some.in_each }; starts = starts })
    ∙ ap (after_scope known.declared) (sym left) ∙ ap (λ o. past known (occurrence_view o)) (sym c.in-ScopeEnd.is)
