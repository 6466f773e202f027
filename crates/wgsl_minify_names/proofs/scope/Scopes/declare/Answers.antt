use Rattle.std.proofs.Common.{◌≡◌, ◌∙◌, None, sym, ap}
use Rattle.wgsl_minify_names.specs.InScope.{declared_view, with_declaration, with_name}
use Rattle.wgsl_minify_names.specs.View.{name_view, texts}
use Rattle.wgsl_minify_names.proofs.Lists.{texts-insert_key}
use Rattle.wgsl_minify_names.proofs.scope.Scopes.declare.Goals as goal

pub returns-in_ok-insert-clause-declared : goal.returns-in_ok-insert-clause-declared
returns-in_ok-insert-clause-declared c =
    let known = declared_view c.args.self.now in
    let e : texts c.insert.new.self.keys ≡ with_name known.names c.in-Some.name.now =
    ap texts c.in_ok-insert.ensures.keys ∙ texts-insert_key c.args.self.now.in_scope.keys c.in-Some.name in
    (λ i. record { names = e i; in_each = None })
    ∙ ap (λ name. with_declaration (name_view name) known) (sym c.in-Some.is)
