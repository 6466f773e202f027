use Rattle.std.proofs.Common.{◌∙◌, [], ◌∷◌, ◌++◌, ap, subst, sym}
use Rattle.std.specs.Option.{option_map}
use Rattle.wgsl_model_places.specs.Places.{after_occurrences, entry_occurs}
use Rattle.wgsl_lex_names.specs.View.{branch_view, name_view}
use Rattle.wgsl_resolve_names.specs.declared.scope.Link.{Link}
use Rattle.wgsl_resolve_names.specs.declared.scope.Resolver.{Resolver}
use Rattle.wgsl_resolve_names.specs.Known.{Knows}
use Rattle.wgsl_resolve_names.proofs.Entered.{enters, declaration_occurs}
use Rattle.wgsl_resolve_names.proofs.scope.Resolver.enter.Goals as goal

pub returns-clause-known : goal.returns-clause-known
returns-clause-known c = λ known knows.
    let name = c.in-Some.name in
    let branch = option_map branch_view c.args.entry.branch in
    let declared = c.in_ok-previous.ensures in
    let link : Link = record { entry = c.args.entry; number = c.len-number.result; previous = c.in_ok-previous.previous } in
    let after : Resolver = record {
      alloc = c.declare.new.self.alloc;
      links = c.push.new.self;
      last = c.declare.new.self.last;
      starts = c.declare.new.self.starts;
      declarations = c.declare.new.self.declarations;
      names = c.declare.new.self.names;
    } in
    subst (λ n. Knows after (after_occurrences (entry_occurs branch (option_map name_view n)) known)) (sym c.in-Some.is)
    (declaration_occurs branch (name_view name) known (Knows after)
    (enters c.args.self.now after link name (c.len-number.ensures ∙ c.args.self.now.declarations.ok.0) declared.previous
    c.in-Some.is declared.last (c.in_ok-push.ensures.items ∙ ap (λ v. v.items ++ link ∷ []) declared.links)
    declared.declared declared.starts declared.names known knows))
