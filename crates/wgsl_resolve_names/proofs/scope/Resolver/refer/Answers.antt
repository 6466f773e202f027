use Rattle.std.proofs.Common.{◌∙◌, ◌∷◌, ◌&&◌, [], false, ap, arith, subst, sym}
use Rattle.std.specs.Prelude.{reverse}
use Rattle.std.proofs.lemmas.List.{map-append}
use Rattle.wgsl_resolve_names.specs.Linked.{in_scope, place_of, referent_view, referents_view}
use Rattle.wgsl_resolve_names.proofs.Links.{Left, all_left, at_next, more_left, nearer, none_left, refers_left, viewed, within_links}
use Rattle.wgsl_resolve_names.proofs.scope.Resolver.refer.Goals as goal

pub links-init : goal.links-init
links-init c =
    let links = reverse c.args.self.now.links.items in
    let name = c.args.name.now in
    subst (λ next. Left links name (referents_view c.new-found.result.items) next false)
    (sym (c.last_of-next.ensures ∙ c.requires.right.last name))
    (subst (λ found. Left links name (referents_view found) (place_of name (in_scope links)) false) (sym c.new-found.ensures.items)
    (all_left links name c.requires.right.linked))

pub index-link-requires : goal.index-link-requires
index-link-requires c =
    let now = c.links in
    let within = within_links c.args.self.now.links.items c.args.name.now (referents_view now.found.items) now.next now.each
    c.in-Some.place now.invariant c.in-Some.is in
    let size = c.args.self.now.links.ok.0 in
    omega (arith, within, size)

pub returns-in_default-beside : goal.returns-in_default-beside
returns-in_default-beside c =
    let now = c.links in
    let items = c.args.self.now.links.items in
    let found = referents_view now.found.items in
    let link = c.index-link.result.now in
    let place = c.in-Some.place in
    let next = at_next items c.args.name.now found now.next now.each place link now.invariant c.in-Some.is c.index-link.ensures in
    viewed now.found.items c.push.new.self.items link.number c.in_ok-push.ensures.items
    ∙ none_left (reverse items) c.args.name.now found place now.each link next c.beside.result c.in_default-beside.is c.beside.ensures

pub links-smaller-then-beside : goal.links-smaller-then-beside
links-smaller-then-beside c =
    let now = c.links in
    let items = c.args.self.now.links.items in
    let found = referents_view now.found.items in
    let link = c.index-link.result.now in
    let place = c.in-Some.place in
    let next = at_next items c.args.name.now found now.next now.each place link now.invariant c.in-Some.is c.index-link.ensures in
    nearer (reverse items) c.args.name.now found place now.each link next now.next c.in-Some.is

pub links-preserved-then-beside : goal.links-preserved-then-beside
links-preserved-then-beside c =
    let now = c.links in
    let items = c.args.self.now.links.items in
    let found = referents_view now.found.items in
    let link = c.index-link.result.now in
    let place = c.in-Some.place in
    let next = at_next items c.args.name.now found now.next now.each place link now.invariant c.in-Some.is c.index-link.ensures in
    let once = c.is_just_before-at_once.result in
    subst (λ more. Left (reverse items) c.args.name.now more link.previous once)
    (sym (viewed now.found.items c.push.new.self.items link.number c.in_ok-push.ensures.items))
    (more_left (reverse items) c.args.name.now found place now.each link next c.beside.result c.in-Some-beside.beside
    c.is_just_before-at_once.result once c.in-Some-beside.is c.beside.ensures c.is_just_before-at_once.ensures
    (ap (λ b. b && once) (sym c.if-beside.true)))

pub links-smaller : goal.links-smaller
links-smaller c =
    let now = c.links in
    let items = c.args.self.now.links.items in
    let found = referents_view now.found.items in
    let link = c.index-link.result.now in
    let place = c.in-Some.place in
    let next = at_next items c.args.name.now found now.next now.each place link now.invariant c.in-Some.is c.index-link.ensures in
    nearer (reverse items) c.args.name.now found place now.each link next now.next c.in-Some.is

pub links-preserved : goal.links-preserved
links-preserved c =
    let now = c.links in
    let items = c.args.self.now.links.items in
    let found = referents_view now.found.items in
    let link = c.index-link.result.now in
    let place = c.in-Some.place in
    let next = at_next items c.args.name.now found now.next now.each place link now.invariant c.in-Some.is c.index-link.ensures in
    subst (λ more. Left (reverse items) c.args.name.now more link.previous c.in-Some-beside.beside)
    (sym (viewed now.found.items c.push.new.self.items link.number c.in_ok-push.ensures.items))
    (more_left (reverse items) c.args.name.now found place now.each link next c.beside.result c.in-Some-beside.beside
    c.is_just_before-at_once.result c.in-Some-beside.beside c.in-Some-beside.is c.beside.ensures c.is_just_before-at_once.ensures
    (c.if-beside.false ∙ ap (λ b. b && c.is_just_before-at_once.result) (sym c.if-beside.false)))

pub returns : goal.returns
returns c =
    let links = reverse c.args.self.now.links.items in
    let name = c.args.name.now in
    let found = referents_view c.links.found.items in
    ap referents_view c.in_ok-push-2.ensures.items ∙ map-append referent_view c.links.found.items (_ ∷ [])
    ∙ refers_left links name found c.links.each (subst (λ n. Left links name found n c.links.each) c.in_default.is c.links.invariant)
