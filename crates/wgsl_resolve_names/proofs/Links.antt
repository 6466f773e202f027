-- Where the last declaration of a name is, and what a use of it refers to.
use Rattle.std.proofs.Common.{◌≡◌, ◌≢◌, ◌∙◌, ℕ, suc, ◌+◌, ◌<◌, Bool, true, false, cond, ◌&&◌, List, [], ◌∷◌, ◌++◌, length, get_or, append_assoc, Option, Some, None, refl, sym, ap, subst, arith}
use Rattle.std.specs.Prelude.{bytes_eq, reverse}
use Rattle.std.specs.Option.{option_map, option_map_or}
use Rattle.std.specs.Bool.{Decides}
use Rattle.std.proofs.lemmas.Bool.{true≢false}
use Rattle.std.proofs.Math.Seq.{get_or-append_seam}
use Rattle.std.proofs.lemmas.List.{length-append, length-map, map-append, length-reverse, reverse-append, reverse-reverse}
use Rattle.std.proofs.lemmas.Slice.Eq.{bytes_eq-Decides}
use Rattle.wgsl_model_names.specs.Scopes.{InScope, Referent, declaration, outside, declares, may_refer_to, beside}
use Rattle.wgsl_resolve_names.specs.declared.scope.Link.{Link}
use Rattle.wgsl_resolve_names.specs.declared.scope.Referent.{Referent as Refers}
use Rattle.wgsl_resolve_names.specs.declared.scope.Referent.TheVariants.{Declaration}
use Rattle.wgsl_resolve_names.specs.Linked.{AreLinked, in_scope, link_view, beside_view, place_of, place_of_any, referent_view, referents_view, text_of}

-- ---- places
-- before one that declares a name
pub removed : (name x : List ℕ) (es : InScope) (place found before : Option ℕ) → place ≡ place_of name es
    → before ≡ cond (bytes_eq name x) (Some (length es)) (place_of x es)
    → found ≡ cond (bytes_eq name x) place before → found ≡ place_of x es
removed name x es place found before p b f = go (bytes_eq name x) refl b f where
  go : (same : Bool) → bytes_eq name x ≡ same → before ≡ cond same (Some (length es)) (place_of x es)
      → found ≡ cond same place before → found ≡ place_of x es
  go false e b f = f ∙ b
  go true e b f = f ∙ p ∙ ap (λ y. place_of y es) ((bytes_eq-Decides name x).0 e)

-- a name that is declared nowhere refers to what is outside
pub refers_outside : (each : Bool) (x : List ℕ) (es : InScope) → place_of x es ≡ None
    → may_refer_to each es x ≡ outside x ∷ []
refers_outside each x [] h = refl
refers_outside each x (e ∷ es) h = go (declares e.name x) (refers_outside false x es) h where
  go : (same : Bool) → (place_of x es ≡ None → may_refer_to false es x ≡ outside x ∷ [])
      → cond same (Some (length es)) (place_of x es) ≡ None
      → cond same (declaration e.number ∷ beside e.branch each (λ it. may_refer_to it es x)) (may_refer_to false es x)
      ≡ outside x ∷ []
  go true rest h = absurd (cc)
  go false rest h = rest h

-- where the last one declares another name, nothing was passed that declares this one
pub none_passed : (each : Bool) (x : List ℕ) (es : InScope) → option_map suc (place_of x es) ≢ Some (length es)
    → may_refer_to each es x ≡ may_refer_to false es x
none_passed each x [] h = refl
none_passed each x (e ∷ es) h = go (declares e.name x) h where
  go : (same : Bool) → option_map suc (cond same (Some (length es)) (place_of x es)) ≢ Some (suc (length es))
      → cond same (declaration e.number ∷ beside e.branch each (λ it. may_refer_to it es x)) (may_refer_to false es x)
      ≡ cond same (declaration e.number ∷ beside e.branch false (λ it. may_refer_to it es x)) (may_refer_to false es x)
  go true h = absurd (h refl)
  go false h = refl

pub place_within : (x : List ℕ) (es : InScope) (i : ℕ) → place_of x es ≡ Some i → i < length es
place_within x [] i h = absurd (cc)
place_within x (e ∷ es) i h = go (declares e.name x) (place_within x es i) h where
  go : (same : Bool) → (place_of x es ≡ Some i → i < length es)
      → cond same (Some (length es)) (place_of x es) ≡ Some i → i < suc (length es)
  go true rest h = let e : length es ≡ i = cc in omega (arith, e)
  go false rest h = let lt = rest h in omega (arith, lt)

-- the entry at a place, and those before it
pub record IsAt (x : List ℕ) (links : List Link) (i : ℕ) : Type 0 where
  pub inner : List Link
  pub outer : List Link
  pub link : Link
  pub parts : links ≡ inner ++ link ∷ outer
  pub place : length outer ≡ i
  pub name : text_of link.entry.name ≡ Some x
  pub linked : AreLinked (link ∷ outer)
  pub refers : may_refer_to false (in_scope links) x ≡ may_refer_to false (in_scope (link ∷ outer)) x

declares_name : (name : Option (List ℕ)) (x : List ℕ) → declares name x ≡ true → name ≡ Some x
declares_name None x h = absurd (cc)
declares_name (Some y) x h = ap Some ((bytes_eq-Decides y x).0 h)

length-in_scope : (links : List Link) → length (in_scope links) ≡ length links
length-in_scope links = length-map links link_view

pub entry_at : (x : List ℕ) (links : List Link) (place : ℕ) → AreLinked links → place_of x (in_scope links) ≡ Some place
    → IsAt x links place
entry_at x [] place linked h = absurd (cc)
entry_at x (link ∷ links) place linked h = go (declares (link_view link).name x) refl (entry_at x links place linked.1) h where
  go : (same : Bool) → declares (link_view link).name x ≡ same
      → (place_of x (in_scope links) ≡ Some place → IsAt x links place)
      → cond same (Some (length (in_scope links))) (place_of x (in_scope links)) ≡ Some place → IsAt x (link ∷ links) place
  go true e rest h = let here : length (in_scope links) ≡ place = cc in record {
    inner = [];
    outer = links;
    link = link;
    parts = refl;
    place = sym (length-in_scope links) ∙ here;
    name = declares_name (link_view link).name x e;
    linked = linked;
    refers = refl;
  }
  go false e rest h = let there = rest h in record {
    inner = link ∷ there.inner;
    outer = there.outer;
    link = there.link;
    parts = ap (λ l. link ∷ l) there.parts;
    place = there.place;
    name = there.name;
    linked = there.linked;
    refers = ap (λ same. cond same (declaration link.number ∷ beside (link_view link).branch false (λ it. may_refer_to it (in_scope links) x))
        (may_refer_to false (in_scope links) x)) e ∙ there.refers;
  }

-- ---- what a use refers to
-- what is left after some declarations that it refers to
pub record Left (links : List Link) (x : List ℕ) (found : List Referent) (next : Option ℕ) (each : Bool) : Type 0 where
  pub inner : List Link
  pub rest : List Link
  pub parts : links ≡ inner ++ rest
  pub linked : AreLinked rest
  pub next_is : next ≡ place_of x (in_scope rest)
  pub at_once : each ≡ true → option_map suc next ≡ Some (length rest)
  pub refers : found ++ may_refer_to each (in_scope rest) x ≡ may_refer_to false (in_scope links) x

pub all_left : (links : List Link) (x : List ℕ) → AreLinked links
    → Left links x [] (place_of x (in_scope links)) false
all_left links x linked = record {
  inner = [];
  rest = links;
  parts = refl;
  linked = linked;
  next_is = refl;
  at_once = λ e. absurd (cc);
  refers = refl;
}

-- nothing is left
pub refers_left : (links : List Link) (x : List ℕ) (found : List Referent) (each : Bool) → Left links x found None each
    → found ++ outside x ∷ [] ≡ may_refer_to false (in_scope links) x
refers_left links x found each left =
    ap (λ more. found ++ more) (sym (refers_outside each x (in_scope left.rest) (sym left.next_is))) ∙ left.refers

-- ---- the entry that is next
pub record Next (links : List Link) (x : List ℕ) (found : List Referent) (i : ℕ) (each : Bool) (link : Link) : Type 0 where
  pub inner : List Link
  pub outer : List Link
  pub parts : links ≡ inner ++ link ∷ outer
  pub size : length outer ≡ i
  pub linked : AreLinked outer
  pub previous : link.previous ≡ place_of x (in_scope outer)
  pub refers : found ++ (declaration link.number ∷ beside (link_view link).branch each (λ it. may_refer_to it (in_scope outer) x))
      ≡ may_refer_to false (in_scope links) x

refers_at : (link : Link) (outer : List Link) (x : List ℕ) (each : Bool) → text_of link.entry.name ≡ Some x
    → may_refer_to each (in_scope (link ∷ outer)) x
    ≡ declaration link.number ∷ beside (link_view link).branch each (λ it. may_refer_to it (in_scope outer) x)
refers_at link outer x each name = ap (λ same. cond same (declaration link.number
    ∷ beside (link_view link).branch each (λ it. may_refer_to it (in_scope outer) x)) (may_refer_to false (in_scope outer) x))
    (ap (λ it. declares it x) name ∙ (bytes_eq-Decides x x).1 refl)

-- where the next entry is the one just before, and otherwise
reached : (x : List ℕ) (rest : List Link) (i : ℕ) (each : Bool) (there : IsAt x rest i)
    → (each ≡ true → suc i ≡ length rest)
    → may_refer_to each (in_scope rest) x ≡ may_refer_to each (in_scope (there.link ∷ there.outer)) x
reached x rest i false there once = there.refers
reached x rest i true there once =
    let sizes : length rest ≡ length there.inner + suc (length there.outer) =
    ap length there.parts ∙ length-append there.inner (there.link ∷ there.outer) in
    let place = there.place in
    let now = once refl in
    let none : length there.inner ≡ 0 = omega (arith, sizes, place, now) in
    ap (λ l. may_refer_to true (in_scope l) x) (there.parts ∙ ap (λ l. l ++ there.link ∷ there.outer) (empty there.inner none))
  where
    empty : (l : List Link) → length l ≡ 0 → l ≡ []
    empty [] e = refl
    empty (link ∷ l) e = absurd (cc)

some_is : (i j : ℕ) → Some i ≡ Some j → i ≡ j
some_is i j e = cc

next_in : (links : List Link) (x : List ℕ) (found : List Referent) (i : ℕ) (each : Bool) → Left links x found (Some i) each
    → (link : Link) × Next links x found i each link
next_in links x found i each left =
    let there = entry_at x left.rest i left.linked (sym left.next_is) in
    let previous = there.linked.0 ∙ ap (λ it. place_of_any it (in_scope there.outer)) there.name in (
      there.link,
      record {
        inner = left.inner ++ there.inner;
        outer = there.outer;
        parts = left.parts ∙ ap (λ l. left.inner ++ l) there.parts
            ∙ sym (append_assoc left.inner there.inner (there.link ∷ there.outer));
        size = there.place;
        linked = there.linked.1;
        previous = previous;
        refers = ap (λ more. found ++ more) (sym (reached x left.rest i each there
            (λ e. some_is (suc i) (length left.rest) (left.at_once e)) ∙ refers_at there.link there.outer x each there.name))
            ∙ left.refers;
      },
    )

-- the item there
next_item : (items : List Link) (x : List ℕ) (found : List Referent) (i : ℕ) (each : Bool) (link : Link)
    → Next (reverse items) x found i each link → (i < length items) × ((d : Link) → get_or items i d ≡ link)
next_item items x found i each link next =
    let was : items ≡ reverse next.outer ++ link ∷ reverse next.inner = sym (reverse-reverse items)
    ∙ ap reverse next.parts ∙ reverse-append next.inner (link ∷ next.outer)
    ∙ ap (λ l. l ++ reverse next.inner) (reverse-append (link ∷ []) next.outer)
    ∙ append_assoc (reverse next.outer) (link ∷ []) (reverse next.inner) in
    let size : length (reverse next.outer) ≡ i = length-reverse next.outer ∙ next.size in
    let sizes : length items ≡ length (reverse next.outer) + suc (length (reverse next.inner)) =
    ap length was ∙ length-append (reverse next.outer) (link ∷ reverse next.inner) in (
      omega (arith, size, sizes),
      λ d. (λ k. get_or (was k) (sym size k) d)
          ∙ get_or-append_seam (reverse next.outer) link (reverse next.inner) d,
    )

pub within_links : (items : List Link) (x : List ℕ) (found : List Referent) (next : Option ℕ) (each : Bool) (i : ℕ)
    → Left (reverse items) x found next each → next ≡ Some i → i < length items
within_links items x found next each i left e =
    let there = next_in (reverse items) x found i each (subst (λ n. Left (reverse items) x found n each) e left) in
    (next_item items x found i each there.0 there.1).0

pub at_next : (items : List Link) (x : List ℕ) (found : List Referent) (next : Option ℕ) (each : Bool) (i : ℕ) (link : Link)
    → Left (reverse items) x found next each → next ≡ Some i → link ≡ get_or items i link
    → Next (reverse items) x found i each link
at_next items x found next each i link left e item =
    let there = next_in (reverse items) x found i each (subst (λ n. Left (reverse items) x found n each) e left) in
    subst (Next (reverse items) x found i each) (sym (item ∙ (next_item items x found i each there.0 there.1).1 link)) there.1

-- what was found with one more
pub viewed : (items more : List Refers) (number : ℕ) → more ≡ items ++ Declaration number ∷ []
    → referents_view more ≡ referents_view items ++ declaration number ∷ []
viewed items more number e = ap referents_view e ∙ map-append referent_view items (Declaration number ∷ [])

-- it refers to nothing else
pub none_left : (links : List Link) (x : List ℕ) (found : List Referent) (i : ℕ) (each : Bool) (link : Link)
    → Next links x found i each link → (some : Option Bool) → some ≡ None
    → ((others : Bool → List Referent) → beside_view some others ≡ beside (link_view link).branch each others)
    → found ++ declaration link.number ∷ [] ≡ may_refer_to false (in_scope links) x
none_left links x found i each link next some none beside_is = ap (λ more. found ++ declaration link.number ∷ more)
    (ap (λ o. beside_view o (λ it. may_refer_to it (in_scope next.outer) x)) (sym none)
    ∙ beside_is (λ it. may_refer_to it (in_scope next.outer) x)) ∙ next.refers

-- it refers to more
pub more_left : (links : List Link) (x : List ℕ) (found : List Referent) (i : ℕ) (each : Bool) (link : Link)
    → Next links x found i each link → (some : Option Bool) (all once now : Bool) → some ≡ Some all
    → ((others : Bool → List Referent) → beside_view some others ≡ beside (link_view link).branch each others)
    → Decides once (option_map suc link.previous ≡ Some i) → now ≡ (all && once)
    → Left links x (found ++ declaration link.number ∷ []) link.previous now
more_left links x found i each link next some all once now is beside_is decides now_is = record {
  inner = next.inner ++ link ∷ [];
  rest = next.outer;
  parts = next.parts ∙ sym (append_assoc next.inner (link ∷ []) next.outer);
  linked = next.linked;
  next_is = next.previous;
  at_once = λ e. decides.0 (second all once (sym now_is ∙ e)) ∙ ap Some (sym next.size);
  refers = append_assoc found (declaration link.number ∷ []) (may_refer_to now (in_scope next.outer) x)
      ∙ ap (λ more. found ++ declaration link.number ∷ more) (ap (λ b. may_refer_to b (in_scope next.outer) x) now_is
      ∙ same all once decides ∙ ap (λ o. beside_view o (λ it. may_refer_to it (in_scope next.outer) x)) (sym is)
      ∙ beside_is (λ it. may_refer_to it (in_scope next.outer) x)) ∙ next.refers;
} where
  second : (a b : Bool) → (a && b) ≡ true → b ≡ true
  second true b e = e
  second false b e = absurd (cc)

  same : (a b : Bool) → Decides b (option_map suc link.previous ≡ Some i)
      → may_refer_to (a && b) (in_scope next.outer) x ≡ may_refer_to a (in_scope next.outer) x
  same false b d = refl
  same true true d = refl
  same true false d = sym (none_passed true x (in_scope next.outer) (λ e. true≢false (sym (d.1 (ap (option_map suc) next.previous
      ∙ e ∙ ap Some (length-in_scope next.outer ∙ next.size))))))

-- the one before is before
pub nearer : (links : List Link) (x : List ℕ) (found : List Referent) (i : ℕ) (each : Bool) (link : Link)
    → Next links x found i each link → (next : Option ℕ) → next ≡ Some i
    → option_map_or suc link.previous 0 < option_map_or suc next 0
nearer links x found i each link next now e = subst (λ n. option_map_or suc link.previous 0 < option_map_or suc n 0) (sym e)
    (go link.previous (λ j f. place_within x (in_scope next.outer) j (sym next.previous ∙ f)))
  where
    go : (previous : Option ℕ) → ((j : ℕ) → previous ≡ Some j → j < length (in_scope next.outer))
        → option_map_or suc previous 0 < suc i
    go None h = omega arith
    go (Some j) h =
        let lt = h j refl in
        let size = length-in_scope next.outer ∙ next.size in
        omega (arith, lt, size)
