-- A resolver after what comes into scope, and after the start and the end of a scope.
use Rattle.std.proofs.Common.{◌≡◌, ◌∙◌, ℕ, suc, ◌+◌, ◌≤◌, Bool, true, false, cond, List, [], ◌∷◌, ◌++◌, length, take, Option, Some, None, refl, sym, ap, subst, arith}
use Rattle.std.specs.Prelude.{bytes_eq, is_some, not, flat_map, reverse}
use Rattle.std.specs.Borrow.{Bor}
use Rattle.std.specs.HashMap.{HashMap, UpdatesBy}
use Rattle.std.specs.Option.{option_map, option_flatten}
use Rattle.std.proofs.lemmas.List.{length-append, length-map, length-reverse, reverse-append, reverse-reverse}
use Rattle.std.proofs.lemmas.Map.Text.{hash_map_updates_str}
use Rattle.std.proofs.Math.Seq.{take-append_seam}
use Rattle.wgsl_lex_names.specs.View.{branch_view}
use Rattle.wgsl_lex_names.specs.declared.role.Branch.{Branch}
use Rattle.wgsl_lex_names.specs.declared.role.Name.{Name}
use Rattle.wgsl_model_names.specs.Scopes as scopes
use Rattle.wgsl_model_names.specs.Scopes.{Entry, InScope, Known, with_entry}
use Rattle.wgsl_model_places.specs.Places.{Resolving, after_occurrences, entry_occurs, reopened}
use Rattle.wgsl_model_places.specs.Roles as roles
use Rattle.wgsl_resolve_names.specs.declared.scope.Link.{Link}
use Rattle.wgsl_resolve_names.specs.declared.scope.Resolver.{Resolver}
use Rattle.wgsl_resolve_names.specs.Linked.{AreLinked, AreStarts, in_scope, last_of, link_view, place_of, place_of_any, text_of, uses_of}
use Rattle.wgsl_resolve_names.specs.Known.{IsRight, Knows, SetsLast}
use Rattle.wgsl_resolve_names.proofs.Links.{removed}

-- what was in scope where each open scope started is the same after one more
pub starts_kept : (link : Link) (links : List Link) (ns : List ℕ) (ss : List InScope) → AreStarts links ns ss
    → AreStarts (link ∷ links) ns ss
starts_kept link links [] [] h = h
starts_kept link links [] (s ∷ ss) h = h
starts_kept link links (n ∷ ns) [] h = h
starts_kept link links (n ∷ ns) (s ∷ ss) (inner, outer, parts, size, scope, rest) = (
  link ∷ inner,
  outer,
  ap (λ l. link ∷ l) parts,
  size,
  scope,
  rest,
)

pub pushed : {A : Type 0} (items more : List A) (item : A) → more ≡ items ++ item ∷ []
    → reverse more ≡ item ∷ reverse items
pushed items more item e = ap reverse e ∙ reverse-append items (item ∷ [])

more_by_one : {A : Type 0} (items more : List A) (item : A) → more ≡ items ++ item ∷ [] → length more ≡ suc (length items)
more_by_one items more item e = ap length e ∙ length-append items (item ∷ []) ∙ omega arith

length-in_scope : (links : List Link) → length (in_scope (reverse links)) ≡ length links
length-in_scope links = length-map (reverse links) link_view ∙ length-reverse links

flattened : (same : Bool) (place : Option ℕ) (before : Option (Option ℕ))
    → option_flatten (cond same (Some place) before) ≡ cond same place (option_flatten before)
flattened true place before = refl
flattened false place before = refl

-- what a map has for a name after an insertion
pub sets_last : (name : List ℕ) {S : Type 0} (before after : HashMap (Bor (List ℕ)) (Option ℕ) S) (place : Option ℕ)
    → UpdatesBy (λ x y. bytes_eq x.now y.now) (λ k. bytes_eq name k.now) before after (Some place) → (x : List ℕ)
    → last_of after.entries x ≡ cond (bytes_eq name x) place (last_of before.entries x)
sets_last name before after place h x = ap option_flatten (hash_map_updates_str name before after (Some place) h x)
    ∙ flattened (bytes_eq name x) place _

-- what occurs where a name is declared, and where none is
pub declaration_occurs : (branch : Option scopes.Branch) (name : roles.Name) (known : Resolving) (P : Resolving → Type 0)
    → P (with_entry branch (Some name.text) known.0, known.1) → P (after_occurrences (entry_occurs branch (Some name)) known)
declaration_occurs None name known P h = h
declaration_occurs (Some branch) name known P h = h

pub alternative_occurs : (branch : Option Branch) → {none : Bool} → is_some branch ≡ not none → none ≡ false
    → (known : Resolving) (P : Resolving → Type 0)
    → P (with_entry (option_map branch_view branch) None known.0, known.1)
    → P (after_occurrences (entry_occurs (option_map branch_view branch) None) known)
alternative_occurs None e f known P h = absurd (cc)
alternative_occurs (Some branch) e f known P h = h

-- one more that declares a name
pub enters : (before after : Resolver) (link : Link) (name : Name) → link.number ≡ length before.declarations.items
    → link.previous ≡ last_of before.last.entries name.text.now → link.entry.name ≡ Some name
    → SetsLast before name.text.now (Some (length before.links.items)) after
    → after.links.items ≡ before.links.items ++ link ∷ []
    → after.declarations.items ≡ before.declarations.items ++ name ∷ []
    → after.starts ≡ before.starts → after.names ≡ before.names → (known : Resolving) → Knows before known
    → Knows after (with_entry (option_map branch_view link.entry.branch) (Some name.text.now) known.0, known.1)
enters before after link name number previous named sets links declarations starts names known knows =
    let before_links = reverse before.links.items in
    let entry : Entry = record { branch = option_map branch_view link.entry.branch; name = Some name.text.now; number = link.number } in
    let now : reverse after.links.items ≡ link ∷ before_links = pushed before.links.items after.links.items link links in
    let text : text_of link.entry.name ≡ Some name.text.now = ap text_of named in
    let scope_now : in_scope (reverse after.links.items) ≡ record entry { name = Some name.text.now } ∷ in_scope before_links =
    ap in_scope now ∙ (λ i. record entry { name = text i } ∷ in_scope before_links) in
    record {
      in_scope = (λ i. record entry { number = (knows.declarations ∙ sym number) i } ∷ knows.in_scope i) ∙ sym scope_now;
      declarations = ap suc knows.declarations ∙ sym (more_by_one before.declarations.items after.declarations.items name
          declarations);
      referents = knows.referents ∙ ap (λ found. flat_map uses_of found.items) (sym names);
      right = record {
        last = λ x. sets x ∙ here x (bytes_eq name.text.now x) ∙ ap (place_of x) (sym scope_now);
        linked = subst AreLinked (sym now) (
          previous ∙ knows.right.last name.text.now
              ∙ ap (λ it. place_of_any it (in_scope before_links)) (sym text),
          knows.right.linked,
        );
      };
      starts = subst (λ l. AreStarts l (reverse after.starts.items) known.1) (sym now)
          (subst (λ ns. AreStarts (link ∷ before_links) (reverse ns.items) known.1) (sym starts)
          (starts_kept link before_links (reverse before.starts.items) known.1 knows.starts));
    }
  where
    here : (x : List ℕ) (same : Bool) → cond same (Some (length before.links.items)) (last_of before.last.entries x)
        ≡ cond same (Some (length (in_scope (reverse before.links.items)))) (place_of x (in_scope (reverse before.links.items)))
    here x true = ap Some (sym (length-in_scope before.links.items))
    here x false = knows.right.last x

-- one more that declares nothing
pub alternates : (before after : Resolver) (link : Link) → link.number ≡ length before.declarations.items
    → link.previous ≡ None → link.entry.name ≡ None → after.last ≡ before.last
    → after.links.items ≡ before.links.items ++ link ∷ [] → after.declarations ≡ before.declarations
    → after.starts ≡ before.starts → after.names ≡ before.names → (known : Resolving) → Knows before known
    → Knows after (with_entry (option_map branch_view link.entry.branch) None known.0, known.1)
alternates before after link number previous named last links declarations starts names known knows =
    let before_links = reverse before.links.items in
    let entry : Entry = record { branch = option_map branch_view link.entry.branch; name = None; number = link.number } in
    let now : reverse after.links.items ≡ link ∷ before_links = pushed before.links.items after.links.items link links in
    let text : text_of link.entry.name ≡ None = ap text_of named in
    let scope_now : in_scope (reverse after.links.items) ≡ entry ∷ in_scope before_links =
    ap in_scope now ∙ (λ i. record entry { name = text i } ∷ in_scope before_links) in
    record {
      in_scope = (λ i. record entry { number = (knows.declarations ∙ sym number) i } ∷ knows.in_scope i) ∙ sym scope_now;
      declarations = knows.declarations ∙ ap (λ it. length it.items) (sym declarations);
      referents = knows.referents ∙ ap (λ found. flat_map uses_of found.items) (sym names);
      right = record {
        last = λ x. ap (λ it. last_of it.entries x) last ∙ knows.right.last x ∙ ap (place_of x) (sym scope_now);
        linked = subst AreLinked (sym now)
            (previous ∙ ap (λ it. place_of_any it (in_scope before_links)) (sym text), knows.right.linked);
      };
      starts = subst (λ l. AreStarts l (reverse after.starts.items) known.1) (sym now)
          (subst (λ ns. AreStarts (link ∷ before_links) (reverse ns.items) known.1) (sym starts)
          (starts_kept link before_links (reverse before.starts.items) known.1 knows.starts));
    }

-- the last one that declares a name is gone
pub forgets : (before after : Resolver) (link : Link) (name : Name) → before.links.items ≡ after.links.items ++ link ∷ []
    → link.entry.name ≡ Some name → SetsLast before name.text.now link.previous after → IsRight before → IsRight after
forgets before after link name links named sets right =
    let left = reverse after.links.items in
    let was : reverse before.links.items ≡ link ∷ left = pushed after.links.items before.links.items link links in
    let text : text_of link.entry.name ≡ Some name.text.now = ap text_of named in
    let linked : AreLinked (link ∷ left) = subst AreLinked was right.linked in
    record {
      last = λ x. removed name.text.now x (in_scope left) link.previous (last_of after.last.entries x) (last_of before.last.entries x)
          (linked.0 ∙ ap (λ it. place_of_any it (in_scope left)) text)
          (right.last x ∙ ap (λ l. place_of x (in_scope l)) was
          ∙ (λ i. place_of x (record (link_view link) { name = text i } ∷ in_scope left))) (sets x);
      linked = linked.1;
    }

-- a scope ended
pub ends : (before after : Resolver) (n : ℕ) → before.starts.items ≡ after.starts.items ++ n ∷ [] → IsRight after
    → after.links.items ≡ take (length after.links.items) before.links.items → length after.links.items ≤ n
    → (n ≤ length before.links.items → n ≤ length after.links.items) → after.declarations ≡ before.declarations
    → after.names ≡ before.names → (known : Known) (scopes : List InScope) → Knows before (known, scopes)
    → Knows after (reopened known scopes)
ends before after n starts right links most least declarations names known scopes knows = go scopes
    (subst (λ ns. AreStarts (reverse before.links.items) ns scopes) (pushed after.starts.items before.starts.items n starts)
    knows.starts)
  where
    go : (scopes : List InScope) → AreStarts (reverse before.links.items) (n ∷ reverse after.starts.items) scopes
        → Knows after (reopened known scopes)
    go [] h = absurd h
    go (scope ∷ scopes) (inner, outer, parts, size, same, rest) =
        let was : before.links.items ≡ reverse outer ++ reverse inner =
        sym (reverse-reverse before.links.items) ∙ ap reverse parts ∙ reverse-append inner outer in
        let outer_size : length (reverse outer) ≡ n = length-reverse outer ∙ size in
        let within : length before.links.items ≡ length (reverse outer) + length (reverse inner) =
        ap length was ∙ length-append (reverse outer) (reverse inner) in
        let enough : n ≤ length after.links.items = least (omega (arith, within, outer_size)) in
        let exact : length after.links.items ≡ length (reverse outer) = omega (arith, enough, most, outer_size) in
        let left : after.links.items ≡ reverse outer = links
        ∙ (λ i. take (exact i) (was i)) ∙ take-append_seam (reverse outer) (reverse inner) in
        let now : reverse after.links.items ≡ outer = ap reverse left ∙ reverse-reverse outer in
        record {
          in_scope = sym same ∙ ap in_scope (sym now);
          declarations = knows.declarations ∙ ap (λ it. length it.items) (sym declarations);
          referents = knows.referents ∙ ap (λ found. flat_map uses_of found.items) (sym names);
          right = right;
          starts = subst (λ l. AreStarts l (reverse after.starts.items) scopes) (sym now) rest;
        }
