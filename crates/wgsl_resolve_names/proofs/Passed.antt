-- What is known after the events so far.
use Rattle.std.proofs.Common.{◌≡◌, ◌∙◌, ℕ, ◌+◌, ◌<◌, List, [], ◌∷◌, ◌++◌, length, map, get_or, take, refl, sym, ap}
use Rattle.std.specs.Prelude.{flat_map}
use Rattle.std.proofs.lemmas.Grind.{flat_map-append, take_at_read}
use Rattle.std.proofs.lemmas.List.{append_assoc, append-nil, map-append}
use Rattle.wgsl_model_minify.specs.Occurrences.{Occurrence}
use Rattle.wgsl_model_places.specs.Roles as roles
use Rattle.wgsl_model_places.specs.Places.{Resolving, after_occurrence, after_occurrences}
use Rattle.wgsl_lex_names.specs.View.{event_view}
use Rattle.wgsl_lex_names.specs.declared.role.Event.{Event}

pub after-append : (xs ys : List Occurrence) (known : Resolving)
    → after_occurrences (xs ++ ys) known ≡ after_occurrences ys (after_occurrences xs known)
after-append [] ys known = refl
after-append (x ∷ xs) ys known = after-append xs ys (after_occurrence x known)

-- what a function of events has of those so far, with one more
pub one_more : {A : Type 0} (f : roles.Event → List A) (events : List Event) (i : ℕ) (d : Event) → i < length events
    → flat_map f (map event_view (take (i + 1) events))
    ≡ flat_map f (map event_view (take i events)) ++ f (event_view (get_or events i d))
one_more f events i d lt =
    let event = get_or events i d in
    ap (λ l. flat_map f (map event_view l)) (take_at_read events i d lt).1
    ∙ ap (flat_map f) (map-append event_view (take i events) (event ∷ []))
    ∙ flat_map-append f (map event_view (take i events)) (event_view event ∷ [])
    ∙ ap (λ l. flat_map f (map event_view (take i events)) ++ l) (append-nil (f (event_view event)))

pub passed : (f : roles.Event → List Occurrence) (events : List Event) (i : ℕ) (d : Event) → i < length events
    → (known : Resolving)
    → after_occurrences (f (event_view (get_or events i d))) (after_occurrences (flat_map f (map event_view (take i events))) known)
    ≡ after_occurrences (flat_map f (map event_view (take (i + 1) events))) known
passed f events i d lt known = sym (ap (λ os. after_occurrences os known) (one_more f events i d lt)
    ∙ after-append (flat_map f (map event_view (take i events))) (f (event_view (get_or events i d))) known)

-- what was gathered of the events so far, with one more
pub gathered : {A : Type 0} (f : roles.Event → List A) (events : List Event) (i : ℕ) (d : Event) → i < length events
    → (first before after : List A) → after ≡ before ++ f (event_view (get_or events i d))
    → before ≡ first ++ flat_map f (map event_view (take i events))
    → after ≡ first ++ flat_map f (map event_view (take (i + 1) events))
gathered f events i d lt first before after now known =
    let more = f (event_view (get_or events i d)) in
    now ∙ ap (λ l. l ++ more) known ∙ append_assoc first (flat_map f (map event_view (take i events))) more
    ∙ ap (λ l. first ++ l) (sym (one_more f events i d lt))
