-- Runs over inputs: how they go on.
use Rattle.std.proofs.Common.{◌≡◌, refl, sym, ap, subst, ◌∙◌, ℕ, ◌+◌, ◌<◌, ◌≤◌, max, Bool, true, false, List, [], ◌∷◌, ◌++◌, length, take, get_or, map, flat_map, Option, arith}
use Rattle.std.proofs.lemmas.Grind.{flat_map-append}
use Rattle.std.proofs.lemmas.List.{append-nil, length-append, map-append, take_more}
use Rattle.wgsl_format_options.specs.Options.{Source}
use Rattle.wgsl_format_options.specs.declared.options.Mode.{Mode}
use Rattle.wgsl_files.specs.declared.status.Status.{Status}
use Rattle.wgsl_files.specs.Files.{Files}
use Rattle.wgsl_files.specs.Statuses.{code_of}
use Rattle.wgsl_format_files.specs.declared.event.Event.{Event}
use Rattle.wgsl_format_files.specs.declared.run.Tally.{Tally}
use Rattle.wgsl_format_files.specs.Events.{status_of, shown_by, told_of, is_changed, is_failed, one_if}
use Rattle.wgsl_format_files.specs.declared.inputs.Input.{Input}
use Rattle.wgsl_format_files.specs.Inputs.{input_view, name_in}
use Rattle.wgsl_format_files.specs.Runs.{State, Came, ComesOf, ComesOfAll, WroteMore, IsStatus, Runs, highest, count_of, shown_all, told_all, summary}
use Rattle.wgsl_program.specs.Written.{Wrote}
use Rattle.wgsl_program.proofs.Written.{wrote_then, wrote_no_more, wrote_where}

-- more is written after a text
pub wrote_more : (whole more : Bool) (first second : List ℕ) (a b c : Option (List ℕ))
    → Wrote whole first a b → WroteMore whole more second b c → Wrote more (first ++ second) a c
wrote_more true more first second a b c one two = wrote_then true more a b c first second one refl two
wrote_more false more first second a b c one two =
    subst (λ known. Wrote more (first ++ second) a known) (sym two.1)
    (subst (λ whole. Wrote whole (first ++ second) a b) (sym two.0) (wrote_no_more false a b first second one refl))

-- whether more was written, it is no more than what was so far
pub more_whole : (whole more : Bool) (text : List ℕ) (old new : Option (List ℕ))
    → WroteMore whole more text old new → more ≡ true → whole ≡ true
more_whole true more text old new wrote went = refl
more_whole false more text old new wrote went = sym wrote.0 ∙ went

-- one more event
highest_more : (came : List Came) (one : Came)
    → highest (came ++ one ∷ []) ≡ max (highest came) (code_of (status_of one.event))
highest_more [] one = omega arith
highest_more (first ∷ rest) one = omega (arith, highest_more rest one)

count_more : (p : Event → Bool) (came : List Came) (one : Came)
    → count_of p (came ++ one ∷ []) ≡ count_of p came + one_if (p one.event)
count_more p [] one = omega arith
count_more p (first ∷ rest) one = omega (arith, count_more p rest one)

one_within : (b : Bool) → one_if b ≤ 1
one_within true = omega arith
one_within false = omega arith

-- the inputs so far, and the next one
pub inputs_more : (inputs : List Input) (i : ℕ) (input : Input) → i < length inputs → get_or inputs i input ≡ input
    → map input_view (take i inputs) ++ input_view input ∷ [] ≡ map input_view (take (i + 1) inputs)
inputs_more inputs i input within is =
    sym (ap (map input_view) (take_more inputs i input within ∙ ap (λ x. take i inputs ++ x ∷ []) is)
    ∙ map-append input_view (take i inputs) (input ∷ []))

-- what was written of some events, and then of one more
all_more : (f : Came → List ℕ) (whole more : Bool) (came : List Came) (one : Came) (a b c : Option (List ℕ))
    → Wrote whole (flat_map f came) a b → WroteMore whole more (f one) b c
    → Wrote more (flat_map f (came ++ one ∷ [])) a c
all_more f whole more came one a b c wrote written =
    let text : flat_map f came ++ f one ≡ flat_map f (came ++ one ∷ []) =
    ap (λ bs. flat_map f came ++ bs) (sym (append-nil (f one))) ∙ sym (flat_map-append f came (one ∷ [])) in
    subst (λ bs. Wrote more bs a c) text
    (wrote_more whole more (flat_map f came) (f one) a b c wrote written)

module _ (becomes : Files → Source → List ℕ → List ℕ → Type 0) (refuses : List ℕ → Status → List ℕ → Type 0)
    (mode : Mode) (quiet : Bool) (stdin_name : List ℕ) where
  -- what came of some inputs, and then of one more
  comes_more : (inputs : List Source) (source : Source) (a b c : State) (came : List Came) (event : Event)
      → ComesOfAll becomes refuses mode stdin_name a b inputs came
      → ComesOf becomes refuses mode stdin_name b c source event
      → ComesOfAll becomes refuses mode stdin_name a c (inputs ++ source ∷ [])
      (came ++ record { name = name_in stdin_name source; event = event } ∷ [])
  comes_more [] source a b c came event (none, same) one = (
    c,
    event,
    [],
    ap (λ cs. cs ++ record { name = name_in stdin_name source; event = event } ∷ []) none,
    subst (λ s. ComesOf becomes refuses mode stdin_name s c source event) same one,
    (refl, refl),
  )
  comes_more (input ∷ inputs) source a b c came event (between, first, rest, are, here, others) one = (
    between,
    first,
    rest ++ record { name = name_in stdin_name source; event = event } ∷ [],
    ap (λ cs. cs ++ record { name = name_in stdin_name source; event = event } ∷ []) are,
    here,
    comes_more inputs source between b c rest event others one,
  )

  -- what holds of a run so far, over a number of inputs
  pub record IsRunSoFar (inputs : List Source) (count : ℕ) (old now : State)
      (output written errors told : Option (List ℕ)) (tally : Tally) : Type 0 where
    pub came : List Came
    pub each : ComesOfAll becomes refuses mode stdin_name old now inputs came
    pub count_is : length came ≡ count
    pub changed : tally.changed ≡ count_of is_changed came
    pub failed : tally.failed ≡ count_of is_failed came
    pub status : code_of tally.status ≡ highest came
    pub changed_within : tally.changed ≤ count
    pub failed_within : tally.failed ≤ count
    pub shown : Wrote tally.whole (shown_all came) output written
    pub messages : Wrote tally.whole (told_all came) errors told

  module _ (inputs : List Source) (count : ℕ) (old now : State)
      (output written errors told : Option (List ℕ)) (tally : Tally)
      (so_far : IsRunSoFar inputs count old now output written errors told tally) where
    -- after one more input
    pub run_more : (source : Source) (event : Event) (name : List ℕ) (whole : Bool) (next : State)
        (written_next told_next : Option (List ℕ)) (after : Tally)
        → ComesOf becomes refuses mode stdin_name now next source event
        → name ≡ name_in stdin_name source → after.whole ≡ whole
        → WroteMore tally.whole whole (shown_by event) written written_next
        → WroteMore tally.whole whole (told_of name event) told told_next
        → after.changed ≡ tally.changed + one_if (is_changed event)
        → after.failed ≡ tally.failed + one_if (is_failed event)
        → code_of after.status ≡ max (code_of tally.status) (code_of (status_of event))
        → IsRunSoFar (inputs ++ source ∷ []) (count + 1) old next output written_next errors told_next after
    run_more source event name whole next written_next told_next after comes named all shown message
        changed failed status =
        let one : Came = record { name = name_in stdin_name source; event = event } in
        record {
          came = so_far.came ++ one ∷ [];
          each = comes_more inputs source old now next so_far.came event so_far.each comes;
          count_is = omega (arith, length-append so_far.came (one ∷ []), so_far.count_is);
          changed = omega (arith, changed, so_far.changed, count_more is_changed so_far.came one);
          failed = omega (arith, failed, so_far.failed, count_more is_failed so_far.came one);
          status = omega (arith, status, so_far.status, highest_more so_far.came one);
          changed_within = omega (arith, changed, so_far.changed_within, one_within (is_changed event));
          failed_within = omega (arith, failed, so_far.failed_within, one_within (is_failed event));
          shown = all_more (λ (c : Came). shown_by c.event) tally.whole after.whole so_far.came one
              output written written_next so_far.shown
              (subst (λ w. WroteMore tally.whole w (shown_by event) written written_next) (sym all) shown);
          messages = all_more (λ (c : Came). told_of c.name c.event) tally.whole after.whole
              so_far.came one errors told told_next so_far.messages
              (subst (λ w. WroteMore tally.whole w (told_of (name_in stdin_name source) event) told told_next) (sym all)
              (subst (λ n. WroteMore tally.whole whole (told_of n event) told told_next) named message));
        }

    -- after the last one
    pub run_ends : (whole : Bool) (told_next : Option (List ℕ)) (status : ℕ)
        → WroteMore tally.whole whole (summary mode quiet count tally.changed tally.failed) told told_next
        → IsStatus whole (code_of tally.status) status
        → Runs becomes refuses mode quiet stdin_name inputs old now output written errors told_next status
    run_ends whole told_next status wrote ended = record {
      came = so_far.came;
      each = so_far.each;
      whole = whole;
      shown = wrote_where tally.whole whole _ output written
          (more_whole tally.whole whole _ told told_next wrote) so_far.shown;
      messages =
          let counts : summary mode quiet count tally.changed tally.failed ≡ summary mode quiet
          (length so_far.came) (count_of is_changed so_far.came) (count_of is_failed so_far.came) =
          ap (λ n. summary mode quiet n tally.changed tally.failed) (sym so_far.count_is)
          ∙ ap (λ n. summary mode quiet (length so_far.came) n tally.failed) so_far.changed
          ∙ ap (λ n. summary mode quiet (length so_far.came) (count_of is_changed so_far.came) n) so_far.failed in
          subst (λ bs. Wrote whole (told_all so_far.came ++ bs) errors told_next) counts
          (wrote_more tally.whole whole _ _ errors told told_next so_far.messages wrote);
      ended = subst (λ n. IsStatus whole n status) so_far.status ended;
    }
