-- What arguments ask for, by what `clap` makes of them.
use Rattle.std.proofs.Common.{◌≡◌, ◌∙◌, ap, inl, inr, refl, subst, sym, ℕ, Bool, true, List, [], ◌∷◌, Option, None, Some, Result, Ok, Err, Bor, codes, map}
use Rattle.std.specs.Option.{option_copied, option_map, unwrap_or}
use Rattle.clap.specs.Walk.{texts}
use Rattle.clap.specs.Words.{App, HasKind, Row, Kinds, IsAmong, kind_of, all_of, fault_of, first_of, is_simple, is_simple_and_free, matches_of}
use Rattle.clap.specs.declared.error.Error.{Error}
use Rattle.clap.specs.declared.error.kind.ErrorKind.{ErrorKind}
use Rattle.wgsl_choices.specs.declared.Choices.{Choices}
use Rattle.wgsl_format_options.specs.Chosen.{choices_of}
use Rattle.wgsl_format_options.specs.Command.{command}
use Rattle.wgsl_format_options.specs.Options.{Options, Source, asked, asked_by, asked_with, chosen_by, is_given, mode_of, source_of}
use Rattle.wgsl_format_options.specs.View.{Gives, options_view, source_view}
use Rattle.wgsl_format_options.specs.declared.options.Mode.{Mode}
use Rattle.wgsl_format_options.specs.declared.options.Options as declared

-- the words mean what `clap`'s definitions say
pub is_plain : is_simple command ≡ true
is_plain = refl

pub is_free : is_simple_and_free command ≡ true
is_free = refl

-- what an error says of what is meant
asked_wrong : (words : List (List ℕ)) (kind : ErrorKind) → IsAmong kind (fault_of command words)
    → (kinds : Kinds) × (asked words ≡ Err kinds) × IsAmong kind kinds
unfolding asked
asked_wrong words kind among = go (fault_of command words) among
  where
    go : (found : Kinds) → IsAmong kind found
        → (kinds : Kinds) × (asked_by found (matches_of command words) ≡ Err kinds) × IsAmong kind kinds
    go [] among = absurd among
    go (first ∷ rest) among = (first ∷ rest, refl, among)

-- an error of a parse
pub gives_error : (words : List (List ℕ)) (app : App) (e : Error) → app ≡ command
    → (is_simple_and_free app ≡ true → HasKind (fault_of app words) e) → Gives (asked words) (Err e)
gives_error words app e is has =
    go (subst (λ (a : App). HasKind (fault_of a words) e) is (has (ap is_simple_and_free is ∙ is_free)))
  where
    go : HasKind (fault_of command words) e → Gives (asked words) (Err e)
    go (inl memory) = inl memory
    go (inr among) = inr (asked_wrong words (kind_of e) among)

-- the texts of an argument that may have no entry
pub texts_or_none : (found : Option (Bor (List (Bor (List ℕ))))) (none : Bor (List (Bor (List ℕ)))) → none.now ≡ []
    → texts (unwrap_or found none).now ≡ unwrap_or (option_map (λ list. texts list.now) found) []
texts_or_none None none is = ap texts is
texts_or_none (Some list) none is = refl

module _ (rows : List Row) where
  -- what is chosen by the values of the rows
  pub chosen_rows : (chosen : Option Choices) (width indent newlines : Option (List ℕ))
      → chosen ≡ choices_of width indent newlines → width ≡ first_of (codes "width") rows
      → indent ≡ first_of (codes "indent") rows → newlines ≡ first_of (codes "newlines") rows
      → chosen ≡ chosen_by rows
  chosen_rows chosen width indent newlines is width_is indent_is newlines_is =
      is ∙ ap (λ it. choices_of it indent newlines) width_is
      ∙ ap (λ it. choices_of (first_of (codes "width") rows) it newlines) indent_is
      ∙ ap (choices_of (first_of (codes "width") rows) (first_of (codes "indent") rows)) newlines_is

  -- how files are formatted, by the values of the rows
  pub mode_rows : (mode : Mode) (check diff : Bool) (check_value diff_value : Option (List ℕ))
      → mode ≡ mode_of check diff
      → check ≡ is_given check_value → diff ≡ is_given diff_value
      → check_value ≡ first_of (codes "check") rows → diff_value ≡ first_of (codes "diff") rows
      → mode ≡ mode_of (is_given (first_of (codes "check") rows)) (is_given (first_of (codes "diff") rows))
  mode_rows mode check diff check_value diff_value is check_is diff_is checked differs =
      is ∙ ap (λ it. mode_of it diff) (check_is ∙ ap is_given checked)
      ∙ ap (mode_of (is_given (first_of (codes "check") rows))) (diff_is ∙ ap is_given differs)

module _ (words : List (List ℕ)) (rows : List Row) (none : fault_of command words ≡ [])
    (are : rows ≡ matches_of command words) where
  -- what is asked for where nothing is wrong
  pub asked_rows : asked words ≡ asked_with (chosen_by rows) rows
  unfolding asked
  asked_rows = ap (λ found. asked_by found (matches_of command words)) none
      ∙ ap (λ rs. asked_with (chosen_by rs) rs) (sym are)

  pub asked_options : (options : declared.Options) → chosen_by rows ≡ Some options.choices
      → options.mode ≡ mode_of (is_given (first_of (codes "check") rows)) (is_given (first_of (codes "diff") rows))
      → options.quiet ≡ is_given (first_of (codes "quiet") rows)
      → option_copied options.stdin_path ≡ first_of (codes "stdin-path") rows
      → map source_view options.sources.items ≡ map source_of (unwrap_or (all_of (codes "PATH") rows) [])
      → asked words ≡ Ok (options_view options)
  asked_options options chosen mode quiet name sources =
      let made : Mode → Bool → Option (List ℕ) → List Source → Result Options Kinds =
      λ m q n s. Ok (record { mode = m; quiet = q; stdin_path = n; choices = options.choices; sources = s }) in
      let checked = mode_of (is_given (first_of (codes "check") rows)) (is_given (first_of (codes "diff") rows)) in
      let silent = is_given (first_of (codes "quiet") rows) in
      asked_rows ∙ ap (λ it. asked_with it rows) chosen
      ∙ sym (ap (λ m. made m options.quiet (option_copied options.stdin_path)
      (map source_view options.sources.items)) mode
      ∙ ap (λ q. made checked q (option_copied options.stdin_path) (map source_view options.sources.items)) quiet
      ∙ ap (λ n. made checked silent n (map source_view options.sources.items)) name
      ∙ ap (made checked silent (first_of (codes "stdin-path") rows)) sources)
