-- What arguments ask for, by what `clap` makes of them.
use Rattle.std.proofs.Common.{◌≡◌, ◌∙◌, ap, inl, inr, refl, subst, sym, ℕ, true, List, [], ◌∷◌, Option, Some, option_map, Result, Err, codes, flat_map}
use Rattle.std.specs.List.{slice_split}
use Rattle.std.specs.Option.{option_copied, unwrap_or}
use Rattle.clap.specs.Words.{App, HasKind, Row, Kinds, IsAmong, kind_of, all_of, fault_of, first_of, is_simple, is_simple_and_free, matches_of}
use Rattle.clap.specs.declared.error.Error.{Error}
use Rattle.clap.specs.declared.error.kind.ErrorKind.{ErrorKind}
use Rattle.wgsl_minify_names.specs.View.{texts, which_view}
use Rattle.wgsl_minify_files.specs.Options.{Options, Target, command, asked, asked_by, asked_with, with_own_map, is_comma, output_of, path_of, target_of, which_of}
use Rattle.wgsl_minify_files.specs.View.{Gives, options_view, target_view}
use Rattle.wgsl_minify_files.specs.declared.options.Options as declared

-- the words mean what `clap`'s definitions say
pub is_plain : is_simple command ≡ true
is_plain = refl

pub is_free : is_simple_and_free command ≡ true
is_free = refl

-- what an error says of what is meant
pub asked_wrong : (words : List (List ℕ)) (kind : ErrorKind) → IsAmong kind (fault_of command words)
    → (kinds : Kinds) × (asked words ≡ Err kinds) × IsAmong kind kinds
unfolding asked
asked_wrong words kind among = go (fault_of command words) among
  where
    go : (found : Kinds) → IsAmong kind found
        → (kinds : Kinds) × (asked_by found (matches_of command words) ≡ Err kinds) × IsAmong kind kinds
    go [] among = absurd among
    go (first ∷ rest) among = (first ∷ rest, refl, among)

-- an error of a parse
pub gives_error : (words : List (List ℕ)) (app : App) (e : Error) → app ≡ command
    → (is_simple_and_free app ≡ true → HasKind (fault_of app words) e) → Gives (asked words) (Err e)
gives_error words app e is has =
    go (subst (λ (a : App). HasKind (fault_of a words) e) is (has (ap is_simple_and_free is ∙ is_free)))
  where
    go : HasKind (fault_of command words) e → Gives (asked words) (Err e)
    go (inl memory) = inl memory
    go (inr among) = inr (asked_wrong words (kind_of e) among)

module _ (words : List (List ℕ)) (rows : List Row) (none : fault_of command words ≡ [])
    (are : rows ≡ matches_of command words) where
  -- what is asked for where nothing is wrong
  pub asked_rows : asked words ≡ asked_with (which_of (first_of (codes "names") rows)) rows
  unfolding asked
  asked_rows = ap (λ found. asked_by found (matches_of command words)) none
      ∙ ap (λ rs. asked_with (which_of (first_of (codes "names") rs)) rs) (sym are)

  pub asked_options : (options : declared.Options)
      → which_of (first_of (codes "names") rows) ≡ Some (which_view options.names)
      → option_copied options.input ≡ path_of (first_of (codes "FILE") rows)
      → target_view options.output ≡ output_of (first_of (codes "output") rows)
      → option_map target_view options.map ≡ option_map target_of (first_of (codes "map") rows)
      → texts options.keep.items ≡ flat_map (slice_split is_comma) (unwrap_or (all_of (codes "keep") rows) [])
      → asked words ≡ with_own_map (options_view options)
  asked_options options names input output map keep =
      let made : Option (List ℕ) → Target → Option Target → List (List ℕ) → Result Options Kinds =
      λ i o m k. with_own_map (record {
        input = i;
        output = o;
        map = m;
        which = which_view options.names;
        keep = k;
      }) in
      let file = path_of (first_of (codes "FILE") rows) in
      let text = output_of (first_of (codes "output") rows) in
      let new_names = option_map target_of (first_of (codes "map") rows) in
      asked_rows ∙ ap (λ which. asked_with which rows) names
      ∙ sym (ap (λ i. made i (target_view options.output) (option_map target_view options.map) (texts options.keep.items)) input
      ∙ ap (λ o. made file o (option_map target_view options.map) (texts options.keep.items)) output
      ∙ ap (λ m. made file text m (texts options.keep.items)) map
      ∙ ap (made file text new_names) keep)
