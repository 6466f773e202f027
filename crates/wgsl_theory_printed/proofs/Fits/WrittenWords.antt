-- The words that are written out in printed modules are names: keywords, names of attributes and of
-- values.
use Rattle.std.proofs.Common.{◌≡◌, ℕ, Bool, true, false, cond, ◌&&◌, List, [], ◌∷◌, Some, bytes_eq, refl, sym, ap, subst, ◌∙◌}
use Rattle.std.specs.Prelude.{codes}
use Rattle.std.proofs.lemmas.Bool.{and_parts, true≢false}
use Rattle.std.proofs.lemmas.Slice.Eq.{bytes_eq-Decides}
use Rattle.wgsl_model.specs.Tokens.ClassTable.{SymUnderscore, keywords}
use Rattle.wgsl_model.specs.Tokens.Kind.{plain}
use Rattle.wgsl_model.specs.Tokens.Words.{look_up}
use Rattle.wgsl_model.specs.Tokens.Raw.{kind_of_word, keyword_or_name}
use Rattle.wgsl_model.specs.Trees.NamedValues.{BuiltinValue, vertex_index, builtin_value_text, DiagnosticSeverity, error, severity_text, AccessMode, read, access_mode_text, AddressSpace, function, address_space_text, InterpolationType, perspective, interpolation_type_text, InterpolationSampling, center, interpolation_sampling_text}
use Rattle.wgsl_model.specs.Trees.Attributes.{OneArgument, align, one_argument_text, NoArgument, const_attribute, no_argument_text}
use Rattle.wgsl_theory_printed.proofs.Spelling.Pieces.{FitsBefore}
use Rattle.wgsl_theory_printed.proofs.Spelling.Ends.{EndsName, IsNameText}
use Rattle.wgsl_theory_printed.proofs.Fits.FittingWords.{is_ascii_word, name_fits, word_name}

-- ---- names of values

pub builtin_value_name : (v : BuiltinValue) → IsNameText (builtin_value_text v)
builtin_value_name vertex_index = word_name _ refl
builtin_value_name _ = word_name _ refl

pub severity_name : (v : DiagnosticSeverity) → IsNameText (severity_text v)
severity_name error = word_name _ refl
severity_name _ = word_name _ refl

pub access_mode_name : (v : AccessMode) → IsNameText (access_mode_text v)
access_mode_name read = word_name _ refl
access_mode_name _ = word_name _ refl

pub address_space_name : (v : AddressSpace) → IsNameText (address_space_text v)
address_space_name function = word_name _ refl
address_space_name _ = word_name _ refl

pub interpolation_type_name : (v : InterpolationType) → IsNameText (interpolation_type_text v)
interpolation_type_name perspective = word_name _ refl
interpolation_type_name _ = word_name _ refl

pub interpolation_sampling_name : (v : InterpolationSampling) → IsNameText (interpolation_sampling_text v)
interpolation_sampling_name center = word_name _ refl
interpolation_sampling_name _ = word_name _ refl

-- ---- names of attributes

pub one_argument_name : (name : OneArgument) → IsNameText (one_argument_text name)
one_argument_name align = word_name _ refl
one_argument_name _ = word_name _ refl

pub no_argument_name : (name : NoArgument) → IsNameText (no_argument_text name)
no_argument_name const_attribute = word_name _ refl
no_argument_name _ = word_name _ refl

pub builtin_name : IsNameText (codes "builtin")
builtin_name = word_name (codes "builtin") refl

pub diagnostic_name : IsNameText (codes "diagnostic")
diagnostic_name = word_name (codes "diagnostic") refl

pub interpolate_name : IsNameText (codes "interpolate")
interpolate_name = word_name (codes "interpolate") refl

pub workgroup_size_name : IsNameText (codes "workgroup_size")
workgroup_size_name = word_name (codes "workgroup_size") refl

pub type_name : IsNameText (codes "type")
type_name = word_name (codes "type") refl

-- ---- keywords

-- each word of a table is a name by its letters
abbrev are_words : List (List ℕ × ℕ) → Bool
are_words [] = true
are_words (e ∷ es) = is_ascii_word e.0 && are_words es

looked_up_word : (es : List (List ℕ × ℕ)) (w : List ℕ) (c : ℕ) → are_words es ≡ true
    → look_up es w ≡ Some c → is_ascii_word w ≡ true
looked_up_word [] w c s h = absurd (cc)
looked_up_word (e ∷ es) w c s h = go (looked_up_word es w c parts.1) (bytes_eq e.0 w) refl h
  where
    parts : (is_ascii_word e.0 ≡ true) × (are_words es ≡ true)
    parts = and_parts (is_ascii_word e.0) (are_words es) s

    go : (look_up es w ≡ Some c → is_ascii_word w ≡ true) → (b : Bool) → bytes_eq e.0 w ≡ b
        → cond b (Some e.1) (look_up es w) ≡ Some c → is_ascii_word w ≡ true
    go more true q k = subst (λ x. is_ascii_word x ≡ true) ((bytes_eq-Decides e.0 w).0 q) parts.0
    go more false q k = more k

-- the token of a keyword has its class
keyword_kind : (w : List ℕ) (c : ℕ) → is_ascii_word w ≡ true → look_up keywords w ≡ Some c → kind_of_word w ≡ plain c
keyword_kind w c n h = go (bytes_eq w (codes "_")) refl
  where
    go : (b : Bool) → bytes_eq w (codes "_") ≡ b
        → cond b (plain SymUnderscore) (keyword_or_name (look_up keywords w) w) ≡ plain c
    go true q = absurd (true≢false (sym n ∙ ap is_ascii_word ((bytes_eq-Decides w (codes "_")).0 q)))
    go false q = ap (λ o. keyword_or_name o w) h

-- a keyword fits before what no name goes on with
pub keyword_fits : {w : List ℕ} {c : ℕ} (rest : List ℕ) → look_up keywords w ≡ Some c
    → EndsName rest → FitsBefore w (plain c) rest
keyword_fits {w} {c} rest h e =
    let n = looked_up_word keywords w c refl h in
    subst (λ k. FitsBefore w k rest) (keyword_kind w c n h) (name_fits w rest (word_name w n) e)
