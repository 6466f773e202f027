-- The values that words name.
use Rattle.std.proofs.Common.{◌≡◌, ℕ, Bool, true, false, List, [], ◌∷◌, map, Option, Some, None, option_map, Result, Ok, Err, MatchResult, refl, sym, ap, ◌∙◌}
use Rattle.std.specs.Result.{result_ok}
use Rattle.std.specs.Option.{option_and_then}
use Rattle.std.specs.Bool.{if◌then◌else◌}
use Rattle.std.specs.Str.{bytes_eq}
use Rattle.std.proofs.lemmas.Slice.Eq.{bytes_eq-Decides}
use Rattle.wgsl_model.specs.Tokens.Words.{look_up}
use Rattle.wgsl_model.specs.Trees.Expressions.{ExpressionNode}
use Rattle.wgsl_model.specs.Trees.Attributes.{Attribute, custom}
use Rattle.wgsl_model.specs.Grammar.Checks.{Checked, right, untemplated_name, untemplated_word, Arguments, attribute_names, named_attribute}
use Rattle.wgsl_model.specs.Trees.NamedValues as plain
use Rattle.wgsl_model.specs.Trees.NamedValues.{WordTable, error, severities, read, access_modes, function, address_spaces, perspective, interpolation_types, center, interpolation_samplings, vertex_index, builtin_values, severity_text, access_mode_text, address_space_text, interpolation_type_text, interpolation_sampling_text, builtin_value_text}
use Rattle.wgsl_tree_words.specs.declared.words_nodes.DiagnosticSeverity.{DiagnosticSeverity}
use Rattle.wgsl_tree_words.specs.declared.words_nodes.AccessMode.{AccessMode}
use Rattle.wgsl_tree_words.specs.declared.words_nodes.AddressSpace.{AddressSpace}
use Rattle.wgsl_tree_words.specs.declared.words_nodes.InterpolationType.{InterpolationType}
use Rattle.wgsl_tree_words.specs.declared.words_nodes.InterpolationSampling.{InterpolationSampling}
use Rattle.wgsl_tree_words.specs.declared.words_nodes.BuiltinValue.{BuiltinValue}
use Rattle.wgsl_tree_expression.specs.declared.ident.Ident.{Ident}
use Rattle.wgsl_tree_expression.specs.View.{ident_name}
use Rattle.wgsl_read_attribute.specs.Known.{checked_attribute}
use Rattle.wgsl_tree_words.specs.View.{severity_view, access_mode_view, address_space_view, interpolation_type_view, interpolation_sampling_view, builtin_value_view}

-- a word that is not in a table
abbrev pub Differs : {A : Type 0} → List ℕ → WordTable A → Type 0
Differs word [] = Unit {0}
Differs word (entry ∷ entries) = (word ≡ entry.0 → ⊥) × Differs word entries

passed : {A : Type 0} (b : Bool) (x : A) (y : Option A) → (b ≡ true → ⊥) → y ≡ None → (if b then Some x else y) ≡ None
passed true x y n e = absurd (n refl)
passed false x y n e = e

-- it has no value
pub absent : {A : Type 0} (word : List ℕ) (words : WordTable A) → Differs word words → look_up words word ≡ None
absent word [] d = refl
absent word (entry ∷ entries) d = passed (bytes_eq entry.0 word) entry.1 (look_up entries word)
    (λ e. d.0 (sym ((bytes_eq-Decides entry.0 word).0 e))) (absent word entries d.1)

-- so a name that is not an attribute's keeps its arguments
pub custom_is : (name : List ℕ) (arguments : Arguments) → Differs name attribute_names
    → checked_attribute name arguments ≡ right (custom (record { name = name; arguments = arguments }))
unfolding checked_attribute
custom_is name arguments d =
    ap (λ (check : Option (Arguments → Checked Attribute)). named_attribute check name arguments)
    (absent name attribute_names d)

-- each word of a table is its own value's text
abbrev pub OwnTexts : {A : Type 0} → (A → List ℕ) → WordTable A → Type 0
OwnTexts {A} text words = map (λ (entry : List ℕ × A). entry.0) words ≡ map (λ (entry : List ℕ × A). text entry.1) words

differs : {A : Type 0} (text : A → List ℕ) (words : WordTable A) → OwnTexts text words
    → (word : List ℕ) → ((a : A) → word ≡ text a → ⊥) → Differs word words
differs text [] own word n = tt
differs text (entry ∷ entries) own word n = (λ e. n entry.1 (e ∙ cc), differs text entries (cc) word n)

-- so a word that is not one of the texts has no value
pub unnamed : {A : Type 0} (text : A → List ℕ) (words : WordTable A) → OwnTexts text words
    → (word : List ℕ) → ((a : A) → word ≡ text a → ⊥) → look_up words word ≡ None
unnamed text words own word n = absent word words (differs text words own word n)

-- the value that a name without a template has is the one that is found
named : {A B E : Type 0} (text : B → List ℕ) (words : WordTable B) (view : A → B)
    → OwnTexts text words → ((b : B) → look_up words (text b) ≡ Some b)
    → (e : ExpressionNode) (ident : Ident) → option_map ident_name (Some ident) ≡ untemplated_name e
    → (found : Result A E)
    → MatchResult found (λ a. ident_name ident ≡ text (view a)) (λ _. (b : B) → ident_name ident ≡ text b → ⊥)
    → option_map view (result_ok found) ≡ untemplated_word words e
named text words view own all e ident untemplated (Ok a) h =
    sym (ap (λ (name : Option (List ℕ)). option_and_then (λ n. look_up words n) name) (sym untemplated)
    ∙ ap (look_up words) h ∙ all (view a))
named text words view own all e ident untemplated (Err x) h =
    sym (ap (λ (name : Option (List ℕ)). option_and_then (λ n. look_up words n) name) (sym untemplated)
    ∙ unnamed text words own (ident_name ident) h)

pub severity_found : (value : plain.DiagnosticSeverity) → look_up severities (severity_text value) ≡ Some value
severity_found error = refl
severity_found _ = refl

pub severity_named : {E : Type 0} (e : ExpressionNode) (ident : Ident)
    → option_map ident_name (Some ident) ≡ untemplated_name e → (found : Result DiagnosticSeverity E)
    → MatchResult found (λ value. ident_name ident ≡ severity_text (severity_view value))
    (λ _. (value : plain.DiagnosticSeverity) → ident_name ident ≡ severity_text value → ⊥)
    → option_map severity_view (result_ok found) ≡ untemplated_word severities e
severity_named e ident untemplated found h =
    named severity_text severities severity_view refl severity_found e ident untemplated found h

access_mode_found : (value : plain.AccessMode) → look_up access_modes (access_mode_text value) ≡ Some value
access_mode_found read = refl
access_mode_found _ = refl

pub access_mode_named : {E : Type 0} (e : ExpressionNode) (ident : Ident)
    → option_map ident_name (Some ident) ≡ untemplated_name e → (found : Result AccessMode E)
    → MatchResult found (λ value. ident_name ident ≡ access_mode_text (access_mode_view value))
    (λ _. (value : plain.AccessMode) → ident_name ident ≡ access_mode_text value → ⊥)
    → option_map access_mode_view (result_ok found) ≡ untemplated_word access_modes e
access_mode_named e ident untemplated found h = named access_mode_text access_modes access_mode_view
    refl access_mode_found e ident untemplated found h

address_space_found : (value : plain.AddressSpace) → look_up address_spaces (address_space_text value) ≡ Some value
address_space_found function = refl
address_space_found _ = refl

pub address_space_named : {E : Type 0} (e : ExpressionNode) (ident : Ident)
    → option_map ident_name (Some ident) ≡ untemplated_name e → (found : Result AddressSpace E)
    → MatchResult found (λ value. ident_name ident ≡ address_space_text (address_space_view value))
    (λ _. (value : plain.AddressSpace) → ident_name ident ≡ address_space_text value → ⊥)
    → option_map address_space_view (result_ok found) ≡ untemplated_word address_spaces e
address_space_named e ident untemplated found h = named address_space_text address_spaces
    address_space_view refl address_space_found e ident untemplated found h

interpolation_type_found : (value : plain.InterpolationType)
    → look_up interpolation_types (interpolation_type_text value) ≡ Some value
interpolation_type_found perspective = refl
interpolation_type_found _ = refl

pub interpolation_type_named : {E : Type 0} (e : ExpressionNode) (ident : Ident)
    → option_map ident_name (Some ident) ≡ untemplated_name e → (found : Result InterpolationType E)
    → MatchResult found (λ value. ident_name ident ≡ interpolation_type_text (interpolation_type_view value))
    (λ _. (value : plain.InterpolationType) → ident_name ident ≡ interpolation_type_text value → ⊥)
    → option_map interpolation_type_view (result_ok found) ≡ untemplated_word interpolation_types e
interpolation_type_named e ident untemplated found h = named interpolation_type_text interpolation_types
    interpolation_type_view refl interpolation_type_found e ident untemplated found h

interpolation_sampling_found : (value : plain.InterpolationSampling)
    → look_up interpolation_samplings (interpolation_sampling_text value) ≡ Some value
interpolation_sampling_found center = refl
interpolation_sampling_found _ = refl

pub interpolation_sampling_named : {E : Type 0} (e : ExpressionNode) (ident : Ident)
    → option_map ident_name (Some ident) ≡ untemplated_name e → (found : Result InterpolationSampling E)
    → MatchResult found (λ value. ident_name ident ≡ interpolation_sampling_text (interpolation_sampling_view value))
    (λ _. (value : plain.InterpolationSampling) → ident_name ident ≡ interpolation_sampling_text value → ⊥)
    → option_map interpolation_sampling_view (result_ok found) ≡ untemplated_word interpolation_samplings e
interpolation_sampling_named e ident untemplated found h =
    named interpolation_sampling_text interpolation_samplings interpolation_sampling_view refl
    interpolation_sampling_found e ident untemplated found h

builtin_value_found : (value : plain.BuiltinValue) → look_up builtin_values (builtin_value_text value) ≡ Some value
builtin_value_found vertex_index = refl
builtin_value_found _ = refl

pub builtin_value_named : {E : Type 0} (e : ExpressionNode) (ident : Ident)
    → option_map ident_name (Some ident) ≡ untemplated_name e → (found : Result BuiltinValue E)
    → MatchResult found (λ value. ident_name ident ≡ builtin_value_text (builtin_value_view value))
    (λ _. (value : plain.BuiltinValue) → ident_name ident ≡ builtin_value_text value → ⊥)
    → option_map builtin_value_view (result_ok found) ≡ untemplated_word builtin_values e
builtin_value_named e ident untemplated found h = named builtin_value_text builtin_values
    builtin_value_view refl builtin_value_found e ident untemplated found h
