-- The word of a named value is the word that named it.
use Rattle.std.proofs.Common.{◌≡◌, ℕ, Bool, true, false, cond, List, [], ◌∷◌, map, Option, Some, None, refl, sym, ap, ◌∙◌}
use Rattle.std.specs.Prelude.{bytes_eq, option_and_then}
use Rattle.std.proofs.lemmas.Slice.Eq.{bytes_eq-Decides}
use Rattle.wgsl_model.specs.Tokens.Kind.{Kind}
use Rattle.wgsl_model.specs.Tokens.Raw.{kind_of_word}
use Rattle.wgsl_model.specs.Tokens.Words.{look_up}
use Rattle.wgsl_model.specs.Trees.NamedValues.{WordTable, DiagnosticSeverity, severities, AccessMode, access_modes, AddressSpace, address_spaces, InterpolationType, interpolation_types, InterpolationSampling, interpolation_samplings, BuiltinValue, builtin_values, severity_text, access_mode_text, address_space_text, interpolation_type_text, interpolation_sampling_text, builtin_value_text}
use Rattle.wgsl_model.specs.Trees.Expressions.{ExpressionNode, expression_node, Expression, type_or_identifier, type_expression, no_template, template}
use Rattle.wgsl_model.specs.Grammar.Checks.{untemplated_name, untemplated_name_in, untemplated_word}
use Rattle.wgsl_theory_reread.specs.CanonicalExpressions.{expression_tokens, expression_node_tokens}

-- each value of a table has the word that is with it
abbrev pub HasWords : {A : Type 0} → (A → List ℕ) → WordTable A → Type 0
HasWords {A} text table = map (λ (entry : List ℕ × A). text entry.1) table ≡ map (λ (entry : List ℕ × A). entry.0) table

-- what is found for a word has that word
pub named_word : {A : Type 0} (text : A → List ℕ) (table : WordTable A) → HasWords text table
    → (word : List ℕ) (x : A) → look_up table word ≡ Some x → text x ≡ word
named_word text [] n word x e = cc
named_word {A} text (entry ∷ entries) n word x e = at (λ h. named_word text entries (cc) word x h)
    (bytes_eq entry.0 word) refl e
  where
    at : (look_up entries word ≡ Some x → text x ≡ word) → (b : Bool) → bytes_eq entry.0 word ≡ b
        → cond b (Some entry.1) (look_up entries word) ≡ Some x → text x ≡ word
    at others true q h =
        let same : entry.1 ≡ x = cc in let this : text entry.1 ≡ entry.0 = cc in sym (ap text same)
        ∙ this ∙ (bytes_eq-Decides entry.0 word).0 q
    at others false q h = others h

-- ---- the tables
pub severity_word : (word : List ℕ) (x : DiagnosticSeverity) → look_up severities word ≡ Some x → severity_text x ≡ word
severity_word = named_word severity_text severities refl

access_mode_word : (word : List ℕ) (x : AccessMode) → look_up access_modes word ≡ Some x → access_mode_text x ≡ word
access_mode_word = named_word access_mode_text access_modes refl

address_space_word : (word : List ℕ) (x : AddressSpace) → look_up address_spaces word ≡ Some x
    → address_space_text x ≡ word
address_space_word = named_word address_space_text address_spaces refl

interpolation_type_word : (word : List ℕ) (x : InterpolationType)
    → look_up interpolation_types word ≡ Some x → interpolation_type_text x ≡ word
interpolation_type_word = named_word interpolation_type_text interpolation_types refl

interpolation_sampling_word : (word : List ℕ) (x : InterpolationSampling)
    → look_up interpolation_samplings word ≡ Some x → interpolation_sampling_text x ≡ word
interpolation_sampling_word = named_word interpolation_sampling_text interpolation_samplings refl

builtin_value_word : (word : List ℕ) (x : BuiltinValue) → look_up builtin_values word ≡ Some x
    → builtin_value_text x ≡ word
builtin_value_word = named_word builtin_value_text builtin_values refl

-- ---- expressions
-- a bare name is written as its word
pub bare_name_in_tokens : (e : Expression) (name : List ℕ) → untemplated_name_in e ≡ Some name
    → (rest : List Kind) → expression_tokens e rest ≡ kind_of_word name ∷ rest
bare_name_in_tokens (type_or_identifier (type_expression word no_template)) name e rest =
    let same : word ≡ name = cc in ap (λ z. kind_of_word z ∷ rest) same
bare_name_in_tokens (type_or_identifier (type_expression word (template es))) name e rest = cc
bare_name_in_tokens e name h rest = absurd (cc)

pub bare_name_tokens : (e : ExpressionNode) (name : List ℕ) → untemplated_name e ≡ Some name
    → (rest : List Kind) → expression_node_tokens e rest ≡ kind_of_word name ∷ rest
bare_name_tokens (expression_node e s) name h rest = bare_name_in_tokens e name h rest

-- an expression that names a value is written as the value's word
abbrev pub WritesWords : {A : Type 0} → (A → List ℕ) → WordTable A → Type 0
WritesWords {A} text table = (e : ExpressionNode) (x : A) → untemplated_word table e ≡ Some x
    → (rest : List Kind) → expression_node_tokens e rest ≡ kind_of_word (text x) ∷ rest

bare_word_tokens : {A : Type 0} (text : A → List ℕ) (table : WordTable A)
    → ((word : List ℕ) (x : A) → look_up table word ≡ Some x → text x ≡ word) → WritesWords text table
bare_word_tokens {A} text table named (expression_node e s) x h rest = at (untemplated_name_in e) refl h where
  at : (o : Option (List ℕ)) → untemplated_name_in e ≡ o
      → option_and_then (λ name. look_up table name) o ≡ Some x
      → expression_tokens e rest ≡ kind_of_word (text x) ∷ rest
  at None q g = cc
  at (Some name) q g = bare_name_in_tokens e name q rest ∙ ap (λ z. kind_of_word z ∷ rest) (sym (named name x g))

pub severity_tokens : WritesWords severity_text severities
severity_tokens = bare_word_tokens severity_text severities severity_word

pub access_mode_tokens : WritesWords access_mode_text access_modes
access_mode_tokens = bare_word_tokens access_mode_text access_modes access_mode_word

pub address_space_tokens : WritesWords address_space_text address_spaces
address_space_tokens = bare_word_tokens address_space_text address_spaces address_space_word

pub interpolation_type_tokens : WritesWords interpolation_type_text interpolation_types
interpolation_type_tokens = bare_word_tokens interpolation_type_text interpolation_types interpolation_type_word

pub interpolation_sampling_tokens : WritesWords interpolation_sampling_text interpolation_samplings
interpolation_sampling_tokens =
    bare_word_tokens interpolation_sampling_text interpolation_samplings interpolation_sampling_word

pub builtin_value_tokens : WritesWords builtin_value_text builtin_values
builtin_value_tokens = bare_word_tokens builtin_value_text builtin_values builtin_value_word
