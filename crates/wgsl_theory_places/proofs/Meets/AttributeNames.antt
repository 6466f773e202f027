-- What an attribute says of names, by its name and its arguments.
use Rattle.std.proofs.Common.{◌≡◌, ℕ, Bool, true, false, cond, List, [], ◌∷◌, ◌++◌, Option, None, Some, codes, refl, sym, ap, ap₂, subst, ◌∙◌, append-nil, append_assoc}
use Rattle.std.specs.Prelude.{bytes_eq}
use Rattle.std.specs.Option.{option_map}
use Rattle.std.proofs.lemmas.Slice.Eq.{bytes_eq-Decides}
use Rattle.wgsl_model.specs.Tokens.Words.{look_up}
use Rattle.wgsl_model.specs.Trees.NamedValues.{WordTable, DiagnosticSeverity, InterpolationType, InterpolationSampling, builtin_values, severities, interpolation_types, interpolation_samplings}
use Rattle.wgsl_model.specs.Trees.Operators.{BinaryOperator.bitwise_or}
use Rattle.wgsl_model.specs.Trees.Expressions.{ExpressionNode, expression_node, ExpressionNodes, no_expressions, expression_before, Expression, literal, parenthesized, named_component, indexing, unary, binary, function_call, type_or_identifier, FunctionCall, call, TypeExpression, type_expression, TemplateArguments, no_template, template}
use Rattle.wgsl_model.specs.Trees.Attributes as tree
use Rattle.wgsl_model.specs.Trees.Attributes.{Attribute, OneArgument, NoArgument, with_argument, without_argument, one_argument_text, no_argument_text}
use Rattle.wgsl_model.specs.Grammar.Checks.{Checked, right, wrong, Arguments, right_or, with_one, with_none, untemplated_name_in, untemplated_name, untemplated_word, rule_name, variants_in, variants, builtin_attribute, severity_and_rule, diagnostic_attribute, type_and_sampling, interpolate_attribute, workgroup_size_attribute, name_and_variants, type_attribute, attribute_names, named_attribute}
use Rattle.wgsl_model_names.specs.Scopes.{nothing, used, unknown}
use Rattle.wgsl_model_names.specs.Names as names
use Rattle.wgsl_model_names.specs.Names.{names_in, names_in_expression, names_in_all, names_in_call, names_in_type, names_in_template, each, type_names, branch_of}
use Rattle.wgsl_model_minify.specs.Occurrences.{Occurrence, use_of, occurrences}
use Rattle.wgsl_model_places.specs.Signs.{argument_role, branch_named}
use Rattle.wgsl_theory_places.proofs.Meets.Parts.{kind_of}
use Rattle.wgsl_theory_places.proofs.Meets.Known.{Kind, of_node, of_nodes}
use Rattle.wgsl_theory_places.proofs.Meets.Ways.{maybe_of}

-- ---- names that are nothing
abbrev no_kind : Kind
no_kind x = nothing

both_empty : (a b : List Occurrence) → a ≡ [] → b ≡ [] → a ++ b ≡ []
both_empty a b e h = λ i. e i ++ h i

mutual
  empty_expression : (e : Expression) → occurrences (names_in_expression no_kind e) ≡ []
  empty_expression (literal l) = refl
  empty_expression (parenthesized e) = empty_node e
  empty_expression (named_component base component) = empty_node base
  empty_expression (indexing base index) = both_empty _ _ (empty_node base) (empty_node index)
  empty_expression (unary operator operand) = empty_node operand
  empty_expression (binary operator first second) = both_empty _ _ (empty_node first) (empty_node second)
  empty_expression (function_call c) = empty_call c
  empty_expression (type_or_identifier t) = empty_type t

  empty_node : (e : ExpressionNode) → of_node no_kind e ≡ []
  empty_node (expression_node e span) = empty_expression e

  empty_all : (es : ExpressionNodes) → occurrences (names_in_all no_kind es) ≡ []
  empty_all no_expressions = refl
  empty_all (expression_before e es) = both_empty _ _ (empty_node e) (empty_all es)

  empty_call : (c : FunctionCall) → occurrences (names_in_call no_kind c) ≡ []
  empty_call (call ty arguments) = both_empty _ _ (empty_type ty) (empty_all arguments)

  empty_type : (t : TypeExpression) → occurrences (names_in_type no_kind t) ≡ []
  empty_type (type_expression name arguments) = empty_template arguments

  empty_template : (t : TemplateArguments) → occurrences (names_in_template no_kind t) ≡ []
  empty_template no_template = refl
  empty_template (template es) = empty_all es

-- ---- a name, and types with `|` between
one_name_in : (e : Expression) (name : List ℕ) → untemplated_name_in e ≡ Some name
    → occurrences (names_in_expression used e) ≡ use_of name ∷ []
one_name_in (type_or_identifier (type_expression x no_template)) name h =
    ap (λ (it : Option (List ℕ)). named it) h
  where
    named : Option (List ℕ) → List Occurrence
    named None = []
    named (Some y) = use_of y ∷ []
one_name_in e name h = absurd (cc)

one_name : (e : ExpressionNode) (name : List ℕ) → untemplated_name e ≡ Some name → of_node used e ≡ use_of name ∷ []
one_name (expression_node e span) name h = one_name_in e name h

abbrev of_types : List TypeExpression → List Occurrence
of_types types = occurrences (each type_names types)

one_more_type : (types : List TypeExpression) (ty : TypeExpression)
    → of_types types ++ occurrences (type_names ty) ≡ of_types (types ++ (ty ∷ []))
one_more_type [] ty = sym (append-nil (occurrences (type_names ty)))
one_more_type (t ∷ types) ty = append_assoc (occurrences (type_names t)) (of_types types) (occurrences (type_names ty))
    ∙ ap (λ (os : List Occurrence). occurrences (type_names t) ++ os) (one_more_type types ty)

abbrev of_some_types : Option (List TypeExpression) → List Occurrence
of_some_types None = []
of_some_types (Some types) = of_types types

types_in : (e : Expression) (types : List TypeExpression) → variants_in e ≡ Some types
    → occurrences (names_in_expression used e) ≡ of_types types
types_in (type_or_identifier ty) types h = sym (append-nil (occurrences (type_names ty))) ∙ ap of_some_types h
types_in (binary bitwise_or (expression_node left s) (expression_node (type_or_identifier ty) u)) types h =
    go (types_in left) (variants_in left) refl h where
      go : ((ts : List TypeExpression) → variants_in left ≡ Some ts
          → occurrences (names_in_expression used left) ≡ of_types ts)
          → (found : Option (List TypeExpression)) → variants_in left ≡ found
          → option_map (λ (ts : List TypeExpression). ts ++ (ty ∷ [])) found ≡ Some types
          → occurrences (names_in_expression used left) ++ occurrences (type_names ty) ≡ of_types types
      go before None e h = absurd (cc)
      go before (Some ts) e h = ap (λ (os : List Occurrence). os ++ occurrences (type_names ty)) (before ts e)
          ∙ one_more_type ts ty ∙ ap of_some_types h
types_in e types h = absurd (cc)

types_of : (e : ExpressionNode) (types : List TypeExpression) → variants e ≡ Some types
    → of_node used e ≡ of_types types
types_of (expression_node e span) types h = types_in e types h

-- ---- attributes
abbrev pub of_arguments : Kind → Arguments → List Occurrence
of_arguments kind x = maybe_of of_nodes kind x

-- what is right has the names of its arguments, and states the condition of its name
abbrev pub Said : List ℕ → Arguments → Checked Attribute → Type 0
Said name x (right a) = (occurrences (names.attribute_names a) ≡ of_arguments (kind_of (argument_role name)) x)
    × (branch_of a ≡ branch_named name)
Said name x (wrong text) = Unit {0}

abbrev Holds : List ℕ → (Arguments → Checked Attribute) → Type 0
Holds name check = (x : Arguments) → Said name x (check x)

one_node : (kind : Kind) (e : ExpressionNode) → of_node kind e ≡ of_nodes kind (e ∷ [])
one_node kind e = sym (append-nil (of_node kind e))

one_says : (name : OneArgument) → Holds (one_argument_text name) (with_one (with_argument name))
one_says name None = tt
one_says name (Some []) = tt
one_says tree.align (Some (e ∷ [])) = (one_node used e, refl)
one_says tree.binding (Some (e ∷ [])) = (one_node used e, refl)
one_says tree.blend_src (Some (e ∷ [])) = (one_node used e, refl)
one_says tree.group (Some (e ∷ [])) = (one_node used e, refl)
one_says tree.id (Some (e ∷ [])) = (one_node used e, refl)
one_says tree.location (Some (e ∷ [])) = (one_node used e, refl)
one_says tree.size (Some (e ∷ [])) = (one_node used e, refl)
one_says tree.if_attribute (Some (e ∷ [])) = (one_node unknown e, refl)
one_says tree.elif_attribute (Some (e ∷ [])) = (one_node unknown e, refl)
one_says name (Some (e ∷ (x ∷ es))) = tt

none_says : (name : NoArgument) → Holds (no_argument_text name) (with_none (without_argument name))
none_says tree.const_attribute None = (refl, refl)
none_says tree.invariant None = (refl, refl)
none_says tree.must_use None = (refl, refl)
none_says tree.vertex None = (refl, refl)
none_says tree.fragment None = (refl, refl)
none_says tree.compute None = (refl, refl)
none_says tree.else_attribute None = (refl, refl)
none_says name (Some es) = tt

-- words
no_names : (es : List ExpressionNode) → [] ≡ of_nodes no_kind es
no_names [] = refl
no_names (e ∷ es) = sym (both_empty _ _ (empty_node e) (sym (no_names es)))

word_says : {A : Type 0} (name : List ℕ) (es : List ExpressionNode) (make : A → Attribute)
    (text : List ℕ) (o : Option A)
    → ((a : A) → (occurrences (names.attribute_names (make a)) ≡ of_arguments (kind_of (argument_role name)) (Some es))
    × (branch_of (make a) ≡ branch_named name))
    → Said name (Some es) (right_or o make text)
word_says name es make text None said = tt
word_says name es make text (Some a) said = said a

builtin_says : Holds (codes "builtin") builtin_attribute
builtin_says None = tt
builtin_says (Some []) = tt
builtin_says (Some (e ∷ [])) = word_says (codes "builtin") (e ∷ []) tree.builtin _ (untemplated_word builtin_values e)
    (λ a. (no_names (e ∷ []), refl))
builtin_says (Some (e ∷ (x ∷ es))) = tt

rule_says : (es : List ExpressionNode) (o : Option DiagnosticSeverity) (m : Option (List ℕ))
    → Said (codes "diagnostic") (Some es) (severity_and_rule o m)
rule_says es None m = tt
rule_says es (Some severity) None = tt
rule_says es (Some severity) (Some rule) = (no_names es, refl)

diagnostic_says : Holds (codes "diagnostic") diagnostic_attribute
diagnostic_says None = tt
diagnostic_says (Some []) = tt
diagnostic_says (Some (e ∷ [])) = tt
diagnostic_says (Some (e ∷ (r ∷ []))) = rule_says (e ∷ (r ∷ [])) (untemplated_word severities e) (rule_name r)
diagnostic_says (Some (e ∷ (r ∷ (x ∷ es)))) = tt

sampling_says : (es : List ExpressionNode) (o : Option InterpolationType) (m : Option InterpolationSampling)
    → Said (codes "interpolate") (Some es) (type_and_sampling o m)
sampling_says es None m = tt
sampling_says es (Some ty) None = tt
sampling_says es (Some ty) (Some sampling) = (no_names es, refl)

interpolate_says : Holds (codes "interpolate") interpolate_attribute
interpolate_says None = tt
interpolate_says (Some []) = tt
interpolate_says (Some (e ∷ [])) = word_says (codes "interpolate") (e ∷ [])
    (λ ty. tree.interpolate (record { ty = ty; sampling = None })) _ (untemplated_word interpolation_types e)
    (λ a. (no_names (e ∷ []), refl))
interpolate_says (Some (e ∷ (s ∷ []))) =
    sampling_says (e ∷ (s ∷ [])) (untemplated_word interpolation_types e) (untemplated_word interpolation_samplings s)
interpolate_says (Some (e ∷ (s ∷ (x ∷ es)))) = tt

-- sizes and types
size_says : Holds (codes "workgroup_size") workgroup_size_attribute
size_says None = tt
size_says (Some []) = tt
size_says (Some (x ∷ [])) = (refl, refl)
size_says (Some (x ∷ (y ∷ []))) = (ap (λ (os : List Occurrence). of_node used x ++ os) refl, refl)
size_says (Some (x ∷ (y ∷ (z ∷ [])))) =
    (ap (λ (os : List Occurrence). of_node used x ++ (of_node used y ++ os)) (one_node used z), refl)
size_says (Some (x ∷ (y ∷ (z ∷ (e ∷ es))))) = tt

types_say : (t c : ExpressionNode) (o : Option (List ℕ)) (m : Option (List TypeExpression)) → untemplated_name t ≡ o
    → variants c ≡ m → Said (codes "type") (Some (t ∷ (c ∷ []))) (name_and_variants o m)
types_say t c None m h k = tt
types_say t c (Some name) None h k = tt
types_say t c (Some name) (Some types) h k = (
  ap₂ (λ (os ps : List Occurrence). os ++ ps) (sym (one_name t name h)) (sym (types_of c types k) ∙ one_node used c),
  refl,
)

type_says : Holds (codes "type") type_attribute
type_says None = tt
type_says (Some []) = tt
type_says (Some (t ∷ [])) = tt
type_says (Some (t ∷ (c ∷ []))) = types_say t c (untemplated_name t) (variants c) refl refl
type_says (Some (t ∷ (c ∷ (x ∷ es)))) = tt

-- ---- other names
abbrev HoldsOfAll : WordTable (Arguments → Checked Attribute) → Type 0
HoldsOfAll [] = Unit {0}
HoldsOfAll (entry ∷ entries) = Holds entry.0 entry.1 × HoldsOfAll entries

of_table : (table : WordTable (Arguments → Checked Attribute)) → HoldsOfAll table → (name : List ℕ)
    → (look_up table name ≡ None → Holds name (named_attribute None name))
    → Holds name (named_attribute (look_up table name) name)
of_table [] all name other = other refl
of_table (entry ∷ entries) all name other = go (of_table entries all.1 name) (bytes_eq entry.0 name) refl where
  go : ((look_up entries name ≡ None → Holds name (named_attribute None name))
      → Holds name (named_attribute (look_up entries name) name))
      → (b : Bool) → bytes_eq entry.0 name ≡ b
      → Holds name (named_attribute (cond b (Some entry.1) (look_up entries name)) name)
  go later true e = subst (λ (n : List ℕ). Holds n entry.1) ((bytes_eq-Decides entry.0 name).0 e) all.0
  go later false e = later (λ none. other
      (ap (λ (b : Bool). cond b (Some entry.1) (look_up entries name)) e ∙ none))

-- a name in no table is none of its names
abbrev AreApart : {A : Type 0} → WordTable A → List ℕ → Type 0
AreApart [] name = Unit {0}
AreApart (entry ∷ entries) name = (bytes_eq entry.0 name ≡ false) × AreApart entries name

all_apart : {A : Type 0} (table : WordTable A) (name : List ℕ) → look_up table name ≡ None → AreApart table name
all_apart [] name none = tt
all_apart (entry ∷ entries) name none = go (all_apart entries name) (bytes_eq entry.0 name) refl none where
  go : (look_up entries name ≡ None → AreApart entries name) → (b : Bool) → bytes_eq entry.0 name ≡ b
      → cond b (Some entry.1) (look_up entries name) ≡ None
      → (bytes_eq entry.0 name ≡ false) × AreApart entries name
  go later true e none = absurd (cc)
  go later false e none = (e, later none)

nodes_each : (es : List ExpressionNode) → occurrences (each (names_in unknown) es) ≡ of_nodes unknown es
nodes_each [] = refl
nodes_each (e ∷ es) = ap (λ (os : List Occurrence). of_node unknown e ++ os) (nodes_each es)

custom_names : (x : Arguments) → occurrences (names.maybe (each (names_in unknown)) x) ≡ of_arguments unknown x
custom_names None = refl
custom_names (Some es) = nodes_each es

abbrev Other : List ℕ → List ℕ → Type 0
Other name word = bytes_eq word name ≡ false

unknown_role : (name : List ℕ) → Other name (codes "align") → Other name (codes "binding")
    → Other name (codes "blend_src")
    → Other name (codes "group") → Other name (codes "id") → Other name (codes "location")
    → Other name (codes "size")
    → Other name (codes "builtin") → Other name (codes "diagnostic") → Other name (codes "interpolate")
    → Other name (codes "workgroup_size") → Other name (codes "type")
    → kind_of (argument_role name) ≡ unknown
unknown_role name a b c d e f g h i j k l = rw (a, b, c, d, e, f, g, k, l, h, i, j) refl

no_branch : (name : List ℕ) → Other name (codes "if") → Other name (codes "elif") → Other name (codes "else")
    → branch_named name ≡ None
no_branch name a b c = rw (a, b, c) refl

custom_says : (name : List ℕ) → look_up attribute_names name ≡ None → Holds name (named_attribute None name)
custom_says name none x =
    let p = all_apart attribute_names name none in
    let q = p.1.1.1.1.1.1.1 in
    let r = q.1.1.1.1.1.1.1.1.1 in (
      custom_names x ∙ ap (λ (kind : Kind). of_arguments kind x)
          (sym (unknown_role name p.0 p.1.0 p.1.1.0 p.1.1.1.0 p.1.1.1.1.0
          p.1.1.1.1.1.0 p.1.1.1.1.1.1.0 r.0 r.1.0 r.1.1.0 r.1.1.1.0 r.1.1.1.1.0)),
      sym (no_branch name q.0 q.1.0 q.1.1.1.1.1.1.1.1.0),
    )

pub attribute_says : (name : List ℕ) → Holds name (named_attribute (look_up attribute_names name) name)
attribute_says name = of_table attribute_names (
  one_says tree.align,
  (
    one_says tree.binding,
    (
      one_says tree.blend_src,
      (
        one_says tree.group,
        (
          one_says tree.id,
          (
            one_says tree.location,
            (
              one_says tree.size,
              (
                one_says tree.if_attribute,
                (
                  one_says tree.elif_attribute,
                  (
                    none_says tree.const_attribute,
                    (
                      none_says tree.invariant,
                      (
                        none_says tree.must_use,
                        (
                          none_says tree.vertex,
                          (
                            none_says tree.fragment,
                            (
                              none_says tree.compute,
                              (
                                none_says tree.else_attribute,
                                (builtin_says, (diagnostic_says, (interpolate_says, (size_says, (type_says, tt))))),
                              ),
                            ),
                          ),
                        ),
                      ),
                    ),
                  ),
                ),
              ),
            ),
          ),
        ),
      ),
    ),
  ),
) name (custom_says name)
