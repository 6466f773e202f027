-- The pieces of printed attributes, written from their trees before the pieces that follow: they
-- print them and have their tokens.
use Rattle.std.proofs.Common.{◌≡◌, ℕ, ◌==◌, Bool, true, false, cond, refl, sym, subst, List, [], ◌∷◌, ◌++◌, map, Option, Some, None, append_assoc}
use Rattle.std.specs.Prelude.{codes}
use Rattle.std.specs.List.{flat_map}
use Rattle.std.proofs.lemmas.Bool.{eqb-true}
use Rattle.wgsl_model.specs.Tokens.ClassTable.{SymAttr, SymOr, SymParenLeft, SymParenRight, SymPeriod}
use Rattle.wgsl_model.specs.Tokens.Kind.{plain}
use Rattle.wgsl_model.specs.Tokens.Raw.{kind_of_word}
use Rattle.wgsl_model.specs.Trees.NamedValues.{InterpolationSampling, severity_text, interpolation_type_text, interpolation_sampling_text, builtin_value_text}
use Rattle.wgsl_model.specs.Trees.Spanned.{Spanned}
use Rattle.wgsl_model.specs.Trees.Expressions.{ExpressionNode, TypeExpression}
use Rattle.wgsl_model.specs.Trees.Attributes.{one_argument_text, no_argument_text, Attribute, with_argument, without_argument, builtin, diagnostic, interpolate, workgroup_size, type_constraint, custom, Attributes}
use Rattle.wgsl_model.specs.Printed.Joining.{joined}
use Rattle.wgsl_model.specs.Printed.Expressions.{print_type}
use Rattle.wgsl_model.specs.Printed.Attributes.{print_sampling, print_further, print_arguments, print_attribute, print_attributes}
use Rattle.wgsl_theory_reread.specs.CanonicalExpressions.{Writer, optional_tokens, list_tokens, further_tokens, word_token, expression_node_tokens}
use Rattle.wgsl_theory_reread.specs.CanonicalAttributes.{after_comma, rule_tokens_from, rule_tokens, further_types_tokens, types_tokens, arguments_tokens, named_attribute_tokens, attributes_tokens}
use Rattle.wgsl_theory_printed.proofs.Spelling.Pieces.{space}
use Rattle.wgsl_theory_printed.proofs.TreePieces.Printing.{Puts, Prints, none_prints, ◌before◌, word_prints, space_prints}
use Rattle.wgsl_theory_printed.proofs.TreePieces.PiecesOfExpressions.{sign, name, comma, expression_node_pieces, type_pieces, name_prints, comma_prints, expression_node_prints, type_prints}

-- ---- parts that may be left out, and lists

abbrev pub optional_pieces : {A : Type 0} → (A → Puts) → Option A → Puts
optional_pieces put None rest = rest
optional_pieces put (Some a) rest = put a rest

abbrev pub further_pieces : {A : Type 0} → (A → Puts) → List A → Puts
further_pieces put [] rest = rest
further_pieces put (a ∷ more) rest = comma (put a (further_pieces put more rest))

abbrev pub list_pieces : {A : Type 0} → (A → Puts) → List A → Puts
list_pieces put [] rest = rest
list_pieces put (a ∷ more) rest = put a (further_pieces put more rest)

further_prints : {A : Type 0} {n : ℕ} {text : A → List ℕ} {put : A → Puts} {write : Writer A}
    → ((a : A) → Prints n (text a) (put a) (write a))
    → (xs : List A) → Prints n (flat_map (λ x. codes ", " ++ x) (map text xs))
    (further_pieces put xs) (further_tokens write xs)
further_prints one [] = none_prints
further_prints one (a ∷ more) = (comma_prints before one a) before further_prints one more

pub list_prints : {A : Type 0} {n : ℕ} {text : A → List ℕ} {put : A → Puts} {write : Writer A}
    → ((a : A) → Prints n (text a) (put a) (write a))
    → (xs : List A)
    → Prints n (joined (codes ", ") (map text xs)) (list_pieces put xs) (list_tokens write xs)
list_prints one [] = none_prints
list_prints one (a ∷ more) = one a before further_prints one more

-- ---- the pieces

-- a part after a comma
abbrev pub after_comma_pieces : {A : Type 0} → (A → Puts) → A → Puts
after_comma_pieces put a rest = comma (put a rest)

-- the name of a rule, from the bytes that are before and those that are left: a word, or two with
-- `.` between
abbrev pub rule_pieces_from : List ℕ → List ℕ → Puts
rule_pieces_from before_it [] rest = name before_it rest
rule_pieces_from before_it (c ∷ cs) rest = cond (c == 46)
    (name before_it (sign (codes ".") SymPeriod (name cs rest)))
    (rule_pieces_from (before_it ++ (c ∷ [])) cs rest)

-- the name of a rule
abbrev pub rule_pieces : List ℕ → Puts
rule_pieces rule rest = rule_pieces_from [] rule rest

-- further types, each after `|`
abbrev pub further_types_pieces : List TypeExpression → Puts
further_types_pieces [] rest = rest
further_types_pieces (t ∷ ts) rest = space
    ∷ sign (codes "|") SymOr (space ∷ type_pieces t (further_types_pieces ts rest))

-- types with `|` between each two
abbrev pub types_pieces : List TypeExpression → Puts
types_pieces [] rest = rest
types_pieces (t ∷ ts) rest = type_pieces t (further_types_pieces ts rest)

-- arguments in parentheses
abbrev pub arguments_pieces : List ExpressionNode → Puts
arguments_pieces es rest = sign (codes "(") SymParenLeft
    (list_pieces expression_node_pieces es (sign (codes ")") SymParenRight rest))

-- an attribute without its `@`
abbrev pub named_attribute_pieces : Attribute → Puts
named_attribute_pieces (with_argument text e) rest = name (one_argument_text text)
    (sign (codes "(") SymParenLeft (expression_node_pieces e (sign (codes ")") SymParenRight rest)))
named_attribute_pieces (without_argument text) rest = name (no_argument_text text) rest
named_attribute_pieces (builtin b) rest = name (codes "builtin")
    (sign (codes "(") SymParenLeft (name (builtin_value_text b) (sign (codes ")") SymParenRight rest)))
named_attribute_pieces (diagnostic d) rest =
    name (codes "diagnostic") (sign (codes "(") SymParenLeft (name (severity_text d.severity)
    (comma (rule_pieces d.rule (sign (codes ")") SymParenRight rest)))))
named_attribute_pieces (interpolate i) rest =
    name (codes "interpolate") (sign (codes "(") SymParenLeft (name (interpolation_type_text i.ty)
    (optional_pieces (after_comma_pieces (λ (s : InterpolationSampling).
    name (interpolation_sampling_text s))) i.sampling (sign (codes ")") SymParenRight rest))))
named_attribute_pieces (workgroup_size w) rest =
    name (codes "workgroup_size") (sign (codes "(") SymParenLeft (expression_node_pieces w.x
    (optional_pieces (after_comma_pieces expression_node_pieces) w.y (optional_pieces
    (after_comma_pieces expression_node_pieces) w.z (sign (codes ")") SymParenRight rest)))))
named_attribute_pieces (type_constraint t) rest = name (codes "type") (sign (codes "(") SymParenLeft
    (name t.ident (comma (types_pieces t.variants (sign (codes ")") SymParenRight rest)))))
named_attribute_pieces (custom c) rest = name c.name (optional_pieces arguments_pieces c.arguments rest)

-- an attribute
abbrev pub attribute_pieces : Spanned Attribute → Puts
attribute_pieces a rest = sign (codes "@") SymAttr (named_attribute_pieces a.node rest)

-- further attributes, each after a space
abbrev pub further_attributes_pieces : Attributes → Puts
further_attributes_pieces [] rest = rest
further_attributes_pieces (a ∷ more) rest = space ∷ attribute_pieces a (further_attributes_pieces more rest)

-- attributes with a space between each two, and an end after them if there are any
abbrev pub attributes_pieces : Puts → Attributes → Puts
attributes_pieces end [] rest = rest
attributes_pieces end (a ∷ more) rest = attribute_pieces a (further_attributes_pieces more (end rest))

-- ---- they print the trees

rule_prints_from : {n : ℕ} (start left : List ℕ)
    → Prints n (start ++ left) (rule_pieces_from start left) (rule_tokens_from start left)
rule_prints_from {n} start [] = start_alone where
  start_alone : Prints n (start ++ []) (name start) (λ rest. kind_of_word start ∷ rest)
  start_alone = name_prints start before none_prints
rule_prints_from {n} start (c ∷ cs) = go (rule_prints_from (start ++ (c ∷ [])) cs) (c == 46) refl where
  go : Prints n ((start ++ (c ∷ [])) ++ cs) (rule_pieces_from (start ++ (c ∷ [])) cs)
      (rule_tokens_from (start ++ (c ∷ [])) cs) → (b : Bool) → (c == 46) ≡ b
      → Prints n (start ++ (c ∷ cs)) (λ rest. cond b (name start
      (sign (codes ".") SymPeriod (name cs rest))) (rule_pieces_from (start ++ (c ∷ [])) cs rest))
      (λ rest. cond b (kind_of_word start ∷ (plain SymPeriod ∷ (kind_of_word cs ∷ rest)))
      (rule_tokens_from (start ++ (c ∷ [])) cs rest))
  go more true e =
      subst (λ (d : ℕ). Prints n (start ++ (d ∷ cs)) (λ rest. name start (sign (codes ".") SymPeriod
      (name cs rest))) (λ rest. kind_of_word start ∷ (plain SymPeriod ∷ (kind_of_word cs ∷ rest))))
      (sym (eqb-true c 46 e))
      (name_prints start before (word_prints before name_prints cs))
  go more false e = subst (λ (x : List ℕ). Prints n x (rule_pieces_from (start ++ (c ∷ [])) cs)
      (rule_tokens_from (start ++ (c ∷ [])) cs)) (append_assoc start (c ∷ []) cs) more

pub rule_prints : {n : ℕ} (rule : List ℕ) → Prints n rule (rule_pieces rule) (rule_tokens rule)
rule_prints rule = rule_prints_from [] rule

further_types_prints : {n : ℕ} (ts : List TypeExpression) → Prints n (flat_map (λ x. codes " | " ++ x)
    (map print_type ts)) (further_types_pieces ts) (further_types_tokens ts)
further_types_prints [] = none_prints
further_types_prints (t ∷ ts) =
    ((space_prints before word_prints before space_prints) before type_prints t) before
    further_types_prints ts

types_prints : {n : ℕ} (ts : List TypeExpression)
    → Prints n (joined (codes " | ") (map print_type ts)) (types_pieces ts) (types_tokens ts)
types_prints [] = none_prints
types_prints (t ∷ ts) = type_prints t before further_types_prints ts

arguments_prints : {n : ℕ} (o : Option (List ExpressionNode))
    → Prints n (print_arguments o) (optional_pieces arguments_pieces o) (optional_tokens arguments_tokens o)
arguments_prints None = none_prints
arguments_prints (Some es) = word_prints before list_prints expression_node_prints es before word_prints

sampling_prints : {n : ℕ} (o : Option InterpolationSampling)
    → Prints n (print_sampling o) (optional_pieces
    (after_comma_pieces (λ (s : InterpolationSampling). name (interpolation_sampling_text s))) o)
    (optional_tokens (after_comma (λ (s : InterpolationSampling). word_token (interpolation_sampling_text s))) o)
sampling_prints None = none_prints
sampling_prints (Some s) = comma_prints before name_prints (interpolation_sampling_text s)

size_prints : {n : ℕ} (o : Option ExpressionNode)
    → Prints n (print_further o) (optional_pieces (after_comma_pieces expression_node_pieces) o)
    (optional_tokens (after_comma expression_node_tokens) o)
size_prints None = none_prints
size_prints (Some e) = comma_prints before expression_node_prints e

-- `@` and a name
at_prints : {n : ℕ} (text : List ℕ) → Prints n (codes "@" ++ text)
    (λ rest. sign (codes "@") SymAttr (name text rest)) (λ rest. plain SymAttr ∷ (kind_of_word text ∷ rest))
at_prints text = word_prints before name_prints text

attribute_prints : {n : ℕ} (a : Attribute)
    → Prints n (print_attribute a) (λ rest. sign (codes "@") SymAttr (named_attribute_pieces a rest))
    (λ rest. plain SymAttr ∷ named_attribute_tokens a rest)
attribute_prints (with_argument text e) = at_prints (one_argument_text text) before word_prints
    before expression_node_prints e before word_prints
attribute_prints (without_argument text) = at_prints (no_argument_text text)
attribute_prints (builtin b) = (at_prints (codes "builtin") before word_prints) before name_prints
    (builtin_value_text b) before word_prints
attribute_prints (diagnostic d) = (at_prints (codes "diagnostic") before word_prints) before name_prints
    (severity_text d.severity) before comma_prints before rule_prints d.rule before word_prints
attribute_prints (interpolate i) = (at_prints (codes "interpolate") before word_prints) before
    name_prints (interpolation_type_text i.ty) before sampling_prints i.sampling before word_prints
attribute_prints (workgroup_size w) = (at_prints (codes "workgroup_size") before word_prints) before
    expression_node_prints w.x before size_prints w.y before size_prints w.z before word_prints
attribute_prints (type_constraint t) = (at_prints (codes "type") before word_prints) before
    (name_prints t.ident before comma_prints before types_prints t.variants) before word_prints
attribute_prints (custom c) = at_prints c.name before arguments_prints c.arguments

further_attributes_prints : {n : ℕ} (more : Attributes)
    → Prints n (flat_map (λ x. codes " " ++ x) (map (λ (b : Spanned Attribute). print_attribute b.node) more))
    (further_attributes_pieces more) (attributes_tokens more)
further_attributes_prints [] = none_prints
further_attributes_prints (a ∷ more) =
    (space_prints before attribute_prints a.node) before further_attributes_prints more

pub attributes_print : {n : ℕ} {end : List ℕ} {put : Puts} → Prints n end put (λ rest. rest)
    → (a : Attributes) → Prints n (print_attributes end a) (attributes_pieces put a) (attributes_tokens a)
attributes_print last [] = none_prints
attributes_print last (a ∷ more) = (attribute_prints a.node before further_attributes_prints more) before last
