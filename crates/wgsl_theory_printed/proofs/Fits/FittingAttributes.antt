-- Attributes whose names and literals are spelled as they are printed: the pieces of these fit.
use Rattle.std.proofs.Common.{ℕ, ◌==◌, Bool, true, false, cond, refl, List, [], ◌∷◌, ◌++◌, Option, Some, None}
use Rattle.std.specs.Prelude.{codes}
use Rattle.wgsl_model.specs.Tokens.ClassTable.{SymAttr, SymOr, SymParenLeft, SymParenRight, SymPeriod}
use Rattle.wgsl_model.specs.Tokens.Kind.{plain}
use Rattle.wgsl_model.specs.Trees.NamedValues.{InterpolationSampling, severity_text, interpolation_type_text, interpolation_sampling_text, builtin_value_text}
use Rattle.wgsl_model.specs.Trees.Spanned.{Spanned}
use Rattle.wgsl_model.specs.Trees.Expressions.{ExpressionNode, TypeExpression}
use Rattle.wgsl_model.specs.Trees.Attributes.{one_argument_text, no_argument_text, Attribute, with_argument, without_argument, builtin, diagnostic, interpolate, workgroup_size, type_constraint, custom, Attributes}
use Rattle.wgsl_theory_printed.proofs.Spelling.Pieces.{Piece, render, FitsBefore, Fits}
use Rattle.wgsl_theory_printed.proofs.TreePieces.Printing.{Puts}
use Rattle.wgsl_theory_printed.proofs.Spelling.Ends.{EndsName, IsNameText}
use Rattle.wgsl_theory_printed.proofs.Fits.FittingWords.{name_fits, point_fits, sign_fits, not_on}
use Rattle.wgsl_theory_printed.proofs.Fits.SoundExpressions.{IsSoundNode, IsSoundType, Closed, closed_name, closed_node, closed_type}
use Rattle.wgsl_theory_printed.proofs.Fits.FittingSigns.{before_name, left_paren_fits, right_paren_fits, comma_fits}
use Rattle.wgsl_theory_printed.proofs.Fits.FittingExpressions.{closed_by_paren, closed_by_comma, ends_at_paren, ends_at_point, expression_node_fits, type_fits}
use Rattle.wgsl_theory_printed.proofs.Fits.WrittenWords.{builtin_value_name, severity_name, interpolation_type_name, interpolation_sampling_name, one_argument_name, no_argument_name, builtin_name, diagnostic_name, interpolate_name, workgroup_size_name, type_name}
use Rattle.wgsl_theory_printed.proofs.TreePieces.PiecesOfExpressions.{sign, name, comma, expression_node_pieces, type_pieces}
use Rattle.wgsl_theory_printed.proofs.TreePieces.PiecesOfAttributes.{optional_pieces, further_pieces, list_pieces, after_comma_pieces, rule_pieces_from, rule_pieces, further_types_pieces, types_pieces, arguments_pieces, named_attribute_pieces, attribute_pieces, further_attributes_pieces, attributes_pieces}

-- ---- attributes that are so spelled

-- a part is so, if it is there
abbrev pub IfSome : {A : Type 0} → (A → Type 0) → Option A → Type 0
IfSome P None = Unit {0}
IfSome P (Some a) = P a

-- every part is so
abbrev pub Every : {A : Type 0} → (A → Type 0) → List A → Type 0
Every P [] = Unit {0}
Every P (a ∷ more) = P a × Every P more

pub Every-following : {A : Type 0} (P : A → Type 0) (xs : List A) (x : A) → Every P xs → P x → Every P (xs ++ (x ∷ []))
Every-following P [] x h k = (k, tt)
Every-following P (y ∷ xs) x h k = (h.0, Every-following P xs x h.1 k)

-- one of two
abbrev pub Either : Bool → Type 0 → Type 0 → Type 0
Either true A B = A
Either false A B = B

-- the name of a rule: a name, or two with `.` between
abbrev pub IsSoundRule : List ℕ → List ℕ → Type 0
IsSoundRule before [] = IsNameText before
IsSoundRule before (c ∷ cs) = Either (c == 46) (IsNameText before × IsNameText cs) (IsSoundRule (before ++ (c ∷ [])) cs)

abbrev pub IsSoundAttribute : Attribute → Type 0
IsSoundAttribute (with_argument name e) = IsSoundNode e
IsSoundAttribute (diagnostic d) = IsSoundRule [] d.rule
IsSoundAttribute (workgroup_size w) = IsSoundNode w.x × IfSome IsSoundNode w.y × IfSome IsSoundNode w.z
IsSoundAttribute (type_constraint t) = IsNameText t.ident × Every IsSoundType t.variants
IsSoundAttribute (custom c) = IsNameText c.name
    × IfSome (λ (es : List ExpressionNode). Every IsSoundNode es) c.arguments
IsSoundAttribute a = Unit {0}

abbrev pub AreSoundAttributes : Attributes → Type 0
AreSoundAttributes = Every (λ (a : Spanned Attribute). IsSoundAttribute a.node)

-- ---- lists

closed_further : {A : Type 0} (put : A → Puts) (more : List A) (rest : List Piece)
    → Closed (render rest) → Closed (render (further_pieces put more rest))
closed_further put [] rest c = c
closed_further put (a ∷ more) rest c = closed_by_comma (put a (further_pieces put more rest))

further_fit : {A : Type 0} (put : A → Puts) (P : A → Type 0)
    → ((a : A) (rest : List Piece) → P a → Closed (render rest) → Fits rest → Fits (put a rest))
    → (more : List A) (rest : List Piece) → Every P more → Closed (render rest) → Fits rest
    → Fits (further_pieces put more rest)
further_fit put P one [] rest s c f = f
further_fit put P one (a ∷ more) rest s c f = (
  comma_fits _,
  one a (further_pieces put more rest) s.0 (closed_further put more rest c)
      (further_fit put P one more rest s.1 c f),
)

-- items with a comma between each two
pub list_fits : {A : Type 0} (put : A → Puts) (P : A → Type 0)
    → ((a : A) (rest : List Piece) → P a → Closed (render rest) → Fits rest → Fits (put a rest))
    → (xs : List A) (rest : List Piece) → Every P xs → Closed (render rest) → Fits rest
    → Fits (list_pieces put xs rest)
list_fits put P one [] rest s c f = f
list_fits put P one (a ∷ more) rest s c f = one a (further_pieces put more rest) s.0
    (closed_further put more rest c) (further_fit put P one more rest s.1 c f)

-- an expression and a type before what closes it
pub node_fits : (e : ExpressionNode) (rest : List Piece) → IsSoundNode e → Closed (render rest)
    → Fits rest → Fits (expression_node_pieces e rest)
node_fits e rest s c f = expression_node_fits e rest s (closed_node e (render rest) c) f

pub closed_type_fits : (t : TypeExpression) (rest : List Piece) → IsSoundType t
    → Closed (render rest) → Fits rest → Fits (type_pieces t rest)
closed_type_fits t rest s c f = type_fits t rest s (closed_type t (render rest) c) f

-- a name
pub plain_name_fits : (text : List ℕ) (rest : List Piece) → IsNameText text → Closed (render rest)
    → Fits rest → Fits (name text rest)
plain_name_fits text rest n c f = (name_fits text (render rest) n (closed_name (render rest) c), f)

-- ---- parts of attributes

pub optional_fits : {A : Type 0} (put : A → Puts) (P : A → Type 0)
    → ((a : A) (rest : List Piece) → P a → Closed (render rest) → Fits rest → Fits (put a rest))
    → (o : Option A) (rest : List Piece) → IfSome P o → Closed (render rest) → Fits rest
    → Fits (optional_pieces (after_comma_pieces put) o rest)
    × Closed (render (optional_pieces (after_comma_pieces put) o rest))
optional_fits put P one None rest s c f = (f, c)
optional_fits put P one (Some a) rest s c f = ((comma_fits _, one a rest s c f), closed_by_comma (put a rest))

-- the name of a rule
rule_fits_from : (before left : List ℕ) (rest : List Piece) → IsSoundRule before left
    → Closed (render rest) → Fits rest → Fits (rule_pieces_from before left rest)
rule_fits_from before [] rest s c f = plain_name_fits before rest s c f
rule_fits_from before (x ∷ xs) rest s c f = go (rule_fits_from (before ++ (x ∷ [])) xs rest) (x == 46) s
  where
    go : (IsSoundRule (before ++ (x ∷ [])) xs → Closed (render rest) → Fits rest
        → Fits (rule_pieces_from (before ++ (x ∷ [])) xs rest)) → (b : Bool)
        → Either b (IsNameText before × IsNameText xs) (IsSoundRule (before ++ (x ∷ [])) xs)
        → Fits (cond b (name before (sign (codes ".") SymPeriod (name xs rest)))
        (rule_pieces_from (before ++ (x ∷ [])) xs rest))
    go more true n = (
      name_fits before _ n.0 (ends_at_point (name xs rest)),
      (
        before_name (FitsBefore (codes ".") (plain SymPeriod)) xs (render rest) n.1 point_fits,
        plain_name_fits xs rest n.1 c f,
      ),
    )
    go more false n = more n c f

pub rule_fits : (rule : List ℕ) (rest : List Piece) → IsSoundRule [] rule → Closed (render rest)
    → Fits rest → Fits (rule_pieces rule rest)
rule_fits rule rest s c f = rule_fits_from [] rule rest s c f

or_fits : (rest : List ℕ) → FitsBefore (codes "|") (plain SymOr) (32 ∷ rest)
or_fits rest = sign_fits 124 [] SymOr (32 ∷ rest) refl refl refl tt refl

closed_further_types : (ts : List TypeExpression) (rest : List Piece) → Closed (render rest)
    → Closed (render (further_types_pieces ts rest))
closed_further_types [] rest c = c
closed_further_types (t ∷ ts) rest c = refl

further_types_fit : (ts : List TypeExpression) (rest : List Piece) → Every IsSoundType ts
    → Closed (render rest) → Fits rest → Fits (further_types_pieces ts rest)
further_types_fit [] rest s c f = f
further_types_fit (t ∷ ts) rest s c f = (
  or_fits _,
  closed_type_fits t (further_types_pieces ts rest) s.0 (closed_further_types ts rest c)
      (further_types_fit ts rest s.1 c f),
)

types_fit : (ts : List TypeExpression) (rest : List Piece) → Every IsSoundType ts
    → Closed (render rest) → Fits rest → Fits (types_pieces ts rest)
types_fit [] rest s c f = f
types_fit (t ∷ ts) rest s c f = closed_type_fits t (further_types_pieces ts rest) s.0
    (closed_further_types ts rest c) (further_types_fit ts rest s.1 c f)

-- the parenthesis that ends a list of arguments
paren_fits : (rest : List Piece) → Fits rest → Fits (sign (codes ")") SymParenRight rest)
paren_fits rest f = (right_paren_fits (render rest), f)

-- `(` and what follows a name
opened_fits : (text : List ℕ) (rest : List Piece) → IsNameText text → Fits rest
    → Fits (name text (sign (codes "(") SymParenLeft rest))
opened_fits text rest n f = (name_fits text _ n (ends_at_paren rest), (left_paren_fits (render rest), f))

one_name_fits : (text word_in : List ℕ) (rest : List Piece) → IsNameText text → IsNameText word_in
    → Fits rest
    → Fits (name text (sign (codes "(") SymParenLeft (name word_in (sign (codes ")") SymParenRight rest))))
one_name_fits text word_in rest n m f = opened_fits text
    (name word_in (sign (codes ")") SymParenRight rest)) n (plain_name_fits word_in
    (sign (codes ")") SymParenRight rest) m (closed_by_paren rest) (paren_fits rest f))

alone_fits : (text : List ℕ) (rest : List Piece) → IsNameText text → EndsName (render rest)
    → Fits rest → Fits (name text rest)
alone_fits text rest n e f = (name_fits text (render rest) n e, f)

named_attribute_fits : (a : Attribute) (rest : List Piece) → IsSoundAttribute a
    → EndsName (render rest) → Fits rest → Fits (named_attribute_pieces a rest)
named_attribute_fits (with_argument text e) rest s n f =
    let last = sign (codes ")") SymParenRight rest in
    opened_fits (one_argument_text text) (expression_node_pieces e last) (one_argument_name text)
    (node_fits e last s (closed_by_paren rest) (paren_fits rest f))
named_attribute_fits (without_argument text) rest s n f = alone_fits (no_argument_text text) rest
    (no_argument_name text) n f
named_attribute_fits (builtin b) rest s n f = one_name_fits (codes "builtin")
    (builtin_value_text b) rest builtin_name (builtin_value_name b) f
named_attribute_fits (diagnostic d) rest s n f =
    let more = rule_pieces d.rule (sign (codes ")") SymParenRight rest) in
    opened_fits (codes "diagnostic") (name (severity_text d.severity) (comma more)) diagnostic_name
    (plain_name_fits (severity_text d.severity) (comma more) (severity_name d.severity) (closed_by_comma more)
    (comma_fits _, rule_fits d.rule (sign (codes ")") SymParenRight rest) s (closed_by_paren rest) (paren_fits rest f)))
named_attribute_fits (interpolate i) rest s n f =
    let last = optional_fits (λ (x : InterpolationSampling). name (interpolation_sampling_text x))
    (λ (x : InterpolationSampling). Unit {0})
    (λ x r u c g. plain_name_fits (interpolation_sampling_text x) r (interpolation_sampling_name x) c g)
    i.sampling (sign (codes ")") SymParenRight rest) (any i.sampling) (closed_by_paren rest) (paren_fits rest f) in
    let more = optional_pieces (after_comma_pieces (λ (x : InterpolationSampling).
    name (interpolation_sampling_text x))) i.sampling (sign (codes ")") SymParenRight rest) in
    opened_fits (codes "interpolate") (name (interpolation_type_text i.ty) more) interpolate_name
    (plain_name_fits (interpolation_type_text i.ty) more (interpolation_type_name i.ty) last.1 last.0)
  where
    any : (o : Option InterpolationSampling) → IfSome (λ (x : InterpolationSampling). Unit {0}) o
    any None = tt
    any (Some x) = tt
named_attribute_fits (workgroup_size w) rest s n f =
    let last = optional_pieces (after_comma_pieces expression_node_pieces) w.z (sign (codes ")") SymParenRight rest) in
    let more = optional_pieces (after_comma_pieces expression_node_pieces) w.y last in
    let third = optional_fits expression_node_pieces IsSoundNode node_fits w.z
    (sign (codes ")") SymParenRight rest) s.2 (closed_by_paren rest) (paren_fits rest f) in
    let second = optional_fits expression_node_pieces IsSoundNode node_fits w.y last s.1 third.1 third.0 in
    opened_fits (codes "workgroup_size") (expression_node_pieces w.x more) workgroup_size_name
    (node_fits w.x more s.0 second.1 second.0)
named_attribute_fits (type_constraint t) rest s n f =
    let more = types_pieces t.variants (sign (codes ")") SymParenRight rest) in
    opened_fits (codes "type") (name t.ident (comma more)) type_name
    (plain_name_fits t.ident (comma more) s.0 (closed_by_comma more) (
      comma_fits _,
      types_fit t.variants (sign (codes ")") SymParenRight rest) s.1 (closed_by_paren rest)
          (paren_fits rest f),
    ))
named_attribute_fits (custom c) rest s n f = go c.arguments s.1
  where
    go : (o : Option (List ExpressionNode)) → IfSome (λ (es : List ExpressionNode). Every IsSoundNode es) o
        → Fits (name c.name (optional_pieces arguments_pieces o rest))
    go None u = alone_fits c.name rest s.0 n f
    go (Some es) u = opened_fits c.name
        (list_pieces expression_node_pieces es (sign (codes ")") SymParenRight rest)) s.0
        (list_fits expression_node_pieces IsSoundNode node_fits es
        (sign (codes ")") SymParenRight rest) u (closed_by_paren rest) (paren_fits rest f))

at_fits : (rest : List ℕ) → FitsBefore (codes "@") (plain SymAttr) rest
at_fits rest = sign_fits 64 [] SymAttr rest refl refl refl tt (not_on (codes "@") (λ c. refl) rest)

attribute_fits : (a : Spanned Attribute) (rest : List Piece) → IsSoundAttribute a.node
    → EndsName (render rest) → Fits rest → Fits (attribute_pieces a rest)
attribute_fits a rest s n f = (at_fits _, named_attribute_fits a.node rest s n f)

ends_further : (more : Attributes) (rest : List Piece) → EndsName (render rest)
    → EndsName (render (further_attributes_pieces more rest))
ends_further [] rest n = n
ends_further (a ∷ more) rest n = refl

further_attributes_fit : (more : Attributes) (rest : List Piece) → AreSoundAttributes more
    → EndsName (render rest) → Fits rest → Fits (further_attributes_pieces more rest)
further_attributes_fit [] rest s n f = f
further_attributes_fit (a ∷ more) rest s n f = attribute_fits a (further_attributes_pieces more rest)
    s.0 (ends_further more rest n) (further_attributes_fit more rest s.1 n f)

-- attributes before an end
pub attributes_fit : (end : Puts) (a : Attributes) (rest : List Piece) → AreSoundAttributes a
    → EndsName (render (end rest)) → Fits (end rest) → Fits rest → Fits (attributes_pieces end a rest)
attributes_fit end [] rest s n e f = f
attributes_fit end (a ∷ more) rest s n e f = attribute_fits a (further_attributes_pieces more (end rest))
    s.0 (ends_further more (end rest) n) (further_attributes_fit more (end rest) s.1 n e)
