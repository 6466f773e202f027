-- How the tokens of a text are in template lists and brackets.
use Rattle.std.specs.Prelude.{◌≡◌, ℕ, zero, suc, Bool, true, false, List, [], ◌∷◌, ◌++◌, map, take}
use Rattle.grammar.specs.Tokens.{Token, first_tokens}
use Rattle.grammar.specs.Grammar.{Mode.checking, Derives}
use Rattle.wgsl_model.specs.Tokens.ClassTable.{SymLessThan}
use Rattle.wgsl_model.specs.Tokens.Kind.{Kind}
use Rattle.wgsl_model.specs.Trees.Expressions.{ExpressionNode}
use Rattle.wgsl_model.specs.Grammar.Symbols.{Symbol.expressions}
use Rattle.wgsl_model.specs.Grammar.Written.{written}
use Rattle.wgsl_theory_reread.specs.CanonicalUnits.{without_place}
use Rattle.wgsl_theory_templates.proofs.Reaching.Reach.{Role, Role.name, Role.keyword, Role.greater, Role.greater_stop, Role.opening, Role.closing, Role.short_circuit, Role.stop, Role.other, Role.template_start, Role.template_end, role, Place, Place.outside, Place.inside, reach, ahead}
use Rattle.grammar.proofs.Reading.Sets.{clash}
use Rattle.wgsl_theory_grammar.proofs.Tokens.Decided.{IsList}

-- words, after which a template list may be
abbrev pub is_word_role : Role → Bool
is_word_role name = true
is_word_role keyword = true
is_word_role r = false

-- tokens that begin with `>`
abbrev pub is_greater_role : Role → Bool
is_greater_role greater = true
is_greater_role greater_stop = true
is_greater_role r = false

-- tokens that neither open nor close anything
abbrev pub is_plain_role : Role → Bool
is_plain_role other = true
is_plain_role stop = true
is_plain_role r = false

-- brackets are counted inside a template list alone
abbrev pub deeper : Place → ℕ → ℕ
deeper outside depth = depth
deeper inside depth = suc depth

-- inside a template list tokens that begin with `>`, `&&` and `||` are in brackets
abbrev pub MayStand : Place → ℕ → Type 0
MayStand outside depth = Unit {0}
MayStand inside zero = ⊥
MayStand inside (suc depth) = Unit {0}

-- Tokens in which the template lists are told apart, from a number of open brackets on, which are
-- all closed at the end. What is in a template list is one of Lists, and W says what follows a word
-- after which no template list is.
pub data Shape {X : Type 0} (class : X → ℕ) (Lists : List X → Type 0)
    (W : Place → List X → Type 0) : Place → ℕ → List X → Type 0 where
  shape_end : {p : Place} → Shape class Lists W p 0 []
  shape_opening : {p : Place} {depth : ℕ} {t : X} {ts : List X} → role (class t) ≡ opening
      → Shape class Lists W p (deeper p depth) ts → Shape class Lists W p depth (t ∷ ts)
  shape_closing : {p : Place} {depth deep : ℕ} {t : X} {ts : List X} → role (class t) ≡ closing
      → deep ≡ deeper p depth → Shape class Lists W p depth ts → Shape class Lists W p deep (t ∷ ts)
  shape_greater : {p : Place} {depth : ℕ} {t : X} {ts : List X} → is_greater_role (role (class t)) ≡ true
      → MayStand p depth → Shape class Lists W p depth ts → Shape class Lists W p depth (t ∷ ts)
  shape_short_circuit : {p : Place} {depth : ℕ} {t : X} {ts : List X} → role (class t) ≡ short_circuit
      → MayStand p depth → Shape class Lists W p depth ts → Shape class Lists W p depth (t ∷ ts)
  shape_plain : {p : Place} {depth : ℕ} {t : X} {ts : List X} → is_plain_role (role (class t)) ≡ true
      → Shape class Lists W p depth ts → Shape class Lists W p depth (t ∷ ts)
  shape_word : {p : Place} {depth : ℕ} {t : X} {ts : List X} → is_word_role (role (class t)) ≡ true
      → W p ts → Shape class Lists W p depth ts → Shape class Lists W p depth (t ∷ ts)
  shape_template : {p : Place} {depth : ℕ} (t start end : X) (us ts : List X)
      → is_word_role (role (class t)) ≡ true → role (class start) ≡ template_start
      → role (class end) ≡ template_end
      → Shape class Lists W inside 0 us → Lists us → Shape class Lists W p depth ts
      → Shape class Lists W p depth (t ∷ (start ∷ (us ++ (end ∷ ts))))

-- ---- the tokens of a source
-- after a `<` the tokens up to the one that is reached derive no list(Expression)
abbrev pub NotReached : Place → List Token → Type 0
NotReached p [] = Unit {0}
NotReached p (t ∷ zs) = t.class ≡ SymLessThan → reach p 0 0 (map without_place zs) ≡ true
    → (v : List ExpressionNode)
    → Derives checking written expressions v (first_tokens (ahead 0 0 (map without_place zs)) zs) → ⊥

-- the shape of the tokens of a source
abbrev pub IsSourceShape : Place → ℕ → List Token → Type 0
IsSourceShape p depth ts = Shape (λ (t : Token). t.class) IsList NotReached p depth ts

-- ---- the kinds that a printed text is to have
-- kinds that derive list(Expression), wherever their tokens are
abbrev pub DerivesAnywhere : List Kind → Type 0
DerivesAnywhere ks = (ts : List Token) → map without_place ts ≡ ks → IsList ts

-- after a `<` no token is reached
abbrev pub NeverReached : Place → List Kind → Type 0
NeverReached p [] = Unit {0}
NeverReached p (k ∷ js) = k.class ≡ SymLessThan → reach p 0 0 js ≡ false

-- after a `<` the kinds up to the token that is reached are those of no list(Expression)
abbrev pub NoListReached : Place → List Kind → Type 0
NoListReached p [] = Unit {0}
NoListReached p (k ∷ js) = k.class ≡ SymLessThan → reach p 0 0 js ≡ true → (ts : List Token)
    → map without_place ts ≡ take (ahead 0 0 js) js → IsList ts → ⊥

pub none_reached : (p : Place) (ks : List Kind) → NeverReached p ks → NoListReached p ks
none_reached p [] n = tt
none_reached p (k ∷ js) n = λ l r ts e i. clash _ r (n l)

-- the shape that lets a text have tokens of the kinds
abbrev pub IsWrittenShape : Place → ℕ → List Kind → Type 0
IsWrittenShape p depth ks = Shape (λ (k : Kind). k.class) DerivesAnywhere NoListReached p depth ks
