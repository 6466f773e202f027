-- What is inside a template list, by the token at the front.
use Rattle.std.proofs.Common.{◌≡◌, ℕ, zero, suc, Bool, true, List, [], ◌∷◌, ◌++◌, refl, sym, subst}
use Rattle.grammar.specs.Tokens.{Token}
use Rattle.grammar.proofs.Reading.Sets.{clash}
use Rattle.wgsl_model.specs.Tokens.Kind.{Kind, placed}
use Rattle.wgsl_model.specs.Tokens.Raw.{Raw, none_left, invalid, token, raw}
use Rattle.wgsl_model.specs.Tokens.Places.{place}
use Rattle.wgsl_model.specs.Tokens.Templates.{is_word, is_opening, is_closing, begins_with_greater, is_short_circuit, goes_on, TemplateRelation, NoTemplate, Inside, at_greater, at_opening, at_closing, at_template, at_other}
use Rattle.wgsl_theory_grammar.proofs.Tokens.Classes.{opening_word, closing_word, greater_word, short_circuit_word, opening_closing, opening_greater, opening_short_circuit, closing_greater, greater_short_circuit, no_bracket, no_end}

-- a token where it is
abbrev pub at : ℕ → Kind → List ℕ → List ℕ → Token
at total kind from after = placed kind (place total from) (place total after)

-- the cases, of a text whose first token is known
pub data Step (total : ℕ) (R : TemplateRelation) (depth : ℕ) (kind : Kind) (from after : List ℕ)
    (ts : List Token) (end : List ℕ) : Type 0 where
  greater_step : depth ≡ 0 → begins_with_greater kind.class ≡ true → ts ≡ [] → end ≡ from
      → Step total R depth kind from after ts end
  opening_step : is_opening kind.class ≡ true → (us : List Token) → ts ≡ at total kind from after ∷ us
      → Inside total R (suc depth) after us end → Step total R depth kind from after ts end
  closing_step : is_closing kind.class ≡ true → (d : ℕ) → depth ≡ suc d → (us : List Token)
      → ts ≡ at total kind from after ∷ us → Inside total R d after us end
      → Step total R depth kind from after ts end
  template_step : is_word kind.class ≡ true → (us vs : List Token) (rest : List ℕ) → R after us rest
      → ts ≡ at total kind from after ∷ (us ++ vs) → Inside total R depth rest vs end
      → Step total R depth kind from after ts end
  other_step : goes_on depth kind.class ≡ true → (is_word kind.class ≡ true → NoTemplate R after)
      → (us : List Token) → ts ≡ at total kind from after ∷ us → Inside total R depth after us end
      → Step total R depth kind from after ts end

-- the same of whatever is at the front
abbrev pub StepOf : (total : ℕ) (R : TemplateRelation) (depth : ℕ) → Raw → List Token → List ℕ → Type 0
StepOf total R depth none_left ts end = ⊥
StepOf total R depth (invalid from after) ts end = ⊥
StepOf total R depth (token kind from after) ts end = Step total R depth kind from after ts end

steps : (total : ℕ) (R : TemplateRelation) (depth : ℕ) (text : List ℕ) (ts : List Token) (end : List ℕ)
    → Inside total R depth text ts end → StepOf total R depth (raw text) ts end
steps total R depth text ts end (at_greater t e after kind r g) =
    subst (λ x. StepOf total R 0 x [] end) (sym r) (greater_step refl g refl refl)
steps total R depth text ts end (at_opening d t from after e kind us r g h) =
    subst (λ x. StepOf total R depth x (at total kind from after ∷ us) end) (sym r) (opening_step g us refl h)
steps total R depth text ts end (at_closing d t from after e kind us r g h) =
    subst (λ x. StepOf total R (suc d) x (at total kind from after ∷ us) end) (sym r) (closing_step g d refl us refl h)
steps total R depth text ts end (at_template d t from after rest e kind us vs r w q h) =
    subst (λ x. StepOf total R depth x (at total kind from after ∷ (us ++ vs)) end) (sym r)
    (template_step w us vs rest q refl h)
steps total R depth text ts end (at_other d t from after e kind us r g n h) =
    subst (λ x. StepOf total R depth x (at total kind from after ∷ us) end) (sym r) (other_step g n us refl h)

-- of a text whose front is known
pub step_at : (total : ℕ) (R : TemplateRelation) (depth : ℕ) (text : List ℕ) (ts : List Token) (end : List ℕ) (r : Raw)
    → raw text ≡ r → Inside total R depth text ts end → StepOf total R depth r ts end
step_at total R depth text ts end r e h = subst (λ x. StepOf total R depth x ts end) e
    (steps total R depth text ts end h)

-- after a token, which may be a word: a template list, or none
pub data After (total : ℕ) (R : TemplateRelation) (word : Bool) (depth : ℕ) (text : List ℕ)
    (ts : List Token) (end : List ℕ) : Type 0 where
  after_list : word ≡ true → (us vs : List Token) (rest : List ℕ) → R text us rest → ts ≡ us ++ vs
      → Inside total R depth rest vs end → After total R word depth text ts end
  after_none : (word ≡ true → NoTemplate R text) → Inside total R depth text ts end
      → After total R word depth text ts end

-- ---- what each token leaves
pub from_greater : (total : ℕ) (R : TemplateRelation) (kind : Kind) (from after : List ℕ)
    (ts : List Token) (end : List ℕ) → begins_with_greater kind.class ≡ true
    → Step total R 0 kind from after ts end → (ts ≡ []) × (end ≡ from)
from_greater total R kind from after ts end g (greater_step z b e f) = (e, f)
from_greater total R kind from after ts end g (opening_step o us e h) = absurd (opening_greater kind.class o g)
from_greater total R kind from after ts end g (closing_step l d z us e h) = absurd cc
from_greater total R kind from after ts end g (template_step w us vs rest q e h) = absurd (greater_word kind.class g w)
from_greater total R kind from after ts end g (other_step o n us e h) = clash _ g (no_end kind.class o).0

pub from_opening : (total : ℕ) (R : TemplateRelation) (depth : ℕ) (kind : Kind)
    (from after : List ℕ) (ts : List Token) (end : List ℕ) → is_opening kind.class ≡ true
    → Step total R depth kind from after ts end
    → (us : List Token) × (ts ≡ at total kind from after ∷ us) × Inside total R (suc depth) after us end
from_opening total R depth kind from after ts end g (greater_step z b e f) = absurd (opening_greater kind.class g b)
from_opening total R depth kind from after ts end g (opening_step o us e h) = (us, e, h)
from_opening total R depth kind from after ts end g (closing_step l d z us e h) =
    absurd (opening_closing kind.class g l)
from_opening total R depth kind from after ts end g (template_step w us vs rest q e h) =
    absurd (opening_word kind.class g w)
from_opening total R depth kind from after ts end g (other_step o n us e h) = clash _ g
    (no_bracket depth kind.class o).0

pub from_closing : (total : ℕ) (R : TemplateRelation) (depth : ℕ) (kind : Kind)
    (from after : List ℕ) (ts : List Token) (end : List ℕ) → is_closing kind.class ≡ true
    → Step total R depth kind from after ts end
    → (d : ℕ) × (depth ≡ suc d) × (us : List Token) × (ts ≡ at total kind from after ∷ us)
    × Inside total R d after us end
from_closing total R depth kind from after ts end g (greater_step z b e f) = absurd (closing_greater kind.class g b)
from_closing total R depth kind from after ts end g (opening_step o us e h) = absurd (opening_closing kind.class o g)
from_closing total R depth kind from after ts end g (closing_step l d z us e h) = (d, z, us, e, h)
from_closing total R depth kind from after ts end g (template_step w us vs rest q e h) =
    absurd (closing_word kind.class g w)
from_closing total R depth kind from after ts end g (other_step o n us e h) = clash _ g
    (no_bracket depth kind.class o).1

pub from_short_circuit : (total : ℕ) (R : TemplateRelation) (kind : Kind) (from after : List ℕ)
    (ts : List Token) (end : List ℕ) → is_short_circuit kind.class ≡ true
    → Step total R 0 kind from after ts end → ⊥
from_short_circuit total R kind from after ts end g (greater_step z b e f) = greater_short_circuit kind.class b g
from_short_circuit total R kind from after ts end g (opening_step o us e h) = opening_short_circuit kind.class o g
from_short_circuit total R kind from after ts end g (closing_step l d z us e h) = absurd cc
from_short_circuit total R kind from after ts end g (template_step w us vs rest q e h) =
    short_circuit_word kind.class g w
from_short_circuit total R kind from after ts end g (other_step o n us e h) = clash _ g (no_end kind.class o).1

no_greater : (depth c : ℕ) → depth ≡ 0 → begins_with_greater c ≡ true → goes_on depth c ≡ true → ⊥
no_greater zero c z b g = clash _ b (no_end c g).0
no_greater (suc depth) c z b g = absurd cc

pub from_other : (total : ℕ) (R : TemplateRelation) (depth : ℕ) (kind : Kind) (from after : List ℕ)
    (ts : List Token) (end : List ℕ) → goes_on depth kind.class ≡ true
    → Step total R depth kind from after ts end
    → (us : List Token) × (ts ≡ at total kind from after ∷ us) × After total R (is_word kind.class) depth after us end
from_other total R depth kind from after ts end g (greater_step z b e f) = absurd (no_greater depth kind.class z b g)
from_other total R depth kind from after ts end g (opening_step o us e h) = clash _ o (no_bracket depth kind.class g).0
from_other total R depth kind from after ts end g (closing_step l d z us e h) = clash _ l
    (no_bracket depth kind.class g).1
from_other total R depth kind from after ts end g (template_step w us vs rest q e h) =
    (us ++ vs, e, after_list w us vs rest q refl h)
from_other total R depth kind from after ts end g (other_step o n us e h) = (us, e, after_none n h)

-- and back
pub to_other : (total : ℕ) (R : TemplateRelation) (depth : ℕ) (text from after : List ℕ) (kind : Kind)
    (ts : List Token) (end : List ℕ) → raw text ≡ token kind from after → goes_on depth kind.class ≡ true
    → After total R (is_word kind.class) depth after ts end
    → Inside total R depth text (at total kind from after ∷ ts) end
to_other total R depth text from after kind ts end r g (after_list w us vs rest q e h) =
    subst (λ (x : List Token). Inside total R depth text (at total kind from after ∷ x) end) (sym e)
    (at_template depth text from after rest end kind us vs r w q h)
to_other total R depth text from after kind ts end r g (after_none n h) =
    at_other depth text from after end kind ts r g n h
