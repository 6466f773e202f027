-- Whether a template list that begins at a `<` would come to a token that begins with `>`, told
-- from the kinds of the tokens alone.
use Rattle.std.specs.Prelude.{ℕ, zero, suc, Bool, true, false, List, [], ◌∷◌, if◌then◌else◌}
use Rattle.grammar.specs.Grammar.{is_among}
use Rattle.wgsl_model.specs.Tokens.ClassTable.{Ident, KwTrue, KwFalse, SymShiftRightAssign, TemplateArgsStart, TemplateArgsEnd}
use Rattle.wgsl_model.specs.Tokens.Kind.{Kind}
use Rattle.wgsl_model.specs.Tokens.Templates.{is_word, is_opening, is_closing, begins_with_greater, is_short_circuit}
use Rattle.wgsl_theory_templates.proofs.Reaching.Roles.{is_of_expressions}

-- what a token is to a template list: a name (an identifier, `true` or `false`), another keyword, a
-- token that begins with `>`, `>>=`, an opening and a closing bracket, `&&` or `||`, a token that
-- no expression has, any other, and the ends of a template list
pub data Role : Type 0 where
  name keyword greater greater_stop opening closing short_circuit stop other template_start template_end : Role

-- the role of a class
abbrev pub role : ℕ → Role
role c =
    if is_among c (TemplateArgsStart ∷ []) then template_start
    else if is_among c (TemplateArgsEnd ∷ []) then template_end
    else if is_among c (Ident ∷ KwTrue ∷ KwFalse ∷ []) then name
    else if is_word c then keyword
    else if is_among c (SymShiftRightAssign ∷ []) then greater_stop
    else if begins_with_greater c then greater
    else if is_opening c then opening
    else if is_closing c then closing
    else if is_short_circuit c then short_circuit
    else if is_of_expressions c then other
    else stop

-- a text's own tokens, or those inside a template list
pub data Place : Type 0 where
  outside inside : Place

-- where the list ends, a template list around it ends
abbrev pub at_end : Place → Bool
at_end outside = false
at_end inside = true

-- whether, from a number of template lists and a number of brackets deep, a token that begins with
-- `>` comes before what rules a template list out
abbrev pub reach_role : Role → ℕ → ℕ → (ℕ → ℕ → Bool) → Bool
reach_role template_start k d next = next (suc k) d
reach_role template_end (suc k) d next = next k d
reach_role template_end zero zero next = true
reach_role r (suc k) d next = next (suc k) d
reach_role greater zero zero next = true
reach_role greater_stop zero zero next = true
reach_role greater_stop zero (suc d) next = false
reach_role short_circuit zero zero next = false
reach_role opening zero d next = next zero (suc d)
reach_role closing zero zero next = false
reach_role closing zero (suc d) next = next zero d
reach_role keyword zero d next = false
reach_role stop zero d next = false
reach_role r zero d next = next zero d

abbrev pub reach : Place → ℕ → ℕ → List Kind → Bool
reach p k d [] = at_end p
reach p k d (t ∷ ts) = reach_role (role t.class) k d (λ j e. reach p j e ts)

-- how many tokens are before the one that is reached
abbrev pub ahead_role : Role → ℕ → ℕ → (ℕ → ℕ → ℕ) → ℕ
ahead_role template_start k d next = suc (next (suc k) d)
ahead_role template_end (suc k) d next = suc (next k d)
ahead_role template_end zero zero next = 0
ahead_role r (suc k) d next = suc (next (suc k) d)
ahead_role greater zero zero next = 0
ahead_role greater_stop zero d next = 0
ahead_role short_circuit zero zero next = 0
ahead_role opening zero d next = suc (next zero (suc d))
ahead_role closing zero zero next = 0
ahead_role closing zero (suc d) next = suc (next zero d)
ahead_role keyword zero d next = 0
ahead_role stop zero d next = 0
ahead_role r zero d next = suc (next zero d)

abbrev pub ahead : ℕ → ℕ → List Kind → ℕ
ahead k d [] = 0
ahead k d (t ∷ ts) = ahead_role (role t.class) k d (λ j e. ahead j e ts)
