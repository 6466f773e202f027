-- What it means that renamed tokens derive a renamed value.
use Rattle.std.proofs.Common.{◌≡◌, ℕ, List, [], ◌∷◌, map, length, ◌-◌, zero, suc, refl, ap, ◌∙◌, inl, inr}
use Rattle.std.specs.Option.{option_map}
use Rattle.grammar.specs.Tokens.{Token, last_end, span_of, first_tokens, span_between}
use Rattle.wgsl_model.specs.Trees.Expressions.{ExpressionNode}
use Rattle.wgsl_model.specs.Trees.Statements as tree
use Rattle.wgsl_model.specs.Grammar.Checks.{var_kind_of, attribute_node}
use Rattle.wgsl_model.specs.Grammar.Symbols.{Symbol, ident, type_specifier, template_list, expressions, call, arguments, literal, primary_expression, singular_expression, component, unary_expression, multiplicative_expression, negated_expression, additive_expression, shift_expression, relational_expression, expression, lhs_expression, attribute, compound_statement, statement, const_assert, switch_clause, case_selector, continuing_statement, for_init, for_update, var_template, typed_ident, struct_member, formal_parameter, global_declaration, var_declaration, const_declaration, override_declaration, alias_declaration, struct_declaration, function_declaration, diagnostic_severity, global_directive, enable_directive, requires_directive, diagnostic_directive, unit, Value}
use Rattle.wgsl_model_names.specs.Renamed.{Renaming, renamed_expression, renamed_node, renamed_call, renamed_type, renamed_attribute, renamed_spanned, renamed_attributed, renamed_assert, renamed_selector, renaming, renamed_compound, renamed_member, renamed_parameter, renamed_global, renamed_directive, renamed_unit}
use Rattle.wgsl_model_names.specs.RenamedTokens.{renamed_token, IsRenamedToken, AreRenamedTokens}
use Rattle.wgsl_theory_reread.proofs.Again.{D}

-- ---- values
-- the same value
abbrev pub kept : {A : Type 0} → A → A
kept a = a

-- statements and their parts, renamed
abbrev pub renamed_statement : Renaming → tree.Statement → tree.Statement
renamed_statement f = tree.changed_statement (renaming f)

abbrev pub renamed_statement_node : Renaming → tree.StatementNode → tree.StatementNode
renamed_statement_node f = tree.changed_node (renaming f)

abbrev pub renamed_switch_clause : Renaming → tree.SwitchClause → tree.SwitchClause
renamed_switch_clause f = tree.changed_switch_clause (renaming f)

abbrev pub renamed_continuing : Renaming → tree.ContinuingStatement → tree.ContinuingStatement
renamed_continuing f = tree.changed_continuing (renaming f)

-- a value of a symbol is another one, renamed; a component makes of a renamed base what the other
-- makes of the base, renamed
abbrev pub Renamed : Renaming → (n : Symbol) → Value n → Value n → Type 0
Renamed f ident w v = w ≡ renamed_token f v
Renamed f type_specifier w v = w ≡ renamed_type f v
Renamed f template_list w v = w ≡ map (renamed_node f) v
Renamed f expressions w v = w ≡ map (renamed_node f) v
Renamed f call w v = w ≡ renamed_call f v
Renamed f arguments w v = w ≡ map (renamed_node f) v
Renamed f literal w v = w ≡ v
Renamed f primary_expression w v = w ≡ renamed_node f v
Renamed f singular_expression w v = w ≡ renamed_node f v
Renamed f component w v = (x y : ExpressionNode) → x ≡ renamed_node f y → w x ≡ renamed_expression f (v y)
Renamed f unary_expression w v = w ≡ renamed_node f v
Renamed f multiplicative_expression w v = w ≡ renamed_node f v
Renamed f negated_expression w v = w ≡ renamed_node f v
Renamed f additive_expression w v = w ≡ renamed_node f v
Renamed f shift_expression w v = w ≡ renamed_node f v
Renamed f relational_expression w v = w ≡ renamed_node f v
Renamed f expression w v = w ≡ renamed_node f v
Renamed f lhs_expression w v = w ≡ renamed_node f v
Renamed f attribute w v = attribute_node w ≡ renamed_spanned (renamed_attribute f) (attribute_node v)
Renamed f compound_statement w v = w ≡ renamed_compound f v
Renamed f statement w v = w ≡ renamed_statement_node f v
Renamed f const_assert w v = w ≡ renamed_attributed f (renamed_assert f) v
Renamed f switch_clause w v = w ≡ renamed_switch_clause f v
Renamed f case_selector w v = w ≡ renamed_selector f v
Renamed f continuing_statement w v = w ≡ renamed_continuing f v
Renamed f for_init w v = w ≡ renamed_statement_node f v
Renamed f for_update w v = w ≡ renamed_statement_node f v
Renamed f var_template w v = var_kind_of w ≡ var_kind_of v
Renamed f typed_ident w v = (w.0 ≡ f v.0) × (w.1 ≡ option_map (renamed_type f) v.1)
Renamed f struct_member w v = w ≡ renamed_spanned (renamed_member f) v
Renamed f formal_parameter w v = w ≡ renamed_parameter f v
Renamed f global_declaration w v = w ≡ renamed_spanned (renamed_global f) v
Renamed f var_declaration w v = w ≡ renamed_global f v
Renamed f const_declaration w v = w ≡ renamed_global f v
Renamed f override_declaration w v = w ≡ renamed_global f v
Renamed f alias_declaration w v = w ≡ renamed_global f v
Renamed f struct_declaration w v = w ≡ renamed_global f v
Renamed f function_declaration w v = w ≡ renamed_global f v
Renamed f diagnostic_severity w v = w ≡ v
Renamed f global_directive w v = w ≡ renamed_directive f v
Renamed f enable_directive w v = w ≡ renamed_directive f v
Renamed f requires_directive w v = w ≡ renamed_directive f v
Renamed f diagnostic_directive w v = w ≡ renamed_directive f v
Renamed f unit w v = w ≡ renamed_unit f v
Renamed f n w v = w ≡ renamed_statement f v

-- ---- derivations
-- from renamed tokens of xs up to zs P derives a value that is so
pub record Renewed (f : Renaming) {A : Type 0} (P : A → List Token → List Token → Type 0)
    (Like : A → Type 0) (xs zs : List Token) : Type 0 where
  pub value : A
  pub tokens : List Token
  pub renamed : AreRenamedTokens f xs tokens
  pub like : Like value
  pub derived : P value tokens zs

-- whichever renamed tokens of ys are after it
abbrev pub Renews : Renaming → {A : Type 0} → (A → List Token → List Token → Type 0) → (A → A → Type 0) → A
    → List Token → List Token → Type 0
Renews f P like v xs ys = (zs : List Token) → AreRenamedTokens f ys zs → Renewed f P (λ w. like w v) xs zs

-- a symbol derives the same value, and the renamed one
abbrev pub Renames : Renaming → (n : Symbol) → Value n → List Token → List Token → Type 0
Renames f n v xs ys = Renews f (D n) (λ w u. w ≡ u) v xs ys × Renews f (D n) (Renamed f n) v xs ys

-- ---- places
-- renamed tokens are as many, and where the tokens are
same_length : (f : Renaming) (xs us : List Token) → AreRenamedTokens f xs us → length us ≡ length xs
same_length f [] [] e = refl
same_length f [] (u ∷ us) e = absurd e
same_length f (x ∷ xs) [] e = absurd e
same_length f (x ∷ xs) (u ∷ us) e = ap suc (same_length f xs us e.1)

first_renamed : (f : Renaming) (n : ℕ) (xs us : List Token) → AreRenamedTokens f xs us
    → AreRenamedTokens f (first_tokens n xs) (first_tokens n us)
first_renamed f zero xs us e = tt
first_renamed f (suc n) [] [] e = tt
first_renamed f (suc n) [] (u ∷ us) e = absurd e
first_renamed f (suc n) (x ∷ xs) [] e = absurd e
first_renamed f (suc n) (x ∷ xs) (u ∷ us) e = (e.0, first_renamed f n xs us e.1)

same_start : (f : Renaming) (t u : Token) → IsRenamedToken f t u → u.start ≡ t.start
same_start f t u (inl e) = ap (λ (x : Token). x.start) e
same_start f t u (inr e) = ap (λ (x : Token). x.start) e.1

same_end : (f : Renaming) (t u : Token) → IsRenamedToken f t u → u.end ≡ t.end
same_end f t u (inl e) = ap (λ (x : Token). x.end) e
same_end f t u (inr e) = ap (λ (x : Token). x.end) e.1

same_last : (f : Renaming) (place other : ℕ) (xs us : List Token) → other ≡ place → AreRenamedTokens f xs us
    → last_end other us ≡ last_end place xs
same_last f place other [] [] same e = same
same_last f place other [] (u ∷ us) same e = absurd e
same_last f place other (x ∷ xs) [] same e = absurd e
same_last f place other (x ∷ xs) (u ∷ us) same e = same_last f x.end u.end xs us (same_end f x u e.0) e.1

same_span_of : (f : Renaming) (xs us : List Token) → AreRenamedTokens f xs us → span_of us ≡ span_of xs
same_span_of f [] [] e = refl
same_span_of f [] (u ∷ us) e = absurd e
same_span_of f (x ∷ xs) [] e = absurd e
same_span_of f (x ∷ xs) (u ∷ us) e = λ i. record {
  start = same_start f x u e.0 i;
  end = same_last f x.end u.end xs us (same_end f x u e.0) e.1 i;
}

pub same_span : (f : Renaming) (xs ys us zs : List Token) → AreRenamedTokens f xs us → AreRenamedTokens f ys zs
    → span_between us zs ≡ span_between xs ys
same_span f xs ys us zs e k =
    ap (λ (n : ℕ). span_of (first_tokens n us))
    ((λ i. same_length f xs us e i - same_length f ys zs k i))
    ∙ same_span_of f (first_tokens (length xs - length ys) xs) (first_tokens (length xs - length ys) us)
    (first_renamed f (length xs - length ys) xs us e)
