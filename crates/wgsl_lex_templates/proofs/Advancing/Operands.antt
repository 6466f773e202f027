-- What is left after the parts of an operand, and after a whole list.
use Rattle.std.proofs.Common.{◌≡◌, ℕ, Bool, true, false, cond, ◌||◌, eqb, List, [], ◌∷◌, inl, inr, refl, sym, ap, ap₂, subst, ◌∙◌, arith}
use Rattle.std.specs.Prelude.{Option, Some, None, ◌==◌, length}
use Rattle.std.specs.Borrow.{Bor}
use Rattle.std.proofs.lemmas.Bool.Decides.{eqb_tells}
use Rattle.grammar.specs.Grammar.{Grammar.symbol, is_among}
use Rattle.grammar.proofs.Reading.Sets.{cases}
use Rattle.wgsl_model.specs.Tokens.ClassTable.{SymBracketLeft, SymBracketRight, SymComma, SymParenLeft, SymParenRight, SymPeriod, Ident, ReservedWord, TemplateArgsStart}
use Rattle.wgsl_model.specs.Grammar.Symbols.{Symbol.arguments, Symbol.component, Symbol.expression, Symbol.expressions, Symbol.ident, Symbol.literal, Symbol.primary_expression, Symbol.template_list, Symbol.type_specifier}
use Rattle.wgsl_theory_grammar.specs.Tables.{begin_expressions, tables}
use Rattle.wgsl_theory_grammar.specs.Factored.{FactoredSymbol.of, FactoredSymbol.further, Further.argument_rest, Further.components, Further.template_items}
use Rattle.wgsl_lex_token.specs.declared.kind_table.TokenKind.{TokenKind}
use Rattle.wgsl_lex_token.specs.View.{classes}
use Rattle.wgsl_lex_templates.specs.Advancing.{advances, ◌>>=◌, if_there, is_next, take, take_any, turns, optional_arguments, optional_template_list, LeavesKinds}
use Rattle.wgsl_lex_templates.proofs.Advancing.Rules.{is_whole, literals, whole_list, components_at, primary_expression_at, whole_list_at, whole_rest, whole_rest_at}
use Rattle.wgsl_lex_templates.proofs.Advancing.Repeats.{Shortens, turns_are}
use Rattle.wgsl_lex_templates.proofs.Advancing.Advances.{ident_is, none_begins, rule_is, shortens}
use Rattle.wgsl_lex_templates.proofs.Advancing.Parts.{bind_alike, there_alike, bind_bind, choice_of, same_next, take_is, token_choice_is}

-- ---- components
two_choices : (a b : ℕ) (cs : List ℕ) (f g h : List ℕ → Option (List ℕ)) (other : Option (List ℕ))
    → cond (is_next (a ∷ b ∷ []) cs)
    (cond (is_next (a ∷ []) cs) (take_any (a ∷ []) cs >>= f) (take_any (b ∷ []) cs >>= g) >>= h) other
    ≡ if_there (take a cs) (λ ds. f ds >>= h) (if_there (take b cs) (λ ds. g ds >>= h) other)
unfolding take take_any
two_choices a b [] f g h other = refl
two_choices a b (c ∷ cs) f g h other = go (eqb c a) (eqb c b)
  where
    go : (p q : Bool)
        → cond (cond p true (cond q true false)) (cond (cond p true false) (cond (cond p true false)
        (Some cs) None >>= f) (cond (cond q true false) (Some cs) None >>= g) >>= h) other
        ≡ if_there (cond p (Some cs) None) (λ ds. f ds >>= h)
        (if_there (cond q (Some cs) None) (λ ds. g ds >>= h) other)
    go true q = refl
    go false true = refl
    go false false = refl

pub components_is : (cs : List ℕ) → advances (further components) cs ≡ components_at cs
unfolding components_at
components_is cs =
    let indexed : List ℕ → Option (List ℕ) =
    λ ds. advances (of expression) ds >>= λ es. take_any (SymBracketRight ∷ []) es in
    rule_is (further components) refl refl cs ∙ turns_are (SymBracketLeft ∷ SymPeriod ∷ [])
    (advances (of component)) (shortens (symbol (of component)) refl refl refl) cs
    ∙ ap (λ (x : Option (List ℕ)). cond (is_next (SymBracketLeft ∷ SymPeriod ∷ []) cs) x (Some cs))
    (ap (λ (m : Option (List ℕ)). m >>= turns (SymBracketLeft ∷ SymPeriod ∷ []) (advances (of component)))
    (rule_is (of component) refl refl cs)
    ∙ bind_alike (cond (is_next (SymBracketLeft ∷ []) cs) (take_any (SymBracketLeft ∷ []) cs
    >>= indexed) (take_any (SymPeriod ∷ []) cs >>= advances (of ident))) _ _
    (λ ds. sym (rule_is (further components) refl refl ds)))
    ∙ two_choices SymBracketLeft SymPeriod cs indexed (advances (of ident)) (advances (further components)) (Some cs)
    ∙ there_alike (take SymBracketLeft cs) _ _ _ _
    (λ ds. bind_bind (advances (of expression) ds) _ _ ∙ bind_alike (advances (of expression) ds) _ _
    (λ es. ap (λ (m : Option (List ℕ)). m >>= advances (further components)) (take_is SymBracketRight es)))
    (there_alike (take SymPeriod cs) _ _ _ _
    (λ ds. ap (λ (m : Option (List ℕ)). m >>= advances (further components)) (ident_is ds)) refl)

-- ---- primary expressions
template_is : (cs : List ℕ) → cond (is_next (TemplateArgsStart ∷ []) cs)
    (advances (of template_list) cs) (Some cs) ≡ optional_template_list cs
unfolding optional_template_list
template_is cs = choice_of TemplateArgsStart cs _ (advances (further template_items)) (Some cs)
    (rule_is (of template_list) refl refl cs)

arguments_is : (cs : List ℕ)
    → cond (is_next (SymParenLeft ∷ []) cs) (advances (of arguments) cs) (Some cs) ≡ optional_arguments cs
unfolding optional_arguments
arguments_is cs = choice_of SymParenLeft cs _ (advances (further argument_rest)) (Some cs)
    (rule_is (of arguments) refl refl cs)

named_is : (cs : List ℕ) → (advances (of type_specifier) cs
    >>= λ ds. cond (is_next (SymParenLeft ∷ []) ds) (advances (of arguments) ds) (Some ds))
    ≡ (take Ident cs >>= λ ds. optional_template_list ds >>= optional_arguments)
named_is cs =
    bind_alike (advances (of type_specifier) cs) _ optional_arguments arguments_is
    ∙ ap (λ (m : Option (List ℕ)). m >>= optional_arguments) (rule_is (of type_specifier) refl refl cs)
    ∙ bind_bind (advances (of ident) cs) _ optional_arguments
    ∙ ap (λ (m : Option (List ℕ)). m >>= λ ds. cond (is_next (TemplateArgsStart ∷ []) ds)
    (advances (of template_list) ds) (Some ds) >>= optional_arguments) (ident_is cs)
    ∙ bind_alike (take Ident cs) _ _ (λ ds. ap (λ (m : Option (List ℕ)). m >>= optional_arguments) (template_is ds))

-- a name is first where a name or a reserved word does
name_first : (cs : List ℕ) (f g : List ℕ → Option (List ℕ))
    → cond (is_next (Ident ∷ ReservedWord ∷ []) cs) (take Ident cs >>= f)
    (if_there (take_any literals cs) Some (take SymParenLeft cs >>= g))
    ≡ if_there (take Ident cs) f (if_there (take_any literals cs) Some (take SymParenLeft cs >>= g))
unfolding take take_any
name_first [] f g = refl
name_first (c ∷ cs) f g =
    elim (eqb_tells c ReservedWord) [
      | inl p ↦ subst (λ (d : ℕ). cond (is_next (Ident ∷ ReservedWord ∷ []) (d ∷ cs)) (take Ident (d ∷ cs)
          >>= f) (if_there (take_any literals (d ∷ cs)) Some (take SymParenLeft (d ∷ cs) >>= g))
          ≡ if_there (take Ident (d ∷ cs)) f (if_there (take_any literals (d ∷ cs)) Some
          (take SymParenLeft (d ∷ cs) >>= g))) (sym p.1) refl
      | inr p ↦ go (eqb c Ident) (eqb c ReservedWord) _ p.0
    ]
  where
    go : (a b : Bool) (other : Option (List ℕ)) → b ≡ false
        → cond (cond a true (cond b true false)) (cond a (Some cs) None >>= f) other
        ≡ if_there (cond a (Some cs) None) f other
    go true b other e = refl
    go false b other e = ap (λ (z : Bool). cond (cond z true false) None other) e

pub primary_expression_is : (cs : List ℕ) → advances (of primary_expression) cs ≡ primary_expression_at cs
unfolding primary_expression_at
primary_expression_is cs =
    let parenthesized : Option (List ℕ) = take_any (SymParenLeft ∷ []) cs
    >>= λ ds. advances (of expression) ds >>= λ es. take_any (SymParenRight ∷ []) es in
    rule_is (of primary_expression) refl refl cs
    ∙ ap₂ (λ (x y : Option (List ℕ)). cond (is_next (Ident ∷ ReservedWord ∷ []) cs) x y) (named_is cs)
    (ap₂ (λ (b : Bool) (x : Option (List ℕ)). cond b x parenthesized)
    (same_next (tables.first (of literal)) literals cs refl refl) (rule_is (of literal) refl refl cs)
    ∙ token_choice_is literals cs parenthesized
    ∙ ap (λ (x : Option (List ℕ)). if_there (take_any literals cs) Some x)
    (ap (λ (m : Option (List ℕ)). m >>= λ ds. advances (of expression) ds
    >>= λ es. take_any (SymParenRight ∷ []) es) (take_is SymParenLeft cs)
    ∙ bind_alike (take SymParenLeft cs) _ _
    (λ ds. bind_alike (advances (of expression) ds) _ _ (take_is SymParenRight))))
    ∙ name_first cs (λ ds. optional_template_list ds >>= optional_arguments)
    (λ ds. advances (of expression) ds >>= take SymParenRight)

-- an expression takes a token
pub expression_shortens : Shortens (advances (of expression))
expression_shortens = shortens (symbol (of expression)) refl refl refl

-- ---- a whole list
whole_end : (cs : List ℕ)
    → is_whole (cond (is_next begin_expressions cs) (advances (of expressions) cs) (Some cs))
    ≡ (is_whole (Some cs) || is_whole (advances (of expressions) cs))
whole_end [] = refl
whole_end (c ∷ cs) =
    elim (cases (is_among c begin_expressions)) [
      | inl p ↦ rw p refl
      | inr p ↦ rw p (sym (ap is_whole (none_begins (of expressions) refl refl (c ∷ cs) p)))
    ]

pub whole_list_is : (cs : List ℕ) → whole_list cs ≡ whole_list_at cs
unfolding whole_list whole_list_at whole_rest
whole_list_is cs = ap is_whole (rule_is (of expressions) refl refl cs) ∙ go (advances (of expression) cs)
  where
    rest : (ds : List ℕ) (m : Option (List ℕ)) → is_whole (if_there m
        (λ es. cond (is_next begin_expressions es) (advances (of expressions) es) (Some es)) (Some ds))
        ≡ elim m as (λ r. Bool) [
          | None ↦ is_whole (Some ds)
          | Some es ↦ is_whole (Some es) || is_whole (advances (of expressions) es)
        ]
    rest ds None = refl
    rest ds (Some es) = whole_end es

    go : (m : Option (List ℕ))
        → is_whole (m >>= λ ds. cond (is_next (SymComma ∷ []) ds) (take_any (SymComma ∷ []) ds
        >>= λ es. cond (is_next begin_expressions es) (advances (of expressions) es) (Some es)) (Some ds))
        ≡ elim m as (λ r. Bool) [
          | None ↦ false
          | Some ds ↦ elim (take SymComma ds) as (λ r. Bool) [
            | None ↦ is_whole (Some ds)
            | Some es ↦ is_whole (Some es) || is_whole (advances (of expressions) es)
          ]
        ]
    go None = refl
    go (Some ds) = ap is_whole (choice_of SymComma ds _ (λ es. cond (is_next begin_expressions es)
        (advances (of expressions) es) (Some es)) (Some ds) refl) ∙ rest ds (take SymComma ds)

-- nothing is left where there is no kind
pub no_kinds : (ks : List TokenKind) → is_whole (Some (classes ks)) ≡ (length ks == 0)
no_kinds [] = refl
no_kinds (k ∷ ks) =
    elim (eqb_tells (length (k ∷ ks)) 0) [ inl p ↦ absurd (let e = p.1 in omega (arith, e)) | inr p ↦ sym p.0 ]

or_false : (b : Bool) → (b || false) ≡ b
or_false true = refl
or_false false = refl

after_comma : (ds : List ℕ) (m : Option (List ℕ)) → advances (of expression) ds ≡ m
    → (is_whole (Some ds) || elim m as (λ r. Bool) [ None ↦ false | Some es ↦ whole_rest es ])
    ≡ elim m as (λ r. Bool) [ None ↦ is_whole (Some ds) | Some es ↦ whole_rest es ]
after_comma ds None e = or_false (is_whole (Some ds))
after_comma [] (Some es) e = absurd (let none = none_begins (of expression) refl refl [] refl in cc)
after_comma (d ∷ ds) (Some es) e = refl

end_or_list : (ds : List ℕ) → (is_whole (Some ds) || whole_list ds)
    ≡ elim (advances (of expression) ds) as (λ r. Bool) [ None ↦ is_whole (Some ds) | Some es ↦ whole_rest es ]
unfolding whole_list_at
end_or_list ds = ap (λ (b : Bool). is_whole (Some ds) || b) (whole_list_is ds)
    ∙ after_comma ds (advances (of expression) ds) refl

rest_opened : (cs : List ℕ) → whole_rest cs ≡ elim (take SymComma cs) as (λ r. Bool) [
  | None ↦ is_whole (Some cs)
  | Some ds ↦ is_whole (Some ds) || whole_list ds
]
unfolding whole_rest
rest_opened cs = refl

pub whole_rest_is : (cs : List ℕ) → whole_rest cs ≡ whole_rest_at cs
unfolding whole_rest_at
whole_rest_is cs = rest_opened cs ∙ go (take SymComma cs)
  where
    go : (m : Option (List ℕ))
        → elim m as (λ r. Bool) [ None ↦ is_whole (Some cs) | Some ds ↦ is_whole (Some ds) || whole_list ds ]
        ≡ elim m as (λ r. Bool) [
          | None ↦ is_whole (Some cs)
          | Some ds ↦ elim (advances (of expression) ds) as (λ r. Bool) [
            | None ↦ is_whole (Some ds)
            | Some es ↦ whole_rest es
          ]
        ]
    go None = refl
    go (Some ds) = end_or_list ds

-- ---- a list and its rest, by what the functions leave
pub some_left : (found : Option (Bor (List TokenKind))) (left : Bor (List TokenKind)) (m : Option (List ℕ))
    → found ≡ Some left → LeavesKinds found m → m ≡ Some (classes left.now)
some_left found left m e h = subst (λ (x : Option (Bor (List TokenKind))). LeavesKinds x m) e h

pub none_left : (found : Option (Bor (List TokenKind))) (m : Option (List ℕ))
    → found ≡ None → LeavesKinds found m → m ≡ None
none_left found m e h = subst (λ (x : Option (Bor (List TokenKind))). LeavesKinds x m) e h

pub list_begun : (cs ds : List ℕ) → advances (of expression) cs ≡ Some ds → whole_rest ds ≡ whole_list cs
unfolding whole_list_at
list_begun cs ds e = sym (whole_list_is cs ∙ ap (λ (m : Option (List ℕ)).
    elim m as (λ r. Bool) [ None ↦ false | Some ds ↦ whole_rest ds ]) e)

pub none_begun : (cs : List ℕ) → advances (of expression) cs ≡ None → whole_list cs ≡ false
unfolding whole_list_at
none_begun cs e = whole_list_is cs ∙ ap (λ (m : Option (List ℕ)).
    elim m as (λ r. Bool) [ None ↦ false | Some ds ↦ whole_rest ds ]) e

abbrev after_item : List ℕ → Option (List ℕ) → Bool
after_item ds m = elim m as (λ r. Bool) [ None ↦ is_whole (Some ds) | Some es ↦ whole_rest es ]

abbrev after_comma_in : List ℕ → Option (List ℕ) → Bool
after_comma_in cs m = elim m as (λ r. Bool) [
  | None ↦ is_whole (Some cs)
  | Some ds ↦ after_item ds (advances (of expression) ds)
]

pub item_read : (cs ds es : List ℕ) → take SymComma cs ≡ Some ds → advances (of expression) ds ≡ Some es
    → whole_rest es ≡ whole_rest cs
unfolding whole_rest_at
item_read cs ds es e f = sym (whole_rest_is cs ∙ ap (after_comma_in cs) e ∙ ap (after_item ds) f)

pub no_item : (cs ds : List ℕ) → take SymComma cs ≡ Some ds → advances (of expression) ds ≡ None
    → whole_rest cs ≡ is_whole (Some ds)
unfolding whole_rest_at
no_item cs ds e f = whole_rest_is cs ∙ ap (after_comma_in cs) e ∙ ap (after_item ds) f

pub no_comma : (cs : List ℕ) → take SymComma cs ≡ None → whole_rest cs ≡ is_whole (Some cs)
unfolding whole_rest_at
no_comma cs e = whole_rest_is cs ∙ ap (after_comma_in cs) e
