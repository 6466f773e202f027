-- Classes of tokens that may replace others.
use Rattle.std.proofs.Common.{◌≡◌, ◌↔◌, ℕ, true, false, List, [], ◌∷◌, ◌++◌, map, inr, refl, sym, ap, subst, ◌∙◌}
use Rattle.std.proofs.lemmas.List.{map-append}
use Rattle.grammar.specs.Tokens.{Token}
use Rattle.grammar.proofs.Reading.Sets.{clash}
use Rattle.wgsl_model.specs.Tokens.ClassTable.{Ident, SymComma, SymParenLeft, SymParenRight}
use Rattle.wgsl_model.specs.Grammar.Symbols.{Symbol.expression}
use Rattle.wgsl_theory_grammar.specs.Factored.{FactoredSymbol.of}
use Rattle.wgsl_theory_grammar.proofs.Tokens.Decided.{IsList}
use Rattle.wgsl_theory_templates.specs.Exchanged.{Exchanged}
use Rattle.wgsl_theory_templates.proofs.Swaps.Swapped.{IsOne, Swapped, no_tokens, one_token, one_enclosed}
use Rattle.wgsl_theory_templates.proofs.Swaps.SwapRules.{one_is_list}
use Rattle.wgsl_theory_templates.proofs.Swaps.Exchanges.{unchanged, exchanged, exchanged_again, both_exchanged}
use Rattle.wgsl_lex_templates.specs.Advancing.{advances, token_of_class}
use Rattle.wgsl_lex_templates.specs.ExpressionLists.{classes_of}
use Rattle.wgsl_lex_templates.specs.Shortened.{in_parentheses, MayReplace}
use Rattle.wgsl_lex_templates.proofs.Advancing.Rules.{is_whole, whole_list}
use Rattle.wgsl_lex_templates.proofs.Advancing.Advances.{bare_classes}
use Rattle.wgsl_lex_templates.proofs.Advancing.Decided.{decided, one_decided}

-- ---- tokens of the same classes
swapped_classes : (us vs : List Token) → classes_of us ≡ classes_of vs → Swapped us vs
swapped_classes [] [] e = no_tokens
swapped_classes [] (v ∷ vs) e = absurd cc
swapped_classes (u ∷ us) [] e = absurd cc
swapped_classes (u ∷ us) (v ∷ vs) e =
    let h : u.class ≡ v.class = cc in let t : classes_of us ≡ classes_of vs = cc in
    one_token u v us vs h (swapped_classes us vs t)

pub of_classes : (us vs : List Token) → classes_of us ≡ classes_of vs → Exchanged us vs
of_classes us vs e = exchanged us vs (swapped_classes us vs e)

-- ---- classes
pub replaced_same : (cs ds : List ℕ) → cs ≡ ds → MayReplace cs ds
replaced_same cs ds e = subst (λ (x : List ℕ). MayReplace cs x) e (unchanged (map token_of_class cs))

pub replaced_again : (bs cs ds : List ℕ) → MayReplace bs cs → MayReplace cs ds → MayReplace bs ds
replaced_again bs cs ds = exchanged_again (map token_of_class bs) (map token_of_class cs) (map token_of_class ds)

parts : (before cs after : List ℕ) → map token_of_class (before ++ (cs ++ after))
    ≡ map token_of_class before ++ (map token_of_class cs ++ map token_of_class after)
parts before cs after = map-append token_of_class before (cs ++ after)
    ∙ ap (λ (x : List Token). map token_of_class before ++ x) (map-append token_of_class cs after)

-- between others
pub replaced_between : (before cs ds after : List ℕ) → MayReplace cs ds
    → MayReplace (before ++ (cs ++ after)) (before ++ (ds ++ after))
replaced_between before cs ds after h =
    let bs = map token_of_class before in
    let us = map token_of_class cs in
    let vs = map token_of_class ds in
    let rest = map token_of_class after in
    subst (λ (x : List Token). Exchanged x (map token_of_class (before ++ (ds ++ after)))) (sym (parts before cs after))
    (subst (λ (x : List Token). Exchanged (bs ++ (us ++ rest)) x) (sym (parts before ds after))
    (both_exchanged bs bs (us ++ rest) (vs ++ rest) (unchanged bs) (both_exchanged us vs rest rest h (unchanged rest))))

-- ---- what is between parentheses
within : (cs : List ℕ) → map token_of_class (in_parentheses cs)
    ≡ token_of_class SymParenLeft ∷ (map token_of_class cs ++ (token_of_class SymParenRight ∷ []))
within cs = ap (λ (x : List Token). token_of_class SymParenLeft ∷ x) (map-append token_of_class cs (SymParenRight ∷ []))

content_replaced : (cs ds : List ℕ) → IsList (map token_of_class cs) → IsList (map token_of_class ds)
    → (IsOne (map token_of_class cs) ↔ IsOne (map token_of_class ds))
    → MayReplace (in_parentheses cs) (in_parentheses ds)
content_replaced cs ds l m o =
    let us = map token_of_class cs in
    let vs = map token_of_class ds in
    let start = token_of_class SymParenLeft in
    let end = token_of_class SymParenRight in
    subst (λ (x : List Token). Exchanged x (map token_of_class (in_parentheses ds))) (sym (within cs))
    (subst (λ (x : List Token). Exchanged (start ∷ (us ++ (end ∷ []))) x) (sym (within ds))
    (exchanged (start ∷ (us ++ (end ∷ []))) (start ∷ (vs ++ (end ∷ []))) (one_enclosed start end
    start end us vs [] [] (inr ((refl, refl, l), (refl, refl, m), o)) no_tokens)))

-- a name is one expression, and a name with a comma after it is a list and not one
name_is_one : is_whole (advances (of expression) (Ident ∷ [])) ≡ true
unfolding advances
name_is_one = refl

names_are_list : whole_list (Ident ∷ SymComma ∷ []) ≡ true
unfolding whole_list advances
names_are_list = refl

names_are_not_one : is_whole (advances (of expression) (Ident ∷ SymComma ∷ [])) ≡ false
unfolding advances
names_are_not_one = refl

-- in place of one expression
pub one_replaced : (ds : List ℕ) → IsOne (map token_of_class ds)
    → MayReplace (in_parentheses (Ident ∷ [])) (in_parentheses ds)
one_replaced ds o =
    let name = (one_decided (Ident ∷ []) (map token_of_class (Ident ∷ [])) (bare_classes (Ident ∷ []))).0 name_is_one in
    content_replaced (Ident ∷ []) ds (one_is_list (map token_of_class (Ident ∷ [])) name)
    (one_is_list (map token_of_class ds) o) (λ x. o, λ x. name)

-- in place of a list that is not one
pub list_replaced : (ds : List ℕ) → IsList (map token_of_class ds) → (IsOne (map token_of_class ds) → ⊥)
    → MayReplace (in_parentheses (Ident ∷ SymComma ∷ [])) (in_parentheses ds)
list_replaced ds l n =
    let cs = Ident ∷ SymComma ∷ [] in
    let us = map token_of_class cs in
    content_replaced cs ds ((decided cs us (bare_classes cs)).0 names_are_list) l
    (λ o. clash _ ((one_decided cs us (bare_classes cs)).1 o) names_are_not_one, λ o. absurd (n o))
