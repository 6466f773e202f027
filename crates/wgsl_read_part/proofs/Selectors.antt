-- The selectors of a clause of `switch` by their parts.
use Rattle.std.proofs.Common.{◌≡◌, ◌∙◌, sym, ap, List, [], ◌∷◌, ◌++◌, cond, append_assoc}
use Rattle.grammar.specs.Grammar.{Grammar.empty, Grammar.symbol}
use Rattle.grammar.specs.Notation.{◌then◌, ◌or◌, ◌▹◌}
use Rattle.grammar.specs.States.{State, Read, Read.done, ◌>>=◌, is_at, is_any, take, go}
use Rattle.grammar.proofs.Lists.{after_none}
use Rattle.grammar.proofs.Binding.{bind_associates, bind_alike, bind_cond, pair_goes_on}
use Rattle.wgsl_model.specs.Tokens.ClassTable.{SymComma}
use Rattle.wgsl_model.specs.Trees.Statements.{CaseSelector}
use Rattle.wgsl_model.specs.Grammar.Symbols.{Symbol.case_selector}
use Rattle.wgsl_theory_grammar.specs.Factored.{FactoredSymbol.of, FactoredSymbol.further, Further.selectors, FactoredRule}
use Rattle.wgsl_theory_grammar.specs.Tables.{tables, begin_case_selector}
use Rattle.wgsl_theory_grammar.specs.Reader.{reader}
use Rattle.wgsl_theory_grammar.specs.StatementRules.{selectors_at}
use Rattle.wgsl_theory_grammar.proofs.StatementEquations.{selectors_is}
use Rattle.wgsl_read_simple.proofs.Binding.{token_before}

-- a comma and more, or nothing, after the selectors that were read so far
unfoldable pub selectors_after : List CaseSelector → State → Read (List CaseSelector)
selectors_after selected s = cond (is_at SymComma s)
    (take SymComma s >>= λ t s'. cond (is_any begin_case_selector s') (reader (further selectors) s'
    >>= λ more s''. done (selected ++ more) s'') (done selected s')) (done selected s)

unfoldable pub selectors_turn : List CaseSelector → State → Read (List CaseSelector)
selectors_turn selected s = cond (is_at SymComma s)
    (take SymComma s >>= λ t s'. cond (is_any begin_case_selector s') (reader (of case_selector) s'
    >>= λ c s''. selectors_after (selected ++ c ∷ []) s'') (done selected s')) (done selected s)

-- as the grammar writes what follows a selector
abbrev selectors_more : FactoredRule (List CaseSelector)
selectors_more = SymComma ▹ (symbol (further selectors) or empty []) or empty []

more_is : (l : List CaseSelector) (c : CaseSelector) (s : State)
    → (go tables reader selectors_more s >>= λ more s'. done (l ++ (c ∷ more)) s') ≡ selectors_after (l ++ (c ∷ [])) s
unfolding selectors_after
more_is l c s =
    bind_cond (is_at SymComma s) (go tables reader (SymComma ▹ (symbol (further selectors) or empty [])) s)
    (done [] s) (λ more s'. done (l ++ (c ∷ more)) s')
    ∙ ap (λ m. cond (is_at SymComma s) m (done (l ++ (c ∷ [])) s))
    (token_before (take SymComma s) (go tables reader (symbol (further selectors) or empty []))
    (λ more s'. done (l ++ (c ∷ more)) s')
    ∙ bind_alike (take SymComma s) _ _ (λ t s' h. bind_cond (is_any begin_case_selector s')
    (reader (further selectors) s') (done [] s') (λ more s''. done (l ++ (c ∷ more)) s'')
    ∙ ap (λ m. cond (is_any begin_case_selector s') m (done (l ++ (c ∷ [])) s')) (bind_alike (reader
    (further selectors) s') _ _ (λ more s'' h'. ap (λ xs. done xs s'') (sym (append_assoc l (c ∷ []) more))))))

-- after some
selectors_from : (l : List CaseSelector) (s : State)
    → (reader (further selectors) s >>= λ more s'. done (l ++ more) s')
    ≡ (reader (of case_selector) s >>= λ c s'. selectors_after (l ++ c ∷ []) s')
unfolding selectors_at
selectors_from l s =
    ap (λ m. m >>= λ more s'. done (l ++ more) s') (selectors_is s)
    ∙ bind_associates (go tables reader (symbol (of case_selector) then selectors_more) s)
    (λ p s'. done (p.0 ∷ p.1) s') (λ more s'. done (l ++ more) s')
    ∙ pair_goes_on (reader (of case_selector) s) (go tables reader selectors_more) (λ p s'. done (l ++ (p.0 ∷ p.1)) s')
    ∙ bind_alike (reader (of case_selector) s) _ _ (λ c s' h. more_is l c s')

pub selectors_are : (selected : List CaseSelector) (s : State) → selectors_after selected s ≡ selectors_turn selected s
unfolding selectors_after selectors_turn
selectors_are l s = ap (λ m. cond (is_at SymComma s) m (done l s)) (bind_alike (take SymComma s) _ _
    (λ t s' h. ap (λ m. cond (is_any begin_case_selector s') m (done l s')) (selectors_from l s')))

-- the first, and those after it
unfoldable pub selectors_parts : State → Read (List CaseSelector)
selectors_parts s = reader (of case_selector) s >>= λ c s'. selectors_after (c ∷ []) s'

pub selectors_by_parts : (s : State) → reader (further selectors) s ≡ selectors_parts s
unfolding selectors_parts
selectors_by_parts s = after_none (reader (further selectors) s) ∙ selectors_from [] s
