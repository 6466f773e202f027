-- Lists of parameters and declarations, item by item.
use Rattle.std.proofs.Common.{◌≡◌, ◌∙◌, ℕ, zero, suc, cond, List, [], ◌∷◌, ◌++◌, length, refl, sym, ap, append_assoc, append-nil}
use Rattle.grammar.specs.Tokens.{Span}
use Rattle.grammar.specs.Grammar.{Grammar.symbol}
use Rattle.grammar.specs.States.{State, Read, Read.done, Read.stop, Stop, ◌>>=◌, is_at, is_any, next_start, take, turns_in, turns}
use Rattle.grammar.proofs.Reading.Beginnings.{pick}
use Rattle.grammar.proofs.Binding.{bind_associates, bind_alike}
use Rattle.grammar.proofs.States.{turns_are, shortens}
use Rattle.grammar.proofs.Lists.{separated, after_none}
use Rattle.wgsl_model.specs.Tokens.ClassTable.{SymComma, SymParenRight}
use Rattle.wgsl_model.specs.Trees.Spanned.{Spanned}
use Rattle.wgsl_model.specs.Trees.Units.{FormalParameter, GlobalDeclaration}
use Rattle.wgsl_model.specs.Grammar.Symbols.{Symbol.formal_parameter, Symbol.global_declaration}
use Rattle.wgsl_theory_grammar.specs.Factored.{FactoredSymbol.of, FactoredSymbol.further, Further.parameter_rest, Further.parameter_more, body}
use Rattle.wgsl_theory_grammar.specs.Tables.{begin_global_declaration, rank_limit, tables}
use Rattle.wgsl_theory_grammar.specs.Reader.{reader}
use Rattle.wgsl_theory_grammar.proofs.Passes.{passes}
use Rattle.wgsl_theory_grammar.proofs.Reader.{step}
use Rattle.wgsl_theory_grammar.specs.UnitRules.{declaration_list_at}
use Rattle.wgsl_theory_grammar.proofs.UnitEquations.{declaration_list_is}
use Rattle.wgsl_read_expression.proofs.Growing.{bind_pick}
use Rattle.wgsl_read_unit.specs.Parts.{further_declarations_at}

-- ---- parameters
-- the parameters after some
unfoldable pub parameters_from : List FormalParameter → State → Read (List FormalParameter)
parameters_from ps s = reader (further parameter_rest) s >>= λ m s'. done (ps ++ m) s'

-- one more, where the list is not closed
unfoldable pub parameters_turn : List FormalParameter → State → Read (List FormalParameter)
parameters_turn ps s = cond (is_at SymParenRight s) (take SymParenRight s >>= λ t s'. done ps s')
    (reader (of formal_parameter) s >>= λ p s'. cond (is_at SymComma s') (take SymComma s' >>= λ t s''.
    parameters_from (ps ++ (p ∷ [])) s'') (take SymParenRight s' >>= λ t s''. done (ps ++ (p ∷ [])) s''))

pub parameters_is : (s : State) → reader (further parameter_rest) s ≡ parameters_from [] s
unfolding parameters_from
parameters_is s = after_none (reader (further parameter_rest) s)

pub parameters_are : (ps : List FormalParameter) (s : State) → parameters_from ps s ≡ parameters_turn ps s
unfolding parameters_from parameters_turn
parameters_are ps s = separated (reader (further parameter_rest)) (reader (further parameter_more))
    (reader (of formal_parameter)) _ _ (step (further parameter_rest)) (step (further parameter_more)) ps s

-- ---- declarations
abbrev Declarations : Type 0
Declarations = List (Spanned GlobalDeclaration)

-- one declaration more
abbrev grown : Declarations → Spanned GlobalDeclaration → Span → Declarations
grown xs x span = xs ++ (x ∷ [])

-- a number of further declarations at most
abbrev turns_of : ℕ → ℕ → Declarations → State → Read Declarations
turns_of k start ds s = turns_in k grown begin_global_declaration (reader (of global_declaration)) start ds s

-- where they are said to begin is nothing to them
same_turns : (k i j : ℕ) (ds : Declarations) (s : State) → turns_of k i ds s ≡ turns_of k j ds s
same_turns zero i j ds s = refl
same_turns (suc k) i j ds s =
    ap (λ (m : Read Declarations). pick (is_any begin_global_declaration s) m (done ds s))
    (bind_alike (reader (of global_declaration) s) _ _ (λ d s' h. same_turns k i j (ds ++ (d ∷ [])) s'))

-- those after some are put after them
turns_after : (k i : ℕ) (xs ys : Declarations) (s : State)
    → (turns_of k i ys s >>= λ zs s'. done (xs ++ zs) s') ≡ turns_of k i (xs ++ ys) s
turns_after zero i xs ys s = bind_pick (is_any begin_global_declaration s) (stop Stop.never)
    (done ys s) (λ zs s'. done (xs ++ zs) s')
turns_after (suc k) i xs ys s =
    let put : Declarations → State → Read Declarations = λ zs s'. done (xs ++ zs) s' in
    let one : Read (Spanned GlobalDeclaration) = reader (of global_declaration) s in
    let turn : Spanned GlobalDeclaration → State → Read Declarations = λ d s'. turns_of k i (ys ++ (d ∷ [])) s' in
    bind_pick (is_any begin_global_declaration s) (one >>= turn) (done ys s) put
    ∙ ap (λ (m : Read Declarations). pick (is_any begin_global_declaration s) m (done (xs ++ ys) s))
    (bind_associates one turn put ∙ bind_alike one _ _ (λ d s' h. turns_after k i xs (ys ++ (d ∷ [])) s'
    ∙ ap (λ (z : Declarations). turns_of k i z s') (sym (append_assoc xs ys (d ∷ [])))))

further_turns : (start : ℕ) (ds : Declarations) (s : State) → further_declarations_at ds s
    ≡ turns grown begin_global_declaration (reader (of global_declaration)) start ds s
unfolding further_declarations_at declaration_list_at
further_turns start ds s =
    ap (λ (m : Read Declarations). m >>= λ more s'. done (ds ++ more) s')
    (declaration_list_is s ∙ same_turns (length s.rest) (next_start s) start [] s)
    ∙ turns_after (length s.rest) start ds [] s
    ∙ ap (λ (z : Declarations). turns_of (length s.rest) start z s) (append-nil ds)

-- one more, where the next token begins one
unfoldable pub further_turn : Declarations → State → Read Declarations
further_turn ds s = cond (is_any begin_global_declaration s)
    (reader (of global_declaration) s >>= λ d s'. further_declarations_at (ds ++ (d ∷ [])) s') (done ds s)

pub further_are : (ds : Declarations) (s : State) → further_declarations_at ds s ≡ further_turn ds s
unfolding further_turn reader
further_are ds s =
    further_turns (next_start s) ds s
    ∙ turns_are grown begin_global_declaration (reader (of global_declaration)) (shortens tables
    body rank_limit passes (symbol (of global_declaration)) refl refl refl) (next_start s) ds s
    ∙ ap (λ (m : Read Declarations). cond (is_any begin_global_declaration s) m (done ds s)) (bind_alike
    (reader (of global_declaration) s) _ _ (λ d s' h. sym (further_turns (next_start s) (ds ++ (d ∷ [])) s')))
