-- Tokens that no list of expressions holds.
use Rattle.std.proofs.Common.{◌≡◌, ℕ, true, false, not, ◌||◌, List, [], ◌∷◌, ◌++◌, refl, sym, subst, ◌∙◌, append-nil}
use Rattle.grammar.specs.Tokens.{Token}
use Rattle.grammar.specs.Grammar.{is_among}
use Rattle.grammar.specs.Tables.{disjoint}
use Rattle.grammar.proofs.Reading.Sets.{clash}
use Rattle.wgsl_model.specs.Tokens.ClassTable.{SymGreaterThan, SymGreaterThanEqual, SymShiftRight, SymShiftRightAssign}
use Rattle.wgsl_model.specs.Tokens.Templates.{begins_with_greater}
use Rattle.wgsl_model.specs.Grammar.Symbols.{Symbol, Symbol.ident, Symbol.expressions}
use Rattle.wgsl_theory_grammar.proofs.Faults.WrittenEnds.{in_expression}
use Rattle.wgsl_theory_grammar.proofs.Faults.Avoids.{NoneOf, none_of, takes_only}
use Rattle.wgsl_theory_grammar.specs.Tokens.Refuted.{in_no_expression}
use Rattle.wgsl_theory_grammar.proofs.Tokens.Classes.{in_both}
use Rattle.wgsl_theory_grammar.proofs.Tokens.CheckedRules.{checked_rule, expression_takes}
use Rattle.wgsl_theory_grammar.proofs.Tokens.Decided.{IsList}

taken : (n : Symbol)
    → (not (in_expression n) || takes_only (λ s. disjoint s in_no_expression) in_expression (checked_rule n)) ≡ true
taken ident = refl
taken n = refl

none_before : (cs : List ℕ) (us : List Token) (t : Token) (vs : List Token)
    → NoneOf cs (us ++ (t ∷ vs)) → is_among t.class cs ≡ false
none_before cs [] t vs h = h.0
none_before cs (u ∷ us) t vs h = none_before cs us t vs h.1

-- a list of expressions holds none of them
pub refuted : (us : List Token) (t : Token) (vs : List Token)
    → is_among t.class in_no_expression ≡ true → IsList (us ++ (t ∷ vs)) → ⊥
refuted us t vs m (v, d) =
    let w = expression_takes (none_of in_no_expression) taken expressions refl v (us ++ (t ∷ vs)) [] d in
    clash _ m (none_before in_no_expression us t vs (subst (NoneOf in_no_expression) (sym (w.1 ∙ append-nil w.0)) w.2))

-- none of them begins with `>`
pub none_greater : (c : ℕ) → is_among c in_no_expression ≡ true → begins_with_greater c ≡ true → ⊥
none_greater c m g = in_both c
    (SymGreaterThan ∷ SymGreaterThanEqual ∷ SymShiftRight ∷ SymShiftRightAssign ∷ [])
    in_no_expression refl g m
