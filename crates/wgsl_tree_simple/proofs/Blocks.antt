-- The texts of the lines of a block, none of which is empty.
use Rattle.std.proofs.Common.{ℕ, ◌≡◌, refl, sym, ◌∙◌, ap, Bool, true, false, List, [], ◌∷◌, ◌++◌, codes, if◌then◌else◌}
use Rattle.std.proofs.lemmas.List.{append-nil, append_assoc}
use Rattle.std.proofs.lemmas.Grind.{flat_map-append}
use Rattle.std.specs.List.{flat_map}
use Rattle.wgsl_model.specs.Trees.Statements.{statement_node, StatementNodes, no_statements, statement_before, SwitchClauses, no_clauses, clause_before}
use Rattle.wgsl_model.specs.Printed.Joining.{joined}
use Rattle.wgsl_model.specs.Printed.Statements.{is_void, print_statement, statement_texts, print_switch_clause, clause_texts}
use Rattle.wgsl_model.proofs.Filled.{IsFilled, statement_filled, clause_filled}
use Rattle.wgsl_writer.proofs.Within.{begun}

-- a list is empty
abbrev pub is_nil : {X : Type 0} → List X → Bool
is_nil [] = true
is_nil (x ∷ xs) = false

pub not_nil : {X : Type 0} (xs : List X) (x : X) → false ≡ is_nil (xs ++ (x ∷ []))
not_nil [] x = refl
not_nil (y ∷ xs) x = refl

-- what is before the next text of a block: four spaces, and else what separates two
abbrev pub before_line : List ℕ → Bool → List ℕ
before_line separator first = if first then codes "    " else separator

-- no text, or the first is not empty
abbrev pub BeginsFilled : List (List ℕ) → Type 0
BeginsFilled [] = Unit {0}
BeginsFilled ([] ∷ ts) = ⊥
BeginsFilled ((b ∷ bs) ∷ ts) = Unit {0}

-- texts in a block, after the four spaces before the first
abbrev pub block_lines : List ℕ → List (List ℕ) → List ℕ
block_lines separator texts = begun (joined separator texts)

begun_append : (xs ys : List ℕ) → IsFilled xs → begun (xs ++ ys) ≡ begun xs ++ ys
begun_append [] ys h = absurd h
begun_append (x ∷ xs) ys h = refl

first_filled : (separator t : List ℕ) (ts : List (List ℕ)) → BeginsFilled (t ∷ ts)
    → IsFilled (joined separator (t ∷ ts))
first_filled separator [] ts h = absurd h
first_filled separator (b ∷ bs) ts h = tt

joined_more : (separator t : List ℕ) (ts : List (List ℕ)) (u : List ℕ)
    → joined separator (t ∷ (ts ++ (u ∷ []))) ≡ joined separator (t ∷ ts) ++ (separator ++ u)
joined_more separator t ts u =
    let line : List ℕ → List ℕ = λ v. separator ++ v in
    ap (λ z. t ++ z) (flat_map-append line ts (u ∷ []) ∙ ap (λ z. flat_map line ts ++ z) (append-nil (line u)))
    ∙ sym (append_assoc t (flat_map line ts) (line u))

-- one text more
pub block_more : (separator : List ℕ) (ts : List (List ℕ)) (t : List ℕ) → BeginsFilled ts → IsFilled t
    → block_lines separator ts ++ before_line separator (is_nil ts) ++ t ≡ block_lines separator (ts ++ (t ∷ []))
block_more separator [] [] begins filled = absurd filled
block_more separator [] (b ∷ bs) begins filled = ap (λ z. codes "    " ++ z) (sym (append-nil (b ∷ bs)))
block_more separator (u ∷ us) t begins filled =
    append_assoc (block_lines separator (u ∷ us)) separator t
    ∙ sym (ap begun (joined_more separator u us t)
    ∙ begun_append (joined separator (u ∷ us)) (separator ++ t) (first_filled separator u us begins))

pub begins : (t : List ℕ) (ts : List (List ℕ)) → IsFilled t → BeginsFilled (t ∷ ts)
begins [] ts h = h
begins (b ∷ bs) ts h = tt

pub statements_filled : (ss : StatementNodes) → BeginsFilled (statement_texts ss)
statements_filled no_statements = tt
statements_filled (statement_before (statement_node s span) ss) =
    let P : Bool → Type 0 = λ b. is_void s ≡ b
    → BeginsFilled (if b then statement_texts ss else print_statement s ∷ statement_texts ss) in
    (elim (is_void s) as P [
      | true ↦ λ e. statements_filled ss
      | false ↦ λ e. begins (print_statement s) (statement_texts ss) (statement_filled s e)
    ]) refl

pub clauses_filled : (cs : SwitchClauses) → BeginsFilled (clause_texts cs)
clauses_filled no_clauses = tt
clauses_filled (clause_before c cs) = begins (print_switch_clause c) (clause_texts cs) (clause_filled c)
