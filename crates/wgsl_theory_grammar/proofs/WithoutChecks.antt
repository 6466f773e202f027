-- Rules without their checks derive what the rules derive where nothing is checked.
use Rattle.std.proofs.Common.{◌≡◌, ℕ, zero, suc, List, [], inl, inr, refl}
use Rattle.grammar.specs.Tokens.{Token}
use Rattle.grammar.specs.Grammar.{Grammar, Grammar.empty, Grammar.token, Grammar.sequence, Grammar.choice, Grammar.mapped, Grammar.node, Grammar.checked, Grammar.symbol, Grammar.left_chain, Mode, Mode.unchecked, Means, Within, Part}
use Rattle.grammar.proofs.Reading.Depth.{Kept, chain_mono}
use Rattle.wgsl_theory_grammar.specs.Factored.{FactoredSymbol, body}
use Rattle.wgsl_theory_grammar.specs.Unchecked.{without_checks, syntax_body}

means_unchecked : {N : Type 0} {Value : N → Type 0} (M : Mode)
    (D E : (n : N) → Value n → List Token → List Token → Type 0) → ((n : N) → Kept (D n) (E n))
    → {A : Type 0} (g : Grammar N Value A) → Kept (Means M D (without_checks g)) (Means unchecked E g)
means_unchecked M D E H (empty a) v xs ys d = d
means_unchecked M D E H (token s) v xs ys d = d
means_unchecked M D E H (sequence g h) v xs ys d =
    (d.0, means_unchecked M D E H g v.0 xs d.0 d.1, means_unchecked M D E H h v.1 d.0 ys d.2)
means_unchecked M D E H (choice g h) v xs ys (inl d) = inl (means_unchecked M D E H g v xs ys d)
means_unchecked M D E H (choice g h) v xs ys (inr d) = inr (means_unchecked M D E H h v xs ys d)
means_unchecked M D E H (mapped f g) v xs ys d = (d.0, d.1, means_unchecked M D E H g d.0 xs ys d.2)
means_unchecked M D E H (node f g) v xs ys d = (d.0, d.1, means_unchecked M D E H g d.0 xs ys d.2)
means_unchecked M D E H (checked f g) v xs ys d = (refl, means_unchecked M D E H g v xs ys d)
means_unchecked M D E H (symbol n) v xs ys d = H n v xs ys d
means_unchecked M D E H (left_chain f g h) v xs ys d =
    chain_mono f (Means M D (without_checks g)) (Means unchecked E g) (Means M D (without_checks h))
    (Means unchecked E h) (means_unchecked M D E H g) (means_unchecked M D E H h) xs v ys d

means_stripped : {N : Type 0} {Value : N → Type 0} (M : Mode)
    (D E : (n : N) → Value n → List Token → List Token → Type 0) → ((n : N) → Kept (D n) (E n))
    → {A : Type 0} (g : Grammar N Value A) → Kept (Means unchecked D g) (Means M E (without_checks g))
means_stripped M D E H (empty a) v xs ys d = d
means_stripped M D E H (token s) v xs ys d = d
means_stripped M D E H (sequence g h) v xs ys d =
    (d.0, means_stripped M D E H g v.0 xs d.0 d.1, means_stripped M D E H h v.1 d.0 ys d.2)
means_stripped M D E H (choice g h) v xs ys (inl d) = inl (means_stripped M D E H g v xs ys d)
means_stripped M D E H (choice g h) v xs ys (inr d) = inr (means_stripped M D E H h v xs ys d)
means_stripped M D E H (mapped f g) v xs ys d = (d.0, d.1, means_stripped M D E H g d.0 xs ys d.2)
means_stripped M D E H (node f g) v xs ys d = (d.0, d.1, means_stripped M D E H g d.0 xs ys d.2)
means_stripped M D E H (checked f g) v xs ys d = means_stripped M D E H g v xs ys d.1
means_stripped M D E H (symbol n) v xs ys d = H n v xs ys d
means_stripped M D E H (left_chain f g h) v xs ys d =
    chain_mono f (Means unchecked D g) (Means M E (without_checks g)) (Means unchecked D h)
    (Means M E (without_checks h)) (means_stripped M D E H g) (means_stripped M D E H h) xs v ys d

within_unchecked : (M : Mode) (k : ℕ) (n : FactoredSymbol) → Kept (Within M syntax_body k n) (Within unchecked body k n)
within_unchecked M zero n v xs ys d = absurd d
within_unchecked M (suc k) n v xs ys d = means_unchecked M (Within M syntax_body k)
    (Within unchecked body k) (within_unchecked M k) (body n) v xs ys d

within_stripped : (M : Mode) (k : ℕ) (n : FactoredSymbol) → Kept (Within unchecked body k n) (Within M syntax_body k n)
within_stripped M zero n v xs ys d = absurd d
within_stripped M (suc k) n v xs ys d = means_stripped M (Within unchecked body k)
    (Within M syntax_body k) (within_stripped M k) (body n) v xs ys d

-- what is derived without checks in the rules is derived where they don't count
pub part_unchecked : (M : Mode) (n : FactoredSymbol) → Kept (Part M syntax_body n) (Part unchecked body n)
part_unchecked M n v xs ys (k, d) = (k, within_unchecked M k n v xs ys d)

pub part_stripped : (M : Mode) (n : FactoredSymbol) → Kept (Part unchecked body n) (Part M syntax_body n)
part_stripped M n v xs ys (k, d) = (k, within_stripped M k n v xs ys d)
