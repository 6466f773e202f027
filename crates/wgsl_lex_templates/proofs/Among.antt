-- A kind is one of some kinds where its class is one of theirs.
use Rattle.std.proofs.Common.{◌≡◌, ℕ, Bool, true, false, cond, ◌||◌, eqb, List, [], ◌∷◌, inl, inr, refl, sym, ap, ◌∙◌}
use Rattle.std.proofs.lemmas.Bool.Decides.{eqb_tells}
use Rattle.std.specs.List.{list_any}
use denote.Enum.Bare.{sameb}
use Rattle.grammar.specs.Grammar.{is_among}
use Rattle.wgsl_lex_token.specs.declared.kind_table.TokenKind.{TokenKind}
use Rattle.wgsl_lex_token.specs.contracts.kind_table.TokenKind.{the_type}
use Rattle.wgsl_lex_token.specs.View.{class_of_kind, classes}

flipped : (a b : ℕ) → eqb a b ≡ eqb b a
flipped a b =
    elim (eqb_tells a b) [
      | inl p ↦ elim (eqb_tells b a) [ inl q ↦ p.0 ∙ sym q.0 | inr q ↦ absurd (q.1 (sym p.1)) ]
      | inr p ↦ elim (eqb_tells b a) [ inl q ↦ absurd (p.1 (sym q.1)) | inr q ↦ p.0 ∙ sym q.0 ]
    ]

or_is : (a b : Bool) → (a || b) ≡ cond a true b
or_is true b = refl
or_is false b = refl

pub among : (k : TokenKind) (ks : List TokenKind)
    → list_any (λ y. sameb the_type y k) ks ≡ is_among (class_of_kind k) (classes ks)
among k [] = refl
among k (y ∷ ks) =
    ap (λ (b : Bool). b || list_any (λ x. sameb the_type x k) ks) (flipped (class_of_kind y) (class_of_kind k))
    ∙ ap (λ (b : Bool). eqb (class_of_kind k) (class_of_kind y) || b) (among k ks)
    ∙ or_is (eqb (class_of_kind k) (class_of_kind y)) (is_among (class_of_kind k) (classes ks))
