-- The tokens ahead bind as the operators do.
use Rattle.std.proofs.Common.{◌≡◌, ℕ, ◌&&◌, ◌==◌, Bool, true, false, cond, nat_le, refl, ap₂, List, [], ◌∷◌, ◌++◌}
use Rattle.std.specs.List.{list_all}
use Rattle.grammar.specs.Grammar.{is_among}
use Rattle.wgsl_model.specs.Tokens.ClassTable.{SymAndAnd, SymOrOr, SymOr, SymXor, SymAnd, SymShiftLeft, SymShiftRight, SymPlus, SymMinus, SymMinusMinus, SymStar, SymForwardSlash, SymModulo}
use Rattle.wgsl_model_tidy.specs.Pieces.{Piece}
use Rattle.wgsl_model_tidy.specs.Layout.{Layout}
use Rattle.wgsl_model_tidy.specs.Roles.{Role, binary, precedence}
use Rattle.wgsl_model_tidy.specs.Open.{together, LayoutState, role_in, after_token}
use Rattle.wgsl_model_tidy.specs.Ahead.{Ahead, is_comment, operand_follows, after_comment, token_ahead, tokens_ahead}
use Rattle.wgsl_format_layout.specs.Spots.{is_known}
use Rattle.wgsl_format_layout.proofs.Deeper.{both}

known_precedence : (r : Role) (class : ℕ) → nat_le (precedence r class) 7 ≡ true
known_precedence binary class =
    go (class == SymOrOr) (class == SymAndAnd) (is_among class (SymOr ∷ SymXor ∷ SymAnd ∷ []))
    (is_among class (SymShiftLeft ∷ SymShiftRight ∷ [])) (is_among class (SymPlus ∷ SymMinus ∷ SymMinusMinus ∷ []))
    (is_among class (SymStar ∷ SymForwardSlash ∷ SymModulo ∷ []))
  where
    go : (a b c d e f : Bool)
        → nat_le (cond a 1 (cond b 2 (cond c 3 (cond d 5 (cond e 6 (cond f 7 4)))))) 7 ≡ true
    go true b c d e f = refl
    go false true c d e f = refl
    go false false true d e f = refl
    go false false false true e f = refl
    go false false false false true f = refl
    go false false false false false true = refl
    go false false false false false false = refl
known_precedence r class = refl

known_comment : (layout : Layout) (p : Piece) (ts : List Ahead) → list_all is_known ts ≡ true
    → list_all is_known (after_comment layout p ts) ≡ true
known_comment layout p [] h = refl
known_comment layout p (t ∷ ts) h = h

pub ahead_known : (layout : Layout) (s : LayoutState) (ps : List Piece)
    → list_all is_known (tokens_ahead layout s ps) ≡ true
ahead_known layout s [] = refl
ahead_known layout s (p ∷ ps) =
    go (is_comment p.class) (ahead_known layout s ps)
    (ahead_known layout (after_token s 0 p.class (role_in s p.class (operand_follows ps)) together) ps)
  where
    right : Role
    right = role_in s p.class (operand_follows ps)

    go : (b : Bool) → list_all is_known (tokens_ahead layout s ps) ≡ true
        → list_all is_known (tokens_ahead layout (after_token s 0 p.class right together) ps) ≡ true
        → list_all is_known (cond b (after_comment layout p (tokens_ahead layout s ps))
        (token_ahead layout s right p (tokens_ahead layout (after_token s 0 p.class right together) ps)
        ∷ tokens_ahead layout (after_token s 0 p.class right together) ps)) ≡ true
    go true comment token = known_comment layout p (tokens_ahead layout s ps) comment
    go false comment token = ap₂ (λ (a b : Bool). a && b) (known_precedence right p.class) token

pub known_front : (xs ys : List Ahead) → list_all is_known (xs ++ ys) ≡ true → list_all is_known xs ≡ true
known_front [] ys h = refl
known_front (x ∷ xs) ys h =
    let k = both (is_known x) (list_all is_known (xs ++ ys)) h in
    ap₂ (λ (a b : Bool). a && b) k.0 (known_front xs ys k.1)
