-- What is left of a stretch that is gone through, and the rests of those round it.
use Rattle.std.proofs.Common.{◌≡◌, ℕ, suc, ◌+◌, ◌-◌, ◌*◌, ◌^◌, ◌<◌, ◌≤◌, List, [], ◌∷◌, ◌++◌, get_or, sym, ap, ◌∙◌, length, arith}
use Rattle.std.proofs.lemmas.List.{append-nil, append_assoc}
use Rattle.std.proofs.lemmas.Nat.{pow_pos}
use Rattle.std.proofs.lemmas.Grind.{pow_more}
use Rattle.std.proofs.Math.Nat.{pow-le-pow_right}
use Rattle.wgsl_lex_token.specs.declared.kind_table.TokenKind.{TokenKind}
use Rattle.wgsl_lex_token.specs.View.{class_of_kind}
use Rattle.wgsl_lex_templates.specs.declared.kept.Piece.{Piece}
use Rattle.wgsl_lex_templates.specs.declared.kept.Piece.TheVariants.{Token, Stretch}
use Rattle.wgsl_lex_templates.specs.declared.kept.Rest.{Rest}
use Rattle.wgsl_lex_templates.specs.Kept.{held}
use Rattle.wgsl_lex_templates.proofs.Readings.Held.{held_past, token_first, stretch_first, stretch_last}

-- ---- the classes that are left
-- those of the rests, of which the last comes first
abbrev rests_held : List Piece → List Rest → List ℕ
rests_held ps [] = []
rests_held ps (r ∷ rs) = rests_held ps rs ++ held ps r.at r.to

-- those from one place up to another, and those of the rests after them
abbrev pub held_left : List Piece → ℕ → ℕ → List Rest → List ℕ
held_left ps at to rs = held ps at to ++ rests_held ps rs

-- one rest more
rests_more : (ps : List Piece) (rs : List Rest) (r : Rest) → rests_held ps (rs ++ r ∷ []) ≡ held_left ps r.at r.to rs
rests_more ps [] r = sym (append-nil (held ps r.at r.to))
rests_more ps (q ∷ qs) r = ap (λ u. u ++ held ps q.at q.to) (rests_more ps qs r)
    ∙ append_assoc (held ps r.at r.to) (rests_held ps qs) (held ps q.at q.to)

-- the last rest takes the place of a stretch that is at its end
pub rest_begun : (ps : List Piece) (at to : ℕ) (rs now : List Rest) (r : Rest) → to ≤ at
    → rs ≡ now ++ r ∷ [] → held_left ps at to rs ≡ held_left ps r.at r.to now
rest_begun ps at to rs now r l e = ap (λ u. u ++ rests_held ps rs) (held_past ps at to l)
    ∙ ap (rests_held ps) e ∙ rests_more ps now r

-- a token at the front
pub token_taken : (ps : List Piece) (at to : ℕ) (rs : List Rest) (p : Piece) (k : TokenKind)
    → at < to → to ≤ length ps → p ≡ get_or ps at p → p ≡ Token k
    → held_left ps at to rs ≡ class_of_kind k ∷ held_left ps (at + 1) to rs
token_taken ps at to rs p k l m e is = ap (λ u. u ++ rests_held ps rs) (token_first ps at to p k l m e is)

-- a stretch that is last
pub last_begun : (ps : List Piece) (at to : ℕ) (rs : List Rest) (p : Piece) (b c : ℕ) → at + 1 ≡ to
    → to ≤ length ps → c ≤ at → p ≡ get_or ps at p → p ≡ Stretch b c
    → held_left ps at to rs ≡ held_left ps b c rs
last_begun ps at to rs p b c s m n e is = ap (λ u. u ++ rests_held ps rs) (stretch_last ps at to p b c s m n e is)

-- a stretch at the front, with the rest after it
pub stretch_begun : (ps : List Piece) (at to : ℕ) (rs now : List Rest) (p : Piece) (b c : ℕ)
    → at < to → to ≤ length ps → c ≤ at → p ≡ get_or ps at p → p ≡ Stretch b c
    → now ≡ rs ++ record { at = at + 1; to = to } ∷ [] → held_left ps at to rs ≡ held_left ps b c now
stretch_begun ps at to rs now p b c l m n e is more =
    ap (λ u. u ++ rests_held ps rs) (stretch_first ps at to p b c l m n e is)
    ∙ append_assoc (held ps b c) (held ps (at + 1) to) (rests_held ps rs)
    ∙ ap (λ u. held ps b c ++ u) (sym (ap (rests_held ps) more ∙ rests_more ps rs (record { at = at + 1; to = to })))

-- ---- how much is left to do
-- what the places from one up to another weigh, where each weighs more than all places before it
abbrev weight : ℕ → ℕ → ℕ
weight at to = 2 * (2 ^ to - 2 ^ at)

-- what the rests weigh, and one for each
abbrev rests_weight : List Rest → ℕ
rests_weight [] = 0
rests_weight (r ∷ rs) = suc (weight r.at r.to) + rests_weight rs

-- what is left from one place up to another, and in the rests
abbrev pub left_to_do : ℕ → ℕ → List Rest → ℕ
left_to_do at to rs = weight at to + rests_weight rs

-- one rest more
rests_weight_more : (rs : List Rest) (r : Rest) → rests_weight (rs ++ r ∷ []) ≡ suc (left_to_do r.at r.to rs)
rests_weight_more [] r = omega arith
rests_weight_more (q ∷ qs) r = let t = rests_weight_more qs r in omega (arith, t)

-- a stretch that ends before its own place, and what is after that place
weight_less : (at to b c : ℕ) → at < to → c ≤ at → suc (weight b c + weight (at + 1) to) < weight at to
weight_less at to b c l m =
    let before : 2 ^ c ≤ 2 ^ at = pow-le-pow_right (omega arith) m in
    let following : 2 ^ (at + 1) ≤ 2 ^ to = pow-le-pow_right (omega arith) (omega (arith, l)) in
    omega (arith, before, following, pow_more 2 at, pow_pos at, pow_pos b)

-- the last rest takes the place of a stretch that is at its end
pub less_at_rest : (at to : ℕ) (rs now : List Rest) (r : Rest) → rs ≡ now ++ r ∷ []
    → left_to_do r.at r.to now < left_to_do at to rs
less_at_rest at to rs now r e = let t = ap rests_weight e ∙ rests_weight_more now r in omega (arith, t)

-- a piece more
pub less_after : (at to : ℕ) (rs : List Rest) → at < to → left_to_do (at + 1) to rs < left_to_do at to rs
less_after at to rs l = let t = weight_less at to 0 0 l (omega arith) in omega (arith, t)

-- a stretch that is last
pub less_at_last : (at to : ℕ) (rs : List Rest) (b c : ℕ) → at < to → c ≤ at → left_to_do b c rs < left_to_do at to rs
less_at_last at to rs b c l m = let t = weight_less at to b c l m in omega (arith, t)

-- a stretch, with the rest after it
pub less_at_stretch : (at to : ℕ) (rs now : List Rest) (b c : ℕ) → at < to → c ≤ at
    → now ≡ rs ++ record { at = at + 1; to = to } ∷ [] → left_to_do b c now < left_to_do at to rs
less_at_stretch at to rs now b c l m more =
    let t = weight_less at to b c l m in
    let u = ap rests_weight more ∙ rests_weight_more rs (record { at = at + 1; to = to }) in
    omega (arith, t, u)
