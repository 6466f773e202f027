-- What pieces have, as the list of them grows and as it is gone through.
use Rattle.std.proofs.Common.{◌≡◌, ℕ, zero, suc, ◌+◌, ◌<◌, ◌≤◌, true, List, [], ◌∷◌, ◌++◌, take, drop, length, get_or, refl, sym, ap, subst, ◌∙◌, arith}
use Rattle.std.specs.List.{concat}
use Rattle.std.proofs.lemmas.Bool.{and_parts, and_from, leb-true, le-leb}
use Rattle.std.proofs.lemmas.List.{append-nil, append_assoc, length_push, length-take, length-take-le, take_all, take-take, take-append-le, drop-append-le, drop_more, drop_all, get_or-take}
use Rattle.std.proofs.lemmas.List.Folds.{concat-append}
use Rattle.grammar.proofs.Reading.Sets.{and_true}
use Rattle.wgsl_lex_token.specs.declared.kind_table.TokenKind.{TokenKind}
use Rattle.wgsl_lex_token.specs.View.{class_of_kind}
use Rattle.wgsl_lex_templates.specs.declared.kept.Piece.{Piece}
use Rattle.wgsl_lex_templates.specs.declared.kept.Piece.TheVariants.{Token, Stretch}
use Rattle.wgsl_lex_templates.specs.Kept.{values_between, value, values_after, held, is_earlier, are_earlier}

-- ---- the classes of each piece
values_of_all : (before : List (List ℕ)) (ps qs : List Piece) → values_after before (ps ++ qs)
    ≡ values_after before ps ++ values_after (before ++ values_after before ps) qs
values_of_all before [] qs = ap (λ b. values_after b qs) (sym (append-nil before))
values_of_all before (p ∷ ps) qs =
    let v = value before p in
    let more = before ++ v ∷ [] in
    ap (λ vs. v ∷ vs) (values_of_all more ps qs ∙ ap (λ b. values_after more ps ++ values_after b qs)
    (append_assoc before (v ∷ []) (values_after more ps)))

values_length : (before : List (List ℕ)) (ps : List Piece) → length (values_after before ps) ≡ length ps
values_length before [] = refl
values_length before (p ∷ ps) = ap suc (values_length (before ++ value before p ∷ []) ps)

value_at : (before : List (List ℕ)) (ps : List Piece) (i : ℕ) (d : List ℕ) (p : Piece) → i < length ps
    → get_or (values_after before ps) i d ≡ value (before ++ take i (values_after before ps)) (get_or ps i p)
value_at before [] i d p l = absurd (omega arith)
value_at before (q ∷ qs) zero d p l = ap (λ b. value b q) (sym (append-nil before))
value_at before (q ∷ qs) (suc i) d p l =
    let v = value before q in
    let more = before ++ v ∷ [] in
    value_at more qs i d p (omega arith)
    ∙ ap (λ b. value b (get_or qs i p)) (append_assoc before (v ∷ []) (take i (values_after more qs)))

-- ---- a list that grows
nothing_between : (a b : ℕ) (vs : List (List ℕ)) → b ≤ a → drop a (take b vs) ≡ []
nothing_between a b vs l = drop_all a (take b vs) (omega (arith, length-take b vs, l))

-- from a place up to one before it there is nothing
pub held_past : (ps : List Piece) (a b : ℕ) → b ≤ a → held ps a b ≡ []
held_past ps a b l = ap concat (nothing_between a b (values_after [] ps) l)

-- from a place up to itself there is nothing
pub held_none : (ps : List Piece) (a : ℕ) → held ps a a ≡ []
held_none ps a = held_past ps a a (omega arith)

-- pieces after the end change nothing
pub held_more : (ps qs : List Piece) (a b : ℕ) → b ≤ length ps → held (ps ++ qs) a b ≡ held ps a b
held_more ps qs a b l =
    let vs = values_after [] ps in
    let known = values_length [] ps in
    ap (λ us. values_between us a b) (values_of_all [] ps qs)
    ∙ ap (λ us. concat (drop a us)) (take-append-le b vs (values_after vs qs) (omega (arith, known, l)))

held_piece : (ps : List Piece) (p : Piece) (a : ℕ) → a ≤ length ps
    → held (ps ++ p ∷ []) a (suc (length ps)) ≡ held ps a (length ps) ++ value (values_after [] ps) p
held_piece ps p a l =
    let vs = values_after [] ps in
    let v = value vs p in
    let known = values_length [] ps in
    let longer : length (vs ++ v ∷ []) ≤ suc (length ps) = omega (arith, known, length_push vs v) in
    let all : take (length ps) vs ≡ vs = take_all (length ps) vs (omega (arith, known)) in
    ap (λ us. values_between us a (suc (length ps))) (values_of_all [] ps (p ∷ []))
    ∙ ap (λ us. concat (drop a us)) (take_all (suc (length ps)) (vs ++ v ∷ []) longer)
    ∙ ap concat (drop-append-le a vs (v ∷ []) (omega (arith, known, l)))
    ∙ concat-append (drop a vs) (v ∷ [])
    ∙ ap (λ u. concat (drop a vs) ++ u) (append-nil v)
    ∙ ap (λ us. concat (drop a us) ++ v) (sym all)

-- a token after the others
pub held_token : (ps : List Piece) (k : TokenKind) (a : ℕ) → a ≤ length ps
    → held (ps ++ Token k ∷ []) a (suc (length ps)) ≡ held ps a (length ps) ++ class_of_kind k ∷ []
held_token ps k a l = held_piece ps (Token k) a l

-- a stretch after the others
pub held_stretch : (ps : List Piece) (b c a : ℕ) → a ≤ length ps → c ≤ length ps
    → held (ps ++ Stretch b c ∷ []) a (suc (length ps)) ≡ held ps a (length ps) ++ held ps b c
held_stretch ps b c a l m = held_piece ps (Stretch b c) a l

-- ---- a list that is gone through
held_step : (ps : List Piece) (at to : ℕ) (p : Piece) → at < to → to ≤ length ps → p ≡ get_or ps at p
    → held ps at to ≡ value (take at (values_after [] ps)) p ++ held ps (at + 1) to
held_step ps at to p l m e =
    let vs = values_after [] ps in
    let known = values_length [] ps in
    let long : length (take to vs) ≡ to = length-take-le to vs (omega (arith, known, m)) in
    let here : get_or (take to vs) at [] ≡ value (take at vs) p = get_or-take to vs at [] l
    ∙ value_at [] ps at [] p (omega (arith, l, m)) ∙ ap (value (take at vs)) (sym e) in
    ap concat (drop_more (take to vs) at [] (omega (arith, long, l)))
    ∙ ap (λ u. u ++ held ps (at + 1) to) here

-- a token at the front
pub token_first : (ps : List Piece) (at to : ℕ) (p : Piece) (k : TokenKind) → at < to → to ≤ length ps
    → p ≡ get_or ps at p → p ≡ Token k → held ps at to ≡ class_of_kind k ∷ held ps (at + 1) to
token_first ps at to p k l m e is = held_step ps at to p l m e
    ∙ ap (λ q. value (take at (values_after [] ps)) q ++ held ps (at + 1) to) is

-- a stretch at the front
pub stretch_first : (ps : List Piece) (at to : ℕ) (p : Piece) (b c : ℕ) → at < to → to ≤ length ps
    → c ≤ at → p ≡ get_or ps at p → p ≡ Stretch b c → held ps at to ≡ held ps b c ++ held ps (at + 1) to
stretch_first ps at to p b c l m n e is =
    held_step ps at to p l m e
    ∙ ap (λ q. value (take at (values_after [] ps)) q ++ held ps (at + 1) to) is
    ∙ ap (λ us. concat (drop b us) ++ held ps (at + 1) to) (take-take c at (values_after [] ps) n)

-- a stretch that is last
pub stretch_last : (ps : List Piece) (at to : ℕ) (p : Piece) (b c : ℕ) → at + 1 ≡ to
    → to ≤ length ps → c ≤ at → p ≡ get_or ps at p → p ≡ Stretch b c → held ps at to ≡ held ps b c
stretch_last ps at to p b c s m n e is =
    stretch_first ps at to p b c (omega (arith, s)) m n e is
    ∙ ap (λ k. held ps b c ++ held ps k to) s
    ∙ ap (λ u. held ps b c ++ u) (held_none ps to)
    ∙ append-nil (held ps b c)

-- what stood at the front is after what came before it
pub gone_through : (before now front rest left whole : List ℕ) → now ≡ before ++ front
    → left ≡ front ++ rest → before ++ left ≡ whole → now ++ rest ≡ whole
gone_through before now front rest left whole e f g = ap (λ u. u ++ rest) e
    ∙ append_assoc before front rest ∙ ap (λ u. before ++ u) (sym f) ∙ g

-- ---- each stretch ends before its own place
earlier_added : (place end : ℕ) (ps : List Piece) (p : Piece) → end ≡ place + length ps
    → are_earlier place ps ≡ true → is_earlier end p ≡ true → are_earlier place (ps ++ p ∷ []) ≡ true
earlier_added place end [] p s e f = and_from (is_earlier place p) true
    (subst (λ n. is_earlier n p ≡ true) (omega (arith, s)) f) refl
earlier_added place end (q ∷ qs) p s e f =
    let t = and_parts (is_earlier place q) (are_earlier (suc place) qs) e in
    and_from (is_earlier place q) (are_earlier (suc place) (qs ++ p ∷ [])) t.0
    (earlier_added (suc place) end qs p (omega (arith, s)) t.1 f)

-- one token more
pub earlier_token : (ps : List Piece) (k : TokenKind) → are_earlier 0 ps ≡ true
    → are_earlier 0 (ps ++ Token k ∷ []) ≡ true
earlier_token ps k e = earlier_added 0 (length ps) ps (Token k) (omega arith) e refl

-- one stretch more
pub earlier_stretch : (ps : List Piece) (b c : ℕ) → c ≤ length ps → are_earlier 0 ps ≡ true
    → are_earlier 0 (ps ++ Stretch b c ∷ []) ≡ true
earlier_stretch ps b c l e = earlier_added 0 (length ps) ps (Stretch b c) (omega arith) e (le-leb c (length ps) l)

-- fewer pieces
fewer_earlier : (place n : ℕ) (ps : List Piece) → are_earlier place ps ≡ true → are_earlier place (take n ps) ≡ true
fewer_earlier place zero ps e = refl
fewer_earlier place (suc n) [] e = refl
fewer_earlier place (suc n) (p ∷ ps) e =
    let t = and_true (is_earlier place p) (are_earlier (suc place) ps) e in
    rw (t.0, fewer_earlier (suc place) n ps t.1) refl

pub earlier_cut : (ps : List Piece) (n : ℕ) → are_earlier 0 ps ≡ true → are_earlier 0 (take n ps) ≡ true
earlier_cut ps n e = fewer_earlier 0 n ps e

earlier_at : (place here : ℕ) (ps : List Piece) (i : ℕ) (d : Piece) → here ≡ place + i
    → are_earlier place ps ≡ true → i < length ps → is_earlier here (get_or ps i d) ≡ true
earlier_at place here [] i d s e l = absurd (omega arith)
earlier_at place here (p ∷ ps) zero d s e l = subst (λ n. is_earlier n p ≡ true) (omega (arith, s))
    (and_parts (is_earlier place p) (are_earlier (suc place) ps) e).0
earlier_at place here (p ∷ ps) (suc i) d s e l = earlier_at (suc place) here ps i d (omega (arith, s))
    (and_parts (is_earlier place p) (are_earlier (suc place) ps) e).1 (omega arith)

-- the stretch at a place
pub ends_before : (ps : List Piece) (at : ℕ) (p : Piece) (b c : ℕ) → are_earlier 0 ps ≡ true
    → at < length ps → p ≡ get_or ps at p → p ≡ Stretch b c → c ≤ at
ends_before ps at p b c e l f is = leb-true c at
    (subst (λ q. is_earlier at q ≡ true) (sym f ∙ is) (earlier_at 0 at ps at p (omega arith) e l))
