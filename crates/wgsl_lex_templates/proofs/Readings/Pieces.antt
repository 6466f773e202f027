-- The classes that pieces hold, as tokens and stretches are pushed after them.
use Rattle.std.proofs.Common.{◌≡◌, ℕ, suc, ◌≤◌, List, [], ◌∷◌, ◌++◌, length, refl, sym, ap, ◌∙◌, take, append-nil, append_assoc, arith}
use Rattle.std.proofs.lemmas.List.{length-append, length-take, take-append-le, take_all}
use Rattle.wgsl_lex_token.specs.declared.kind_table.TokenKind.{TokenKind}
use Rattle.wgsl_lex_token.specs.declared.kind_table.TokenKind.TheVariants as kind
use Rattle.wgsl_lex_token.specs.View.{class_of_kind}
use Rattle.wgsl_lex_templates.specs.declared.kept.Piece.{Piece}
use Rattle.wgsl_lex_templates.specs.declared.kept.Piece.TheVariants.{Token, Stretch}
use Rattle.wgsl_lex_templates.specs.Kept.{BeginWith, held}
use Rattle.wgsl_lex_templates.proofs.Readings.Held.{held_none, held_token, held_stretch}

-- the classes of all pieces from a place on
abbrev pub held_from : List Piece → ℕ → List ℕ
held_from pieces start = held pieces start (length pieces)

one_longer : (ps now : List Piece) (p : Piece) → now ≡ ps ++ p ∷ [] → length now ≡ suc (length ps)
one_longer ps now p e = ap length e ∙ omega (arith, length-append ps (p ∷ []))

-- from the end on there is nothing
pub nothing_held : (ps : List Piece) → held_from ps (length ps) ≡ []
nothing_held ps = held_none ps (length ps)

-- one token more
pub token_held : (ps now : List Piece) (k : TokenKind) (a : ℕ) → now ≡ ps ++ Token k ∷ []
    → a ≤ length ps → (held_from now a ≡ held_from ps a ++ class_of_kind k ∷ []) × (a ≤ length now)
token_held ps now k a e l =
    let size = one_longer ps now (Token k) e in (
      ap (held now a) size ∙ ap (λ (x : List Piece). held x a (suc (length ps))) e ∙ held_token ps k a l,
      omega (arith, size, l),
    )

-- one stretch more
pub stretch_held : (ps now : List Piece) (b c a : ℕ) → now ≡ ps ++ Stretch b c ∷ [] → a ≤ length ps
    → c ≤ length ps → held_from now a ≡ held_from ps a ++ held ps b c
stretch_held ps now b c a e l m = ap (held now a) (one_longer ps now (Stretch b c) e)
    ∙ ap (λ (x : List Piece). held x a (suc (length ps))) e ∙ held_stretch ps b c a l m

-- a list of one name more
pub list_held : (ps now : List Piece) (a : ℕ)
    → now ≡ ((ps ++ Token kind.TemplateArgsStart ∷ []) ++ Token kind.Ident ∷ []) ++ Token kind.TemplateArgsEnd ∷ []
    → a ≤ length ps
    → held_from now a ≡ held_from ps a ++ (class_of_kind kind.TemplateArgsStart
    ∷ class_of_kind kind.Ident ∷ class_of_kind kind.TemplateArgsEnd ∷ [])
list_held ps now a e l =
    let one = token_held ps (ps ++ Token kind.TemplateArgsStart ∷ []) kind.TemplateArgsStart a refl l in
    let two = token_held (ps ++ Token kind.TemplateArgsStart ∷ [])
    ((ps ++ Token kind.TemplateArgsStart ∷ []) ++ Token kind.Ident ∷ []) kind.Ident a refl one.1 in
    let three = token_held ((ps ++ Token kind.TemplateArgsStart ∷ []) ++ Token kind.Ident ∷ []) now
    kind.TemplateArgsEnd a e two.1 in
    let s : ℕ = class_of_kind kind.TemplateArgsStart in
    let n : ℕ = class_of_kind kind.Ident in
    let f : ℕ = class_of_kind kind.TemplateArgsEnd in
    three.0 ∙ ap (λ x. x ++ f ∷ []) (two.0 ∙ ap (λ x. x ++ n ∷ []) one.0)
    ∙ ap (λ x. x ++ f ∷ []) (append_assoc (held_from ps a) (s ∷ []) (n ∷ []))
    ∙ append_assoc (held_from ps a) (s ∷ n ∷ []) (f ∷ [])

-- ---- pieces that begin with others
pub begin_with_all : (ps : List Piece) → BeginWith ps ps
begin_with_all ps = ([], sym (append-nil ps))

pub one_more : (first ps now : List Piece) (p : Piece) → now ≡ ps ++ p ∷ [] → BeginWith first ps → BeginWith first now
one_more first ps now p e (more, f) =
    (more ++ p ∷ [], e ∙ ap (λ (x : List Piece). x ++ p ∷ []) f ∙ append_assoc first more (p ∷ []))

pub list_more : (first ps now : List Piece) (p q r : Piece)
    → now ≡ ((ps ++ p ∷ []) ++ q ∷ []) ++ r ∷ [] → BeginWith first ps → BeginWith first now
list_more first ps now p q r e begin =
    one_more first ((ps ++ p ∷ []) ++ q ∷ []) now r e (one_more first (ps ++ p ∷ [])
    ((ps ++ p ∷ []) ++ q ∷ []) q refl (one_more first ps (ps ++ p ∷ []) p refl begin))

pub no_shorter : (first ps : List Piece) → BeginWith first ps → length first ≤ length ps
no_shorter first ps (more, e) = omega (arith, ap length e, length-append first more)

-- cut back to those they begin with
pub cut_back : (first ps : List Piece) → BeginWith first ps → take (length first) ps ≡ first
cut_back first ps (more, e) = ap (take (length first)) e
    ∙ (take-append-le (length first) first more (omega arith) ∙ take_all (length first) first (omega arith))

-- a number of of them
pub cut_length : (ps : List Piece) (n : ℕ) → n ≤ length ps → length (take n ps) ≡ n
cut_length ps n l = omega (arith, length-take n ps, l)
