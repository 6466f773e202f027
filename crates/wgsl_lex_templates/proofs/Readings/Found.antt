-- What is known of the `<` that were tried, as more is known and read.
use Rattle.std.proofs.Common.{◌≡◌, ◌⊎◌, ℕ, zero, suc, ◌<◌, Bool, false, List, [], ◌∷◌, ◌++◌, take, drop, length, get_or, inl, inr, refl, sym, ap, subst, ◌∙◌, arith}
use Rattle.std.proofs.lemmas.List.{length-append, get_or_default, take-append-drop}
use Rattle.wgsl_lex_templates.specs.declared.kept.Piece.{Piece}
use Rattle.wgsl_lex_templates.specs.declared.findings.Finding.{Finding}
use Rattle.wgsl_lex_templates.specs.declared.findings.Finding.TheVariants.{Around, GoesOn as OneGoesOn}
use Rattle.wgsl_lex_templates.specs.declared.findings.Entry.{Entry}
use Rattle.wgsl_lex_templates.specs.Kept.{BeginWith}
use Rattle.wgsl_lex_templates.specs.Reached.{Reaches, GoesOn}
use Rattle.wgsl_lex_templates.specs.Findings.{IsEntry, IsFinding, IsRight, AreRight}
use Rattle.wgsl_lex_templates.proofs.Readings.Held.{held_more}

-- ---- an entry
-- the entry at a place in the list
pub entry_at : (entries : List Entry) (i start : ℕ) (e : Entry) → i < length entries
    → start ≡ (get_or entries i e).start → IsEntry entries start (get_or entries i e).finding
entry_at entries i start e l s = (
  i,
  l,
  λ d. get_or_default entries i d e l
      ∙ ap (λ (n : ℕ). record { start = n; finding = (get_or entries i e).finding }) (sym s),
)

-- of entries that are right each is
pub entry_right : (total : ℕ) (source : List ℕ) (pieces : List Piece) (entries : List Entry)
    (start : ℕ) (r : Finding) → AreRight total source pieces entries → IsEntry entries start r
    → IsRight total source pieces (record { start = start; finding = r })
entry_right total source pieces entries start r are (i, l, same) =
    let entry : Entry = record { start = start; finding = r } in
    subst (λ (e : Entry). IsRight total source pieces e) (same entry) (are i entry l)

-- ---- more pieces
pub goes_on_more : (total : ℕ) (pieces more : List Piece) (text rest : List ℕ) (start end : ℕ)
    → GoesOn total pieces text rest start end → GoesOn total (pieces ++ more) text rest start end
goes_on_more total pieces more text rest start end (cut, fits, reached) = (
  cut,
  omega (arith, fits, length-append pieces more),
  subst (λ (now : List ℕ). Reaches total text now false 0 rest) (sym (held_more pieces more start end fits)) reached,
)

finding_more : (total : ℕ) (pieces more : List Piece) (text : List ℕ) (r : Finding)
    → IsFinding total pieces text r → IsFinding total (pieces ++ more) text r
finding_more total pieces more text Around h = h
finding_more total pieces more text (OneGoesOn is_list at start end) (rest, e, list, g) =
    (rest, e, list, goes_on_more total pieces more text rest start end g)

-- what was right stays so
pub right_more : (total : ℕ) (source : List ℕ) (first pieces : List Piece) (entries : List Entry)
    → BeginWith first pieces → AreRight total source first entries → AreRight total source pieces entries
right_more total source first pieces entries (more, longer) are i d l after cut s =
    subst (λ (x : List Piece). IsFinding total x after (get_or entries i d).finding) (sym longer)
    (finding_more total first more after (get_or entries i d).finding (are i d l after cut s))

pub right_same : (total : ℕ) (source : List ℕ) (pieces now : List Piece) (entries more : List Entry)
    → now ≡ pieces → more ≡ entries → AreRight total source pieces entries → AreRight total source now more
right_same total source pieces now entries more e f are = rw (e, f) are

-- what is right of the first pieces is right of all
pub right_of_all : (total : ℕ) (source : List ℕ) (n : ℕ) (pieces : List Piece) (entries : List Entry)
    → AreRight total source (take n pieces) entries → AreRight total source pieces entries
right_of_all total source n pieces entries are = right_more total source
    (take n pieces) pieces entries (drop n pieces, sym (take-append-drop n pieces)) are

-- ---- more entries
-- at the start there is none
pub none_right : (total : ℕ) (source : List ℕ) (pieces : List Piece) (entries : List Entry)
    → entries ≡ [] → AreRight total source pieces entries
none_right total source pieces entries none i d l = absurd (omega (arith, l, ap length none))

-- in a list of one more, an entry is one of the others or the last
one_of : (entries : List Entry) (e d : Entry) (i : ℕ) → i < length (entries ++ e ∷ [])
    → ((i < length entries) × (get_or (entries ++ e ∷ []) i d ≡ get_or entries i d))
    ⊎ (get_or (entries ++ e ∷ []) i d ≡ e)
one_of [] e d zero l = inr refl
one_of [] e d (suc i) l = absurd (omega (arith, l))
one_of (x ∷ entries) e d zero l = inl (omega arith, refl)
one_of (x ∷ entries) e d (suc i) l = elim (one_of entries e d i (omega (arith, l))) [
  | inl k ↦ inl (omega (arith, k.0), k.1)
  | inr k ↦ inr k
]

pub one_more_right : (total : ℕ) (source : List ℕ) (pieces : List Piece) (entries : List Entry) (e : Entry)
    → AreRight total source pieces entries → IsRight total source pieces e
    → AreRight total source pieces (entries ++ e ∷ [])
one_more_right total source pieces entries e are right i d l = elim (one_of entries e d i l) [
  | inl k ↦ subst (λ (x : Entry). IsRight total source pieces x) (sym k.1) (are i d k.0)
  | inr k ↦ subst (λ (x : Entry). IsRight total source pieces x) (sym k) right
]

-- a finding that has no pieces
pub right_around : (total : ℕ) (source : List ℕ) (n : ℕ) (pieces : List Piece) (entries : List Entry)
    (start : ℕ) (r : Finding) → ((is_list : Bool) (at b c : ℕ) → r ≡ OneGoesOn is_list at b c → ⊥)
    → AreRight total source (take n pieces) entries
    → IsRight total source pieces (record { start = start; finding = r })
    → AreRight total source (take n pieces) (entries ++ record { start = start; finding = r } ∷ [])
right_around total source n pieces entries start Around other are right = one_more_right total source
    (take n pieces) entries (record { start = start; finding = Around }) are right
right_around total source n pieces entries start (OneGoesOn is_list at b c) other are right =
    absurd (other is_list at b c refl)
