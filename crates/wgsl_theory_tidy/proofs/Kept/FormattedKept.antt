-- The formatted text of a source, with its byte order mark and with LF or CR LF, keeps what the
-- source has, if the laid-out text does.
use Rattle.std.proofs.Common.{◌≡◌, ℕ, ◌==◌, ◌&&◌, Bool, true, false, cond, refl, sym, ap, subst, ◌∙◌, List, [], ◌∷◌, ◌++◌, map}
use Rattle.std.proofs.lemmas.Bool.{eqb-true}
use Rattle.grammar.specs.Tokens.{Token}
use Rattle.grammar.specs.Endings.{Ending.finished}
use Rattle.wgsl_model.specs.Tokens.TokenList.{IsTokenList, width}
use Rattle.wgsl_model.specs.Tokens.Trivia.{first_or_zero}
use Rattle.wgsl_theory_grammar.proofs.Tokens.Lists.{token_list_unique}
use Rattle.wgsl_theory_templates.proofs.Lexed.LexedAlong.{Along}
use Rattle.wgsl_theory_templates.proofs.Lexed.Runs.{lexed}
use Rattle.wgsl_theory_tidy.proofs.Moved.Moved.{moved_unit}
use Rattle.wgsl_model_tidy.specs.Pieces.{pieces}
use Rattle.wgsl_model_tidy.specs.NonBlank.{non_blank}
use Rattle.wgsl_model_tidy.specs.Layout.{Newlines, auto, lf, crlf, Layout}
use Rattle.wgsl_model_tidy.specs.LaidOut.{laid_out}
use Rattle.wgsl_model_tidy.specs.Formatted.{mark_of, unmarked, begins_crlf, ends_crlf, with_crlf, with_line_ends, formatted}
use Rattle.wgsl_model_tidy.specs.Kept.{unplaced, class_and_text, Keeps}
use Rattle.wgsl_theory_tidy.proofs.Kept.NonBlankOf.{joined}
use Rattle.wgsl_theory_tidy.proofs.Kept.Read.{read}
use Rattle.wgsl_theory_tidy.proofs.Kept.SameShape.{same_shape}
use Rattle.wgsl_theory_tidy.proofs.Kept.TextFronts.{by_test}
use Rattle.wgsl_theory_tidy.proofs.Kept.CrlfTrivia.{crlf_other}
use Rattle.wgsl_theory_tidy.proofs.Kept.CrlfTokens.{along_crlf}
use Rattle.wgsl_theory_tidy.proofs.Kept.CrlfPieces.{HasNoCrlf, crlf_piece}
use Rattle.wgsl_theory_tidy.proofs.Kept.CrlfReads.{reads_crlf, read_once}
use Rattle.wgsl_theory_tidy.proofs.Kept.CrlfShown.{laid_out_same}
use Rattle.wgsl_theory_tidy.proofs.Kept.CrlfSame.{all_same, same_pieces, same_blank}
use Rattle.wgsl_theory_tidy.proofs.Kept.Marks.{read_no_mark}

-- what the laid-out text of a source with these tokens keeps
pub record KeepsLaidOut (layout : Layout) (source : List ℕ) (ts : List Token) (text : List ℕ) : Type 0 where
  pub after : List Token
  pub read_after : IsTokenList text after finished
  pub same_characters : non_blank text ≡ non_blank source
  pub same_tokens : map unplaced after ≡ map unplaced ts
  pub same_pieces : map class_and_text (pieces text after) ≡ map class_and_text (pieces source ts)
  pub again : laid_out layout (pieces text after) ≡ text
  pub along : Along (map unplaced ts) text
  pub no_crlf : HasNoCrlf text

-- ---- line ends

-- no LF comes first
first_no_lf : (cs : List ℕ) → (first_or_zero (with_crlf cs) == 10) ≡ false
first_no_lf [] = refl
first_no_lf (c ∷ cs) =
    by_test (c == 10)
    (λ e. subst (λ d. (first_or_zero (with_crlf (d ∷ cs)) == 10) ≡ false) (sym (eqb-true c 10 e)) refl)
    (λ e. ap (λ xs. first_or_zero xs == 10) (crlf_other c cs e) ∙ e)

-- the first LF is after CR, if there is one
still_crlf : (text : List ℕ) → with_line_ends (begins_crlf (with_crlf text)) text ≡ with_crlf text
still_crlf [] = refl
still_crlf (c ∷ cs) =
    by_test (c == 10) (λ e. subst (λ d. with_line_ends (begins_crlf (with_crlf (d ∷ cs))) (d ∷ cs)
    ≡ with_crlf (d ∷ cs)) (sym (eqb-true c 10 e)) refl)
    (λ e. other e (still_crlf cs))
  where
    one_more : (b : Bool) → (c == 10) ≡ false → with_line_ends b (c ∷ cs) ≡ c ∷ with_line_ends b cs
    one_more true e = crlf_other c cs e
    one_more false e = refl

    no_lf : (b : Bool) → (b && first_or_zero (with_crlf cs) == 10) ≡ false
    no_lf true = first_no_lf cs
    no_lf false = refl

    other : (c == 10) ≡ false → with_line_ends (begins_crlf (with_crlf cs)) cs ≡ with_crlf cs
        → with_line_ends (begins_crlf (with_crlf (c ∷ cs))) (c ∷ cs) ≡ with_crlf (c ∷ cs)
    other e h =
        let later : begins_crlf (c ∷ with_crlf cs) ≡ begins_crlf (with_crlf cs) = rw (e, no_lf (c == 13)) refl in
        ap (λ xs. with_line_ends (begins_crlf xs) (c ∷ cs)) (crlf_other c cs e)
        ∙ ap (λ b. with_line_ends b (c ∷ cs)) later
        ∙ one_more (begins_crlf (with_crlf cs)) e
        ∙ ap (λ xs. c ∷ xs) h
        ∙ sym (crlf_other c cs e)

never_crlf : (text : List ℕ) → HasNoCrlf text → begins_crlf text ≡ false
never_crlf [] h = refl
never_crlf (c ∷ cs) h = by_test (c == 10) (λ e. rw e refl) (λ e. rw (e, h.0) (never_crlf cs h.1))

-- the formatted text has the line ends that are asked for already
ends_again : (newlines : Newlines) (source text : List ℕ) → HasNoCrlf text
    → with_line_ends (ends_crlf newlines (with_line_ends (ends_crlf newlines source) text)) text
    ≡ with_line_ends (ends_crlf newlines source) text
ends_again lf source text h = refl
ends_again crlf source text h = refl
ends_again auto source text h = go (begins_crlf source)
  where
    go : (b : Bool) → with_line_ends (begins_crlf (with_line_ends b text)) text ≡ with_line_ends b text
    go true = still_crlf text
    go false = ap (λ b. with_line_ends b text) (never_crlf text h)

-- ---- the text after the mark

-- what it keeps, with LF or with CR LF
record KeepsBody (layout : Layout) (source : List ℕ) (ts : List Token) (text body : List ℕ) : Type 0 where
  after : List Token
  read_after : IsTokenList body after finished
  same_characters : non_blank body ≡ non_blank source
  same_tokens : map unplaced after ≡ map unplaced ts
  same_pieces : map class_and_text (pieces body after) ≡ map class_and_text (pieces source ts)
  laid : laid_out layout (pieces body after) ≡ text

with_lf : (layout : Layout) (source : List ℕ) (ts : List Token) (text : List ℕ)
    → KeepsLaidOut layout source ts text → KeepsBody layout source ts text text
with_lf layout source ts text k =
    record {
      after = k.after;
      read_after = k.read_after;
      same_characters = k.same_characters;
      same_tokens = k.same_tokens;
      same_pieces = k.same_pieces;
      laid = k.again;
    }

with_crlf_too : (layout : Layout) (source : List ℕ) (ts : List Token) (text : List ℕ)
    → IsTokenList source ts finished → KeepsLaidOut layout source ts text
    → KeepsBody layout source ts text (with_crlf text)
with_crlf_too layout source ts text h k =
    let out = with_crlf text in
    let found = lexed (map unplaced ts) (same_shape source ts h) (width out) out
    (along_crlf (map unplaced ts) text k.along) in
    let us = found.0 in
    let before = read text k.after k.read_after in
    let changed = reads_crlf text (map unplaced k.after) (pieces text k.after) before k.no_crlf in
    let same = read_once out (map unplaced k.after) (map crlf_piece (pieces text k.after)) changed out
    (map unplaced us) (pieces out us) (read out us found.1) refl (found.2 ∙ sym k.same_tokens) in
    let alike = all_same text (map unplaced k.after) (pieces text k.after) before in
    record {
      after = us;
      read_after = found.1;
      same_characters = same_blank text ∙ k.same_characters;
      same_tokens = found.2;
      same_pieces = ap (map class_and_text) same ∙ same_pieces (pieces text k.after) alike ∙ k.same_pieces;
      laid = ap (laid_out layout) same ∙ laid_out_same layout (pieces text k.after) alike ∙ k.again;
    }

with_ends : (layout : Layout) (source : List ℕ) (ts : List Token) (text : List ℕ)
    → IsTokenList source ts finished → KeepsLaidOut layout source ts text → (b : Bool)
    → KeepsBody layout source ts text (with_line_ends b text)
with_ends layout source ts text h k true = with_crlf_too layout source ts text h k
with_ends layout source ts text h k false = with_lf layout source ts text k

-- ---- the mark

-- the mark is the one of the source, and the text after it is read
record Marked (source body : List ℕ) : Type 0 where
  mark : mark_of (mark_of source ++ body) ≡ mark_of source
  rest : unmarked (mark_of source ++ body) ≡ body

marked : (source body : List ℕ) (us : List Token) → IsTokenList body us finished → Marked source body
marked source body us h = go source
  where
    none : (mark_of body ≡ []) × (unmarked body ≡ body)
    none = read_no_mark body us h

    at : (c : ℕ) (b : Bool) → (c == 0xFEFF) ≡ b
        → (mark_of (cond b (c ∷ []) [] ++ body) ≡ cond b (c ∷ []) []) × (unmarked (cond b (c ∷ []) [] ++ body) ≡ body)
    at c true e = (rw e refl, rw e refl)
    at c false e = none

    go : (source : List ℕ) → Marked source body
    go [] = record { mark = none.0; rest = none.1 }
    go (c ∷ cs) = let both = at c (c == 0xFEFF) refl in record { mark = both.0; rest = both.1 }

-- a source is its mark and what is after it
whole : (source : List ℕ) → source ≡ mark_of source ++ unmarked source
whole [] = refl
whole (c ∷ cs) = go (c == 0xFEFF)
  where
    go : (b : Bool) → c ∷ cs ≡ cond b (c ∷ []) [] ++ cond b cs (c ∷ cs)
    go true = refl
    go false = refl

pub marked_characters : (source body : List ℕ) → non_blank body ≡ non_blank (unmarked source)
    → non_blank (mark_of source ++ body) ≡ non_blank source
marked_characters source body h =
    joined (mark_of source) body ∙ ap (λ xs. non_blank (mark_of source) ++ xs) h
    ∙ sym (joined (mark_of source) (unmarked source)) ∙ ap non_blank (sym (whole source))

-- ---- the whole text

pub formatted_kept : (layout : Layout) (source : List ℕ) (ts : List Token)
    → IsTokenList (unmarked source) ts finished
    → KeepsLaidOut layout (unmarked source) ts (laid_out layout (pieces (unmarked source) ts))
    → Keeps layout source (formatted layout source ts)
formatted_kept layout source ts h k =
    let inner = unmarked source in
    let text = laid_out layout (pieces inner ts) in
    let body = with_line_ends (ends_crlf layout.newlines inner) text in
    let b = with_ends layout inner ts text h k (ends_crlf layout.newlines inner) in
    let m = marked source body b.after b.read_after in
    record {
      before = ts;
      after = b.after;
      read_before = h;
      read_after = subst (λ xs. IsTokenList xs b.after finished) (sym m.rest) b.read_after;
      same_mark = m.mark;
      same_characters = marked_characters source body b.same_characters;
      same_tokens = b.same_tokens;
      same_pieces = ap (λ xs. map class_and_text (pieces xs b.after)) m.rest ∙ b.same_pieces;
      again =
          ap (λ xs. xs ++ with_line_ends (ends_crlf layout.newlines (unmarked (mark_of source ++ body)))
          (laid_out layout (pieces (unmarked (mark_of source ++ body)) b.after))) m.mark
          ∙ ap (λ xs. mark_of source ++ with_line_ends (ends_crlf layout.newlines xs)
          (laid_out layout (pieces xs b.after))) m.rest
          ∙ ap (λ xs. mark_of source ++ with_line_ends (ends_crlf layout.newlines body) xs) b.laid
          ∙ ap (λ xs. mark_of source ++ xs) (ends_again layout.newlines inner text k.no_crlf);
      units = λ v j.
          (let one = (token_list_unique inner j.0 ts finished finished j.1 h).0 in
          let moved = moved_unit v j.0 b.after j.2 (b.same_tokens ∙ ap (map unplaced) (sym one)) in (
            moved.0,
            (b.after, subst (λ xs. IsTokenList xs b.after finished) (sym m.rest) b.read_after, moved.1),
            moved.2,
          ));
    }
