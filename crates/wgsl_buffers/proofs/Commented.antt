-- The comments that are written, one by one.
use Rattle.std.proofs.Common.{◌≡◌, ℕ, true, List, [], ◌∷◌, ◌++◌, drop, length, chars, refl, sym, ap, subst, ◌∙◌, append_assoc, append-nil}
use Rattle.std.specs.Str.{IsUtf8}
use Rattle.std.proofs.lemmas.Str.{encodes-chars}
use Rattle.grammar.specs.Tokens.{Token}
use Rattle.wgsl_model.specs.Tokens.Places.{width, place}
use Rattle.wgsl_model.specs.Tokens.Characters.{is_blank}
use Rattle.wgsl_theory_grammar.proofs.Tokens.Places.{bytes_width}
use Rattle.wgsl_span.specs.declared.Span.{Span}
use Rattle.wgsl_lex_token.specs.declared.kind_table.TokenKind.{TokenKind}
use Rattle.wgsl_lex_token.specs.View.{class_of_kind}
use Rattle.wgsl_lex_scanner.specs.Trivia.{BeginsWithNone}
use Rattle.wgsl_format_layout.proofs.TokensCut.{StandsNext}
use Rattle.wgsl_buffers.specs.declared.tokens.PlacedKind.{PlacedKind}
use Rattle.wgsl_buffers.specs.Items.{Stored, kind_and_place, item_of_token}
use Rattle.wgsl_buffers.specs.Comments.{AreComments, none_left, blank, comment, IsComment, text_from, AreTokensAndComments}
use Rattle.wgsl_buffers.proofs.Written.{none_stored}

-- some comments of a text are stored, and with those of the rest they are all
pub record Commented (total : ℕ) (text rest : List ℕ) (before buffer : List PlacedKind) (n m : ℕ) : Type 0 where
  pub done : List (ℕ × ℕ × ℕ)
  pub whole : (comments : List (ℕ × ℕ × ℕ)) → AreComments total rest comments
      → AreComments total text (done ++ comments)
  pub stored : (items : List (ℕ × ℕ × ℕ)) → Stored kind_and_place items before n
      → Stored kind_and_place (items ++ done) buffer m

-- at first there is none
pub none_commented : (total : ℕ) (text : List ℕ) (buffer : List PlacedKind) (n : ℕ)
    → Commented total text text buffer buffer n n
none_commented total text buffer n = record {
  done = [];
  whole = λ comments h. h;
  stored = λ items h. subst (λ xs. Stored kind_and_place xs buffer n) (sym (append-nil items)) h;
}

-- a blank is passed over
pub blank_passed : (total c : ℕ) (text rest after : List ℕ) (before buffer : List PlacedKind) (n m : ℕ)
    → rest ≡ c ∷ after → is_blank c ≡ true → Commented total text rest before buffer n m
    → Commented total text after before buffer n m
blank_passed total c text rest after before buffer n m e is h = record {
  done = h.done;
  whole = λ comments are. h.whole comments
      (subst (λ xs. AreComments total xs comments) (sym e) (blank c after comments is are));
  stored = h.stored;
}

-- one more comment is stored
pub comment_passed : (total class start end : ℕ) (text rest after : List ℕ)
    (before buffer new : List PlacedKind) (n m k : ℕ)
    → IsComment rest class after → start ≡ place total rest → end ≡ place total after
    → ((items : List (ℕ × ℕ × ℕ)) → Stored kind_and_place items buffer m
    → Stored kind_and_place (items ++ ((class, start, end) ∷ [])) new k)
    → Commented total text rest before buffer n m → Commented total text after before new n k
comment_passed total class start end text rest after before buffer new n m k is starts ends put h =
    let item : ℕ × ℕ × ℕ = (class, start, end) in
    let same : (class, place total rest, place total after) ≡ item = sym (λ i. (class, starts i, ends i)) in
    record {
      done = h.done ++ (item ∷ []);
      whole = λ comments are. subst (AreComments total text) (sym (append_assoc h.done (item ∷ []) comments))
          (h.whole (item ∷ comments) (subst (λ x. AreComments total rest (x ∷ comments)) same
          (comment class rest after comments is are)));
      stored = λ items s. subst (λ xs. Stored kind_and_place xs new k) (append_assoc items h.done (item ∷ []))
          (put (items ++ h.done) (h.stored items s));
    }

-- where none is left, all are stored
pub all_commented : (total : ℕ) (text rest : List ℕ) (before buffer : List PlacedKind) (n m : ℕ)
    → BeginsWithNone rest → Commented total text rest before buffer n m
    → (comments : List (ℕ × ℕ × ℕ)) × AreComments total text comments
    × ((items : List (ℕ × ℕ × ℕ)) → Stored kind_and_place items before n
    → Stored kind_and_place (items ++ comments) buffer m)
all_commented total text rest before buffer n m none h = (
  h.done,
  subst (AreComments total text) (append-nil h.done) (h.whole [] (none_left rest none)),
  h.stored,
)

-- ---- tokens with the comments between them

-- some items of a source are stored, and with those of the tokens that are left after a place they
-- are all
pub record Listed (source : List ℕ) (n : ℕ) (all left : List Token) (buffer : List PlacedKind)
    (count : ℕ) : Type 0 where
  pub done : List (ℕ × ℕ × ℕ)
  pub whole : (items : List (ℕ × ℕ × ℕ)) → AreTokensAndComments source n left items
      → AreTokensAndComments source 0 all (done ++ items)
  pub stored : Stored kind_and_place done buffer count

-- at first there is none
pub none_listed : (source : List ℕ) (all : List Token) (buffer : List PlacedKind) → Listed source 0 all all buffer 0
none_listed source all buffer =
    record { done = []; whole = λ items h. h; stored = none_stored kind_and_place buffer }

-- the characters of the rest of a source
rest_chars : (source part : List ℕ) (from : ℕ) → IsUtf8 source → part ≡ drop from source
    → chars part ≡ text_from (chars source) from
rest_chars source part from u e = ap chars e ∙ ap (λ bs. chars (drop from bs)) (sym (encodes-chars source u))

-- the comments at the front of the rest of a source
comments_from : (source part : List ℕ) (n total : ℕ) (comments : List (ℕ × ℕ × ℕ)) → IsUtf8 source
    → total ≡ length source → part ≡ drop n source → AreComments total (chars part) comments
    → AreComments (width (chars source)) (text_from (chars source) n) comments
comments_from source part n total comments u size rest are =
    subst (λ t. AreComments t (text_from (chars source) n) comments) (size ∙ sym (bytes_width source u))
    (subst (λ xs. AreComments total xs comments) (rest_chars source part n u rest) are)

-- the next token, and the comments before it, are stored
pub token_listed : (source part : List ℕ) (n total : ℕ) (all left others : List Token) (kind : TokenKind) (span : Span)
    (buffer new : List PlacedKind) (count m : ℕ) (comments : List (ℕ × ℕ × ℕ)) → IsUtf8 source
    → StandsNext source n left kind span → others ≡ drop 1 left → total ≡ length source → part ≡ drop n source
    → AreComments total (chars part) comments
    → ((items : List (ℕ × ℕ × ℕ)) → Stored kind_and_place items buffer count
    → Stored kind_and_place ((items ++ comments) ++ ((class_of_kind kind, span.start, span.end) ∷ [])) new m)
    → Listed (chars source) n all left buffer count → Listed (chars source) span.end all others new m
token_listed source part n total all left others kind span buffer new count m comments u s rest size from are put h =
    let cs = chars source in
    let item = item_of_token s.first in
    let same : (class_of_kind kind, span.start, span.end) ≡ item =
    sym (λ i. (s.class i, s.starts i, s.stops i)) in
    let are_others : others ≡ s.others = rest ∙ ap (drop 1) s.whole in
    record {
      done = h.done ++ (comments ++ (item ∷ []));
      whole = λ items is.
          let following : AreTokensAndComments cs s.first.end s.others items =
          subst (λ ts. AreTokensAndComments cs s.first.end ts items) are_others
          (subst (λ k. AreTokensAndComments cs k others items) (sym s.stops) is) in
          let more : AreTokensAndComments cs n left (comments ++ (item ∷ items)) =
          subst (λ ts. AreTokensAndComments cs n ts (comments ++ (item ∷ items))) (sym s.whole)
          (comments, items, comments_from source part n total comments u size from are, following, refl) in
          subst (AreTokensAndComments cs 0 all)
          (sym (append_assoc h.done (comments ++ (item ∷ [])) items
          ∙ ap (λ xs. h.done ++ xs) (append_assoc comments (item ∷ []) items)))
          (h.whole (comments ++ (item ∷ items)) more);
      stored = subst (λ xs. Stored kind_and_place xs new m)
          (append_assoc h.done comments (item ∷ []))
          (subst (λ x. Stored kind_and_place ((h.done ++ comments) ++ (x ∷ [])) new m) same (put h.done h.stored));
    }

-- where none is left, all are stored, with the comments after the last one
pub all_listed : (source part : List ℕ) (n total : ℕ) (all left : List Token) (buffer new : List PlacedKind)
    (count m : ℕ) (comments : List (ℕ × ℕ × ℕ)) → IsUtf8 source → left ≡ [] → total ≡ length source
    → part ≡ drop n source → AreComments total (chars part) comments
    → ((items : List (ℕ × ℕ × ℕ)) → Stored kind_and_place items buffer count
    → Stored kind_and_place (items ++ comments) new m)
    → Listed (chars source) n all left buffer count
    → (items : List (ℕ × ℕ × ℕ)) × AreTokensAndComments (chars source) 0 all items × Stored kind_and_place items new m
all_listed source part n total all left buffer new count m comments u none size from are put h =
    let last : AreTokensAndComments (chars source) n left comments =
    subst (λ ts. AreTokensAndComments (chars source) n ts comments) (sym none)
    (comments_from source part n total comments u size from are) in
    (h.done ++ comments, h.whole comments last, put h.done h.stored)
