-- The tokens of a text cut it between characters, and none is a comment.
use Rattle.std.proofs.Common.{◌≡◌, ℕ, ◌≤◌, Bool, false, List, [], ◌∷◌, drop, chars, refl, subst, arith}
use Rattle.std.specs.Str.{IsUtf8, IsCharBoundary}
use Rattle.grammar.specs.Tokens.{Token}
use Rattle.grammar.specs.Endings.{Ending}
use Rattle.wgsl_model.specs.Tokens.Places.{place, width}
use Rattle.wgsl_model.specs.Tokens.Templates.{is_word}
use Rattle.wgsl_model.specs.Tokens.TokenList.{IsTokenList}
use Rattle.wgsl_theory_grammar.proofs.Tokens.Cuts.{EndsWith, cut_at, joined, after_first}
use Rattle.wgsl_theory_grammar.proofs.Tokens.Widths.{within}
use Rattle.wgsl_theory_grammar.proofs.Tokens.Places.{bytes_width, cut_end}
use Rattle.wgsl_theory_templates.specs.Rest.Left.{LeftOf, left_nothing, left_fault, left_end, left_start, left_token}
use Rattle.wgsl_theory_templates.proofs.Rest.LeftTokens.{stream}
use Rattle.wgsl_model_tidy.specs.Ahead.{is_comment}
use Rattle.wgsl_span.specs.declared.Span.{Span}
use Rattle.wgsl_lex_token.specs.declared.kind_table.TokenKind.{TokenKind}
use Rattle.wgsl_lex_token.specs.View.{class_of_kind}
use Rattle.wgsl_lexer.specs.TextTokens.{StartWithKind, BeginAt}
use Rattle.wgsl_format_layout.specs.Left.{AreCutOff, AreLeftFrom}
use Rattle.wgsl_format_layout.proofs.TokenClasses.{raw_class}

-- so do those that are left of a text
left_cut : (total : ℕ) (ends : List ℕ) (word : Bool) (text : List ℕ) (ts : List Token) (e : Ending)
    → LeftOf total ends word text ts e → AreCutOff total text ts
left_cut total ends word text ts e (left_nothing x w s r) = tt
left_cut total ends word text ts e (left_fault x w s from after r) = tt
left_cut total ends word text ts e (left_end x w s from after kind us f r h) =
    let cut = cut_at text from after kind r in (
      drop 1 from,
      record { from = from; ends = cut.0; goes_on = after_first from; starts = refl; stops = refl; plain = refl },
      left_cut total x false (drop 1 from) us e h,
    )
left_cut total ends word text ts e (left_start x s from after end kind us f r b c k h) =
    let cut = cut_at text from after kind r in (
      after,
      record {
        from = from;
        ends = cut.0;
        goes_on = (cut.1.0 ∷ cut.1.1, cut.1.2);
        starts = refl;
        stops = refl;
        plain = refl;
      },
      left_cut total (place total end ∷ ends) false after us e h,
    )
left_cut total ends word text ts e (left_token x w s from after kind us f r b n h) =
    let cut = cut_at text from after kind r in (
      after,
      record {
        from = from;
        ends = cut.0;
        goes_on = (cut.1.0 ∷ cut.1.1, cut.1.2);
        starts = refl;
        stops = refl;
        plain = raw_class text from after kind r;
      },
      left_cut total ends (is_word kind.class) after us e h,
    )

-- and those of a source
source_cut : (source : List ℕ) (ts : List Token) (e : Ending) → IsTokenList source ts e
    → AreCutOff (width source) source ts
source_cut source ts e h = left_cut (width source) [] false source ts e
    (stream (width source) source ts e (omega arith) h)

-- ---- the tokens that are left of a source, from a place on

-- at first they are all left
pub all_left : (source : List ℕ) (ts : List Token) (e : Ending) → IsTokenList (chars source) ts e
    → AreLeftFrom source 0 ts
all_left source ts e h =
    record { rest = chars source; ends = ([], refl); stands = omega arith; cut = source_cut (chars source) ts e h }

-- a text may be cut where an end of it begins
end_boundary : (source rest : List ℕ) (n : ℕ) → IsUtf8 source → EndsWith (chars source) rest
    → n ≡ place (width (chars source)) rest → IsCharBoundary source n
end_boundary source rest n u h at =
    let cut = cut_end source h.0 rest u h.1 in
    let here : width h.0 ≡ n = omega (arith, at, cut.3, bytes_width source u) in
    subst (IsCharBoundary source) here cut.2

pub left_boundary : (source : List ℕ) (n : ℕ) (ts : List Token) → IsUtf8 source
    → AreLeftFrom source n ts → IsCharBoundary source n
left_boundary source n ts u l = end_boundary source l.rest n u l.ends l.stands

-- what is known of the first of them
pub record IsFirst (source : List ℕ) (n : ℕ) (t : Token) (ts : List Token) : Type 0 where
  pub plain : is_comment t.class ≡ false
  pub following : n ≤ t.start
  pub forward : t.start ≤ t.end
  pub start_boundary : IsCharBoundary source t.start
  pub stop_boundary : IsCharBoundary source t.end
  pub left : AreLeftFrom source t.end ts

pub first_left : (source : List ℕ) (n : ℕ) (t : Token) (ts : List Token) → IsUtf8 source
    → AreLeftFrom source n (t ∷ ts) → IsFirst source n t ts
first_left source n t ts u l =
    let cut = l.cut.1 in
    let from = cut.from in
    let after = l.cut.0 in
    let from_ends = joined (chars source) l.rest from l.ends cut.ends in
    let after_ends = joined (chars source) from after from_ends cut.goes_on in
    record {
      plain = cut.plain;
      following = omega (arith, cut.starts, l.stands, within l.rest from cut.ends);
      forward = omega (arith, cut.starts, cut.stops, within from after cut.goes_on);
      start_boundary = end_boundary source from t.start u from_ends cut.starts;
      stop_boundary = end_boundary source after t.end u after_ends cut.stops;
      left = record { rest = after; ends = after_ends; stands = cut.stops; cut = l.cut.2 };
    }

-- the same, where its kind and its place are known
pub record StandsNext (source : List ℕ) (n : ℕ) (ts : List Token) (kind : TokenKind) (span : Span) : Type 0 where
  pub first : Token
  pub others : List Token
  pub whole : ts ≡ first ∷ others
  pub class : first.class ≡ class_of_kind kind
  pub starts : first.start ≡ span.start
  pub stops : first.end ≡ span.end
  pub plain : is_comment (class_of_kind kind) ≡ false
  pub following : n ≤ span.start
  pub forward : span.start ≤ span.end
  pub start_boundary : IsCharBoundary source span.start
  pub stop_boundary : IsCharBoundary source span.end
  pub left : AreLeftFrom source span.end others

pub stands_next : (source : List ℕ) (n : ℕ) (ts : List Token) (kind : TokenKind) (span : Span)
    → IsUtf8 source → AreLeftFrom source n ts → StartWithKind ts kind → BeginAt ts span
    → StandsNext source n ts kind span
stands_next source n [] kind span u l k s = absurd k
stands_next source n (t ∷ ts) kind span u l k s =
    let first = first_left source n t ts u l in
    record {
      first = t;
      others = ts;
      whole = refl;
      class = k;
      starts = s.0;
      stops = s.1;
      plain = subst (λ c. is_comment c ≡ false) k first.plain;
      following = omega (arith, first.following, s.0);
      forward = omega (arith, first.forward, s.0, s.1);
      start_boundary = subst (IsCharBoundary source) s.0 first.start_boundary;
      stop_boundary = subst (IsCharBoundary source) s.1 first.stop_boundary;
      left = subst (λ k. AreLeftFrom source k ts) s.1 first.left;
    }
