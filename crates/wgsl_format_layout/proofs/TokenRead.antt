-- The next token of a source, of which the blank space before it, its width and what it does are
-- known.
use Rattle.std.proofs.Common.{◌≡◌, ℕ, ◌+◌, ◌-◌, false, cond, refl, sym, ap, subst, ◌∙◌, List, [], ◌∷◌, drop, take, chars}
use Rattle.std.specs.Prelude.{slice_range, Option, Some, None, MatchOption}
use Rattle.std.specs.Str.{IsUtf8}
use Rattle.std.proofs.lemmas.Str.{encodes-chars}
use Rattle.grammar.specs.Tokens.{Token}
use Rattle.wgsl_model.specs.Tokens.Trivia.{outside}
use Rattle.wgsl_model_tidy.specs.Pieces.{between, piece_of, pieces_from}
use Rattle.wgsl_model_tidy.specs.Roles.{Role, begins_operand, role_of, precedence}
use Rattle.wgsl_model_tidy.specs.Joints.{closed_up, is_between_items}
use Rattle.wgsl_model_tidy.specs.Layout.{Layout, column_after}
use Rattle.wgsl_model_tidy.specs.Open.{together, LayoutState, role_in, after_token}
use Rattle.wgsl_model_tidy.specs.Ahead.{Ahead, is_comment, operand_follows, token_ahead, tokens_ahead}
use Rattle.wgsl_theory_tidy.proofs.NextRoles.{operand_after}
use Rattle.wgsl_lex_token.specs.declared.kind_table.TokenKind.{TokenKind}
use Rattle.std.specs.List.{list_all}
use Rattle.wgsl_lexer.specs.TextTokens.{tokens_left, StartWithKind}
use Rattle.wgsl_format_layout.specs.declared.layout.Layout as code
use Rattle.wgsl_format_layout.specs.declared.marks.Trivia.{Trivia}
use Rattle.wgsl_format_layout.specs.declared.marks.MarkedToken.{MarkedToken}
use Rattle.wgsl_format_layout.specs.declared.marks.Marks.{Marks}
use Rattle.wgsl_format_layout.specs.View.{role_view}
use Rattle.wgsl_format_layout.specs.Layouts.{layout_view}
use Rattle.wgsl_format_layout.specs.Lines.{is_printable}
use Rattle.wgsl_format_layout.specs.Contexts.{IsContext}
use Rattle.wgsl_format_layout.specs.Reads.{role_before}
use Rattle.wgsl_format_layout.specs.Reading.{pieces_left, ahead_left, IsEnd, ReadsToken}
use Rattle.wgsl_format_layout.specs.OpenKinds.{operand_next}
use Rattle.wgsl_format_layout.specs.Left.{AreLeftFrom}
use Rattle.wgsl_format_layout.specs.Trivia.{with_trivia, IsTrivia}

-- the characters of a part of a source
pub part_chars : (source part : List ℕ) (from to : ℕ) → IsUtf8 source
    → part ≡ slice_range source from to → chars part ≡ between (chars source) from to
part_chars source part from to u e = ap chars e
    ∙ ap (λ bs. chars (take (to - from) (drop from bs))) (sym (encodes-chars source u))

-- an operand begins with the first of the tokens that are left
pub operand_right : (source : List ℕ) (n : ℕ) (ts : List Token) (next : Option TokenKind) → AreLeftFrom source n ts
    → MatchOption next (ts ≡ []) (StartWithKind ts)
    → operand_follows (pieces_from (chars source) n ts) ≡ operand_next next
operand_right source n [] None l h = operand_after false (λ k. []) (λ k. refl) outside 0 _
operand_right source n [] (Some kind) l h = absurd h
operand_right source n (t ∷ ts) None l h = absurd (nothing h)
  where
    nothing : (t ∷ ts) ≡ [] → ⊥
    nothing e = subst (λ xs. first xs) e tt
      where
        first : List Token → Type 0
        first [] = ⊥
        first (u ∷ us) = Unit {0}
operand_right source n (t ∷ ts) (Some kind) l h =
    let first : (k : ℕ) → operand_follows (piece_of (chars source) t k ∷ pieces_from (chars source) t.end ts)
    ≡ operand_next (Some kind) = λ k. rw l.cut.1.plain (ap (λ class. begins_operand (role_of false class)) h) in
    operand_after (operand_next (Some kind))
    (λ k. piece_of (chars source) t k ∷ pieces_from (chars source) t.end ts) first outside 0 _

-- the token ahead that is next, with those ahead after it
abbrev pub next_ahead : Layout → List ℕ → LayoutState → Role → Token → Trivia → List Ahead → Ahead
next_ahead layout source a right t v after =
    with_trivia v (token_ahead layout a right (piece_of source t 0) after)

pub first_read : (layout : Layout) (source : List ℕ) (a : LayoutState) (from : ℕ) (t : Token) (ts : List Token)
    (v : Trivia) (right : Role) → is_comment t.class ≡ false → IsTrivia layout (between source from t.start) v
    → right ≡ role_in a t.class (operand_follows (pieces_from source t.end ts))
    → let after = tokens_ahead layout (after_token a 0 t.class right together) (pieces_from source t.end ts) in
    tokens_ahead layout a (pieces_from source from (t ∷ ts)) ≡ next_ahead layout source a right t v after ∷ after
first_read layout source a from t ts v right plain h e =
    let does = role_in a t.class (operand_follows (pieces_from source t.end ts)) in
    let ahead : Role → List Ahead = λ r.
    tokens_ahead layout (after_token a 0 t.class r together) (pieces_from source t.end ts) in
    h.ahead a (λ n. piece_of source t n ∷ pieces_from source t.end ts)
    (token_ahead layout a does (piece_of source t 0) (ahead does)) (ahead does) (λ n. rw plain refl)
    ∙ ap (λ (r : Role). next_ahead layout source a r t v (ahead r) ∷ ahead r) (sym e)

-- a token is read that has this role, these columns and this end
pub token_reads : (old new : Marks) (a : LayoutState) (t : Token) (m : MarkedToken) → is_comment t.class ≡ false
    → tokens_left old.left ≡ t ∷ tokens_left new.left → new.source.now ≡ old.source.now
    → new.layout ≡ old.layout → new.byte ≡ t.end → IsContext old.context a
    → IsContext new.context (after_token a 0 t.class (role_view m.role) together)
    → IsTrivia (layout_view old.layout) (between (chars old.source.now) old.byte t.start) m.before
    → role_view m.role ≡ role_before old.source.now a t (tokens_left new.left)
    → m.binds ≡ precedence (role_view m.role) t.class
    → m.width ≡ column_after (layout_view old.layout) 0 (between (chars old.source.now) t.start t.end)
    → m.item ≡ is_between_items (role_view old.context.last) (role_view m.role)
    → IsEnd old (role_view m.role) m.before m.width m.end
    → m.span.start ≡ t.start → m.span.end ≡ t.end → m.last ≡ new.context.last
    → m.is_printable ≡ list_all is_printable (slice_range old.source.now t.start t.end)
    → ReadsToken old a t m new
token_reads old new a t m plain whole source layout byte context next trivia role binds width item end start stop last
    printable =
    let right = role_view m.role in
    let text = chars old.source.now in
    let shape = layout_view old.layout in
    let state = after_token a 0 t.class right together in
    let others = tokens_left new.left in
    let after = tokens_ahead shape state (pieces_from text t.end others) in
    let near = next_ahead shape text a right t m.before after in
    let here : after ≡ ahead_left new state =
    ap (λ k. tokens_ahead shape state (pieces_from text k others)) (sym byte)
    ∙ ap (λ bs. tokens_ahead shape state (pieces_from (chars bs) new.byte others)) (sym source)
    ∙ ap (λ (l : code.Layout). tokens_ahead (layout_view l) state (pieces_left new)) (sym layout) in
    record {
      near = near;
      role = refl;
      level = refl;
      context = next;
      ahead = ap (λ ts. tokens_ahead shape a (pieces_from text old.byte ts)) whole
          ∙ first_read shape text a old.byte t others m.before right plain trivia role
          ∙ ap (λ us. near ∷ us) here;
      is = λ place close ts e. record {
        role = refl;
        binds = binds;
        width = width;
        ends = refl;
        item = item ∙ ap (λ (l : Role). is_between_items l right) (sym context.last);
        below = refl;
        column = end.column
            ∙ ap (λ (l : Role). old.end.column + ((cond (closed_up l right) 0 1 + m.before.width) + m.width))
            (sym context.last)
            ∙ ap (λ w. old.end.column + ((cond (closed_up a.last right) 0 1 + m.before.width) + w)) width;
        breaks = end.breaks;
        close = e;
      };
      read = λ close. record {
        start = start;
        stop = stop;
        role = role;
        last = ap role_view last ∙ sym next.last;
        binds = binds;
        line_ends = trivia.plain;
        printable = λ p. sym printable ∙ p;
      };
    }
