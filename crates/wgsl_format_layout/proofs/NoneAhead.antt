-- No tokens are ahead where only comments are left.
use Rattle.std.proofs.Common.{◌≡◌, ℕ, Bool, true, false, cond, refl, sym, ap, ◌∙◌, List, [], ◌∷◌, chars}
use Rattle.std.proofs.lemmas.Bool.{true≢false}
use Rattle.wgsl_model.specs.Tokens.Trivia.{outside}
use Rattle.wgsl_model_tidy.specs.Pieces.{Piece, comment, put, pieces_from}
use Rattle.wgsl_model_tidy.specs.Layout.{Layout}
use Rattle.wgsl_model_tidy.specs.Open.{together, LayoutState, role_in, after_token}
use Rattle.wgsl_model_tidy.specs.Ahead.{Ahead, is_comment, operand_follows, after_comment, token_ahead, tokens_ahead}
use Rattle.wgsl_theory_tidy.proofs.NextRoles.{PassesComments, known_after}
use Rattle.wgsl_lexer.specs.TextTokens.{tokens_left}
use Rattle.wgsl_format_layout.specs.declared.marks.Marks.{Marks}
use Rattle.wgsl_format_layout.specs.Layouts.{layout_view}
use Rattle.wgsl_format_layout.specs.Reading.{ahead_left}

abbrev is_empty : List Ahead → Bool
is_empty [] = true
is_empty (t ∷ ts) = false

commented : (layout : Layout) (p : Piece) (ts : List Ahead) → is_empty (after_comment layout p ts) ≡ is_empty ts
commented layout p [] = refl
commented layout p (t ∷ ts) = refl

none_put : (layout : Layout) (s : LayoutState) (c : ℕ) (ps : List Piece)
    → is_empty (tokens_ahead layout s (put c ps)) ≡ is_empty (tokens_ahead layout s ps)
none_put layout s c [] = refl
none_put layout s c (p ∷ ps) = go (is_comment p.class)
  where
    first : Piece
    first = record { class = p.class; text = c ∷ p.text; line_ends = p.line_ends }

    with : Piece → List Ahead
    with q =
        let right = role_in s q.class (operand_follows ps) in
        let after = tokens_ahead layout (after_token s 0 q.class right together) ps in
        token_ahead layout s right q after ∷ after

    go : (b : Bool) → is_empty (cond b (after_comment layout first (tokens_ahead layout s ps)) (with first))
        ≡ is_empty (cond b (after_comment layout p (tokens_ahead layout s ps)) (with p))
    go true = commented layout first (tokens_ahead layout s ps) ∙ sym (commented layout p (tokens_ahead layout s ps))
    go false = refl

none_passes : (layout : Layout) (s : LayoutState) → PassesComments (λ ps. is_empty (tokens_ahead layout s ps))
none_passes layout s = record {
  over_character = none_put layout s;
  over_comment = λ class n ps h. rw h (commented layout (comment class n) (tokens_ahead layout s ps));
}

empty_is : (ts : List Ahead) → is_empty ts ≡ true → ts ≡ []
empty_is [] h = refl
empty_is (t ∷ ts) h = absurd (true≢false (sym h))

pub nothing_ahead : (marks : Marks) (state : LayoutState) → tokens_left marks.left ≡ [] → ahead_left marks state ≡ []
nothing_ahead marks state e =
    let layout = layout_view marks.layout in
    ap (λ ts. tokens_ahead layout state (pieces_from (chars marks.source.now) marks.byte ts)) e
    ∙ empty_is _ (known_after (λ ps. is_empty (tokens_ahead layout state ps)) (none_passes layout state) true
    (λ n. []) (λ m. refl) outside 0 _)
