-- The shortest text of tokens is read with these tokens.
use Rattle.std.proofs.Common.{◌≡◌, ◌⊎◌, inl, inr, ℕ, ◌==◌, Bool, true, false, cond, refl, sym, ap, subst, ◌∙◌, List, [], ◌∷◌, ◌++◌}
use Rattle.std.proofs.lemmas.Bool.{true≢false}
use Rattle.wgsl_model.specs.Tokens.ClassTable.{TemplateArgsStart, TemplateArgsEnd, SymLessThan}
use Rattle.wgsl_model.specs.Tokens.Kind.{Kind, plain}
use Rattle.wgsl_model.specs.Tokens.Raw.{Raw.token as raw_token, raw, raw_at}
use Rattle.wgsl_model.specs.Tokens.Trivia.{outside, after_trivia, first_or_zero}
use Rattle.wgsl_theory_grammar.proofs.Tokens.Bare.{over_blank}
use Rattle.wgsl_theory_templates.proofs.Reaching.Reach.{Role as ListRole, Role.template_start, Role.template_end, role}
use Rattle.wgsl_theory_templates.proofs.Lexed.RoleClasses.{is_mark_role}
use Rattle.wgsl_theory_templates.proofs.Lexed.LexedAlong.{BeginsWith, along_role, Along}
use Rattle.wgsl_theory_printed.proofs.Spelling.Along.{after_one}
use Rattle.wgsl_model_tidy.specs.Pieces.{Piece, comments}
use Rattle.wgsl_model_tidy.specs.Open.{start, role_in, last_after}
use Rattle.wgsl_theory_tidy.proofs.Kept.Alone.{alone_ends, space_alone}
use Rattle.wgsl_theory_tidy.proofs.Kept.LaidTokens.{token_here}
use Rattle.wgsl_theory_tidy.proofs.Kept.Parted.{PartsBefore, token_again, start_again}
use Rattle.wgsl_theory_tidy.proofs.Kept.Readings.{IsToken, is_word, is_start, is_end, is_slash, is_slash_equal, token_piece, Reads, reads_end, reads_token}
use Rattle.wgsl_theory_tidy.proofs.Kept.TokenRoles.{token_starts}
use Rattle.wgsl_theory_tidy.proofs.Kept.Touching.{Shaped, is_other}
use Rattle.wgsl_model_short.specs.Spaces.{goes_on}
use Rattle.wgsl_model_short.specs.Shortest.{gap, joined}
use Rattle.wgsl_theory_short.proofs.TokenEnds.{token_ends}
use Rattle.wgsl_theory_short.proofs.Reading.{Tokens, no_token, one_token}

-- ---- a token before the tokens after it

-- it ends a template list, or what is after it makes no more of it
abbrev Parts : Kind → List ℕ → List ℕ → Type 0
Parts k w rest = (k ≡ plain TemplateArgsEnd) ⊎ PartsBefore w rest

pub before_space : (k : Kind) (w rest : List ℕ) → IsToken k w rest → (more : List ℕ) → PartsBefore w (32 ∷ more)
before_space k [] rest i more = absurd (token_starts false k [] rest i)
before_space k (x ∷ xs) rest i more = (alone_ends 32 x xs space_alone, λ e. (refl, refl))

before_token : (k : Kind) (w rest : List ℕ) → IsToken k w rest → (x : ℕ) (xs more : List ℕ)
    → Parts k w (gap k.class (x ∷ xs) ++ ((x ∷ xs) ++ more))
before_token k w rest i x xs more = go (goes_on k.class x) refl
  where
    go : (b : Bool) → goes_on k.class x ≡ b → Parts k w (cond b (32 ∷ []) [] ++ ((x ∷ xs) ++ more))
    go true e = inr (before_space k w rest i ((x ∷ xs) ++ more))
    go false e = token_ends k w rest x i e

parts : (k : Kind) (w rest : List ℕ) → IsToken k w rest → (text : List ℕ) (ks : List Kind) (ps : List Piece)
    → Tokens text ks ps → Parts k w (joined k.class ps)
parts k w rest i _ _ _ (no_token text e) = inr tt
parts k w rest i _ _ _ (one_token trivia [] more j ks ps p g r) = absurd (token_starts false j [] more g)
parts k w rest i _ _ _ (one_token trivia (x ∷ xs) more j ks ps p g r) =
    before_token k w rest i x xs (joined j.class ps)

no_shape : (w : List ℕ) → Shaped (last_after start (role_in start TemplateArgsEnd false)) w → ⊥
no_shape w (is_other left x xs t) = absurd (true≢false (sym t))

-- it is the same token there
pub again : (k : Kind) (w rest : List ℕ) → IsToken k w rest → (more : List ℕ) → Parts k w more → IsToken k w more
again k w rest i more p = token_again start k false w rest more i (λ h. go h p)
  where
    go : Shaped (last_after start (role_in start k.class false)) w → Parts k w more → PartsBefore w more
    go h (inl e) = absurd (no_shape w
        (subst (λ (j : Kind). Shaped (last_after start (role_in start j.class false)) w) e h))
    go h (inr q) = q

-- and the `<` of a template list is the token `<`
less_again : (k : Kind) (w rest : List ℕ) → IsToken k w rest → (more : List ℕ) → Parts k w more
    → k.class ≡ TemplateArgsStart → raw (60 ∷ more) ≡ raw_token (plain SymLessThan) (60 ∷ more) more
less_again k w rest i more p e = start_again start more (λ h. go w (start_text k w rest i e) p)
  where
    start_text : (k : Kind) (w rest : List ℕ) → IsToken k w rest → k.class ≡ TemplateArgsStart → w ≡ 60 ∷ []
    start_text k w rest (is_word j v r m s q) e =
        absurd (true≢false (sym (ap (λ c. is_mark_role (role c)) e) ∙ m))
    start_text k w rest (is_slash r q) e = absurd (true≢false (sym (ap (λ c. c == TemplateArgsStart) e)))
    start_text k w rest (is_slash_equal r q) e = absurd (true≢false (sym (ap (λ c. c == TemplateArgsStart) e)))
    start_text k w rest (is_start r) e = refl
    start_text k w rest (is_end r) e = absurd (true≢false (sym (ap (λ c. c == TemplateArgsStart) e)))

    go : (v : List ℕ) → v ≡ 60 ∷ [] → Parts k v more → PartsBefore (60 ∷ []) more
    go v q (inl f) = absurd
        (true≢false (sym (ap (λ c. c == TemplateArgsStart) (sym (ap (λ (j : Kind). j.class) f) ∙ e))))
    go v q (inr f) = subst (λ u. PartsBefore u more) q f

-- ---- the text is read along the kinds

unmarked_along : (r : ListRole) (k : Kind) (Rest : List ℕ → Type 0) (text : List ℕ)
    → is_mark_role r ≡ false → BeginsWith k Rest text → along_role r k Rest text
unmarked_along template_start k Rest text m h = absurd cc
unmarked_along template_end k Rest text m h = absurd cc
unmarked_along r k Rest text m h = h

along_token : (k : Kind) (w text : List ℕ) → IsToken k w text
    → (k.class ≡ TemplateArgsStart → raw (60 ∷ text) ≡ raw_token (plain SymLessThan) (60 ∷ text) text)
    → (Rest : List ℕ → Type 0) → Rest text → (all : List ℕ) → raw all ≡ raw (w ++ text)
    → along_role (role k.class) k Rest all
along_token k w text (is_word j v r m s e) less Rest a all q =
    unmarked_along (role k.class) k Rest all m (w ++ text, text, q ∙ e, a)
along_token k w text (is_start r) less Rest a all q =
    (plain SymLessThan, 60 ∷ text, text, q ∙ less refl, refl, (refl, a))
along_token k w text (is_end r) less Rest a all q =
    let g = after_one text in (g.kind, 62 ∷ text, g.after, q ∙ g.is_token, g.greater, (refl, a))
along_token k w text (is_slash r e) less Rest a all q = (47 ∷ text, text, q ∙ e, a)
along_token k w text (is_slash_equal r e) less Rest a all q = (47 ∷ (61 ∷ text), text, q ∙ e, a)

-- a space or nothing is passed over
over_gap : (class : ℕ) (next text : List ℕ) → after_trivia outside (gap class next ++ text) ≡ after_trivia outside text
over_gap class next text = go (goes_on class (first_or_zero next))
  where
    go : (b : Bool) → after_trivia outside (cond b (32 ∷ []) [] ++ text) ≡ after_trivia outside text
    go true = over_blank 32 text refl
    go false = refl

pub nothing_left : after_trivia outside [] ≡ []
unfolding after_trivia
nothing_left = refl

pub joined_along : (text : List ℕ) (ks : List Kind) (ps : List Piece) → Tokens text ks ps → (class : ℕ)
    → Along ks (joined class ps)
joined_along _ _ _ (no_token text e) class = ap raw_at nothing_left
joined_along _ _ _ (one_token trivia w rest k ks ps p i r) class =
    let more = joined k.class ps in
    let here = parts k w rest i rest ks ps r in
    along_token k w more (again k w rest i more here) (less_again k w rest i more here)
    (λ x. Along ks x) (joined_along rest ks ps r k.class) _ (ap raw_at (over_gap class w (w ++ more)))

-- ---- its tokens and its pieces

pub joined_tokens : (text : List ℕ) (ks : List Kind) (ps : List Piece) → Tokens text ks ps → (class : ℕ)
    → Tokens (joined class ps) ks ps
joined_tokens _ _ _ (no_token text e) class = no_token [] nothing_left
joined_tokens _ _ _ (one_token trivia w rest k ks ps p i r) class =
    let more = joined k.class ps in
    let here = again k w rest i more (parts k w rest i rest ks ps r) in
    one_token (gap class w) w more k ks ps (over_gap class w (w ++ more) ∙ token_here k w more here) here
    (joined_tokens rest ks ps r k.class)

-- no comment is in it
gap_pieces : (class : ℕ) (next : List ℕ) (following : ℕ → List Piece)
    → comments following outside 0 (gap class next) ≡ following 0
unfolding comments
gap_pieces class next following = go (goes_on class (first_or_zero next))
  where
    go : (b : Bool) → comments following outside 0 (cond b (32 ∷ []) []) ≡ following 0
    go true = refl
    go false = refl

no_pieces : comments (λ n. []) outside 0 [] ≡ []
unfolding comments
no_pieces = refl

pub joined_reads : (text : List ℕ) (ks : List Kind) (ps : List Piece) → Tokens text ks ps → (class : ℕ)
    → Reads (joined class ps) ks ps
joined_reads _ _ _ (no_token text e) class = subst (Reads [] []) no_pieces (reads_end [] nothing_left)
joined_reads _ _ _ (one_token trivia w rest k ks ps p i r) class =
    let more = joined k.class ps in
    let here = again k w rest i more (parts k w rest i rest ks ps r) in
    subst (Reads (gap class w ++ (w ++ more)) (k ∷ ks)) (gap_pieces class w (λ n. token_piece k w n ∷ ps))
    (reads_token (gap class w) w more k ks ps (over_gap class w (w ++ more) ∙ token_here k w more here) here
    (joined_reads rest ks ps r k.class))
