-- What the first token after comments does, and whether an operand begins with it.
use Rattle.std.proofs.Common.{◌≡◌, ℕ, suc, ◌+◌, ◌==◌, ◌&&◌, Bool, true, false, cond, refl, ap, ◌∙◌, List, [], ◌∷◌}
use Rattle.grammar.specs.Tables.{is_empty}
use Rattle.wgsl_model.specs.Tokens.ClassTable.{LineComment, BlockComment}
use Rattle.std.specs.Char.{is_whitespace}
use Rattle.wgsl_model.specs.Tokens.Characters.{is_line_break}
use Rattle.wgsl_model.specs.Tokens.Trivia.{Place, outside, in_line, in_block, second, out_of_block, first_or_zero}
use Rattle.wgsl_model_tidy.specs.Pieces.{Piece, OpenComment, comment, comments, put, put_in_line, line_ends_at}
use Rattle.wgsl_model_tidy.specs.Roles.{Role}
use Rattle.wgsl_model_tidy.specs.Open.{LayoutState, role_in}
use Rattle.wgsl_model_tidy.specs.Ahead.{operand_follows, next_role, is_comment}

-- what is known of pieces is the same with a character more in the first one, and with a comment
-- before them
pub record PassesComments {A : Type 0} (f : List Piece → A) : Type 0 where
  pub over_character : (c : ℕ) (ps : List Piece) → f (put c ps) ≡ f ps
  pub over_comment : (class n : ℕ) (ps : List Piece) → is_comment class ≡ true → f (comment class n ∷ ps) ≡ f ps

-- either way
either : {A : Type 0} (f : List Piece → A) (x : A) (b : Bool) (ps qs : List Piece) → f ps ≡ x
    → f qs ≡ x → f (cond b ps qs) ≡ x
either f x true ps qs h k = h
either f x false ps qs h k = k

in_line_same : {A : Type 0} (f : List Piece → A) → PassesComments f → (c : ℕ) (ps : List Piece)
    → f (put_in_line c ps) ≡ f ps
in_line_same f s c [] = refl
in_line_same f s c (p ∷ ps) = either f (f (p ∷ ps)) (is_whitespace c && is_empty p.text) (p ∷ ps)
    (put c (p ∷ ps)) refl (s.over_character c (p ∷ ps))

-- what is known so after however many line ends is so after the comments
pub known_after : {A : Type 0} (f : List Piece → A) → PassesComments f
    → (x : A) (following : ℕ → List Piece) → ((m : ℕ) → f (following m) ≡ x)
    → (p : Place) (n : ℕ) (text : List ℕ) → f (comments following p n text) ≡ x
unfolding comments
known_after f s x following h outside n [] = h n
known_after f s x following h outside n (c ∷ cs) =
    let line = comments following (second in_line) n cs in
    let block = comments following (second (in_block 0)) n cs in
    let blank = comments following outside (n + line_ends_at c cs) cs in
    either f x (c == 47 && first_or_zero cs == 47) (put c line)
    (cond (c == 47 && first_or_zero cs == 42) (put c block) blank)
    (s.over_character c line ∙ known_after f s x following h (second in_line) n cs)
    (either f x (c == 47 && first_or_zero cs == 42) (put c block) blank
    (s.over_character c block ∙ known_after f s x following h (second (in_block 0)) n cs)
    (known_after f s x following h outside (n + line_ends_at c cs) cs))
known_after f s x following h in_line n [] = s.over_comment LineComment n (following 0) refl ∙ h 0
known_after f s x following h in_line n (c ∷ cs) =
    let after = comments following outside (line_ends_at c cs) cs in
    let left = comments following in_line n cs in
    either f x (is_line_break c) (comment LineComment n ∷ after) (put_in_line c left)
    (s.over_comment LineComment n after refl ∙ known_after f s x following h outside (line_ends_at c cs) cs)
    (in_line_same f s c left ∙ known_after f s x following h in_line n cs)
known_after f s x following h (in_block depth) n [] = s.over_comment OpenComment n (following 0) refl ∙ h 0
known_after f s x following h (in_block depth) n (c ∷ cs) =
    let inner = comments following (second (in_block (suc depth))) n cs in
    let outer = comments following (second (out_of_block depth)) n cs in
    let left = comments following (in_block depth) n cs in
    either f x (c == 47 && first_or_zero cs == 42) (put c inner)
    (cond (c == 42 && first_or_zero cs == 47) (put c outer) (put c left))
    (s.over_character c inner ∙ known_after f s x following h (second (in_block (suc depth))) n cs)
    (either f x (c == 42 && first_or_zero cs == 47) (put c outer) (put c left)
    (s.over_character c outer ∙ known_after f s x following h (second (out_of_block depth)) n cs)
    (s.over_character c left ∙ known_after f s x following h (in_block depth) n cs))
known_after f s x following h (second p) n [] = s.over_comment OpenComment n (following 0) refl ∙ h 0
known_after f s x following h (second outside) n (c ∷ cs) =
    let after = comments following outside 0 cs in
    s.over_character c (comment BlockComment n ∷ after) ∙ s.over_comment BlockComment n after refl
    ∙ known_after f s x following h outside 0 cs
known_after f s x following h (second in_line) n (c ∷ cs) =
    s.over_character c (comments following in_line n cs) ∙ known_after f s x following h in_line n cs
known_after f s x following h (second (in_block depth)) n (c ∷ cs) =
    s.over_character c (comments following (in_block depth) n cs)
    ∙ known_after f s x following h (in_block depth) n cs
known_after f s x following h (second (second p)) n (c ∷ cs) =
    s.over_character c (comments following (second p) n cs) ∙ known_after f s x following h (second p) n cs

-- ---- so is what the first token does

next_put : (s : LayoutState) (c : ℕ) (ps : List Piece) → next_role s (put c ps) ≡ next_role s ps
next_put s c [] = refl
next_put s c (p ∷ ps) = refl

next_passes : (s : LayoutState) → PassesComments (next_role s)
next_passes s = record { over_character = next_put s; over_comment = λ class n ps h. rw h refl }

pub next_after : (s : LayoutState) (right : Role) (following : ℕ → List Piece)
    → ((m : ℕ) → next_role s (following m) ≡ right) → (p : Place) (n : ℕ) (text : List ℕ)
    → next_role s (comments following p n text) ≡ right
next_after s right following h p n text = known_after (next_role s) (next_passes s) right following h p n text

-- ---- and whether an operand begins with it

operand_put : (c : ℕ) (ps : List Piece) → operand_follows (put c ps) ≡ operand_follows ps
operand_put c [] = refl
operand_put c (p ∷ ps) = refl

operand_passes : PassesComments operand_follows
operand_passes = record { over_character = operand_put; over_comment = λ class n ps h. rw h refl }

pub operand_after : (operand : Bool) (following : ℕ → List Piece)
    → ((m : ℕ) → operand_follows (following m) ≡ operand) → (p : Place) (n : ℕ) (text : List ℕ)
    → operand_follows (comments following p n text) ≡ operand
operand_after operand following h p n text = known_after operand_follows operand_passes operand following h p n text

-- the depth of the line does not matter for what it does
pub next_in_line : (s : LayoutState) (depth : ℕ) (ps : List Piece) → next_role (record s { line = depth }) ps ≡ next_role s ps
next_in_line s depth [] = refl
next_in_line s depth (p ∷ ps) =
    ap (λ r. cond (is_comment p.class) r (role_in s p.class (operand_follows ps))) (next_in_line s depth ps)
