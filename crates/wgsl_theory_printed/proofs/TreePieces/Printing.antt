-- What it means that pieces print a text and have tokens, some levels of indentation deep.
use Rattle.std.proofs.Common.{◌≡◌, ℕ, zero, suc, ◌==◌, Bool, true, false, cond, refl, sym, ap, List, [], ◌∷◌, ◌++◌, ◌∙◌, append_assoc}
use Rattle.std.specs.Prelude.{codes}
use Rattle.wgsl_model.specs.Tokens.ClassTable.{TemplateArgsStart, TemplateArgsEnd}
use Rattle.wgsl_model.specs.Tokens.Kind.{Kind, plain}
use Rattle.wgsl_model.specs.Printed.Indentation.{after_line_ends, indented}
use Rattle.wgsl_model.proofs.Filled.{IsFilled}
use Rattle.wgsl_theory_printed.proofs.Spelling.Pieces.{Piece, space, line_end, opens, closes, word, bytes_of, kinds, OnOneLine, Fits}

-- ---- indented texts

-- four spaces after each line break
abbrev pub pushed : List ℕ → List ℕ
pushed = after_line_ends (codes "    ")

-- the same a number of times
abbrev pub deep : ℕ → List ℕ → List ℕ
deep zero text = text
deep (suc n) text = deep n (pushed text)

pushed_step : (b : Bool) (c : ℕ) (x y z : List ℕ) → z ≡ x ++ y
    → cond b (c ∷ (codes "    " ++ z)) (c ∷ z) ≡ cond b (c ∷ (codes "    " ++ x)) (c ∷ x) ++ y
pushed_step true c x y z e = ap (λ w. c ∷ (codes "    " ++ w)) e
pushed_step false c x y z e = ap (λ w. c ∷ w) e

pushed-append : (x y : List ℕ) → pushed (x ++ y) ≡ pushed x ++ pushed y
pushed-append [] y = refl
pushed-append (c ∷ x) y = pushed_step (c == 10) c (pushed x) (pushed y) (pushed (x ++ y)) (pushed-append x y)

deep-append : (n : ℕ) (x y : List ℕ) → deep n (x ++ y) ≡ deep n x ++ deep n y
deep-append zero x y = refl
deep-append (suc n) x y = ap (deep n) (pushed-append x y) ∙ deep-append n (pushed x) (pushed y)

pushed-one_line : (w : List ℕ) → OnOneLine w → pushed w ≡ w
pushed-one_line [] h = refl
pushed-one_line (c ∷ w) h = rw (h.0) (ap (λ x. c ∷ x) (pushed-one_line w h.1))

deep-one_line : (n : ℕ) (w : List ℕ) → OnOneLine w → deep n w ≡ w
deep-one_line zero w h = refl
deep-one_line (suc n) w h = ap (deep n) (pushed-one_line w h) ∙ deep-one_line n w h

-- ---- pieces

-- what is put before the pieces that follow
abbrev pub Puts : Type 0
Puts = List Piece → List Piece

-- four spaces
abbrev pub four : Puts
four rest = space ∷ (space ∷ (space ∷ (space ∷ rest)))

-- a line break, and the indentation of the next line
abbrev pub line : ℕ → Puts
line zero rest = line_end ∷ rest
line (suc n) rest = line n (four rest)

-- where pieces fit, their bytes are the text with a number of levels of indentation, and the kinds
-- of their tokens are those that are written
pub record Prints (n : ℕ) (text : List ℕ) (put : Puts) (write : List Kind → List Kind) : Type 0 where
  pub bytes : (rest : List Piece) → Fits (put rest) → (bytes_of (put rest) ≡ deep n text ++ bytes_of rest) × Fits rest
  pub tokens : (rest : List Piece) → kinds (put rest) ≡ write (kinds rest)

pub none_prints : {n : ℕ} → Prints n [] (λ rest. rest) (λ rest. rest)
none_prints {n} =
    record { bytes = λ rest f. (ap (λ x. x ++ bytes_of rest) (sym (deep-one_line n [] tt)), f); tokens = λ rest. refl }

infixl 10 ◌before◌
-- one text before another
pub ◌before◌ : {n : ℕ} {a b : List ℕ} {p q : Puts} {v w : List Kind → List Kind} → Prints n a p v
    → Prints n b q w → Prints n (a ++ b) (λ rest. p (q rest)) (λ rest. v (w rest))
◌before◌ {n} {a} {b} {p} {q} {v} {w} g h = record {
  bytes = λ rest f. (let first = g.bytes (q rest) f in let second = h.bytes rest first.1 in (
    first.0 ∙ ap (λ x. deep n a ++ x) second.0 ∙ sym (append_assoc (deep n a) (deep n b) (bytes_of rest))
        ∙ ap (λ x. x ++ bytes_of rest) (sym (deep-append n a b)),
    second.1,
  ));
  tokens = λ rest. g.tokens (q rest) ∙ ap v (h.tokens rest);
}

pub word_prints : {n : ℕ} {w : List ℕ} {k : Kind} → Prints n w (λ rest. word w k ∷ rest) (λ rest. k ∷ rest)
word_prints {n} {w} {k} = record {
  bytes = λ rest f. (ap (λ x. x ++ bytes_of rest) (sym (deep-one_line n w f.0.on_one_line)), f.1);
  tokens = λ rest. refl;
}

pub space_prints : {n : ℕ} → Prints n (codes " ") (λ rest. space ∷ rest) (λ rest. rest)
space_prints {n} = record {
  bytes = λ rest f. (ap (λ x. x ++ bytes_of rest) (sym (deep-one_line n (codes " ") (refl, tt))), f);
  tokens = λ rest. refl;
}

pub opens_prints : {n : ℕ} → Prints n (codes "<") (λ rest. opens ∷ rest) (λ rest. plain TemplateArgsStart ∷ rest)
opens_prints {n} = record {
  bytes = λ rest f. (ap (λ x. x ++ bytes_of rest) (sym (deep-one_line n (codes "<") (refl, tt))), f.1);
  tokens = λ rest. refl;
}

pub closes_prints : {n : ℕ} → Prints n (codes ">") (λ rest. closes ∷ rest) (λ rest. plain TemplateArgsEnd ∷ rest)
closes_prints {n} = record {
  bytes = λ rest f. (ap (λ x. x ++ bytes_of rest) (sym (deep-one_line n (codes ">") (refl, tt))), f);
  tokens = λ rest. refl;
}

-- ---- lines

four_prints : (n : ℕ) → Prints n (codes "    ") four (λ rest. rest)
four_prints n = record {
  bytes = λ rest f.
      (ap (λ x. x ++ bytes_of rest) (sym (deep-one_line n (codes "    ") (refl, (refl, (refl, (refl, tt)))))), f);
  tokens = λ rest. refl;
}

pub line_prints : (n : ℕ) → Prints n (codes "\n") (line n) (λ rest. rest)
line_prints zero = record { bytes = λ rest f. (refl, f); tokens = λ rest. refl }
line_prints (suc n) =
    let more = line_prints n before four_prints n in record { bytes = more.bytes; tokens = more.tokens }

-- a text four spaces in
pub indented_prints : {n : ℕ} {text : List ℕ} {p : Puts} {w : List Kind → List Kind} → IsFilled text
    → Prints (suc n) text p w → Prints n (indented text) (λ rest. four (p rest)) w
indented_prints {text = []} f h = absurd f
indented_prints {n = n} {text = b ∷ bs} {p = p} {w = w} f h =
    let more : Prints n (codes "    " ++ pushed (b ∷ bs)) (λ rest. four (p rest)) w =
    four_prints n before record { bytes = h.bytes; tokens = h.tokens } in
    record { bytes = more.bytes; tokens = more.tokens }
