-- Texts whose places are filled one after another.
use Rattle.std.proofs.Common.{ℕ, ◌≡◌, refl, sym, ◌∙◌, subst, true, false, ◌==◌, List, [], ◌∷◌, ◌++◌, Some, codes, true≢false, inl, inr}
use Rattle.std.proofs.lemmas.List.{append_assoc, append-nil}
use Rattle.std.proofs.lemmas.Bool.{and_parts}
use Rattle.std.proofs.lemmas.Bool.Decides.{eqb_tells}
use Rattle.std.specs.List.{list_all}
use Rattle.grammar.specs.Tokens.{Span}
use Rattle.wgsl_model.specs.Printed.Indentation.{after_line_ends}
use Rattle.wgsl_writer.specs.Depth.{spaces}
use Rattle.wgsl_writer.proofs.Indents.{after_append}
use Rattle.wgsl_writer.proofs.Within.{after_nothing}
use Rattle.wgsl_model_packed.specs.Printing.{packed_text, packed_span, text_of_rule, is_plain, Prints, PrintsBy.ended, PrintsBy.plain, PrintsBy.line_break, PrintsBy.text, PrintsBy.span, PrintsBy.rule}
use Rattle.wgsl_theory_packed.specs.Shown.{Shows, Ends}

-- the same text in another form
pub shown_as : {d : ℕ} {places form one other : List ℕ} → one ≡ other →
    Shows d places form one → Shows d places form other
shown_as {d} {places} {form} e s = subst (λ (text : List ℕ). Shows d places form text) e s

-- the same form, written otherwise
pub shown_of : {d : ℕ} {places one other printed : List ℕ} → one ≡ other →
    Shows d places one printed → Shows d places other printed
shown_of {d} {places} {printed = printed} e s =
    subst (λ (form : List ℕ). Shows d places form printed) e s

-- no places, and no text
pub shown_nothing : {d : ℕ} → Shows d [] [] []
shown_nothing {d} = record { shown = λ places form printed left h. h }

-- two texts one after the other
infixr 10 ◌▸◌
pub ◌▸◌ : {d : ℕ} {p q f g t u : List ℕ} → Shows d p f t → Shows d q g u →
    Shows d (p ++ q) (f ++ g) (t ++ u)
◌▸◌ {d} {p} {q} {f} {g} {t} {u} one two = record {
  shown = λ places form printed left h.
      rw (
        append_assoc p q places,
        append_assoc f g form,
        after_append (spaces d) t u,
        append_assoc (after_line_ends (spaces d) t) (after_line_ends (spaces d) u) printed,
      )
      (one.shown (q ++ places) (g ++ form) (after_line_ends (spaces d) u ++ printed) left
      (two.shown places form printed left h));
}

-- the same where what is printed is `(t ++ u) ++ v`, and the form `f ++ (g ++ h)`: this is shown by
-- `in_turn (one before two before last three)`
infixr 10 ◌before◌
pub ◌before◌ : {d : ℕ} {p q f g begun more ended : List ℕ} → Shows d p f more →
    Ends d q g (begun ++ more) ended → Ends d (p ++ q) (f ++ g) begun ended
◌before◌ {begun = begun} {more = more} one two = record {
  text = more ++ two.text;
  whole = sym (append_assoc begun more two.text) ∙ two.whole;
  shows = one ▸ two.shows;
}

pub last : {d : ℕ} {p f begun more : List ℕ} → Shows d p f more → Ends d p f begun (begun ++ more)
last {more = more} one = record { text = more; whole = refl; shows = one }

pub in_turn : {d : ℕ} {p f ended : List ℕ} → Ends d p f [] ended → Shows d p f ended
in_turn ends = shown_as ends.whole ends.shows

-- a text, and an end that takes nothing from the form
pub shown_closed : {d : ℕ} {p q f t u : List ℕ} → Shows d p f t → Shows d q [] u →
    Shows d (p ++ q) f (t ++ u)
shown_closed {f = f} one two = shown_of (append-nil f) (one ▸ two)

-- the same as the last of some texts
pub last_closed : {d : ℕ} {p q f begun more end : List ℕ} → Shows d p f more → Shows d q [] end →
    Ends d (p ++ q) f begun ((begun ++ more) ++ end)
last_closed {begun = begun} {more = more} {end = end} one two = record {
  text = more ++ end;
  whole = sym (append_assoc begun more end);
  shows = shown_closed one two;
}

plain_is_no_break : (b : ℕ) → is_plain b ≡ true → (b == 10) ≡ false
plain_is_no_break b h = elim (eqb_tells b 10) [
  | inl e ↦ absurd (true≢false (sym (rw e.0 at h)))
  | inr e ↦ e.0
]

-- bytes that are printed as they are
pub shown_plain : {d : ℕ} (bytes : List ℕ) → list_all is_plain bytes ≡ true → Shows d bytes [] bytes
shown_plain [] h = shown_nothing
shown_plain {d} (b ∷ bs) h =
    let both = and_parts (is_plain b) (list_all is_plain bs) h in
    let more = shown_plain {d = d} bs both.1 in
    record {
      shown = λ places form printed left p.
          rw (plain_is_no_break b both.0) (plain both.0 (more.shown places form printed left p));
    }

-- a line break
pub shown_line : {d : ℕ} → Shows d (codes "\n") [] (codes "\n")
shown_line {d} = record {
  shown = λ places form printed left p.
      rw (append_assoc (spaces d) [] printed) (line_break p);
}

-- a text in its place
pub shown_text : {d : ℕ} (bytes : List ℕ) → Shows d (codes "#") (packed_text bytes) bytes
shown_text bytes = record { shown = λ places form printed left p. text bytes p }

-- a span in its place
pub shown_span : {d : ℕ} (s : Span) → Shows d (codes "%") (packed_span s) []
shown_span s = record { shown = λ places form printed left p. span s p }

-- a span before others of some texts
pub after_span : {d : ℕ} {q g begun ended : List ℕ} (s : Span) → Ends d q g begun ended →
    Ends d (37 ∷ q) (packed_span s ++ g) begun ended
after_span s ends = record {
  text = ends.text;
  whole = ends.whole;
  shows = shown_span s ▸ ends.shows;
}

-- what a rule prints, in its place
pub shown_rule : {d n : ℕ} {places form printed : List ℕ} → text_of_rule n ≡ Some places →
    Shows d places form printed → Shows d (codes "$") (n ∷ form) printed
shown_rule {n = n} {form = form} e s = record {
  shown = λ places more printed left p. rule refl e (s.shown places more printed left p);
}

-- a whole form at the top
pub shown_alone : {places form printed : List ℕ} → Shows 0 places form printed →
    Prints 0 places form printed []
shown_alone {places} {form} {printed} s =
    rw (← append-nil places, ← append-nil form, ← append-nil printed, ← after_nothing printed)
    (s.shown [] [] [] [] ended)
