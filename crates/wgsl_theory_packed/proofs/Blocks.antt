-- What is printed of the lines of a block, one level deeper, and of what ends it.
use Rattle.std.proofs.Common.{ℕ, suc, ◌≡◌, ◌∙◌, if◌then◌else◌, inl, inr, refl, sym, ap, subst, Bool, true, false, cond, List, [], ◌∷◌, ◌++◌, Some, codes, append_assoc, append-nil}
use Rattle.std.proofs.lemmas.Bool.Decides.{eqb_tells}
use Rattle.std.specs.List.{flat_map}
use Rattle.grammar.specs.Tokens.{Span}
use Rattle.wgsl_model.specs.Trees.Statements.{statement_node, StatementNodes, no_statements, statement_before}
use Rattle.wgsl_model.specs.Printed.Joining.{joined}
use Rattle.wgsl_model.specs.Printed.Indentation.{after_line_ends, indented}
use Rattle.wgsl_model.specs.Printed.Statements.{is_void, print_statement, statement_texts, indented_line}
use Rattle.wgsl_model.proofs.Filled.{IsFilled, left_filled, statement_filled}
use Rattle.wgsl_writer.specs.Depth.{spaces}
use Rattle.wgsl_writer.proofs.Indents.{after_append}
use Rattle.wgsl_model_packed.specs.Printing.{packed_span, text_of_rule, Prints, plain, line_break, deeper, back, rule}
use Rattle.wgsl_model_packed.specs.Rules.{block_end_rule, empty_end_rule, opened_end_rule, empty_opened_end_rule, indented_line_rule, void_item_rule, item_rule}
use Rattle.wgsl_model_packed.specs.Statements.{end_of}
use Rattle.wgsl_theory_packed.specs.Shown.{Shows}
use Rattle.wgsl_theory_packed.proofs.Shown.{◌▸◌, shown_nothing, shown_line, shown_plain, shown_span}

-- one level deeper than a depth, a form that fills the place of a rule is printed as a text inside,
-- and then, back at the depth, as a last one
pub record Body (depth : ℕ) (form inside last : List ℕ) : Type 0 where
  pub printed : (places more_form more_printed left : List ℕ)
      → Prints depth places more_form more_printed left
      → Prints (suc depth) (36 ∷ places) (form ++ more_form)
      (after_line_ends (spaces (suc depth)) inside ++ (after_line_ends (spaces depth) last ++ more_printed)) left

-- the same form, written otherwise
pub body_of : {d : ℕ} {one other inside last : List ℕ} → one ≡ other → Body d one inside last → Body d other inside last
body_of {d} {inside = inside} {last = last} e b = subst (λ (form : List ℕ). Body d form inside last) e b

-- the same text inside, written otherwise
pub body_as : {d : ℕ} {form one other last : List ℕ} → one ≡ other → Body d form one last → Body d form other last
body_as {d} {form} {last = last} e b = subst (λ (inside : List ℕ). Body d form inside last) e b

-- what ends a body
pub body_last : {d n : ℕ} {front rest form inside last : List ℕ} → text_of_rule n ≡ Some (front ++ (126 ∷ rest))
    → Shows (suc d) front form inside → Shows d rest [] last → Body d (n ∷ form) inside last
body_last {d} {front = front} {rest = rest} {last = last} e s t = record {
  printed = λ places form printed left p. rule refl e (rw (append_assoc front (126 ∷ rest) places)
      (s.shown (126 ∷ (rest ++ places)) form (after_line_ends (spaces d) last ++ printed) left
      (back (t.shown places form printed left p))));
}

-- one more before a body
pub body_more : {d n : ℕ} {front form text more inside last : List ℕ} → text_of_rule n ≡ Some (front ++ codes "$")
    → Shows (suc d) front form text → Body d more inside last → Body d (n ∷ (form ++ more)) (text ++ inside) last
body_more {d} {front = front} {form = f} {text = text} {more = more} {inside = inside} {last = last} e s b = record {
  printed = λ places form printed left p.
      let gap = spaces (suc d) in
      let after = after_line_ends (spaces d) last ++ printed in
      rule refl e (rw (
        append_assoc front (codes "$") places,
        append_assoc f more form,
        after_append gap text inside,
        append_assoc (after_line_ends gap text) (after_line_ends gap inside) after,
      )
      (s.shown (36 ∷ places) (more ++ form) (after_line_ends gap inside ++ after) left
      (b.printed places form printed left p)));
}

-- a gap after each line break, and then another after each
after_twice : (outer inner xs : List ℕ) → after_line_ends outer (after_line_ends inner xs)
    ≡ after_line_ends (outer ++ after_line_ends outer inner) xs
after_twice outer inner [] = refl
after_twice outer inner (x ∷ xs) =
    let both = outer ++ after_line_ends outer inner in
    let rest = after_line_ends inner xs in
    elim (eqb_tells x 10) [
      | inl e ↦
          ap (λ b. after_line_ends outer (if b then x ∷ (inner ++ rest) else x ∷ rest)) e.0
          ∙ ap (λ b. if b then x ∷ (outer ++ after_line_ends outer (inner ++ rest))
          else x ∷ after_line_ends outer (inner ++ rest)) e.0
          ∙ ap (λ z. x ∷ (outer ++ z)) (after_append outer inner rest)
          ∙ ap (λ z. x ∷ (outer ++ (after_line_ends outer inner ++ z))) (after_twice outer inner xs)
          ∙ ap (λ z. x ∷ z) (sym (append_assoc outer (after_line_ends outer inner) (after_line_ends both xs)))
          ∙ sym (ap (λ b. if b then x ∷ (both ++ after_line_ends both xs) else x ∷ after_line_ends both xs) e.0)
      | inr e ↦
          ap (λ b. after_line_ends outer (if b then x ∷ (inner ++ rest) else x ∷ rest)) e.0
          ∙ ap (λ b. if b then x ∷ (outer ++ after_line_ends outer rest) else x ∷ after_line_ends outer rest) e.0
          ∙ ap (λ z. x ∷ z) (after_twice outer inner xs)
          ∙ sym (ap (λ b. if b then x ∷ (both ++ after_line_ends both xs) else x ∷ after_line_ends both xs) e.0)
    ]

-- an indented text that is not empty is one level deeper, after four spaces
indented_deeper : (d : ℕ) (text : List ℕ) → IsFilled text
    → after_line_ends (spaces d) (indented text) ≡ codes "    " ++ after_line_ends (spaces (suc d)) text
indented_deeper d [] h = absurd h
indented_deeper d (b ∷ bs) h = ap (λ t. codes "    " ++ t) (after_twice (spaces d) (codes "    ") (b ∷ bs))

-- lines between braces are an indented text
lines_between : (d : ℕ) (text last more : List ℕ) → IsFilled text
    → after_line_ends (spaces (suc d)) (codes "\n" ++ text) ++ (after_line_ends (spaces d) last ++ more)
    ≡ after_line_ends (spaces d) (codes "\n" ++ (indented text ++ last)) ++ more
lines_between d text last more h =
    simp (after_append (spaces d) (indented text) last, indented_deeper d text h, append_assoc)

-- braces around lines
pub shown_lines : {d : ℕ} {form text last : List ℕ} → IsFilled text → Body d form (codes "\n" ++ text) last
    → Shows d (codes "{^$") form (codes "{\n" ++ (indented text ++ last))
shown_lines {d} {form = form} {text = text} {last = last} h b = record {
  shown = λ places more printed left p. plain refl (deeper (subst (λ (t : List ℕ). Prints (suc d) (36 ∷ places)
      (form ++ more) t left) (lines_between d text last printed h) (b.printed places more printed left p)));
}

-- braces around an empty line
pub shown_no_lines : {d : ℕ} {form last : List ℕ} → Body d form [] (codes "\n" ++ last)
    → Shows d (codes "{^$") form (codes "{\n" ++ last)
shown_no_lines b = record {
  shown = λ places more printed left p. plain refl (deeper (b.printed places more printed left p));
}

-- the end of a body is printed as a last text, after an empty line if there are no texts before it
pub data Closes : ℕ → List ℕ → List ℕ → List (List ℕ) → Type 0 where
  after_none : {depth : ℕ} {end last : List ℕ} → Body depth end [] (codes "\n" ++ last) → Closes depth end last []
  after_some : {depth : ℕ} {end last text : List ℕ} {texts : List (List ℕ)} → IsFilled text
      → Body depth end [] last → Closes depth end last (text ∷ texts)

-- texts on lines of their own
abbrev pub lines_of : List (List ℕ) → List ℕ
lines_of = flat_map (λ text. codes "\n" ++ text)

-- braces around texts on lines of their own
pub shown_block : {d : ℕ} {end last : List ℕ} {texts : List (List ℕ)} (form : List ℕ) → Closes d end last texts
    → ((ending : List ℕ) → Body d end [] ending → Body d (form ++ end) (lines_of texts) ending)
    → Shows d (codes "{^$") (form ++ end) (codes "{\n" ++ (indented (joined (codes "\n") texts) ++ last))
shown_block {last = last} form (after_none b) lines = shown_no_lines (lines (codes "\n" ++ last) b)
shown_block {last = last} form (after_some {text = text} h b) lines =
    shown_lines (left_filled text _ h) (lines last b)

-- a text on an indented line of its own
pub shown_indented : {d : ℕ} {form text : List ℕ} → IsFilled text → Shows (suc d) (codes "$") form text
    → Shows d (codes "$") (indented_line_rule ∷ form) (indented_line text)
shown_indented {d} {form} {text} h s = record {
  shown = λ places more printed left p.
      simp (after_append (spaces d) (indented text) (codes "\n"), indented_deeper d text h, append_assoc, append-nil)
      (rule refl refl (deeper (plain refl (plain refl (plain refl (plain refl
      (s.shown (126 ∷ (10 ∷ places)) more (10 ∷ (spaces d ++ printed)) left (back (line_break p)))))))));
}

one_closes : {d : ℕ} {one end last : List ℕ} {texts : List (List ℕ)} (text : List ℕ) (empty : Bool)
    → (empty ≡ false → IsFilled text) → Body d one [] last → Closes d end last texts
    → Closes d (cond empty end one) last (cond empty texts (text ∷ texts))
one_closes text true h one more = more
one_closes text false h one more = after_some (h refl) one

-- the end of statements
closes : {d some none : ℕ} {last : List ℕ} (ss : StatementNodes) → Body d (some ∷ []) [] last
    → Body d (none ∷ []) [] (codes "\n" ++ last) → Closes d (end_of some none ss) last (statement_texts ss)
closes no_statements one none = after_none none
closes (statement_before (statement_node s span) ss) one none =
    one_closes (print_statement s) (is_void s) (statement_filled s) one (closes ss one none)

-- the brace after lines, and after none
pub block_ends : {d : ℕ} → Body d (block_end_rule ∷ []) [] (codes "\n}")
block_ends = body_last {front = []} refl shown_nothing (shown_line ▸ shown_plain (codes "}") refl)

pub empty_ends : {d : ℕ} → Body d (empty_end_rule ∷ []) [] (codes "\n\n}")
empty_ends = body_last {front = []} refl shown_nothing (shown_line ▸ shown_line ▸ shown_plain (codes "}") refl)

pub closes_block : (d : ℕ) (ss : StatementNodes)
    → Closes d (end_of block_end_rule empty_end_rule ss) (codes "\n}") (statement_texts ss)
closes_block d ss = closes ss block_ends empty_ends

pub closes_opened : (d : ℕ) (ss : StatementNodes)
    → Closes d (end_of opened_end_rule empty_opened_end_rule ss) (codes "\n") (statement_texts ss)
closes_opened d ss = closes ss (body_last {front = []} refl shown_nothing shown_line)
    (body_last {front = []} refl shown_nothing (shown_line ▸ shown_line))

-- one more statement of a block, of which nothing is printed if it is empty
pub one_item : {d : ℕ} {form text last : List ℕ} (more end : List ℕ) (empty : Bool) (span : Span)
    (texts : List (List ℕ)) → Shows (suc d) (codes "$") form text → Body d (more ++ end) (lines_of texts) last
    → Body d (cond empty (void_item_rule ∷ (packed_span span ++ more))
    (item_rule ∷ (packed_span span ++ (form ++ more))) ++ end) (lines_of (cond empty texts (text ∷ texts))) last
one_item more end true span texts s b =
    simp append_assoc (body_more {front = codes "%"} refl (shown_span span) b)
one_item more end false span texts s b =
    simp append_assoc (body_more {front = codes "\n%$"} refl (shown_line ▸ shown_span span ▸ s) b)
