-- Declarations of values and statements are told apart.
use Rattle.std.proofs.Common.{ℕ, ◌≡◌, ◌==◌, ◌<◌, refl, sym, ap, ◌∙◌, Bool, true, false, if◌then◌else◌, List, [], ◌∷◌, ◌++◌, append_assoc, Option, arith, ne_eqb, length, ◌^◌}
use Rattle.grammar.specs.Tokens.{Span}
use Rattle.wgsl_model.specs.Printed.Statements.{is_void}
use Rattle.wgsl_model.specs.Trees.NamedValues.{AddressSpace, AccessMode}
use Rattle.wgsl_model.specs.Trees.Attributed.{with_attributes}
use Rattle.wgsl_model.specs.Trees.Attributes.{Attributes}
use Rattle.wgsl_model.specs.Trees.Statements.{DeclarationKind, const_kind, override_kind, let_kind, var_kind, default_selector, expression_selector, statement_node, Statement, statement, UnattributedStatement, void, compound, assignment, increment, decrement, if_statement, switch_statement, loop_statement, for_statement, while_statement, break_statement, continue_statement, discard_statement, return_statement, function_call_statement, const_assert, declaration, compound_statement, if_else, if_clause, else_if_clause, else_clause, switch, switch_clause, repeat, continuing, repeat_for, repeat_while, StatementNodes, no_statements, statement_before, no_else_ifs, else_if_before, no_else, one_else, SwitchClauses, no_clauses, clause_before, no_continuing, one_continuing, no_statement, one_statement, unattributed, increment_of, decrement_of, return_of, call_statement_of, assert_of, break_if_of, assignment_of}
use Rattle.wgsl_model_packed.specs.Rules.{nothing_rule, node_rule, parts_rule, part_rule, further_word_rule, var_template_rule, typed_rule, initializer_rule, returned_rule, ended_rule, void_item_rule, item_rule, block_end_rule, empty_end_rule, opened_end_rule, empty_opened_end_rule, lines_rule, indented_line_rule}
use Rattle.wgsl_model_packed.specs.Statements.{packed_var_template, packed_kind, packed_declaration, packed_break_if, packed_selector, end_of, end_of_clauses, packed_after, packed_statement, packed_in, packed_compound, packed_opened, packed_if, packed_if_clause, packed_else_ifs, packed_else_if_clause, packed_else, packed_else_clause, packed_switch, packed_clauses, packed_switch_clause, packed_loop, packed_maybe_continuing, packed_continuing, packed_for, packed_part, packed_while}
use Rattle.wgsl_theory_packed.specs.Fits.{AttributesFit, DeclarationFits, BreakIfFits, SelectorFits, StatementFits, UnattributedFits, ItemFits, ItemsFit, CompoundFits, IfFits, IfClauseFits, ElseIfsFit, ElseIfClauseFits, ElseFits, ElseClauseFits, SwitchFits, ClausesFit, SwitchClauseFits, LoopFits, MaybeContinuingFits, ContinuingFits, ForFits, PartFits, WhileFits}
use Rattle.wgsl_theory_packed.proofs.Told.Forms.{Tells, IsTold, AreTold, tells_of, so, ◌▸◌, same, turned, after_rule, item_form, told_item, told_rule, apart, of_one, of_two, of_three, of_four, told_text, told_span, told_optional, told_further_word, told_list}
use Rattle.wgsl_theory_packed.proofs.Told.Words.{told_address_space, told_access_mode, told_assignment_operator}
use Rattle.wgsl_theory_packed.proofs.Told.Expressions.{told_node, told_call, told_type}
use Rattle.wgsl_theory_packed.proofs.Told.Attributes.{told_attribute_line, led}

-- ---- parts of statements
told_var_template : (a b : AddressSpace × Option AccessMode)
    → Tells (packed_var_template a) (packed_var_template b) (a ≡ b)
told_var_template (a, m) (b, n) = of_two (λ (space : AddressSpace) (mode : Option AccessMode). (space, mode))
    (told_address_space a b ▸ told_further_word further_word_rule refl told_access_mode m n)

pub told_kind : (a b : DeclarationKind) → Tells (packed_kind a) (packed_kind b) (a ≡ b)
told_kind const_kind const_kind = same
told_kind override_kind override_kind = same
told_kind let_kind let_kind = same
told_kind (var_kind a) (var_kind b) = of_one var_kind (after_rule (
    told_further_word var_template_rule refl told_var_template a b))
told_kind (var_kind a) k = apart refl
told_kind k (var_kind b) = apart refl
told_kind k l = after_rule (apart refl)

pub told_declaration : AreTold DeclarationFits packed_declaration
told_declaration d h e k = of_four (λ kind ident ty initializer.
    record { kind = kind; ident = ident; ty = ty; initializer = initializer })
    (told_kind d.kind e.kind ▸ told_text d.ident e.ident
    ▸ told_optional typed_rule refl told_type d.ty h.0 e.ty k.0
    ▸ told_optional initializer_rule refl told_node d.initializer h.1 e.initializer k.1)

pub told_break_if : AreTold BreakIfFits packed_break_if
told_break_if a h b k = of_two (λ attributes e. with_attributes attributes (break_if_of e)) (after_rule
    (told_attribute_line a.attributes h.0 b.attributes k.0 ▸ told_node a.node.expression h.1 b.node.expression k.1))

pub told_selector : AreTold SelectorFits packed_selector
told_selector default_selector h default_selector k = same
told_selector (expression_selector e) h (expression_selector d) k =
    of_one expression_selector (after_rule (told_node e h d k))
told_selector a h b k = apart refl

-- a statement without the rule of the `;` that ends it
abbrev opened : List ℕ → List ℕ
opened [] = []
opened (n ∷ form) = if n == ended_rule then form else n ∷ form

-- it has no more bytes
opened_small : (form : List ℕ) → length form < 2 ^ 64 → length (opened form) < 2 ^ 64
opened_small [] h = h
opened_small (n ∷ form) h = go (n == ended_rule) where
  go : (b : Bool) → length (if b then form else n ∷ form) < 2 ^ 64
  go true = omega (arith, h)
  go false = h

opened_is : (a : Attributes) (x : UnattributedStatement) (r : List ℕ)
    → opened (packed_statement (statement a x) ++ r) ≡ packed_after a x ++ r
opened_is a void r = refl
opened_is a x r = refl

ended_told : {E : Type 0} (a : Attributes) (x : UnattributedStatement) (b : Attributes) (y : UnattributedStatement)
    → Tells (packed_after a x) (packed_after b y) E
    → Tells (packed_statement (statement a x)) (packed_statement (statement b y)) E
ended_told a x b y one = record {
  told = λ r s small e. one.told r s (rw opened_is at (opened_small _ small))
      (sym (opened_is a x r) ∙ ap opened e ∙ opened_is b y s);
}

-- ---- blocks
-- a statement before others and what ends them
item_before : (empty : Bool) (span : Span) (form more end : List ℕ)
    → item_form item_rule empty span (more ++ end) (form ++ (more ++ end))
    ≡ item_form item_rule empty span more (form ++ more) ++ end
item_before true span form more end = simp append_assoc
item_before false span form more end = simp append_assoc

-- a rule that is after those of items
abbrev IsEnd : ℕ → Type 0
IsEnd n = item_rule < n

-- no item begins so
no_item : {h : List ℕ} {E : Type 0} (n : ℕ) → IsEnd n → (b : Bool) (x : Span) (f g : List ℕ)
    → Tells (n ∷ h) (item_form item_rule b x f g) E
no_item n h true x f g = apart (ne_eqb n void_item_rule (λ e. omega (arith, h, e)))
no_item n h false x f g = apart (ne_eqb n item_rule (λ e. omega (arith, h, e)))

-- statements, and a rule that ends them
abbrev IsBlockTold : StatementNodes → Type 0
IsBlockTold ss = (m : ℕ) → IsEnd m → (ts : StatementNodes) → ItemsFit ts → (n : ℕ) → IsEnd n
    → Tells (packed_in ss ++ (m ∷ [])) (packed_in ts ++ (n ∷ [])) (ss ≡ ts)

-- no statements and some, and their ends
some_items : (m : ℕ) → IsEnd m → (t : Statement) (y : Span) (ts : StatementNodes) (n : ℕ)
    → Tells (m ∷ []) (packed_in (statement_before (statement_node t y) ts) ++ (n ∷ []))
    (no_statements ≡ statement_before (statement_node t y) ts)
some_items m h t y ts n = tells_of refl (item_before (is_void t) y (packed_statement t) (packed_in ts) (n ∷ []))
    (no_item m h (is_void t) y (packed_in ts ++ (n ∷ [])) (packed_statement t ++ (packed_in ts ++ (n ∷ []))))

no_items : IsBlockTold no_statements
no_items m e no_statements k n f = so (λ d. refl) (told_rule m n)
no_items m e (statement_before (statement_node t y) ts) k n f = some_items m e t y ts n

-- a statement before others
two_items : (s : Statement) (x : Span) (ss : StatementNodes) → ItemFits (statement_node s x)
    → IsTold StatementFits packed_statement s → IsBlockTold ss → IsBlockTold (statement_before (statement_node s x) ss)
two_items s x ss h one more m e no_statements k n f = turned (some_items n f s x ss m)
two_items s x ss h one more m e (statement_before (statement_node t y) ts) k n f =
    tells_of (item_before (is_void s) x (packed_statement s) (packed_in ss) (m ∷ []))
    (item_before (is_void t) y (packed_statement t) (packed_in ts) (n ∷ []))
    (told_item item_rule refl (unattributed void) (λ s x ss. statement_before (statement_node s x) ss) (is_void s)
    (is_void t) s t h.2 k.0.2 x y h.0 k.0.0 (more m e ts k.1 n f) (one t k.0.1 ▸ more m e ts k.1 n f))

-- the rule that ends a block
abbrev Ends : List ℕ → Type 0
Ends form = (n : ℕ) × (form ≡ n ∷ []) × IsEnd n

either_ends : (b : Bool) (f g : List ℕ) → Ends f → Ends g → Ends (if b then f else g)
either_ends true f g h k = h
either_ends false f g h k = k

ends : (some none : ℕ) → IsEnd some → IsEnd none → (ss : StatementNodes) → Ends (end_of some none ss)
ends some none h k no_statements = (none, refl, k)
ends some none h k (statement_before (statement_node s span) ss) =
    either_ends (is_void s) _ _ (ends some none h k ss) (some, refl, h)

block_told : (some none : ℕ) → IsEnd some → IsEnd none → (ss : StatementNodes) → IsBlockTold ss
    → IsTold ItemsFit (λ ss. packed_in ss ++ end_of some none ss) ss
block_told some none h k ss one ts fits =
    let m = ends some none h k ss in
    let n = ends some none h k ts in
    tells_of (ap (λ end. packed_in ss ++ end) (sym m.1)) (ap (λ end. packed_in ts ++ end) (sym n.1))
    (one m.0 m.2 ts fits n.0 n.2)

-- no clause begins as the end of clauses
small_end : (cs : SwitchClauses) → end_of_clauses cs < lines_rule
small_end no_clauses = omega arith
small_end (clause_before c cs) = omega arith

-- ---- statements
mutual
  -- what is after the rule of the `;`, with the attributes
  pub told_after : (x : UnattributedStatement) → UnattributedFits x → (a : Attributes) → AttributesFit a
      → (y : UnattributedStatement) → UnattributedFits y → (b : Attributes) → AttributesFit b
      → Tells (packed_after a x) (packed_after b y) (statement a x ≡ statement b y)
  told_after void h a f void k b g = of_one (λ a. statement a void) (after_rule (told_attribute_line a f b g))
  told_after (compound ss) h a f (compound ts) k b g = led (λ a ss. statement a (compound ss)) a f b g
      (block_told block_end_rule empty_end_rule (omega arith) (omega arith) ss (told_in ss h) ts k)
  told_after (assignment x) h a f (assignment y) k b g =
      so (λ d i. statement (d.0 i) (assignment_of (d.1.0 i) (d.1.1.0 i) (d.1.1.1 i))) (after_rule
      (told_attribute_line a f b g ▸ told_node x.lhs h.0 y.lhs k.0
      ▸ told_assignment_operator x.operator y.operator ▸ told_node x.rhs h.1 y.rhs k.1))
  told_after (increment x) h a f (increment y) k b g =
      led (λ a e. statement a (increment_of e)) a f b g (told_node x.expression h y.expression k)
  told_after (decrement x) h a f (decrement y) k b g =
      led (λ a e. statement a (decrement_of e)) a f b g (told_node x.expression h y.expression k)
  told_after (if_statement x) h a f (if_statement y) k b g =
      led (λ a s. statement a (if_statement s)) a f b g (told_if x h y k)
  told_after (switch_statement x) h a f (switch_statement y) k b g =
      led (λ a s. statement a (switch_statement s)) a f b g (told_switch x h y k)
  told_after (loop_statement x) h a f (loop_statement y) k b g =
      led (λ a s. statement a (loop_statement s)) a f b g (told_loop x h y k)
  told_after (for_statement x) h a f (for_statement y) k b g =
      led (λ a s. statement a (for_statement s)) a f b g (told_for x h y k)
  told_after (while_statement x) h a f (while_statement y) k b g =
      led (λ a s. statement a (while_statement s)) a f b g (told_while x h y k)
  told_after break_statement h a f break_statement k b g =
      of_one (λ a. statement a break_statement) (after_rule (told_attribute_line a f b g))
  told_after continue_statement h a f continue_statement k b g =
      of_one (λ a. statement a continue_statement) (after_rule (told_attribute_line a f b g))
  told_after discard_statement h a f discard_statement k b g =
      of_one (λ a. statement a discard_statement) (after_rule (told_attribute_line a f b g))
  told_after (return_statement x) h a f (return_statement y) k b g =
      led (λ a e. statement a (return_of e)) a f b g
      (told_optional returned_rule refl told_node x.expression h y.expression k)
  told_after (function_call_statement x) h a f (function_call_statement y) k b g =
      led (λ a c. statement a (call_statement_of c)) a f b g (told_call x.call h y.call k)
  told_after (const_assert x) h a f (const_assert y) k b g =
      led (λ a e. statement a (const_assert (assert_of e))) a f b g (told_node x.expression h y.expression k)
  told_after (declaration x) h a f (declaration y) k b g =
      led (λ a d. statement a (declaration d)) a f b g (told_declaration x h y k)
  told_after x h a f y k b g = apart refl

  pub told_statement : AreTold StatementFits packed_statement
  told_statement (statement a x) h (statement b y) k = ended_told a x b y (told_after x h.1 a h.0 y k.1 b k.0)

  told_in : (ss : StatementNodes) → ItemsFit ss → IsBlockTold ss
  told_in no_statements h = no_items
  told_in (statement_before (statement_node s x) ss) h =
      two_items s x ss h.0 (told_statement s h.0.1) (told_in ss h.1)

  pub told_compound : AreTold CompoundFits packed_compound
  told_compound (compound_statement a ss) h (compound_statement b ts) k = led compound_statement a h.0 b k.0
      (block_told block_end_rule empty_end_rule (omega arith) (omega arith) ss (told_in ss h.1) ts k.1)

  told_opened : AreTold CompoundFits packed_opened
  told_opened (compound_statement a ss) h (compound_statement b ts) k = led compound_statement a h.0 b k.0
      (block_told opened_end_rule empty_opened_end_rule (omega arith) (omega arith) ss (told_in ss h.1) ts k.1)

  told_if : AreTold IfFits packed_if
  told_if (if_else c cs l) h (if_else d ds m) k = of_three if_else
      (told_if_clause c h.0 d k.0 ▸ told_else_ifs cs h.1 ds k.1 ▸ told_else l h.2 m k.2)

  pub told_if_clause : AreTold IfClauseFits packed_if_clause
  told_if_clause (if_clause e b) h (if_clause d c) k =
      of_two if_clause (after_rule (told_node e h.0 d k.0 ▸ told_compound b h.1 c k.1))

  told_else_ifs : AreTold ElseIfsFit packed_else_ifs
  told_else_ifs no_else_ifs h no_else_ifs k = same
  told_else_ifs (else_if_before c cs) h (else_if_before d ds) k = of_two else_if_before
      (after_rule (told_else_if_clause c h.0 d k.0 ▸ told_else_ifs cs h.1 ds k.1))
  told_else_ifs cs h ds k = apart refl

  pub told_else_if_clause : AreTold ElseIfClauseFits packed_else_if_clause
  told_else_if_clause (else_if_clause a e b) h (else_if_clause c d s) k = of_three else_if_clause (after_rule
      (told_attribute_line a h.0 c k.0 ▸ told_node e h.1 d k.1 ▸ told_compound b h.2 s k.2))

  told_else : AreTold ElseFits packed_else
  told_else no_else h no_else k = same
  told_else (one_else c) h (one_else d) k = of_one one_else (after_rule (told_else_clause c h d k))
  told_else c h d k = apart refl

  pub told_else_clause : AreTold ElseClauseFits packed_else_clause
  told_else_clause (else_clause a b) h (else_clause c d) k = led else_clause a h.0 c k.0 (told_compound b h.1 d k.1)

  told_switch : AreTold SwitchFits packed_switch
  told_switch (switch e a cs) h (switch d b ds) k = of_three switch (told_node e h.0 d k.0
      ▸ told_attribute_line a h.1 b k.1 ▸ told_clauses cs h.2 (end_of_clauses cs) (small_end cs)
      ds k.2 (end_of_clauses ds) (small_end ds))

  told_clauses : (cs : SwitchClauses) → ClausesFit cs → (m : ℕ) → m < lines_rule → (ds : SwitchClauses)
      → ClausesFit ds → (n : ℕ) → n < lines_rule → Tells (packed_clauses m cs) (packed_clauses n ds) (cs ≡ ds)
  told_clauses no_clauses h m e no_clauses k n f = so (λ d. refl) (told_rule m n)
  told_clauses no_clauses h m e (clause_before d ds) k n f =
      apart (ne_eqb m lines_rule (λ d. omega (arith, d, e)))
  told_clauses (clause_before c cs) h m e no_clauses k n f =
      turned (apart (ne_eqb n lines_rule (λ d. omega (arith, d, f))))
  told_clauses (clause_before c cs) h m e (clause_before d ds) k n f = of_two clause_before
      (after_rule (told_switch_clause c h.0 d k.0 ▸ told_clauses cs h.1 m e ds k.1 n f))

  pub told_switch_clause : AreTold SwitchClauseFits packed_switch_clause
  told_switch_clause (switch_clause a s b) h (switch_clause c t d) k = of_three switch_clause (after_rule
      (told_attribute_line a h.0 c k.0
      ▸ told_list nothing_rule parts_rule part_rule refl refl refl told_selector s h.1 t k.1
      ▸ told_compound b h.2 d k.2))

  told_loop : AreTold LoopFits packed_loop
  told_loop (repeat b c) h (repeat d e) k = of_two repeat
      (told_opened b h.0 d k.0 ▸ told_maybe_continuing c h.1 e k.1)

  told_maybe_continuing : AreTold MaybeContinuingFits packed_maybe_continuing
  told_maybe_continuing no_continuing h no_continuing k = same
  told_maybe_continuing (one_continuing c) h (one_continuing d) k =
      of_one one_continuing (after_rule (told_continuing c h d k))
  told_maybe_continuing c h d k = apart refl

  pub told_continuing : AreTold ContinuingFits packed_continuing
  told_continuing (continuing a b c) h (continuing d e f) k = of_three continuing (after_rule
      (told_attribute_line a h.0 d k.0 ▸ told_opened b h.1 e k.1
      ▸ told_optional indented_line_rule refl told_break_if c h.2 f k.2))

  told_for : AreTold ForFits packed_for
  told_for (repeat_for p e u b) h (repeat_for q d v c) k = of_four repeat_for (told_part p h.0 q k.0
      ▸ told_optional node_rule refl told_node e h.1 d k.1 ▸ told_part u h.2 v k.2 ▸ told_compound b h.3 c k.3)

  told_part : AreTold PartFits packed_part
  told_part no_statement h no_statement k = same
  told_part (one_statement (statement_node (statement a s) x)) h (one_statement (statement_node (statement b t) y)) k =
      so (λ d i. one_statement (statement_node (d.1 i) (d.0 i)))
      (after_rule (told_span x h.0 y k.0 ▸ told_after s h.1.1 a h.1.0 t k.1.1 b k.1.0))
  told_part (one_statement (statement_node (statement a s) x)) h no_statement k = apart refl
  told_part no_statement h (one_statement (statement_node (statement b t) y)) k = apart refl

  told_while : AreTold WhileFits packed_while
  told_while (repeat_while e b) h (repeat_while d c) k = of_two repeat_while
      (told_node e h.0 d k.0 ▸ told_compound b h.1 c k.1)
