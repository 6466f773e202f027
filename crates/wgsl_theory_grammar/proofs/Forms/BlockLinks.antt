-- The insides of blocks, and what follows the first block of an `if`: both forms derive the same.
use Rattle.std.proofs.Common.{◌≡◌, List, [], ◌∷◌, inl, inr, refl, sym, ap, subst, ◌∙◌, append-nil, ◌⊎◌}
use Rattle.std.specs.Prelude.{Option, Some, None}
use Rattle.grammar.specs.Tokens.{Token, Span, span_between}
use Rattle.grammar.specs.Grammar.{Grammar.symbol, Mode, Means, Part}
use Rattle.grammar.specs.Notation.{◌◃◌, optional, several, one_token, ◌then◌, ◌or◌, ◌gives◌, ◌▹◌, ◌means◌}
use Rattle.grammar.proofs.Reading.Depth.{roll, unroll}
use Rattle.grammar.proofs.Reading.Frame.{span_append}
use Rattle.wgsl_model.specs.Tokens.ClassTable.{SymBraceRight, SymSemicolon, KwBreak, KwIf}
use Rattle.wgsl_model.specs.Trees.Expressions.{ExpressionNode}
use Rattle.wgsl_model.specs.Trees.Attributes.{Attributes}
use Rattle.wgsl_model.specs.Trees.Attributed.{Attributed, with_attributes}
use Rattle.wgsl_model.specs.Trees.Statements.{BreakIfStatement, StatementNode, Statement, UnattributedStatement, CompoundStatement, ElseIfClause, ElseClause, SwitchClause, ContinuingStatement, statement, switch_of, break_if_of, continuing_statement_of}
use Rattle.wgsl_model.specs.Grammar.StatementParts.{placed_statement, else_if, else_block, break_if, attributes, statements}
use Rattle.wgsl_model.specs.Grammar.Symbols.{Dialect, Symbol.statement, Symbol.switch_clause, Symbol.continuing_statement, Rule, Symbol.expression}
use Rattle.wgsl_model.specs.Grammar.Written.{rules}
use Rattle.wgsl_theory_grammar.specs.Factored.{Further.attribute_list, Further.loop_rest, Further.continuing_rest, Further.clause_rest, Further.else_rest, Further.switch_part, FactoredSymbol.of, FactoredSymbol.further, with_break, factored, Further.braced_part, Further.ended_part, Further.plain_statement, Further.continuing_part, FactoredRule, attributes_before, leading_list, leading_before, begun_by, statement_after, statement_first, break_part, with_condition, with_continuing}
use Rattle.wgsl_theory_grammar.specs.Meaning.{elses}
use Rattle.wgsl_theory_grammar.specs.MeaningRules.{braced_rule, ended_rule}
use Rattle.wgsl_theory_grammar.proofs.Forms.ListLinks.{IsToken, many_back, many_front, many_none, several_in, several_out}
use Rattle.wgsl_theory_grammar.proofs.Forms.Taking.{part_takes}
use Rattle.wgsl_theory_grammar.proofs.Forms.AttributeLinks.{read_list, meant_list, leading_to, leading_from, either_first, either_second, either_of, ItemsOf, first_item, second_item, no_item, items_in, items_out, read_begun, list_begun, written_begun, attributes_begun}
use Rattle.wgsl_theory_grammar.proofs.Forms.Shifts.{Meant}
use Rattle.wgsl_theory_grammar.proofs.Forms.LevelLinks.{WrittenPart, ReadPart, taking, written_takes, never_empty, body_takes}
use Rattle.wgsl_theory_grammar.proofs.Forms.StatementLinks.{statement_out}
use Rattle.wgsl_theory_grammar.proofs.Forms.StatementSteps.{ended_or_break}

-- ---- the clauses of a `switch`
abbrev clauses_in_braces : Rule (List SwitchClause)
clauses_in_braces = several (symbol switch_clause) ◃ SymBraceRight

abbrev SwitchParts : Type 0
SwitchParts = ExpressionNode × (Attributes × List SwitchClause)

abbrev switch_from : SwitchParts → UnattributedStatement
switch_from p = switch_of p.0 p.1.0 p.1.1

pub switch_part_in : (L : Dialect) (M : Mode) (v : UnattributedStatement) (xs ys : List Token)
    → Meant L M (ReadPart L M) (further switch_part) v xs ys
    → Part M (factored L) (further switch_part) v xs ys
switch_part_in L M v xs ys (p, e, (q, g, (ms, k, (us, dx, (vs, da, (r, h, (ws, kb, dc))))))) =
    let c = several_in M (Part M (factored L)) SymBraceRight (symbol (of switch_clause))
    (symbol (further clause_rest)) (roll M (factored L) (further clause_rest)) r.1 ws ys dc in
    let i : SwitchClause × List SwitchClause = c.0 in
    let r' : Token × (SwitchClause × List SwitchClause) = (r.0, i) in
    let p' : ExpressionNode × (Attributes × (SwitchClause × List SwitchClause)) = (q.1.0, (q.1.1.0, i)) in
    let q' : Token × (ExpressionNode × (Attributes × (SwitchClause × List SwitchClause))) = (q.0, p') in
    roll M (factored L) (further switch_part) v xs ys (
      p',
      ap (λ (z : List SwitchClause). switch_of q.1.0 q.1.1.0 z) (c.1 ∙ h) ∙ (ap switch_from g ∙ e),
      (
        q',
        refl,
        (
          ms,
          k,
          (us, dx, (vs, roll M (factored L) (further attribute_list) q.1.1.0 us vs da, (r', refl, (ws, kb, c.2)))),
        ),
      ),
    )

pub switch_part_out : (L : Dialect) (M : Mode) (v : UnattributedStatement) (xs ys : List Token)
    → Means M (Meant L M (WrittenPart L M)) (factored L (further switch_part)) v xs ys
    → Meant L M (WrittenPart L M) (further switch_part) v xs ys
switch_part_out L M v xs ys (p, e, (q, g, (ms, k, (us, dx, (vs, da, (r, h, (ws, kb, dc))))))) =
    let c : Means M (WrittenPart L M) clauses_in_braces (r.1.0 ∷ r.1.1) ws ys = several_out M
    (Meant L M (WrittenPart L M)) SymBraceRight (symbol (of switch_clause))
    (symbol (further clause_rest)) (λ v xs ys d. d) (r.1.0 ∷ r.1.1) ws ys (r.1, refl, dc) in
    let cs : List SwitchClause = r.1.0 ∷ r.1.1 in
    let r' : Token × List SwitchClause = (r.0, cs) in
    let p' : SwitchParts = (q.1.0, (q.1.1.0, cs)) in
    let q' : Token × SwitchParts = (q.0, p') in (
      p',
      ap (λ (z : SwitchClause × List SwitchClause). switch_of q.1.0 q.1.1.0 (z.0 ∷ z.1)) h
          ∙ (ap (λ (z : ExpressionNode × (Attributes × (SwitchClause × List SwitchClause))).
          switch_of z.0 z.1.0 (z.1.1.0 ∷ z.1.1.1)) g ∙ e),
      (q', refl, (ms, k, (us, dx, (vs, da, (r', refl, (ws, kb, c)))))),
    )

-- ---- statements, by what is after their attributes
data StatementOf (L : Dialect) (M : Mode) : StatementNode → List Token → List Token → Type 0 where
  plain_one : (x : StatementNode) (xs ms : List Token)
      → Part M (factored L) (further plain_statement) x xs ms → StatementOf L M x xs ms
  braced_one : (a : Attributes) (u : UnattributedStatement) (xs ks ms : List Token)
      → Part M (factored L) (further attribute_list) a xs ks
      → Part M (factored L) (further braced_part) u ks ms
      → StatementOf L M (statement_after a (u, span_between ks ms)) xs ms
  ended_one : (a : Attributes) (u : UnattributedStatement) (xs ks ms : List Token)
      → Means M (Part M (factored L)) (leading_list L) a xs ks
      → Means M (Part M (factored L)) ended_or_break u ks ms
      → StatementOf L M (statement_after a (u, span_between ks ms)) xs ms

statement_of : (L : Dialect) (M : Mode) (x : StatementNode) (xs ms : List Token)
    → ReadPart L M statement x xs ms → StatementOf L M x xs ms
statement_of L M x xs ms d = go (unroll M (factored L) (of statement) x xs ms d)
  where
    made : Attributes × UnattributedStatement → Statement
    made p = statement p.0 p.1

    same : (p : Attributes × UnattributedStatement) (n : Statement) (ks : List Token)
        → begun_by p.0 (span_between ks ms) ≡ span_between xs ms → made p ≡ n
        → placed_statement n (span_between xs ms) ≡ x
        → statement_after p.0 (p.1, span_between ks ms) ≡ x
    same p n ks b q e = ap (placed_statement (made p)) b
        ∙ (ap (λ (z : Statement). placed_statement z (span_between xs ms)) q ∙ e)

    following : (n : Statement) → placed_statement n (span_between xs ms) ≡ x
        → Means M (Part M (factored L)) (attributes_before statement (symbol (further braced_part)))
        n xs ms ⊎ Means M (Part M (factored L)) (leading_before L statement ended_or_break) n xs ms
        → StatementOf L M x xs ms
    following n e (inl (p, q, (ks, l, s))) =
        let w = part_takes M (factored L) never_empty (body_takes L) (symbol (further braced_part)) refl p.1 ks ms s in
        subst (λ (z : StatementNode). StatementOf L M z xs ms)
        (same p n ks (list_begun L M p.0 xs ks ms l w) q e) (braced_one p.0 p.1 xs ks ms l s)
    following n e (inr (p, q, (ks, l, s))) =
        let w = part_takes M (factored L) never_empty (body_takes L) ended_or_break refl p.1 ks ms s in
        subst (λ (z : StatementNode). StatementOf L M z xs ms)
        (same p n ks (read_begun L M p.0 xs ks ms l w) q e) (ended_one p.0 p.1 xs ks ms l s)

    go : Means M (Part M (factored L)) (factored L (of statement)) x xs ms → StatementOf L M x xs ms
    go (inl s) = plain_one x xs ms s
    go (inr (n, e, s)) = following n e
        (either_of L M (Part M (factored L)) statement (symbol (further braced_part)) ended_or_break n xs ms s)

-- and back
abbrev ended_or_break_kinds : Rule UnattributedStatement
ended_or_break_kinds = ended_rule
    or (KwBreak means UnattributedStatement.break_statement) ◃ SymSemicolon

braced_written : (L : Dialect) (M : Mode) (a : Attributes) (u : UnattributedStatement) (xs ks ms : List Token)
    → Means M (WrittenPart L M) attributes a xs ks → Means M (WrittenPart L M) braced_rule u ks ms
    → WrittenPart L M statement (statement_after a (u, span_between ks ms)) xs ms
braced_written L M a u xs ks ms l s =
    let w = part_takes M (rules L) taking (written_takes L) braced_rule refl u ks ms s in
    let i : Attributes × UnattributedStatement = (a, u) in
    statement_out L M (statement_after a (u, span_between ks ms)) xs ms
    (inr (
      statement a u,
      ap (placed_statement (statement a u)) (sym (attributes_begun L M a xs ks ms l w)),
      either_first L M (Meant L M (WrittenPart L M)) statement
          (symbol (further braced_part)) ended_or_break (statement a u) xs ms (i, refl, (ks, l, s)),
    ))

ended_written : (L : Dialect) (M : Mode) (a : Attributes) (u : UnattributedStatement) (xs ks ms : List Token)
    → Means M (Meant L M (WrittenPart L M)) (leading_list L) a xs ks
    → Means M (WrittenPart L M) ended_or_break_kinds u ks ms
    → WrittenPart L M statement (statement_after a (u, span_between ks ms)) xs ms
ended_written L M a u xs ks ms l s =
    let w = part_takes M (rules L) taking (written_takes L) ended_or_break_kinds refl u ks ms s in
    let i : Attributes × UnattributedStatement = (a, u) in
    statement_out L M (statement_after a (u, span_between ks ms)) xs ms
    (inr (
      statement a u,
      ap (placed_statement (statement a u)) (sym (written_begun L M a xs ks ms l w)),
      either_second L M (Meant L M (WrittenPart L M)) statement
          (symbol (further braced_part)) ended_or_break (statement a u) xs ms (i, refl, (ks, l, s)),
    ))

-- ---- the inside of a block, whose last part may be left out
abbrev Inside : Type 0 → Type 0
Inside E = List StatementNode × Option E

abbrev inside : {E : Type 0} → Rule E → Rule (Inside E)
inside g = (statements then optional g) ◃ SymBraceRight

abbrev only_last : {E : Type 0} → Option E → Inside E
only_last z = ([], z)

abbrev statement_before : {E : Type 0} → StatementNode → Inside E → Inside E
statement_before s z = (s ∷ z.0, z.1)

-- statement by statement
inside_in : (L : Dialect) (M : Mode) {E : Type 0} (g : Rule E) (rest : FactoredRule (Inside E))
    → ((x : StatementNode) (us ms ys : List Token) → StatementOf L M x us ms → (r : Inside E) → Means M
    (Part M (factored L)) rest r ms ys → Means M (Part M (factored L)) rest (statement_before x r) us ys)
    → ((o : Option E) (t : Token) (us ms ys : List Token) → Means M (ReadPart L M) (optional g) o us ms
    → IsToken SymBraceRight t ms ys → Means M (Part M (factored L)) rest (only_last o) us ys)
    → (v : Inside E) (xs ys : List Token) → Means M (ReadPart L M) (inside g) v xs ys
    → Means M (Part M (factored L)) rest v xs ys
inside_in L M {E} g rest S Z v xs ys (p, e, (ms, (us, dm, dl), k)) =
    subst (λ (z : Inside E). Means M (Part M (factored L)) rest z xs ys) e
    (subst (λ (z : List StatementNode). Means M (Part M (factored L)) rest (z, p.0.1) xs ys) (append-nil p.0.0)
    (many_back M (ReadPart L M) (symbol statement)
    (λ tl zs. Means M (Part M (factored L)) rest (tl, p.0.1) zs ys) (λ x es bs d tl r. S x es bs ys
    (statement_of L M x es bs d) (tl, p.0.1) r) xs p.0.0 us dm [] (Z p.0.1 p.1 us ms ys dl k)))

inside_front : (L : Dialect) (M : Mode) {E : Type 0} (g : Rule E) (x : StatementNode) (xs ms : List Token)
    → WrittenPart L M statement x xs ms → (v : Inside E) (ys : List Token)
    → Means M (WrittenPart L M) (inside g) v ms ys
    → Means M (WrittenPart L M) (inside g) (statement_before x v) xs ys
inside_front L M {E} g x xs ms d v ys (p, f, (us, (vs, dm, dl), k)) =
    let w : Inside E = (x ∷ p.0.0, p.0.1) in let q : Inside E × Token = (w, p.1) in (
      q,
      ap (λ (z : Inside E). statement_before x z) f,
      (us, (vs, many_front M (WrittenPart L M) (symbol statement) x xs ms d p.0.0 vs dm, dl), k),
    )

inside_last : (L : Dialect) (M : Mode) {E : Type 0} (g : Rule E) (o : Option E) (t : Token)
    (xs ms ys : List Token) → Means M (WrittenPart L M) (optional g) o xs ms
    → IsToken SymBraceRight t ms ys → Means M (WrittenPart L M) (inside g) (only_last o) xs ys
inside_last L M {E} g o t xs ms ys d k =
    let w : Inside E = ([], o) in let p : Inside E × Token = (w, t) in
    (p, refl, (ms, (xs, many_none M (WrittenPart L M) (symbol statement) xs, d), k))

-- ---- the inside of `loop`
abbrev loop_other : FactoredRule (Attributes → Inside ContinuingStatement)
loop_other = symbol (further continuing_part) ◃ SymBraceRight gives with_continuing

loop_items : (L : Dialect) (M : Mode) (v : Inside ContinuingStatement) (xs ys : List Token)
    → ItemsOf L M (Part M (factored L)) statement_first
    (symbol (further braced_part)) ended_or_break (symbol (further loop_rest)) loop_other v xs ys
    → Part M (factored L) (further loop_rest) v xs ys
loop_items L M v xs ys d =
    roll M (factored L) (further loop_rest) v xs ys
    (inr (inr (items_in L M (Part M (factored L)) statement_first (symbol (further braced_part))
    ended_or_break (symbol (further loop_rest)) loop_other v xs ys d)))

loop_step : (L : Dialect) (M : Mode) (x : StatementNode) (us ms ys : List Token) → StatementOf L M x us ms
    → (r : Inside ContinuingStatement) → Part M (factored L) (further loop_rest) r ms ys
    → Part M (factored L) (further loop_rest) (statement_before x r) us ys
loop_step L M _ _ _ ys (plain_one x us ms d) r h =
    let i : StatementNode × Inside ContinuingStatement = (x, r) in
    roll M (factored L) (further loop_rest) (statement_before x r) us ys (inr (inl (i, refl, (ms, d, h))))
loop_step L M _ _ _ ys (braced_one a u us ks ms l d) r h = loop_items L M
    (statement_first ((u, span_between ks ms), r) a) us ys (first_item a u r us ks ms ys l d h)
loop_step L M _ _ _ ys (ended_one a u us ks ms l d) r h = loop_items L M
    (statement_first ((u, span_between ks ms), r) a) us ys (second_item a u r us ks ms ys l d h)

loop_last : (L : Dialect) (M : Mode) (o : Option ContinuingStatement) (t : Token) (us ms ys : List Token)
    → Means M (ReadPart L M) (optional (symbol continuing_statement)) o us ms
    → IsToken SymBraceRight t ms ys
    → Part M (factored L) (further loop_rest) (only_last o) us ys
loop_last L M o t us ms ys (inl (c, f, d)) k =
    let u = unroll M (factored L) (of continuing_statement) c us ms d in
    let i : (CompoundStatement × Option (Attributed BreakIfStatement)) × Token = (u.0.1, t) in
    subst (λ (z : Option ContinuingStatement). Part M (factored L) (further loop_rest) (only_last z) us ys)
    (ap (λ (z : ContinuingStatement). Some z) u.1 ∙ f)
    (loop_items L M (with_continuing u.0.1 u.0.0) us ys
    (no_item u.0.0 (with_continuing u.0.1) us u.2.0 ys u.2.1 (u.0.1, refl, (i, refl, (ms, u.2.2, k)))))
loop_last L M o t us ms ys (inr d) k =
    roll M (factored L) (further loop_rest) (only_last o) us ys (inl (
      t,
      ap (λ (z : Option ContinuingStatement). only_last z) d.0,
      subst (λ (z : List Token). IsToken SymBraceRight t z ys) (sym d.1) k,
    ))

pub loop_rest_in : (L : Dialect) (M : Mode) (v : Inside ContinuingStatement) (xs ys : List Token)
    → Meant L M (ReadPart L M) (further loop_rest) v xs ys → Part M (factored L) (further loop_rest) v xs ys
loop_rest_in L M v xs ys d = inside_in L M (symbol continuing_statement)
    (symbol (further loop_rest)) (loop_step L M) (loop_last L M) v xs ys d

pub loop_rest_out : (L : Dialect) (M : Mode) (v : Inside ContinuingStatement) (xs ys : List Token)
    → Means M (Meant L M (WrittenPart L M)) (factored L (further loop_rest)) v xs ys
    → Meant L M (WrittenPart L M) (further loop_rest) v xs ys
loop_rest_out L M v xs ys (inl (t, e, k)) =
    subst (λ (z : Inside ContinuingStatement). Meant L M (WrittenPart L M) (further loop_rest) z xs ys) e
    (inside_last L M (symbol continuing_statement) None t xs xs ys (inr (refl, refl)) k)
loop_rest_out L M v xs ys (inr (inl (x, e, (ms, d, r)))) =
    subst (λ (z : Inside ContinuingStatement). Meant L M (WrittenPart L M) (further loop_rest) z xs ys) e
    (inside_front L M (symbol continuing_statement) x.0 xs ms (statement_out L M x.0 xs ms (inl d)) x.1 ys r)
loop_rest_out L M v xs ys (inr (inr d)) =
    go v xs ys (items_out L M (Meant L M (WrittenPart L M)) statement_first
    (symbol (further braced_part)) ended_or_break (symbol (further loop_rest)) loop_other v xs ys d)
  where
    go : (v : Inside ContinuingStatement) (xs ys : List Token)
        → ItemsOf L M (Meant L M (WrittenPart L M)) statement_first
        (symbol (further braced_part)) ended_or_break (symbol (further loop_rest)) loop_other v xs ys
        → Meant L M (WrittenPart L M) (further loop_rest) v xs ys
    go _ _ _ (first_item a u r xs ks ms ys l s h) = inside_front L M (symbol continuing_statement)
        (statement_after a (u, span_between ks ms)) xs ms (braced_written L M a u xs ks ms l s) r ys h
    go _ _ _ (second_item a u r xs ks ms ys l s h) = inside_front L M (symbol continuing_statement)
        (statement_after a (u, span_between ks ms)) xs ms (ended_written L M a u xs ks ms l s) r ys h
    go _ _ _ (no_item a f xs ks ys l (c, q, (w, g, (ms, s, k)))) =
        let i : Attributes × (CompoundStatement × Option (Attributed BreakIfStatement)) = (a, w.0) in
        let d : WrittenPart L M continuing_statement (continuing_statement_of a w.0) xs ms =
        roll M (rules L) continuing_statement (continuing_statement_of a w.0) xs ms (
          i,
          refl,
          (ks, leading_from L M (WrittenPart L M) (Meant L M (WrittenPart L M)) (meant_list L M) a xs ks l, s),
        ) in
        subst (λ (z : Inside ContinuingStatement). Meant L M (WrittenPart L M) (further loop_rest) z xs ys)
        (ap (λ (z : CompoundStatement × Option (Attributed BreakIfStatement)). with_continuing z a) g
        ∙ ap (λ (z : Attributes → Inside ContinuingStatement). z a) q)
        (inside_last L M (symbol continuing_statement) (Some (continuing_statement_of a w.0)) w.1 xs
        ms ys (inl (continuing_statement_of a w.0, refl, d)) k)

-- ---- the inside of `continuing`
abbrev LastBreak : Type 0
LastBreak = Attributed BreakIfStatement

abbrev break_more : FactoredRule (Token → Attributes → Inside LastBreak)
break_more = one_token SymSemicolon then symbol (further continuing_rest) gives with_break

abbrev break_condition : FactoredRule (Token → Attributes → Inside LastBreak)
break_condition = KwIf ▹ symbol (of expression) ◃ SymSemicolon ◃ SymBraceRight gives with_condition

abbrev continuing_other : FactoredRule (Attributes → Inside LastBreak)
continuing_other = one_token KwBreak then (break_more or break_condition) gives λ p. p.1 p.0

continuing_items : (L : Dialect) (M : Mode) (v : Inside LastBreak) (xs ys : List Token)
    → ItemsOf L M (Part M (factored L)) statement_first (symbol (further braced_part))
    (symbol (further ended_part)) (symbol (further continuing_rest)) continuing_other v xs ys
    → Part M (factored L) (further continuing_rest) v xs ys
continuing_items L M v xs ys d =
    roll M (factored L) (further continuing_rest) v xs ys
    (inr (inr (items_in L M (Part M (factored L)) statement_first (symbol (further braced_part))
    (symbol (further ended_part)) (symbol (further continuing_rest)) continuing_other v xs ys d)))

-- `break` and its `;`
two_tokens : (b t : Token) (ks bs ms : List Token) → ks ≡ b ∷ bs → bs ≡ t ∷ ms
    → span_between ks ms ≡ record { start = b.start; end = t.end }
two_tokens b t ks bs ms e f =
    ap (λ (z : List Token). span_between z ms) (e ∙ ap (λ (z : List Token). b ∷ z) f)
    ∙ span_append (b ∷ t ∷ []) ms

abbrev break_after : Attributes → Span → StatementNode
break_after a s = statement_after a (UnattributedStatement.break_statement, s)

break_step : (L : Dialect) (M : Mode) (a : Attributes) (u : UnattributedStatement) (us ks ms ys : List Token)
    → Means M (Part M (factored L)) (leading_list L) a us ks
    → Means M (Part M (factored L)) break_part u ks ms
    → (r : Inside LastBreak) → Part M (factored L) (further continuing_rest) r ms ys → Part M (factored L)
    (further continuing_rest) (statement_before (statement_after a (u, span_between ks ms)) r) us ys
break_step L M a u us ks ms ys l (w, f, (bs, (b, g, k1), k2)) r h =
    let i : Token × Inside LastBreak = (w.1, r) in
    let c : Token → Attributes → Inside LastBreak = λ b a. with_break i b a in
    let q : Token × (Token → Attributes → Inside LastBreak) = (b, c) in
    let same : break_after a (record { start = b.start; end = w.1.end }) ≡ statement_after a (u, span_between ks ms) =
    ap (break_after a) (sym (two_tokens b w.1 ks bs ms k1.1 k2.1))
    ∙ ap (λ (z : UnattributedStatement). statement_after a (z, span_between ks ms)) (g ∙ f) in
    subst (λ (z : StatementNode). Part M (factored L) (further continuing_rest) (statement_before z r) us ys) same
    (continuing_items L M (with_break i b a) us ys
    (no_item a (with_break i b) us ks ys l (q, refl, (bs, k1, inl (i, refl, (ms, k2, h))))))

continuing_step : (L : Dialect) (M : Mode) (x : StatementNode) (us ms ys : List Token)
    → StatementOf L M x us ms → (r : Inside LastBreak)
    → Part M (factored L) (further continuing_rest) r ms ys
    → Part M (factored L) (further continuing_rest) (statement_before x r) us ys
continuing_step L M _ _ _ ys (plain_one x us ms d) r h =
    let i : StatementNode × Inside LastBreak = (x, r) in
    roll M (factored L) (further continuing_rest) (statement_before x r) us ys (inr (inl (i, refl, (ms, d, h))))
continuing_step L M _ _ _ ys (braced_one a u us ks ms l d) r h = continuing_items L M
    (statement_first ((u, span_between ks ms), r) a) us ys (first_item a u r us ks ms ys l d h)
continuing_step L M _ _ _ ys (ended_one a u us ks ms l (inl d)) r h = continuing_items L M
    (statement_first ((u, span_between ks ms), r) a) us ys (second_item a u r us ks ms ys l d h)
continuing_step L M _ _ _ ys (ended_one a u us ks ms l (inr d)) r h = break_step L M a u us ks ms ys l d r h

continuing_last : (L : Dialect) (M : Mode) (o : Option LastBreak) (t : Token) (us ms ys : List Token)
    → Means M (ReadPart L M) (optional (break_if L)) o us ms → IsToken SymBraceRight t ms ys
    → Part M (factored L) (further continuing_rest) (only_last o) us ys
continuing_last L M o t us ms ys
    (inl (b, f, (p, e, (ks, l, (x, h, (q, g, (es, k1, (r, g2, (bs, k2, (w, g3, (cs, dx, k3))))))))))) k =
    let i : ExpressionNode × Token = (w.0, w.1) in
    let j : ExpressionNode × Token = (w.0, t) in
    let m : Token × ExpressionNode = (r.0, w.0) in
    let c : Token → Attributes → Inside LastBreak = with_condition w.0 in
    let n : Token × (Token → Attributes → Inside LastBreak) = (q.0, c) in
    let s : Means M (Part M (factored L)) continuing_other (with_condition w.0 q.0) ks ys =
    (n, refl, (es, k1, inr (w.0, refl, (m, refl, (bs, k2, (j, refl, (ms, (i, refl, (cs, dx, k3)), k))))))) in
    subst (λ (z : Option LastBreak). Part M (factored L) (further continuing_rest) (only_last z) us ys)
    (ap (λ (z : BreakIfStatement). Some (with_attributes p.0 z)) (ap break_if_of (g3 ∙ (g2 ∙ g)) ∙ h)
    ∙ (ap (λ (z : LastBreak). Some z) e ∙ f))
    (continuing_items L M (with_condition w.0 q.0 p.0) us ys (no_item p.0 (with_condition w.0 q.0)
    us ks ys (leading_to L M (ReadPart L M) (Part M (factored L)) (read_list L M) p.0 us ks l) s))
continuing_last L M o t us ms ys (inr d) k =
    roll M (factored L) (further continuing_rest) (only_last o) us ys (inl (
      t,
      ap (λ (z : Option LastBreak). only_last z) d.0,
      subst (λ (z : List Token). IsToken SymBraceRight t z ys) (sym d.1) k,
    ))

pub continuing_rest_in : (L : Dialect) (M : Mode) (v : Inside LastBreak) (xs ys : List Token)
    → Meant L M (ReadPart L M) (further continuing_rest) v xs ys
    → Part M (factored L) (further continuing_rest) v xs ys
continuing_rest_in L M v xs ys d = inside_in L M (break_if L) (symbol (further continuing_rest))
    (continuing_step L M) (continuing_last L M) v xs ys d

pub continuing_rest_out : (L : Dialect) (M : Mode) (v : Inside LastBreak) (xs ys : List Token)
    → Means M (Meant L M (WrittenPart L M)) (factored L (further continuing_rest)) v xs ys
    → Meant L M (WrittenPart L M) (further continuing_rest) v xs ys
continuing_rest_out L M v xs ys (inl (t, e, k)) =
    subst (λ (z : Inside LastBreak). Meant L M (WrittenPart L M) (further continuing_rest) z xs ys) e
    (inside_last L M (break_if L) None t xs xs ys (inr (refl, refl)) k)
continuing_rest_out L M v xs ys (inr (inl (x, e, (ms, d, r)))) =
    subst (λ (z : Inside LastBreak). Meant L M (WrittenPart L M) (further continuing_rest) z xs ys) e
    (inside_front L M (break_if L) x.0 xs ms (statement_out L M x.0 xs ms (inl d)) x.1 ys r)
continuing_rest_out L M v xs ys (inr (inr d)) =
    go v xs ys (items_out L M (Meant L M (WrittenPart L M)) statement_first (symbol (further braced_part))
    (symbol (further ended_part)) (symbol (further continuing_rest)) continuing_other v xs ys d)
  where
    go : (v : Inside LastBreak) (xs ys : List Token)
        → ItemsOf L M (Meant L M (WrittenPart L M)) statement_first (symbol (further braced_part))
        (symbol (further ended_part)) (symbol (further continuing_rest)) continuing_other v xs ys
        → Meant L M (WrittenPart L M) (further continuing_rest) v xs ys
    go _ _ _ (first_item a u r xs ks ms ys l s h) = inside_front L M (break_if L)
        (statement_after a (u, span_between ks ms)) xs ms (braced_written L M a u xs ks ms l s) r ys h
    go _ _ _ (second_item a u r xs ks ms ys l s h) = inside_front L M (break_if L)
        (statement_after a (u, span_between ks ms)) xs ms (ended_written L M a u xs ks ms l (inl s)) r ys h
    go _ _ _ (no_item a f xs ks ys l (n, e, (es, k1, inl (i, g, (bs, k2, r))))) =
        let u : UnattributedStatement = UnattributedStatement.break_statement in
        let j : UnattributedStatement × Token = (u, i.0) in
        let d = ended_written L M a u xs ks bs l (inr (j, refl, (es, (n.0, refl, k1), k2))) in
        subst (λ (z : Inside LastBreak). Meant L M (WrittenPart L M) (further continuing_rest) z xs ys)
        (ap (λ (z : Span). statement_before (break_after a z) i.1) (two_tokens n.0 i.0 ks es bs k1.1 k2.1)
        ∙ (ap (λ (c : Token → Attributes → Inside LastBreak). c n.0 a) g
        ∙ ap (λ (z : Attributes → Inside LastBreak). z a) e))
        (inside_front L M (break_if L) (break_after a (span_between ks bs)) xs bs d i.1 ys r)
    go _ _ _ (no_item a f xs ks ys l
        (n, e, (es, k1, inr (x, g, (m, g2, (bs, k2, (j, h, (ms, (i, h2, (cs, dx, k3)), k)))))))) =
        let r : Token × ExpressionNode = (m.0, i.0) in
        let q : Token × ExpressionNode = (n.0, i.0) in
        let b : BreakIfStatement = break_if_of i.0 in
        let p : Attributes × BreakIfStatement = (a, b) in
        let s : Means M (WrittenPart L M) (break_if L) (with_attributes a b) xs ms = (
          p,
          refl,
          (
            ks,
            leading_from L M (WrittenPart L M) (Meant L M (WrittenPart L M)) (meant_list L M) a xs ks l,
            (i.0, refl, (q, refl, (es, k1, (r, refl, (bs, k2, (i, refl, (cs, dx, k3))))))),
          ),
        ) in
        subst (λ (z : Inside LastBreak). Meant L M (WrittenPart L M) (further continuing_rest) z xs ys)
        (ap (λ (z : ExpressionNode). with_condition z n.0 a) (h2 ∙ (h ∙ g2))
        ∙ (ap (λ (c : Token → Attributes → Inside LastBreak). c n.0 a) g
        ∙ ap (λ (z : Attributes → Inside LastBreak). z a) e))
        (inside_last L M (break_if L) (Some (with_attributes a b)) j.1 xs ms ys (inl (with_attributes a b, refl, s)) k)

-- ---- `else`
abbrev Elses : Type 0
Elses = List ElseIfClause × Option ElseClause

abbrev only_else : Option ElseClause → Elses
only_else z = ([], z)

abbrev clause_first : ElseIfClause → Elses → Elses
clause_first c z = (c ∷ z.0, z.1)

abbrev ElseIfParts : Type 0
ElseIfParts = ExpressionNode × CompoundStatement

abbrev else_if_from : ElseIfParts → ElseIfClause
else_if_from p = ElseIfClause.else_if_clause [] p.0 p.1

else_step : (L : Dialect) (M : Mode) (o : Option ElseClause) (ys : List Token) (x : ElseIfClause)
    (us ms : List Token) → Means M (ReadPart L M) else_if x us ms → (tl : List ElseIfClause)
    → Part M (factored L) (further else_rest) (tl, o) ms ys
    → Part M (factored L) (further else_rest) (x ∷ tl, o) us ys
else_step L M o ys x us ms (p, e, (q, g, (es, k1, (r, g2, (bs, k2, (cs, dx, db)))))) tl rest =
    let v : Elses = (x ∷ tl, o) in
    let t : CompoundStatement × Elses = (r.1.1, (tl, o)) in
    let i : ExpressionNode × (CompoundStatement × Elses) = (r.1.0, t) in
    let j : Token × (ExpressionNode × (CompoundStatement × Elses)) = (r.0, i) in
    let w : Token × Elses = (q.0, v) in
    roll M (factored L) (further else_rest) v us ys (inl (
      w,
      refl,
      (
        es,
        k1,
        inl (
          i,
          ap (λ (z : ElseIfClause). clause_first z (tl, o)) (ap else_if_from (g2 ∙ g) ∙ e),
          (j, refl, (bs, k2, (cs, dx, (ms, db, rest)))),
        ),
      ),
    ))

else_last : (L : Dialect) (M : Mode) (o : Option ElseClause) (us ys : List Token)
    → Means M (ReadPart L M) (optional else_block) o us ys
    → Part M (factored L) (further else_rest) ([], o) us ys
else_last L M o us ys (inl (c, f, (b, h, (q, g, (es, k, d))))) =
    let v : Elses = ([], o) in
    let w : Token × Elses = (q.0, v) in
    roll M (factored L) (further else_rest) v us ys (inl (
      w,
      refl,
      (
        es,
        k,
        inr (
          q.1,
          ap (λ (z : CompoundStatement). only_else (Some (ElseClause.else_clause [] z))) g
              ∙ (ap (λ (z : ElseClause). only_else (Some z)) h ∙ ap only_else f),
          d,
        ),
      ),
    ))
else_last L M o us ys (inr d) =
    let v : Elses = ([], o) in roll M (factored L) (further else_rest) v us ys (inr (ap only_else d.0, d.1))

pub else_rest_in : (L : Dialect) (M : Mode) (v : Elses) (xs ys : List Token)
    → Meant L M (ReadPart L M) (further else_rest) v xs ys → Part M (factored L) (further else_rest) v xs ys
else_rest_in L M v xs ys (us, dm, dl) =
    subst (λ (z : List ElseIfClause). Part M (factored L) (further else_rest) (z, v.1) xs ys)
    (append-nil v.0)
    (many_back M (ReadPart L M) else_if (λ tl zs. Part M (factored L) (further else_rest) (tl, v.1) zs ys)
    (λ x es bs d tl r. else_step L M v.1 ys x es bs d tl r) xs v.0 us dm [] (else_last L M v.1 us ys dl))

pub else_rest_out : (L : Dialect) (M : Mode) (v : Elses) (xs ys : List Token)
    → Means M (Meant L M (WrittenPart L M)) (factored L (further else_rest)) v xs ys
    → Meant L M (WrittenPart L M) (further else_rest) v xs ys
else_rest_out L M v xs ys (inl (w, e, (es, k1, inl (i, f, (j, g, (bs, k2, (cs, dx, (ms, db, (us, dm, dl))))))))) =
    let p : ElseIfParts = (j.1.0, j.1.1.0) in
    let r : Token × ElseIfParts = (j.0, p) in
    let q : Token × ElseIfParts = (w.0, p) in
    let c : Means M (WrittenPart L M) else_if (else_if_from p) xs ms =
    (p, refl, (q, refl, (es, k1, (r, refl, (bs, k2, (cs, dx, db)))))) in
    let there : Means M (WrittenPart L M) elses (else_if_from p ∷ j.1.1.1.0, j.1.1.1.1) xs ys =
    (us, many_front M (WrittenPart L M) else_if (else_if_from p) xs ms c j.1.1.1.0 us dm, dl) in
    subst (λ (z : Elses). Means M (WrittenPart L M) elses z xs ys)
    (ap (λ (z : ExpressionNode × (CompoundStatement × Elses)).
    clause_first (ElseIfClause.else_if_clause [] z.0 z.1.0) z.1.1) g ∙ (f ∙ e)) there
else_rest_out L M v xs ys (inl (w, e, (es, k1, inr (b, f, d)))) =
    let q : Token × CompoundStatement = (w.0, b) in
    let there : Means M (WrittenPart L M) elses ([], Some (ElseClause.else_clause [] b)) xs ys = (
      xs,
      many_none M (WrittenPart L M) else_if xs,
      inl (ElseClause.else_clause [] b, refl, (b, refl, (q, refl, (es, k1, d)))),
    ) in
    subst (λ (z : Elses). Means M (WrittenPart L M) elses z xs ys) (f ∙ e) there
else_rest_out L M v xs ys (inr d) =
    let there : Means M (WrittenPart L M) elses ([], None) xs ys =
    (xs, many_none M (WrittenPart L M) else_if xs, inr (refl, d.1)) in
    subst (λ (z : Elses). Means M (WrittenPart L M) elses z xs ys) d.0 there
