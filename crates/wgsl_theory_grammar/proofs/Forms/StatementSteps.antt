-- Steps between the two forms of statements: what is after attributes, and what has a case of its
-- own in one of the forms.
use Rattle.std.proofs.Common.{◌≡◌, List, inl, inr, refl, ap, subst, ◌∙◌}
use Rattle.grammar.specs.Tokens.{Token, span_between}
use Rattle.grammar.specs.Grammar.{Grammar.symbol, Mode, Means, Part}
use Rattle.grammar.specs.Notation.{◌or◌, ◌gives◌, ◌◃◌, ◌means◌}
use Rattle.grammar.proofs.Reading.Depth.{Kept, roll, unroll}
use Rattle.wgsl_model.specs.Tokens.ClassTable.{SymSemicolon}
use Rattle.wgsl_model.specs.Trees.Attributes.{Attributes}
use Rattle.wgsl_model.specs.Trees.Attributed.{Attributed, with_attributes}
use Rattle.wgsl_model.specs.Trees.Statements.{StatementNode, Statement, statement, UnattributedStatement, ConstAssert, block_statement, unattributed, statements_of, compound_of, assert_statement}
use Rattle.wgsl_model.specs.Grammar.StatementParts.{placed_statement, leading}
use Rattle.wgsl_model.specs.Grammar.Symbols.{Dialect, Symbol.compound_statement, Symbol.statement, Symbol.const_assert}
use Rattle.wgsl_model.specs.Grammar.Written.{rules}
use Rattle.wgsl_theory_grammar.specs.Factored.{Further.block_part, Further.braced_part, Further.simple_part, Further.ended_part, Further.assert_part, Further.plain_statement, FactoredSymbol.of, FactoredSymbol.further, FactoredRule, attributes_before, leading_before, leading_list, Further.attribute_list, either_after, break_part, factored}
use Rattle.wgsl_theory_grammar.proofs.Forms.ListLinks.{IsToken}
use Rattle.wgsl_theory_grammar.proofs.Forms.AttributeLinks.{meant_list, leading_from, leading_kept, leading_closed, attributes_kept, either_first, either_second}
use Rattle.wgsl_theory_grammar.proofs.Forms.Shifts.{Meant}
use Rattle.wgsl_theory_grammar.proofs.Forms.LevelLinks.{WrittenPart, ReadPart}
use Rattle.wgsl_theory_grammar.proofs.Forms.LeftSides.{written_simple, read_simple, simple_in, led_simple_out}
use Rattle.wgsl_theory_grammar.proofs.Forms.StatementPlaces.{placed_assignment, placed_phony_assignment, placed_increment, placed_decrement, placed_call, placed_compound, placed_const_assert, braced_block, ended_simple, ended_assert}

-- what is after the attributes of a statement, as it is read
abbrev pub ended_or_break : FactoredRule UnattributedStatement
ended_or_break = symbol (further ended_part) or break_part

-- a statement without its place, save one that never has attributes
abbrev pub After : Dialect → Mode → Statement → List Token → List Token → Type 0
After L M n xs ys = Means M (Part M (factored L))
    (either_after L statement (symbol (further braced_part)) ended_or_break) n xs ys

pub after_in : (L : Dialect) (M : Mode) (v : StatementNode) (n : Statement) (xs ys : List Token)
    → placed_statement n (span_between xs ys) ≡ v → After L M n xs ys
    → Part M (factored L) (of statement) v xs ys
after_in L M v n xs ys e d = roll M (factored L) (of statement) v xs ys (inr (n, e, d))

-- of a kind that ends with a block
pub braced_in : (L : Dialect) (M : Mode) (h : FactoredRule UnattributedStatement)
    → Kept (Means M (Part M (factored L)) h) (Part M (factored L) (further braced_part))
    → (n : Statement) (xs ys : List Token)
    → Means M (Part M (factored L)) (attributes_before statement h) n xs ys → After L M n xs ys
braced_in L M h H n xs ys d =
    either_first L M (Part M (factored L)) statement (symbol (further braced_part)) ended_or_break n xs ys
    (attributes_kept M (Part M (factored L)) statement h (symbol (further braced_part)) H n xs ys d)

-- of a kind that ends with `;`
pub closed_in : (L : Dialect) (M : Mode) (h : FactoredRule UnattributedStatement)
    → Kept (Means M (Part M (factored L)) (h ◃ SymSemicolon)) (Means M (Part M (factored L)) ended_or_break)
    → (n : Statement) (q : Statement × Token) (xs ms ys : List Token)
    → q.0 ≡ n → Means M (Part M (factored L)) (leading_before L statement h) q.0 xs ms
    → IsToken SymSemicolon q.1 ms ys → After L M n xs ys
closed_in L M h H n q xs ms ys e d k =
    subst (λ (z : Statement). After L M z xs ys) e
    (either_second L M (Part M (factored L)) statement (symbol (further braced_part)) ended_or_break q.0 xs ys
    (leading_kept L M (Part M (factored L)) statement (h ◃ SymSemicolon) ended_or_break H q.0 xs ys
    (leading_closed L M (Part M (factored L)) statement h SymSemicolon q.1 q.0 xs ms ys d k)))

-- a call, assignment, increment or decrement
pub placed_simple_in : (L : Dialect) (M : Mode) (v : StatementNode) (n : Statement)
    (q : Statement × Token) (xs ms ys : List Token) → placed_statement n (span_between xs ys) ≡ v
    → q.0 ≡ n → Means M (ReadPart L M) written_simple q.0 xs ms
    → IsToken SymSemicolon q.1 ms ys → Part M (factored L) (of statement) v xs ys
placed_simple_in L M v n q xs ms ys e f d k = go (simple_in L M q.0 xs ms d)
  where
    go : Means M (Part M (factored L)) (read_simple L) q.0 xs ms → Part M (factored L) (of statement) v xs ys
    go (inl (u, r, s)) =
        let i : UnattributedStatement × Token = (u, q.1) in
        roll M (factored L) (of statement) v xs ys
        (inl (roll M (factored L) (further plain_statement) v xs ys (n, e, inr (u, r ∙ f, (i, refl, (ms, s, k))))))
    go (inr s) =
        after_in L M v n xs ys e
        (closed_in L M (symbol (further simple_part)) (ended_simple L M) n q xs ms ys f s k)

asserted_in : (L : Dialect) (M : Mode) (n : Statement) (a : Attributed ConstAssert)
    (q : Attributed ConstAssert × Token) (xs ms ys : List Token) → assert_statement a ≡ n → q.0 ≡ a
    → Means M (Part M (factored L)) (leading_before L with_attributes (symbol (further assert_part))) q.0 xs ms
    → IsToken SymSemicolon q.1 ms ys → After L M n xs ys
asserted_in L M n a q xs ms ys e f (p, g, (ks, d, s)) k =
    let u : UnattributedStatement = UnattributedStatement.const_assert p.1 in
    let i : Statement × Token = (statement p.0 u, q.1) in
    let j : Attributes × UnattributedStatement = (p.0, u) in
    closed_in L M (symbol (further assert_part) gives UnattributedStatement.const_assert)
    (ended_assert L M) n i xs ms ys
    (ap assert_statement (g ∙ f) ∙ e) (j, refl, (ks, d, (p.1, refl, s))) k

-- an empty statement, a block, and `const_assert`
pub semicolon_in : (L : Dialect) (M : Mode) (v : StatementNode) (n : Statement) (xs ys : List Token)
    → placed_statement n (span_between xs ys) ≡ v
    → Means M (ReadPart L M) (SymSemicolon means unattributed UnattributedStatement.void) n xs ys
    → Part M (factored L) (of statement) v xs ys
semicolon_in L M v n xs ys e d = roll M (factored L) (of statement) v xs ys
    (inl (roll M (factored L) (further plain_statement) v xs ys (n, e, inl d)))

pub compound_in : (L : Dialect) (M : Mode) (v : StatementNode) (n : Statement) (xs ys : List Token)
    → placed_statement n (span_between xs ys) ≡ v
    → Means M (ReadPart L M) (symbol compound_statement gives block_statement) n xs ys
    → Part M (factored L) (of statement) v xs ys
compound_in L M v n xs ys e (c, q, d) =
    let u = unroll M (factored L) (of compound_statement) c xs ys d in
    let k : Attributes × UnattributedStatement = (u.0.0, UnattributedStatement.compound (statements_of u.0.1)) in
    after_in L M v n xs ys e (braced_in L M (symbol (further block_part)) (braced_block L M) n xs ys (
      k,
      ap block_statement u.1 ∙ q,
      (u.2.0, u.2.1, roll M (factored L) (further block_part) k.1 u.2.0 ys (u.0.1, refl, u.2.2)),
    ))

pub const_assert_in : (L : Dialect) (M : Mode) (v : StatementNode) (n : Statement) (xs ys : List Token)
    → placed_statement n (span_between xs ys) ≡ v
    → Means M (ReadPart L M) (symbol const_assert ◃ SymSemicolon gives assert_statement) n xs ys
    → Part M (factored L) (of statement) v xs ys
const_assert_in L M v n xs ys e (a, q, (i, f, (ms, d, k))) = after_in L M v n xs ys e
    (asserted_in L M n a i xs ms ys q f (unroll M (factored L) (of const_assert) i.0 xs ms d) k)

-- ---- and back
-- a call, assignment, increment or decrement, and its `;`
pub placed_simple_out : (L : Dialect) (M : Mode) (v : StatementNode) (n : Statement)
    (q : Statement × Token) (xs ms ys : List Token) → placed_statement n (span_between xs ys) ≡ v
    → q.0 ≡ n → Means M (WrittenPart L M) written_simple q.0 xs ms
    → IsToken SymSemicolon q.1 ms ys → Part M (rules L) statement v xs ys
placed_simple_out L M v n q xs ms ys e f (inl d) k = placed_assignment L M v n xs ys e (q, f, (ms, d, k))
placed_simple_out L M v n q xs ms ys e f (inr (inl d)) k = placed_phony_assignment L M v n xs ys e (q, f, (ms, d, k))
placed_simple_out L M v n q xs ms ys e f (inr (inr (inl d))) k = placed_increment L M v n xs ys e (q, f, (ms, d, k))
placed_simple_out L M v n q xs ms ys e f (inr (inr (inr (inl d)))) k = placed_decrement L M v n xs ys e (q, f, (ms, d, k))
placed_simple_out L M v n q xs ms ys e f (inr (inr (inr (inr d)))) k = placed_call L M v n xs ys e (q, f, (ms, d, k))

-- a block
pub block_out : (L : Dialect) (M : Mode) (v : StatementNode) (n : Statement) (xs ys : List Token)
    → placed_statement n (span_between xs ys) ≡ v
    → (p : Attributes × UnattributedStatement) → statement p.0 p.1 ≡ n → (ks : List Token)
    → Means M (Meant L M (WrittenPart L M)) (symbol (further attribute_list)) p.0 xs ks
    → Means M (Meant L M (WrittenPart L M)) (symbol (further block_part)) p.1 ks ys
    → Part M (rules L) statement v xs ys
block_out L M v n xs ys e p q ks a (b, r, d) =
    let i : Attributes × List StatementNode = (p.0, b) in
    let c : Part M (rules L) compound_statement (compound_of p.0 b) xs ys = roll M
    (rules L) compound_statement (compound_of p.0 b) xs ys (i, refl, (ks, a, d)) in
    placed_compound L M v n xs ys e (compound_of p.0 b, ap (statement p.0) r ∙ q, c)

-- a call, assignment, increment or decrement after attributes, and `const_assert`
pub ended_simple_out : (L : Dialect) (M : Mode) (v : StatementNode) (n : Statement) (xs ys : List Token)
    → placed_statement n (span_between xs ys) ≡ v
    → (a : Attributes) (w : UnattributedStatement × Token) → statement a w.0 ≡ n → (ks ms : List Token)
    → Means M (Meant L M (WrittenPart L M)) (leading_list L) a xs ks
    → Means M (Meant L M (WrittenPart L M)) (symbol (further simple_part)) w.0 ks ms
    → IsToken SymSemicolon w.1 ms ys → Part M (rules L) statement v xs ys
ended_simple_out L M v n xs ys e a w r ks ms l d k =
    let i : Attributes × UnattributedStatement = (a, w.0) in
    let j : Statement × Token = (statement a w.0, w.1) in
    placed_simple_out L M v n j xs ms ys e r (led_simple_out L M j.0 xs ms (i, refl, (ks, l, d))) k

pub ended_assert_out : (L : Dialect) (M : Mode) (v : StatementNode) (n : Statement) (xs ys : List Token)
    → placed_statement n (span_between xs ys) ≡ v
    → (a : Attributes) (w : UnattributedStatement × Token) → statement a w.0 ≡ n → (ks ms : List Token)
    → Means M (Meant L M (WrittenPart L M)) (leading_list L) a xs ks
    → Means M (Meant L M (WrittenPart L M))
    (symbol (further assert_part) gives UnattributedStatement.const_assert) w.0 ks ms
    → IsToken SymSemicolon w.1 ms ys → Part M (rules L) statement v xs ys
ended_assert_out L M v n xs ys e a w r ks ms l (b, g, d) k =
    let leads : Means M (WrittenPart L M) (leading L) a xs ks = leading_from L M (WrittenPart L M)
    (Meant L M (WrittenPart L M)) (meant_list L M) a xs ks l in
    let i : Attributes × ConstAssert = (a, b) in
    let j : Attributed ConstAssert × Token = (with_attributes a b, w.1) in
    let here : Part M (rules L) const_assert j.0 xs ms = roll M (rules L) const_assert j.0 xs ms
    (i, refl, (ks, leads, d)) in
    placed_const_assert L M v n xs ys e (j.0, ap (statement a) g ∙ r, (j, refl, (ms, here, k)))
