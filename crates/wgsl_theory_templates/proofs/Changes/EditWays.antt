-- How the kinds that are written from what a right side derives differ from its tokens, by the ways
-- to write a right side.
use Rattle.std.proofs.Common.{◌≡◌, ℕ, Bool, true, false, List, [], ◌∷◌, refl, sym, subst, inl, inr}
use Rattle.grammar.specs.Tokens.{Token, Span, span_between}
use Rattle.grammar.specs.Grammar.{Grammar.empty, Grammar.left_chain, Mode.checking, Chain, Chain.base, Chain.more, Means, is_among}
use Rattle.grammar.specs.Notation.{one_token, ◌then◌, ◌or◌, ◌gives◌, ◌makes◌, ◌▹◌, ◌◃◌, ◌means◌, optional, many, several, separated, list, list_or_none}
use Rattle.wgsl_model.specs.Tokens.ClassTable.{SymComma, SymMinus}
use Rattle.wgsl_model.specs.Tokens.Kind.{Kind, plain}
use Rattle.wgsl_model.specs.Trees.Expressions.{ExpressionNode, Expression}
use Rattle.wgsl_model.specs.Printed.Units as units
use Rattle.wgsl_model.specs.Grammar.Symbols.{Symbol, expressions, component, negated_expression, statement, global_declaration, var_declaration, const_declaration, override_declaration, alias_declaration, struct_declaration, function_declaration, unit, Value, Rule}
use Rattle.wgsl_theory_grammar.proofs.Faults.WrittenEnds.{closing}
use Rattle.wgsl_theory_grammar.proofs.Faults.PlainFaults.{one_class}
use Rattle.wgsl_theory_reread.specs.CanonicalExpressions.{Writer, optional_tokens, all_tokens, list_tokens, expression_tokens, expression_node_tokens}
use Rattle.wgsl_theory_reread.specs.CanonicalUnits.{kept_declaration_tokens, without_place}
use Rattle.wgsl_theory_reread.proofs.Words.{AllWords}
use Rattle.wgsl_theory_reread.proofs.Again.{write, Known}
use Rattle.wgsl_theory_reread.proofs.Ways.{words_after, all_after, HasItem, has_item, items_tokens, items_after, items_written}
use Rattle.wgsl_theory_reread.proofs.EachRule.StatementParts.{kept_tokens}
use Rattle.wgsl_theory_templates.proofs.Reaching.Moves.{kinds}
use Rattle.wgsl_theory_templates.proofs.Changes.Edits.{is_stop, ends_list, list_ends, Edits, kept, no_comma, Widens, widen}

-- ---- what is written from what a symbol derives
-- items are written as they are in their list, and a negated product with the minus before it
abbrev pub edit_write : (n : Symbol) → Writer (Value n)
edit_write statement = kept_tokens
edit_write global_declaration = kept_declaration_tokens
edit_write negated_expression = λ v rest. plain SymMinus ∷ expression_node_tokens v rest
edit_write n = write n

-- the symbols whose tokens are after a stop or nothing
abbrev pub starts : Symbol → Bool
starts statement = true
starts global_declaration = true
starts unit = true
starts n = false

-- before kinds that were read and kinds that are written, the kinds of a part's tokens and those
-- that are written from it
abbrev pub Turns : {A : Type 0} → Bool → Bool → Writer A → A → List Token → List Token → Type 0
Turns e b writes v xs ys = (ks : List Kind) → Edits e (kinds ys) ks → Edits b (kinds xs) (writes v ks)

-- a component is written after its base, whatever that is
abbrev pub TurnsComponent : (ExpressionNode → Expression) → List Token → List Token → Type 0
TurnsComponent v xs ys = (ks : List Kind) → Edits false (kinds ys) ks
    → (ms : List Kind) × ((base : ExpressionNode)
    → expression_tokens (v base) ks ≡ expression_node_tokens base ms) × Edits false (kinds xs) ms

-- a declaration that is not empty
abbrev pub Filled : (n : Symbol) → Value n → Type 0
Filled var_declaration v = units.is_void v ≡ false
Filled const_declaration v = units.is_void v ≡ false
Filled override_declaration v = units.is_void v ≡ false
Filled alias_declaration v = units.is_void v ≡ false
Filled struct_declaration v = units.is_void v ≡ false
Filled function_declaration v = units.is_void v ≡ false
Filled n v = Unit {0}

abbrev pub IsEdited : (n : Symbol) → Value n → List Token → List Token → Type 0
IsEdited component v xs ys = TurnsComponent v xs ys
IsEdited expressions v xs ys = Unit {0}
IsEdited n v xs ys = Turns (closing n) (starts n) (edit_write n) v xs ys

-- a value that a symbol derives from tokens whose words have the classes of their spellings
abbrev pub Edited : (n : Symbol) → Value n → List Token → List Token → Type 0
Edited n v xs ys = AllWords xs → AllWords ys × Known n v × Filled n v × IsEdited n v xs ys

-- ---- right sides
abbrev pub Changed : {A : Type 0} → Bool → Bool → Writer A → A → List Token → List Token → Type 0
Changed e b writes v xs ys = AllWords ys × Turns e b writes v xs ys

pub record Changes (e b : Bool) {A : Type 0} (g : Rule A) (writes : Writer A) : Type 0 where
  pub edit : (v : A) (xs ys : List Token) → Means checking Edited g v xs ys → AllWords xs → Changed e b writes v xs ys

-- one token of a class
pub token_turns : {b : Bool} {c : ℕ} (t : Token) (xs ys : List Token) (ks : List Kind)
    → is_among t.class (c ∷ []) ≡ true → xs ≡ t ∷ ys → Edits (is_stop c) (kinds ys) ks
    → Edits b (kinds xs) (plain c ∷ ks)
token_turns {b = b} {c = c} t xs ys ks m w h =
    let q : t.class ≡ c = one_class t.class c m in
    subst (λ (z : List Token). Edits b (kinds z) (plain c ∷ ks)) (sym w) (kept b (without_place t)
    (plain c) (kinds ys) ks q (subst (λ (x : ℕ). Edits (is_stop x) (kinds ys) ks) (sym q) h))

pub then_edits : {e m b : Bool} {A B : Type 0} {g : Rule A} {h : Rule B} {writes_1 : Writer A}
    {writes_2 : Writer B} → Changes m b g writes_1 → Changes e m h writes_2
    → Changes e b (g then h) (λ p rest. writes_1 p.0 (writes_2 p.1 rest))
then_edits {writes_2 = writes_2} G H = record {
  edit = λ v xs ys d words.
      let first = G.edit v.0 xs d.0 d.1 words in
      let second = H.edit v.1 d.0 ys d.2 first.0 in
      (second.0, λ ks r. first.1 (writes_2 v.1 ks) (second.1 ks r));
}

pub or_edits : {e b : Bool} {A : Type 0} {g h : Rule A} {writes : Writer A} → Changes e b g writes
    → Changes e b h writes → Changes e b (g or h) writes
or_edits {e} {b} {A} {g} {h} {writes} G H = record { edit = go } where
  go : (v : A) (xs ys : List Token) → Means checking Edited (g or h) v xs ys → AllWords xs → Changed e b writes v xs ys
  go v xs ys (inl d) words = G.edit v xs ys d words
  go v xs ys (inr d) words = H.edit v xs ys d words

pub gives_edits : {e b : Bool} {A B : Type 0} {g : Rule A} {f : A → B} {writes : Writer A} {made : Writer B}
    → Changes e b g writes → ((a : A) (rest : List Kind) → made (f a) rest ≡ writes a rest)
    → Changes e b (g gives f) made
gives_edits {e} {b} {A} {B} {g} {f} {writes} {made} G s = record {
  edit = λ v xs ys d words.
      subst (λ (z : B). Changed e b made z xs ys) d.1 (
      let found = G.edit d.0 xs ys d.2 words in
      (found.0, λ ks r. subst (λ (z : List Kind). Edits b (kinds xs) z) (sym (s d.0 ks)) (found.1 ks r))
      );
}

pub makes_edits : {e b : Bool} {A B : Type 0} {g : Rule A} {f : A → Span → B} {writes : Writer A}
    {made : Writer B} → Changes e b g writes
    → ((a : A) (span : Span) (rest : List Kind) → made (f a span) rest ≡ writes a rest)
    → Changes e b (g makes f) made
makes_edits {e} {b} {A} {B} {g} {f} {writes} {made} G s = record {
  edit = λ v xs ys d words.
      subst (λ (z : B). Changed e b made z xs ys) d.1 (
      let found = G.edit d.0 xs ys d.2 words in (
        found.0,
        λ ks r. subst (λ (z : List Kind). Edits b (kinds xs) z) (sym (s d.0 (span_between xs ys) ks)) (found.1 ks r),
      )
      );
}

-- the same, with other writes of the values that are derived
pub fact_edits : {e b : Bool} {A : Type 0} {g : Rule A} {writes made : Writer A} {Fact : A → Type 0}
    → Changes e b g writes → ((v : A) (xs ys : List Token) → Means checking Edited g v xs ys → Fact v)
    → ((v : A) → Fact v → (rest : List Kind) → made v rest ≡ writes v rest) → Changes e b g made
fact_edits {b = b} G known s = record {
  edit = λ v xs ys d words.
      let found = G.edit v xs ys d words in (
        found.0,
        λ ks r. subst (λ (z : List Kind). Edits b (kinds xs) z) (sym (s v (known v xs ys d) ks)) (found.1 ks r),
      );
}

pub equal_edits : {e b : Bool} {A : Type 0} {g : Rule A} {writes made : Writer A} → Changes e b g writes
    → ((v : A) (rest : List Kind) → made v rest ≡ writes v rest) → Changes e b g made
equal_edits {A = A} G s = fact_edits {Fact = λ (a : A). Unit {0}} G (λ v xs ys d. tt) (λ v known rest. s v rest)

-- with more before it
pub wider_edits : {e m b : Bool} {A : Type 0} {g : Rule A} {writes : Writer A} → Widens m b
    → Changes e m g writes → Changes e b g writes
wider_edits w G =
    record { edit = λ v xs ys d words. let found = G.edit v xs ys d words in (found.0, λ ks r. widen w (found.1 ks r)) }

-- ---- a sign or a keyword, before a part, after it, or for a value
pub sign_edits : {b : Bool} (c : ℕ) → Changes (is_stop c) b (one_token c) (λ v rest. plain c ∷ rest)
sign_edits {b} c = record {
  edit = λ v xs ys d words. (words_after v xs ys d.1 words, λ ks r. token_turns {b = b} {c = c} v xs ys ks d.0 d.1 r);
}

pub before_edits : {e b : Bool} {A : Type 0} (c : ℕ) {g : Rule A} {writes : Writer A}
    → Changes e (is_stop c) g writes → Changes e b (c ▹ g) (λ v rest. plain c ∷ writes v rest)
before_edits c G = gives_edits (then_edits (sign_edits c) G) (λ a rest. refl)

pub after_edits : {m b : Bool} {A : Type 0} (c : ℕ) {g : Rule A} {writes : Writer A}
    → Changes m b g writes → Changes (is_stop c) b (g ◃ c) (λ v rest. writes v (plain c ∷ rest))
after_edits c G = gives_edits (then_edits G (sign_edits c)) (λ a rest. refl)

pub means_edits : {b : Bool} {A : Type 0} (c : ℕ) {a : A} {writes : Writer A}
    → ((rest : List Kind) → writes a rest ≡ plain c ∷ rest) → Changes (is_stop c) b (c means a) writes
means_edits c s = gives_edits (sign_edits c) (λ a rest. s rest)

-- ---- nothing, and a part that may be left out
pub none_edits : {e b : Bool} {A : Type 0} {a : A} {writes : Writer A} → Widens e b
    → ((rest : List Kind) → writes a rest ≡ rest) → Changes e b (empty a) writes
none_edits {e} {b} {A} {a} {writes} w s = record {
  edit = λ v xs ys d words.
      subst (λ (z : A). Changed e b writes z xs ys) d.0 (
        subst AllWords d.1 words,
        λ ks r. subst (λ (z : List Token). Edits b (kinds z) (writes a ks)) (sym d.1)
            (subst (λ (z : List Kind). Edits b (kinds ys) z) (sym (s ks)) (widen w r)),
      );
}

pub optional_edits : {e b : Bool} {A : Type 0} {g : Rule A} {writes : Writer A} → Widens e b
    → Changes e b g writes → Changes e b (optional g) (optional_tokens writes)
optional_edits w G = or_edits (gives_edits G (λ a rest. refl)) (none_edits w (λ rest. refl))

-- ---- one after another
pub chain_edits : {e b : Bool} {A B : Type 0} {f : A → B → Span → A} {g : Rule A} {h : Rule B}
    {writes : Writer A} {item : Writer B}
    → Changes e b g writes → Changes e e h item
    → ((a : A) (x : B) (span : Span) (rest : List Kind) → writes (f a x span) rest ≡ writes a (item x rest))
    → Changes e b (left_chain f g h) writes
chain_edits {e} {b} {A} {B} {f} {g} {h} {writes} {item} G H s =
    record { edit = λ v xs ys d words. go xs v ys d words }
  where
    go : (xs : List Token) (v : A) (ys : List Token)
        → Chain f (Means checking Edited g) (Means checking Edited h) xs v ys → AllWords xs
        → Changed e b writes v xs ys
    go xs _ _ (base a ys d) words = G.edit a xs ys d words
    go xs _ _ (more a x ys zs c d) words =
        let before = go xs a ys c words in
        let last = H.edit x ys zs d before.0 in (
          last.0,
          λ ks r. subst (λ (z : List Kind). Edits b (kinds xs) z)
              (sym (s a x (span_between xs zs) ks)) (before.1 (item x ks) (last.1 ks r)),
        )

pub many_edits : {e b : Bool} {A : Type 0} {g : Rule A} {writes : Writer A} → Widens e b
    → Changes e e g writes → Changes e b (many g) (all_tokens writes)
many_edits {writes = writes} w G = chain_edits (none_edits w (λ rest. refl)) G
    (λ a x span rest. all_after writes a x rest)

pub several_edits : {e b : Bool} {A : Type 0} {g : Rule A} {writes : Writer A}
    → Changes e b g writes → Changes e e g writes → Changes e b (several g) (all_tokens writes)
several_edits {writes = writes} G H = chain_edits (gives_edits G (λ a rest. refl)) H
    (λ a x span rest. all_after writes a x rest)

-- ---- with a comma between each two
separated_edits : {b : Bool} {A : Type 0} {g : Rule A} {writes : Writer A} → Changes false b g writes
    → Changes false false g writes → Changes false b (separated SymComma g) (list_tokens writes)
separated_edits {g = g} {writes = writes} G H =
    fact_edits {Fact = HasItem} (chain_edits {writes = items_tokens writes} (gives_edits G
    (λ a rest. refl)) (before_edits SymComma H) (λ a x span rest. items_after writes a x rest))
    (λ v xs ys d. has_item (Means checking Edited g) (Means checking Edited (SymComma ▹ g)) xs v ys d)
    (items_written writes)

-- before kinds that end a list: the comma that may follow the last item is left out
pub record ListChanges (b : Bool) {A : Type 0} (g : Rule A) (writes : Writer A) : Type 0 where
  pub edit : (v : A) (xs ys : List Token) → Means checking Edited g v xs ys → AllWords xs → AllWords ys
      × ((ks : List Kind) → ends_list ks ≡ true → Edits false (kinds ys) ks → Edits b (kinds xs) (writes v ks))

pub list_edits : {b : Bool} {A : Type 0} {g : Rule A} {writes : Writer A} → Changes false b g writes
    → Changes false false g writes → ListChanges b (list SymComma g) (list_tokens writes)
list_edits {b} {A} {g} {writes} G H = record { edit = go } where
  S : Changes false b (separated SymComma g) (list_tokens writes)
  S = separated_edits G H

  Outcome : List A → List Token → List Token → Type 0
  Outcome v xs ys = AllWords ys × ((ks : List Kind) → ends_list ks ≡ true
      → Edits false (kinds ys) ks → Edits b (kinds xs) (list_tokens writes v ks))

  go : (v : List A) (xs ys : List Token) → Means checking Edited (list SymComma g) v xs ys
      → AllWords xs → Outcome v xs ys
  go v xs ys (inl d) words = let found = S.edit v xs ys d words in (found.0, λ ks f r. found.1 ks r)
  go v xs ys (inr d) words =
      subst (λ (z : List A). Outcome z xs ys) d.1 (
      let found = S.edit d.0.0 xs d.2.0 d.2.1 words in
      let t = d.0.1 in (
        words_after t d.2.0 ys d.2.2.1 found.0,
        λ ks f r. found.1 ks (subst (λ (z : List Token). Edits false (kinds z) ks) (sym d.2.2.1)
            (no_comma false (without_place t) (kinds ys) ks (one_class t.class SymComma d.2.2.0) f r)),
      )
      )

pub list_or_none_edits : {b : Bool} {A : Type 0} {g : Rule A} {writes : Writer A} → Changes false b g writes
    → Changes false false g writes → ListChanges b (list_or_none SymComma g) (list_tokens writes)
list_or_none_edits {b} {A} {g} {writes} G H = record { edit = go } where
  go : (v : List A) (xs ys : List Token) → Means checking Edited (list_or_none SymComma g) v xs ys
      → AllWords xs
      → AllWords ys × ((ks : List Kind) → ends_list ks ≡ true → Edits false (kinds ys) ks
      → Edits b (kinds xs) (list_tokens writes v ks))
  go v xs ys (inl d) words = (list_edits G H).edit v xs ys d words
  go v xs ys (inr d) words =
      let found = (none_edits {e = false} {b = b} {a = []} {writes = list_tokens writes} tt
      (λ rest. refl)).edit v xs ys d words in (found.0, λ ks f r. found.1 ks r)

-- a list before the sign that ends it
pub ended_list_edits : {b : Bool} {A : Type 0} (c : ℕ) {g : Rule A} {writes : Writer A}
    → is_among c list_ends ≡ true → ListChanges b g writes
    → Changes (is_stop c) b (g ◃ c) (λ v rest. writes v (plain c ∷ rest))
ended_list_edits {b} {A} c {g} {writes} known G = record {
  edit = λ v xs ys d words.
      subst (λ (z : A). Changed (is_stop c) b (λ v rest. writes v (plain c ∷ rest)) z xs ys) d.1 (
      let found = G.edit d.0.0 xs d.2.0 d.2.1 words in (
        words_after d.0.1 d.2.0 ys d.2.2.1 found.0,
        λ ks r. found.1 (plain c ∷ ks) known (token_turns {b = false} {c = c} d.0.1 d.2.0 ys ks d.2.2.0 d.2.2.1 r),
      )
      );
}
