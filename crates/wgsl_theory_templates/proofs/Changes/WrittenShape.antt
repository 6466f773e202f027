-- The kinds that are written from a derived module have the shape that lets a text have tokens of
-- these kinds.
use Rattle.std.proofs.Common.{◌≡◌, ℕ, Bool, true, false, List, [], ◌∷◌, ◌++◌, map, refl, sym, ap, subst, ◌∙◌}
use Rattle.std.proofs.lemmas.List.{map-append}
use Rattle.grammar.specs.Tokens.{Token}
use Rattle.grammar.specs.Grammar.{is_among}
use Rattle.grammar.proofs.Reading.Sets.{clash}
use Rattle.wgsl_model.specs.Tokens.ClassTable.{SymComma, SymColon, SymSemicolon, SymMinus, SymMinusMinus, SymLessThan, KwCase, KwDefault}
use Rattle.wgsl_model.specs.Tokens.Kind.{Kind, plain, placed}
use Rattle.wgsl_model.specs.Program.{IsUnit}
use Rattle.wgsl_model.specs.Trees.Units.{TranslationUnit}
use Rattle.wgsl_theory_reread.specs.CanonicalUnits.{canonical, without_place}
use Rattle.wgsl_theory_reread.proofs.Words.{AllWords}
use Rattle.wgsl_theory_reread.proofs.DerivedAgain.{unit_again}
use Rattle.wgsl_theory_templates.proofs.Reaching.Reach.{Role, role, Role.template_start, Role.template_end, Place, Place.outside, Place.inside}
use Rattle.wgsl_theory_templates.proofs.Reaching.Moves.{kinds, role_of}
use Rattle.wgsl_theory_templates.proofs.Reaching.Clear.{AllClear}
use Rattle.wgsl_theory_templates.proofs.Reaching.ClearRules.{unit_clear, list_clear}
use Rattle.wgsl_theory_templates.proofs.Lexed.Shapes.{is_word_role, is_greater_role, is_plain_role, shape_end, shape_opening, shape_closing, shape_greater, shape_short_circuit, shape_plain, shape_word, shape_template, NotReached, IsSourceShape, NeverReached, none_reached, IsWrittenShape}
use Rattle.wgsl_theory_templates.proofs.Lexed.RoleClasses.{is_mark_role, word_unmarked, greater_unmarked, plain_unmarked}
use Rattle.wgsl_theory_templates.proofs.Lexed.SourceShape.{source_shape}
use Rattle.wgsl_theory_templates.proofs.Changes.Edits.{is_stop_role, is_stop, first_among, ends_list, block_begins, Edits, at_the_end, kept, no_comma, no_colon, no_semicolon, two_minuses, with_case, edits_never}
use Rattle.wgsl_theory_templates.proofs.Changes.DerivedEdits.{unit_edited}
use Rattle.wgsl_theory_templates.proofs.Changes.Nested.{Nested, clear_nested, clear_after, clear_template, edits_nested}
use Rattle.wgsl_theory_grammar.proofs.Tokens.Decided.{IsList}

-- ---- one token
-- what is written in place of a token and those after it: a token of the same class, nothing, two
-- tokens for `--`, or `case` before `default`
data Written (a : ℕ) (s : List Kind) : List Kind → Type 0 where
  one : (j : Kind) (c : List Kind) → a ≡ j.class → Edits (is_stop a) s c → Written a s (j ∷ c)
  none : (b : Bool) (c : List Kind) → is_plain_role (role a) ≡ true → Edits b s c → Written a s c
  two : (c : List Kind) → is_plain_role (role a) ≡ true → Edits false s c
      → Written a s (plain SymMinus ∷ (plain SymMinus ∷ c))
  case_before : (c : List Kind) → is_word_role (role a) ≡ true → Edits false s c
      → Written a s (plain KwCase ∷ (plain KwDefault ∷ c))

-- what holds of the role of a class
by_class : (test : Role → Bool) (c a : ℕ) → c ≡ a → test (role a) ≡ true → test (role c) ≡ true
by_class test c a q h = ap (λ (x : ℕ). test (role x)) q ∙ h

written_for : (b : Bool) (k : Kind) (s c : List Kind) → Edits b (k ∷ s) c → Written k.class s c
written_for _ _ _ _ (kept b k j s c q m) = one j c q m
written_for _ _ _ _ (no_comma b k s c q f m) = none false c (by_class is_plain_role k.class SymComma q refl) m
written_for _ _ _ _ (no_colon b k s c q f m) = none false c (by_class is_plain_role k.class SymColon q refl) m
written_for _ _ _ _ (no_semicolon k s c q m) = none true c (by_class is_plain_role k.class SymSemicolon q refl) m
written_for _ _ _ _ (two_minuses b k s c q m) = two c (by_class is_plain_role k.class SymMinusMinus q refl) m
written_for _ _ _ _ (with_case b k s c q m) = case_before c (by_class is_word_role k.class KwDefault q refl) m

nothing_written : (b : Bool) (c : List Kind) → Edits b [] c → c ≡ []
nothing_written _ _ (at_the_end b) = refl

-- a token of the same class, and the rest
abbrev Same : ℕ → List Kind → List Kind → Type 0
Same a s c = (j : Kind) × (rest : List Kind) × (c ≡ j ∷ rest) × (a ≡ j.class) × Edits (is_stop a) s rest

written_same : (a : ℕ) (s c : List Kind) → is_plain_role (role a) ≡ false
    → is_word_role (role a) ≡ false → Written a s c → Same a s c
written_same a s _ p w (one j c q m) = (j, c, refl, q, m)
written_same a s _ p w (none b c e m) = clash _ e p
written_same a s _ p w (two c e m) = clash _ e p
written_same a s _ p w (case_before c e m) = clash _ e w

-- ---- roles
word_is_not_plain : (r : Role) → is_word_role r ≡ true → is_plain_role r ≡ false
word_is_not_plain Role.name h = refl
word_is_not_plain Role.keyword h = refl
word_is_not_plain r h = absurd cc

plain_is_no_word : (r : Role) → is_plain_role r ≡ true → is_word_role r ≡ false
plain_is_no_word Role.other h = refl
plain_is_no_word Role.stop h = refl
plain_is_no_word r h = absurd cc

word_is_no_stop : (r : Role) → is_word_role r ≡ true → is_stop_role r ≡ false
word_is_no_stop Role.name h = refl
word_is_no_stop Role.keyword h = refl
word_is_no_stop r h = absurd cc

greater_is_not_plain : (r : Role) → is_greater_role r ≡ true → (is_plain_role r ≡ false) × (is_word_role r ≡ false)
greater_is_not_plain Role.greater h = (refl, refl)
greater_is_not_plain Role.greater_stop h = (refl, refl)
greater_is_not_plain r h = absurd cc

-- ---- all tokens of the kinds
-- kinds whose tokens, wherever they are, are clear
abbrev ClearAnywhere : Place → List Kind → Type 0
ClearAnywhere p c = (qs : List Token) → kinds qs ≡ c → AllClear p qs []

-- tokens of kinds, at some place
abbrev somewhere : List Kind → List Token
somewhere = map (λ k. placed k 0 0)

kinds_somewhere : (c : List Kind) → kinds (somewhere c) ≡ c
kinds_somewhere [] = refl
kinds_somewhere (k ∷ c) = ap (λ (x : List Kind). k ∷ x) (kinds_somewhere c)

after_token : (p : Place) (j : Kind) (c : List Kind) → is_mark_role (role j.class) ≡ false
    → ClearAnywhere p (j ∷ c) → ClearAnywhere p c
after_token p j c m h qs e = (clear_after p (placed j 0 0 ∷ qs) []
    (h (placed j 0 0 ∷ qs) (ap (λ (x : List Kind). j ∷ x) e)) refl (placed j 0 0) qs refl m).1

-- a template list in them, and the rest
template_parts : (p : Place) (start end : Kind) (us ts : List Kind) → role start.class ≡ template_start
    → role end.class ≡ template_end → Nested 0 us → ClearAnywhere p (start ∷ (us ++ (end ∷ ts)))
    → (ms rs : List Token) → kinds ms ≡ us → kinds rs ≡ ts
    → AllClear inside ms [] × IsList ms × AllClear p rs []
template_parts p start end us ts f g n h ms rs e r =
    let first = placed start 0 0 in
    let last = placed end 0 0 in
    let all : kinds (first ∷ (ms ++ (last ∷ rs))) ≡ start ∷ (us ++ (end ∷ ts)) =
    ap (λ (x : List Kind). start ∷ x) (map-append without_place ms (last ∷ rs) ∙ (λ i. e i ++ (end ∷ r i))) in
    clear_template p (first ∷ (ms ++ (last ∷ rs))) []
    (h (first ∷ (ms ++ (last ∷ rs))) all) refl first last ms rs refl f g (subst (Nested 0) (sym e) n)

-- ---- the end of a template list
-- the kinds before it and after it, as they are written
record Split (b : Bool) (us s c : List Kind) : Type 0 where
  list : List Kind
  end : Kind
  rest : List Kind
  whole : c ≡ list ++ (end ∷ rest)
  ended : role end.class ≡ template_end
  before : Edits b us list
  other : Bool
  following : Edits other s rest

at_end_mark : (b : Bool) (e : Kind) (s c : List Kind) → role e.class ≡ template_end → Edits b (e ∷ s) c → Split b [] s c
at_end_mark b e s c r h =
    let w = written_same e.class s c (ap is_plain_role r) (ap is_word_role r) (written_for b e s c h) in
    record {
      list = [];
      end = w.0;
      rest = w.1;
      whole = w.2;
      ended = ap role (sym w.3) ∙ r;
      before = at_the_end b;
      other = is_stop e.class;
      following = w.4;
    }

ends_before : (list : List Kind) (end : Kind) (rest c : List Kind) → c ≡ list ++ (end ∷ rest)
    → ends_list c ≡ true → ends_list list ≡ true
ends_before [] end rest c w f = refl
ends_before (k ∷ list) end rest c w f = ap ends_list (sym w) ∙ f

block_before : (list : List Kind) (end : Kind) (rest c : List Kind) → role end.class ≡ template_end
    → c ≡ list ++ (end ∷ rest) → first_among block_begins c ≡ true → first_among block_begins list ≡ true
block_before [] end rest c r w f = clash _
    (role_of is_stop_role end.class block_begins refl (ap (first_among block_begins) (sym w) ∙ f))
    (ap is_stop_role r)
block_before (k ∷ list) end rest c r w f = ap (first_among block_begins) (sym w) ∙ f

split : (b : Bool) (us : List Kind) (e : Kind) (s c : List Kind) → role e.class ≡ template_end
    → Edits b (us ++ (e ∷ s)) c → Split b us s c
split b [] e s c r h = at_end_mark b e s c r h
split _ (_ ∷ us) e s _ r (kept b k j t c q m) =
    let w = split (is_stop k.class) us e s c r m in
    record {
      list = j ∷ w.list;
      end = w.end;
      rest = w.rest;
      whole = ap (λ (x : List Kind). j ∷ x) w.whole;
      ended = w.ended;
      before = kept b k j us w.list q w.before;
      other = w.other;
      following = w.following;
    }
split _ (_ ∷ us) e s _ r (no_comma b k t c q f m) =
    let w = split false us e s c r m in
    record {
      list = w.list;
      end = w.end;
      rest = w.rest;
      whole = w.whole;
      ended = w.ended;
      before = no_comma b k us w.list q (ends_before w.list w.end w.rest c w.whole f) w.before;
      other = w.other;
      following = w.following;
    }
split _ (_ ∷ us) e s _ r (no_colon b k t c q f m) =
    let w = split false us e s c r m in
    record {
      list = w.list;
      end = w.end;
      rest = w.rest;
      whole = w.whole;
      ended = w.ended;
      before = no_colon b k us w.list q (block_before w.list w.end w.rest c w.ended w.whole f) w.before;
      other = w.other;
      following = w.following;
    }
split _ (_ ∷ us) e s _ r (no_semicolon k t c q m) =
    let w = split true us e s c r m in
    record {
      list = w.list;
      end = w.end;
      rest = w.rest;
      whole = w.whole;
      ended = w.ended;
      before = no_semicolon k us w.list q w.before;
      other = w.other;
      following = w.following;
    }
split _ (_ ∷ us) e s _ r (two_minuses b k t c q m) =
    let w = split false us e s c r m in
    record {
      list = plain SymMinus ∷ (plain SymMinus ∷ w.list);
      end = w.end;
      rest = w.rest;
      whole = ap (λ (x : List Kind). plain SymMinus ∷ (plain SymMinus ∷ x)) w.whole;
      ended = w.ended;
      before = two_minuses b k us w.list q w.before;
      other = w.other;
      following = w.following;
    }
split _ (_ ∷ us) e s _ r (with_case b k t c q m) =
    let w = split false us e s c r m in
    record {
      list = plain KwCase ∷ (plain KwDefault ∷ w.list);
      end = w.end;
      rest = w.rest;
      whole = ap (λ (x : List Kind). plain KwCase ∷ (plain KwDefault ∷ x)) w.whole;
      ended = w.ended;
      before = with_case b k us w.list q w.before;
      other = w.other;
      following = w.following;
    }

-- ---- tokens that have the shape of a source
-- what is written from the tokens has the other shape
abbrev Turned : Place → ℕ → List Token → Type 0
Turned p depth ts = (b : Bool) (c : List Kind) → Edits b (kinds ts) c → ClearAnywhere p c → IsWrittenShape p depth c

-- after a `<` in a source that is clear no token is reached
pub never_reached : (p : Place) (ts : List Token) → NotReached p ts → AllClear p ts [] → NeverReached p (kinds ts)
never_reached p [] n a = tt
never_reached p (t ∷ ts) n a =
    λ l. (clear_after p (t ∷ ts) [] a refl t ts refl (ap (λ (x : ℕ). is_mark_role (role x)) l)).0 l (n l)

plain_turned : (p : Place) (depth : ℕ) (t : Token) (ts : List Token)
    → is_plain_role (role t.class) ≡ true → Turned p depth ts → (c : List Kind)
    → Written t.class (kinds ts) c → ClearAnywhere p c → IsWrittenShape p depth c
plain_turned p depth t ts e all _ (one j c q m) h =
    let known : is_plain_role (role j.class) ≡ true = by_class is_plain_role j.class t.class (sym q) e in
    shape_plain known (all (is_stop t.class) c m (after_token p j c (plain_unmarked (role j.class) known) h))
plain_turned p depth t ts e all _ (none b c _ m) h = all b c m h
plain_turned p depth t ts e all _ (two c _ m) h =
    shape_plain refl (shape_plain refl (all false c m (after_token p (plain SymMinus) c refl
    (after_token p (plain SymMinus) (plain SymMinus ∷ c) refl h))))
plain_turned p depth t ts e all _ (case_before c w m) h = clash _ w (plain_is_no_word (role t.class) e)

default_first : (p : Place) (c : List Kind) → NeverReached p (plain KwDefault ∷ c)
default_first p c = λ l. clash _ (ap (λ (x : ℕ). is_among x (SymLessThan ∷ [])) l) refl

word_turned : (p : Place) (depth : ℕ) (t : Token) (ts : List Token)
    → is_word_role (role t.class) ≡ true → NeverReached p (kinds ts) → Turned p depth ts
    → (c : List Kind) → Written t.class (kinds ts) c → ClearAnywhere p c → IsWrittenShape p depth c
word_turned p depth t ts e n all _ (one j c q m) h =
    let known : is_word_role (role j.class) ≡ true = by_class is_word_role j.class t.class (sym q) e in
    shape_word known
    (none_reached p c (edits_never p (is_stop t.class) (kinds ts) c (word_is_no_stop (role t.class) e) m n))
    (all (is_stop t.class) c m (after_token p j c (word_unmarked (role j.class) known) h))
word_turned p depth t ts e n all _ (none b c f m) h = clash _ f (word_is_not_plain (role t.class) e)
word_turned p depth t ts e n all _ (two c f m) h = clash _ f (word_is_not_plain (role t.class) e)
word_turned p depth t ts e n all _ (case_before c w m) h =
    shape_word refl (none_reached p (plain KwDefault ∷ c) (default_first p c))
    (shape_word refl (none_reached p c (edits_never p false (kinds ts) c refl m n)) (all false c m
    (after_token p (plain KwDefault) c refl (after_token p (plain KwCase) (plain KwDefault ∷ c) refl h))))

-- a word with a template list after it
module _ (p : Place) (depth : ℕ) (start end : Token) (us ts : List Token)
    (f : role start.class ≡ template_start) (g : role end.class ≡ template_end) (l : IsList us)
    (inner : Turned inside 0 us) (all : Turned p depth ts) where
  list_turned : (j : Kind) → is_word_role (role j.class) ≡ true → (b : Bool) (c : List Kind)
      → Edits b (kinds (start ∷ (us ++ (end ∷ ts)))) c → ClearAnywhere p (j ∷ c)
      → IsWrittenShape p depth (j ∷ c)
  list_turned j e b c m h =
      let w = written_same start.class (kinds (us ++ (end ∷ ts))) c (ap is_plain_role f)
      (ap is_word_role f) (written_for b (without_place start) (kinds (us ++ (end ∷ ts))) c m) in
      let s = split (is_stop start.class) (kinds us) (without_place end) (kinds ts) w.1 g
      (subst (λ (x : List Kind). Edits (is_stop start.class) x w.1) (map-append without_place us (end ∷ ts)) w.4) in
      let begun : role w.0.class ≡ template_start = ap role (sym w.3) ∙ f in
      let whole : c ≡ w.0 ∷ (s.list ++ (s.end ∷ s.rest)) = w.2 ∙ ap (λ (x : List Kind). w.0 ∷ x) s.whole in
      let nested : Nested 0 s.list = edits_nested (is_stop start.class) (kinds us) s.list s.before 0
      (clear_nested inside us [] (list_clear l.0 us l.1) refl) in
      let parts = template_parts p w.0 s.end s.list s.rest begun s.ended nested
      (subst (ClearAnywhere p) whole (after_token p j c (word_unmarked (role j.class) e) h)) in
      subst (λ (x : List Kind). IsWrittenShape p depth (j ∷ x)) (sym whole)
      (shape_template j w.0 s.end s.list s.rest e begun s.ended
      (inner (is_stop start.class) s.list s.before (λ qs r. (parts qs (somewhere s.rest) r (kinds_somewhere s.rest)).0))
      (λ qs r. (parts qs (somewhere s.rest) r (kinds_somewhere s.rest)).1)
      (all s.other s.rest s.following (λ qs r. (parts (somewhere s.list) qs (kinds_somewhere s.list) r).2)))

  template_turned : (t : Token) → is_word_role (role t.class) ≡ true → (c : List Kind)
      → Written t.class (kinds (start ∷ (us ++ (end ∷ ts)))) c → ClearAnywhere p c
      → IsWrittenShape p depth c
  template_turned t e _ (one j c q m) h = list_turned j
      (by_class is_word_role j.class t.class (sym q) e) (is_stop t.class) c m h
  template_turned t e _ (none b c w m) h = clash _ w (word_is_not_plain (role t.class) e)
  template_turned t e _ (two c w m) h = clash _ w (word_is_not_plain (role t.class) e)
  template_turned t e _ (case_before c w m) h = shape_word refl
      (none_reached p (plain KwDefault ∷ c) (default_first p c))
      (list_turned (plain KwDefault) refl false c m (after_token p (plain KwCase) (plain KwDefault ∷ c) refl h))

-- a token in whose place one of the same class is written
record Next (p : Place) (t : Token) (ts : List Token) (c : List Kind) : Type 0 where
  kind : Kind
  rest : List Kind
  whole : c ≡ kind ∷ rest
  same : role kind.class ≡ role t.class
  edits : Edits (is_stop t.class) (kinds ts) rest
  clear : AllClear p ts []
  anywhere : ClearAnywhere p rest

next : (p : Place) (t : Token) (ts : List Token) (b : Bool) (c : List Kind)
    → is_plain_role (role t.class) ≡ false → is_word_role (role t.class) ≡ false
    → is_mark_role (role t.class) ≡ false
    → AllClear p (t ∷ ts) [] → Edits b (kinds (t ∷ ts)) c → ClearAnywhere p c → Next p t ts c
next p t ts b c e f g a m h =
    let w = written_same t.class (kinds ts) c e f (written_for b (without_place t) (kinds ts) c m) in
    let same : role w.0.class ≡ role t.class = ap role (sym w.3) in record {
      kind = w.0;
      rest = w.1;
      whole = w.2;
      same = same;
      edits = w.4;
      clear = (clear_after p (t ∷ ts) [] a refl t ts refl g).1;
      anywhere = after_token p w.0 w.1 (ap is_mark_role same ∙ g) (subst (ClearAnywhere p) w.2 h);
    }

turned : {p : Place} {depth : ℕ} {ts : List Token} → IsSourceShape p depth ts → AllClear p ts [] → Turned p depth ts
turned {p} shape_end a b c m h = subst (λ (x : List Kind). IsWrittenShape p 0 x) (sym (nothing_written b c m)) shape_end
turned {p} {depth} (shape_opening {t = t} {ts = ts} e s) a b c m h =
    let n = next p t ts b c (ap is_plain_role e) (ap is_word_role e) (ap is_mark_role e) a m h in
    subst (IsWrittenShape p depth) (sym n.whole)
    (shape_opening (n.same ∙ e) (turned s n.clear (is_stop t.class) n.rest n.edits n.anywhere))
turned {p} {depth} (shape_closing {t = t} {ts = ts} e d s) a b c m h =
    let n = next p t ts b c (ap is_plain_role e) (ap is_word_role e) (ap is_mark_role e) a m h in
    subst (IsWrittenShape p depth) (sym n.whole)
    (shape_closing (n.same ∙ e) d (turned s n.clear (is_stop t.class) n.rest n.edits n.anywhere))
turned {p} {depth} (shape_greater {t = t} {ts = ts} e d s) a b c m h =
    let known = greater_is_not_plain (role t.class) e in
    let n = next p t ts b c known.0 known.1 (greater_unmarked (role t.class) e) a m h in
    subst (IsWrittenShape p depth) (sym n.whole) (shape_greater (ap is_greater_role n.same ∙ e) d
    (turned s n.clear (is_stop t.class) n.rest n.edits n.anywhere))
turned {p} {depth} (shape_short_circuit {t = t} {ts = ts} e d s) a b c m h =
    let n = next p t ts b c (ap is_plain_role e) (ap is_word_role e) (ap is_mark_role e) a m h in
    subst (IsWrittenShape p depth) (sym n.whole)
    (shape_short_circuit (n.same ∙ e) d (turned s n.clear (is_stop t.class) n.rest n.edits n.anywhere))
turned {p} {depth} (shape_plain {t = t} {ts = ts} e s) a b c m h =
    let clear = (clear_after p (t ∷ ts) [] a refl t ts refl (plain_unmarked (role t.class) e)).1 in
    plain_turned p depth t ts e (turned s clear) c (written_for b (without_place t) (kinds ts) c m) h
turned {p} {depth} (shape_word {t = t} {ts = ts} e n s) a b c m h =
    let clear = (clear_after p (t ∷ ts) [] a refl t ts refl (word_unmarked (role t.class) e)).1 in
    word_turned p depth t ts e (never_reached p ts n clear) (turned s clear) c
    (written_for b (without_place t) (kinds ts) c m) h
turned {p} {depth} (shape_template t start end us ts e f g i l s) a b c m h =
    let clear = (clear_after p _ [] a refl t (start ∷ (us ++ (end ∷ ts))) refl (word_unmarked (role t.class) e)).1 in
    let inner = list_clear l.0 us l.1 in
    let following = (clear_template p _ [] clear refl start end us ts refl f g (clear_nested inside us [] inner refl)).2 in
    template_turned p depth start end us ts f g l (turned i inner) (turned s following) t e c
    (written_for b (without_place t) (kinds (start ∷ (us ++ (end ∷ ts)))) c m) h

-- ---- modules
-- the kinds that are written from a derived module have the shape that lets a text have tokens of
-- these kinds
pub written_shape : (source : List ℕ) (u : TranslationUnit) (h : IsUnit source u) → AllWords h.0
    → IsWrittenShape outside 0 (canonical u)
written_shape source u h words =
    turned (source_shape source h.0 h.1) (unit_clear u h.0 h.2) true (canonical u) (unit_edited u h.0 words h.2)
    (λ qs e. let found = unit_again u h.0 words h.2 qs e in unit_clear found.0 qs found.1)
