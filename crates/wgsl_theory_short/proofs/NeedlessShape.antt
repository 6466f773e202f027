-- The kinds that stay without each needless `case` have the shape that lets a text have tokens of
-- these kinds.
use Rattle.std.proofs.Common.{◌≡◌, ℕ, zero, suc, Bool, true, false, cond, ◌==◌, refl, sym, ap, subst, ◌∙◌, List, [], ◌∷◌, ◌++◌, map}
use Rattle.std.proofs.lemmas.Bool.{true≢false, and_parts, eqb-true}
use Rattle.std.proofs.lemmas.List.{map-append}
use Rattle.grammar.specs.Tokens.{Token}
use Rattle.grammar.specs.Grammar.{Mode.checking, Derives}
use Rattle.grammar.specs.Endings.{Ending.finished}
use Rattle.wgsl_model.specs.Tokens.ClassTable.{SymLessThan, KwCase, KwDefault}
use Rattle.wgsl_model.specs.Tokens.Kind.{Kind}
use Rattle.wgsl_model.specs.Tokens.TokenList.{IsTokenList}
use Rattle.wgsl_model.specs.Trees.Units.{TranslationUnit}
use Rattle.wgsl_model.specs.Grammar.Symbols.{Symbol.unit}
use Rattle.wgsl_model.specs.Grammar.Written.{written}
use Rattle.wgsl_theory_reread.specs.CanonicalUnits.{without_place}
use Rattle.wgsl_theory_templates.proofs.Reaching.Reach.{Role, Role.template_start, Role.template_end, role, Place, Place.outside, Place.inside, reach_role, reach}
use Rattle.wgsl_theory_templates.proofs.Reaching.Moves.{kinds}
use Rattle.wgsl_theory_templates.proofs.Reaching.Clear.{AllClear}
use Rattle.wgsl_theory_templates.proofs.Reaching.ClearRules.{unit_clear, list_clear}
use Rattle.wgsl_theory_templates.proofs.Lexed.NoStops.{NoStop, no_stops, is_stop_role}
use Rattle.wgsl_theory_templates.proofs.Lexed.RoleClasses.{is_mark_role, word_unmarked, greater_unmarked, plain_unmarked}
use Rattle.wgsl_theory_templates.proofs.Lexed.Shapes.{is_word_role, is_greater_role, is_plain_role, shape_end, shape_opening, shape_closing, shape_greater, shape_short_circuit, shape_plain, shape_word, shape_template, IsSourceShape, NeverReached, none_reached, IsWrittenShape}
use Rattle.wgsl_theory_templates.proofs.Lexed.SourceShape.{source_shape}
use Rattle.wgsl_theory_templates.proofs.Changes.Nested.{clear_nested, clear_after, clear_template}
use Rattle.wgsl_theory_templates.proofs.Changes.WrittenShape.{never_reached}
use Rattle.wgsl_theory_tidy.proofs.Moved.Moved.{moved_list}
use Rattle.wgsl_model_short.specs.Respelled.{is_needless, without_needless}
use Rattle.wgsl_theory_short.proofs.Needless.{no_case}

-- ---- kinds

abbrev pub kind_class : Kind → ℕ
kind_class k = k.class

-- the kinds that stay after a token of a class
abbrev pub kept_after : ℕ → List Kind → List Kind
kept_after last ks = without_needless kind_class last ks

one_kept : (last : ℕ) (k : Kind) (ks : List Kind) (b : Bool) → is_needless last k.class (map kind_class ks) ≡ b
    → kept_after last (k ∷ ks) ≡ cond b (kept_after k.class ks) (k ∷ kept_after k.class ks)
one_kept last k ks b e = ap (λ x. cond x (kept_after k.class ks) (k ∷ kept_after k.class ks)) e

-- a class that is no keyword is no `case`
abbrev is_keyword : Role → Bool
is_keyword Role.keyword = true
is_keyword r = false

no_keyword : (c : ℕ) → is_keyword (role c) ≡ false → (c == KwCase) ≡ false
no_keyword c h = go (c == KwCase) refl
  where
    go : (b : Bool) → (c == KwCase) ≡ b → (c == KwCase) ≡ false
    go true e = absurd (true≢false (sym (ap (λ x. is_keyword (role x)) (eqb-true c KwCase e)) ∙ h))
    go false e = e

stays : (last : ℕ) (k : Kind) (ks : List Kind) → is_keyword (role k.class) ≡ false
    → kept_after last (k ∷ ks) ≡ k ∷ kept_after k.class ks
stays last k ks h =
    one_kept last k ks false (no_case last k.class (map kind_class ks) (no_keyword k.class h))

plain_role : (r : Role) → is_plain_role r ≡ true → is_keyword r ≡ false
plain_role Role.keyword h = absurd cc
plain_role r h = refl

greater_role : (r : Role) → is_greater_role r ≡ true → is_keyword r ≡ false
greater_role Role.keyword h = absurd cc
greater_role r h = refl

free_role : (r : Role) → is_stop_role r ≡ false → is_keyword r ≡ false
free_role Role.keyword h = absurd cc
free_role r h = refl

-- what no template list is of stays whole
kept_over : (last : ℕ) (us : List Kind) (k : Kind) (ks : List Kind) → NoStop us → is_keyword (role k.class) ≡ false
    → kept_after last (us ++ (k ∷ ks)) ≡ us ++ (k ∷ kept_after k.class ks)
kept_over last [] k ks n h = stays last k ks h
kept_over last (u ∷ us) k ks n h = stays last u (us ++ (k ∷ ks)) (free_role (role u.class) n.0)
    ∙ ap (λ xs. u ∷ xs) (kept_over u.class us k ks n.1 h)

kept_whole : (last : ℕ) (us : List Kind) → NoStop us → kept_after last us ≡ us
kept_whole last [] n = refl
kept_whole last (u ∷ us) n =
    stays last u us (free_role (role u.class) n.0) ∙ ap (λ xs. u ∷ xs) (kept_whole u.class us n.1)

-- ---- what is reached

-- after a needless `case` is `default`
record IsNeedless (class : ℕ) (ks : List Kind) : Type 0 where
  default : Kind
  rest : List Kind
  whole : ks ≡ default ∷ rest
  is_case : class ≡ KwCase
  is_default : default.class ≡ KwDefault

needless : (last class : ℕ) (ks : List Kind) → is_needless last class (map kind_class ks) ≡ true → IsNeedless class ks
needless last class [] h = absurd (true≢false (sym h))
needless last class (d ∷ []) h = absurd (true≢false (sym h))
needless last class (d ∷ (e ∷ others)) h =
    let parts = and_parts (class == KwCase) _ h in
    let inner = and_parts (d.class == KwDefault) _ parts.1 in
    record {
      default = d;
      rest = e ∷ others;
      whole = refl;
      is_case = eqb-true class KwCase parts.0;
      is_default = eqb-true d.class KwDefault inner.0;
    }

-- a `default` is reached as the `case` before it
default_reached : (p : Place) (k d class : ℕ) (ks : List Kind) → IsNeedless class ks
    → reach p k d ks ≡ reach_role (role class) k d (λ j e. reach p j e ks)
default_reached p zero d class ks n =
    ap (reach p zero d) n.whole
    ∙ ap (λ c. reach_role (role c) zero d (λ j e. reach p j e n.rest)) n.is_default
    ∙ sym (ap (λ c. reach_role (role c) zero d (λ j e. reach p j e ks)) n.is_case)
default_reached p (suc k) d class ks n =
    sym (ap (λ c. reach_role (role c) (suc k) d (λ j e. reach p j e ks)) n.is_case)

reach_kept : (p : Place) (k d last : ℕ) (ks : List Kind) → reach p k d (kept_after last ks) ≡ reach p k d ks
reach_kept p k d last [] = refl
reach_kept p k d last (t ∷ ts) =
    go (is_needless last t.class (map kind_class ts)) refl (λ j e. reach_kept p j e t.class ts)
  where
    go : (b : Bool) → is_needless last t.class (map kind_class ts) ≡ b
        → ((j e : ℕ) → reach p j e (kept_after t.class ts) ≡ reach p j e ts)
        → reach p k d (kept_after last (t ∷ ts)) ≡ reach p k d (t ∷ ts)
    go true e same = ap (reach p k d) (one_kept last t ts true e) ∙ same k d
        ∙ default_reached p k d t.class ts (needless last t.class ts e)
    go false e same = ap (reach p k d) (one_kept last t ts false e)
        ∙ (λ i. reach_role (role t.class) k d (λ j m. same j m i))

-- no `<` becomes the first token
never_kept : (p : Place) (last : ℕ) (ks : List Kind) → NeverReached p ks → NeverReached p (kept_after last ks)
never_kept p last [] n = tt
never_kept p last (t ∷ ts) n = go (is_needless last t.class (map kind_class ts)) refl
  where
    default_first : (c : ℕ) → c ≡ KwDefault → c ≡ SymLessThan → ⊥
    default_first c e l = true≢false (sym (ap (λ x. x == KwDefault) e) ∙ ap (λ x. x == KwDefault) l)

    go : (b : Bool) → is_needless last t.class (map kind_class ts) ≡ b → NeverReached p (kept_after last (t ∷ ts))
    go true e =
        let m = needless last t.class ts e in
        let first : kept_after last (t ∷ ts) ≡ m.default ∷ kept_after m.default.class m.rest =
        one_kept last t ts true e ∙ ap (kept_after t.class) m.whole
        ∙ one_kept t.class m.default m.rest false (no_case t.class m.default.class (map kind_class m.rest)
        (ap (λ c. c == KwCase) m.is_default)) in
        subst (NeverReached p) (sym first) (λ l. absurd (default_first m.default.class m.is_default l))
    go false e = subst (NeverReached p) (sym (one_kept last t ts false e))
        (λ l. reach_kept p 0 0 t.class ts ∙ n l)

-- ---- the shape

-- a word without a template list after it
word_kept : (p : Place) (depth last : ℕ) (t : Token) (ts : List Token) → is_word_role (role t.class) ≡ true
    → NeverReached p (kinds ts) → IsWrittenShape p depth (kept_after t.class (kinds ts))
    → IsWrittenShape p depth (kept_after last (kinds (t ∷ ts)))
word_kept p depth last t ts e n s = go (is_needless last t.class (map kind_class (kinds ts))) refl
  where
    go : (b : Bool) → is_needless last t.class (map kind_class (kinds ts)) ≡ b
        → IsWrittenShape p depth (kept_after last (kinds (t ∷ ts)))
    go true q = subst (IsWrittenShape p depth) (sym (one_kept last (without_place t) (kinds ts) true q)) s
    go false q = subst (IsWrittenShape p depth) (sym (one_kept last (without_place t) (kinds ts) false q))
        (shape_word e (none_reached p _ (never_kept p t.class (kinds ts) n)) s)

-- a word before what is no `default` stays
before_start : (last class : ℕ) (k : Kind) (ks : List Kind) → is_keyword (role k.class) ≡ false
    → is_needless last class (map kind_class (k ∷ ks)) ≡ false
before_start last class k ks h = go (is_needless last class (map kind_class (k ∷ ks))) refl
  where
    no_default : (n : IsNeedless class (k ∷ ks)) → ⊥
    no_default n =
        let same : k ≡ n.default = (let w = n.whole in cc) in
        true≢false (sym (ap (λ c. is_keyword (role c)) (ap kind_class same ∙ n.is_default)) ∙ h)

    go : (b : Bool) → is_needless last class (map kind_class (k ∷ ks)) ≡ b
        → is_needless last class (map kind_class (k ∷ ks)) ≡ false
    go true e = absurd (no_default (needless last class (k ∷ ks) e))
    go false e = e

template_kept : (last : ℕ) (k start end : Kind) (us ts : List Token) → role start.class ≡ template_start
    → role end.class ≡ template_end → NoStop (kinds us)
    → kept_after last (k ∷ (start ∷ (kinds us ++ (end ∷ kinds ts))))
    ≡ k ∷ (start ∷ (kinds us ++ (end ∷ kept_after end.class (kinds ts))))
template_kept last k start end us ts f g n =
    one_kept last k (start ∷ (kinds us ++ (end ∷ kinds ts))) false
    (before_start last k.class start (kinds us ++ (end ∷ kinds ts)) (ap is_keyword f))
    ∙ ap (λ xs. k ∷ xs) (stays k.class start (kinds us ++ (end ∷ kinds ts)) (ap is_keyword f))
    ∙ ap (λ xs. k ∷ (start ∷ xs)) (kept_over start.class (kinds us) end (kinds ts) n (ap is_keyword g))

kept_shape : {p : Place} {depth : ℕ} {ts : List Token} → IsSourceShape p depth ts → AllClear p ts []
    → (last : ℕ) → IsWrittenShape p depth (kept_after last (kinds ts))
kept_shape shape_end a last = shape_end
kept_shape {p} {depth} (shape_opening {t = t} {ts = ts} e s) a last =
    let clear = (clear_after p (t ∷ ts) [] a refl t ts refl (ap is_mark_role e)).1 in
    subst (IsWrittenShape p depth) (sym (stays last (without_place t) (kinds ts) (ap is_keyword e)))
    (shape_opening e (kept_shape s clear t.class))
kept_shape {p} {depth} (shape_closing {t = t} {ts = ts} e d s) a last =
    let clear = (clear_after p (t ∷ ts) [] a refl t ts refl (ap is_mark_role e)).1 in
    subst (IsWrittenShape p depth) (sym (stays last (without_place t) (kinds ts) (ap is_keyword e)))
    (shape_closing e d (kept_shape s clear t.class))
kept_shape {p} {depth} (shape_greater {t = t} {ts = ts} e d s) a last =
    let clear = (clear_after p (t ∷ ts) [] a refl t ts refl (greater_unmarked (role t.class) e)).1 in
    subst (IsWrittenShape p depth)
    (sym (stays last (without_place t) (kinds ts) (greater_role (role t.class) e)))
    (shape_greater e d (kept_shape s clear t.class))
kept_shape {p} {depth} (shape_short_circuit {t = t} {ts = ts} e d s) a last =
    let clear = (clear_after p (t ∷ ts) [] a refl t ts refl (ap is_mark_role e)).1 in
    subst (IsWrittenShape p depth) (sym (stays last (without_place t) (kinds ts) (ap is_keyword e)))
    (shape_short_circuit e d (kept_shape s clear t.class))
kept_shape {p} {depth} (shape_plain {t = t} {ts = ts} e s) a last =
    let clear = (clear_after p (t ∷ ts) [] a refl t ts refl (plain_unmarked (role t.class) e)).1 in
    subst (IsWrittenShape p depth)
    (sym (stays last (without_place t) (kinds ts) (plain_role (role t.class) e)))
    (shape_plain e (kept_shape s clear t.class))
kept_shape {p} {depth} (shape_word {t = t} {ts = ts} e n s) a last =
    let clear = (clear_after p (t ∷ ts) [] a refl t ts refl (word_unmarked (role t.class) e)).1 in
    word_kept p depth last t ts e (never_reached p ts n clear) (kept_shape s clear t.class)
kept_shape {p} {depth} (shape_template t start end us ts e f g i l s) a last =
    let clear = (clear_after p _ [] a refl t (start ∷ (us ++ (end ∷ ts))) refl (word_unmarked (role t.class) e)).1 in
    let inner = list_clear l.0 us l.1 in
    let following = (clear_template p _ [] clear refl start end us ts refl f g (clear_nested inside us [] inner refl)).2 in
    let free = no_stops l.0 us l.1 in
    subst (IsWrittenShape p depth)
    (sym (ap (λ xs. kept_after last (without_place t ∷ (without_place start ∷ xs)))
    (map-append without_place us (end ∷ ts))
    ∙ template_kept last (without_place t) (without_place start) (without_place end) us ts f g free))
    (shape_template (without_place t) (without_place start) (without_place end) (kinds us)
    (kept_after end.class (kinds ts)) e f g
    (subst (IsWrittenShape inside 0) (kept_whole start.class (kinds us) free) (kept_shape i inner start.class))
    (λ qs r. moved_list l.0 us qs l.1 r) (kept_shape s following end.class))

-- the tokens of a module
pub written_shape : (source : List ℕ) (u : TranslationUnit) (ts : List Token) → IsTokenList source ts finished
    → Derives checking written unit u ts → (last : ℕ) → IsWrittenShape outside 0 (kept_after last (kinds ts))
written_shape source u ts h d = kept_shape (source_shape source ts h) (unit_clear u ts d)
