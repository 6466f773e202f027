-- The tokens of a source have the shape of a source.
use Rattle.std.proofs.Common.{◌≡◌, ℕ, zero, suc, ◌<◌, Bool, true, false, List, [], ◌∷◌, ◌++◌, map, drop, length, refl, sym, ap, subst, ◌∙◌, append_assoc, arith}
use Rattle.grammar.specs.Tokens.{Token, first_tokens}
use Rattle.grammar.specs.Grammar.{Mode.checking, Derives}
use Rattle.grammar.specs.Endings.{Ending, Ending.finished}
use Rattle.grammar.proofs.Reading.Sets.{clash}
use Rattle.wgsl_model.specs.Tokens.ClassTable.{SymLessThan, TemplateArgsStart, TemplateArgsEnd}
use Rattle.wgsl_model.specs.Tokens.Kind.{Kind, plain}
use Rattle.wgsl_model.specs.Trees.Expressions.{ExpressionNode}
use Rattle.wgsl_model.specs.Grammar.Symbols.{Symbol.expressions}
use Rattle.wgsl_model.specs.Grammar.Written.{written}
use Rattle.wgsl_model.specs.Tokens.Raw.{token, raw}
use Rattle.wgsl_model.specs.Tokens.Templates.{is_word, is_opening, is_closing, goes_on, NoTemplate, Inside, at_greater, at_opening, at_closing, at_template, at_other, Enclosed, enclosed, Template}
use Rattle.wgsl_model.specs.Tokens.TokenList.{TokensOf, at_end, at_fault, before_template, before_more, IsTokenList, width}
use Rattle.wgsl_theory_grammar.proofs.Tokens.Cuts.{ends_length, shorter}
use Rattle.wgsl_theory_grammar.proofs.Tokens.Bounds.{template_is, template_leaves}
use Rattle.wgsl_theory_grammar.proofs.Tokens.Classes.{no_bracket, no_end}
use Rattle.wgsl_theory_grammar.proofs.Tokens.Inside.{at}
use Rattle.wgsl_theory_grammar.proofs.Tokens.Unique.{marked}
use Rattle.wgsl_theory_reread.specs.CanonicalUnits.{without_place}
use Rattle.wgsl_theory_templates.proofs.Reaching.Reach.{Role, Role.name, Role.keyword, Role.greater, Role.greater_stop, Role.opening, Role.closing, Role.short_circuit, Role.stop, Role.other, Role.template_start, Role.template_end, role, Place, Place.outside, Place.inside, ahead}
use Rattle.wgsl_theory_templates.proofs.Lexed.Shapes.{is_word_role, is_greater_role, is_plain_role, shape_end, shape_opening, shape_closing, shape_greater, shape_short_circuit, shape_plain, shape_word, shape_template, NotReached, IsSourceShape}
use Rattle.wgsl_theory_templates.proofs.Lexed.RoleClasses.{Says, role_says, is_mark_role, word_class, opening_role, closing_role, word_role}
use Rattle.wgsl_theory_templates.proofs.Lexed.RawClasses.{raw_unmarked}
use Rattle.wgsl_theory_templates.proofs.Lexed.ReachedRuns.{Reached, template_closed, reached_inside, reached_outside}

module _ (total : ℕ) where
  abbrev In : ℕ → List ℕ → List Token → List ℕ → Type 0
  In d text ts end = Inside total (Template total) d text ts end

  -- ---- a `<` after which no template list is
  abbrev First : (List ℕ → List Token → Type 0) → List ℕ → List Token → Type 0
  First Rest text ts = (k : Kind) × (from after : List ℕ) × (raw text ≡ token k from after)
      × (k.class ≡ SymLessThan) × Rest after ts

  same_class : (k : Kind) (from after : List ℕ) (us : List Token) (t : Token) (ts : List Token)
      → at total k from after ∷ us ≡ t ∷ ts → k.class ≡ t.class
  same_class k from after us t ts e = let same : at total k from after ≡ t = cc in ap (λ (x : Token). x.class) same

  same_rest : (t u : Token) (ts us : List Token) → t ∷ ts ≡ u ∷ us → ts ≡ us
  same_rest t u ts us e = cc

  -- such a token is no other
  no_less : (P : ℕ → Bool) (k : Kind) (from after : List ℕ) (us : List Token) (t : Token) (ts : List Token)
      → at total k from after ∷ us ≡ t ∷ ts → t.class ≡ SymLessThan → P SymLessThan ≡ false
      → P k.class ≡ true → ⊥
  no_less P k from after us t ts e l f h = clash _ h (ap P (same_class k from after us t ts e ∙ l) ∙ f)

  less_inside : (depth : ℕ) (text : List ℕ) (ts : List Token) (end : List ℕ) → In depth text ts end
      → (t : Token) (us : List Token) → ts ≡ t ∷ us → t.class ≡ SymLessThan
      → First (λ after vs. In depth after vs end) text us
  less_inside depth text ts end (at_greater s e after k r g) t us f l = absurd cc
  less_inside depth text ts end (at_opening d s from after e k vs r g h) t us f l =
      absurd (no_less is_opening k from after vs t us f l refl g)
  less_inside depth text ts end (at_closing d s from after e k vs r g h) t us f l =
      absurd (no_less is_closing k from after vs t us f l refl g)
  less_inside depth text ts end (at_template d s from after rest e k vs ws r w q h) t us f l =
      absurd (no_less is_word k from after (vs ++ ws) t us f l refl w)
  less_inside depth text ts end (at_other d s from after e k vs r g n h) t us f l = (
    k,
    from,
    after,
    r,
    same_class k from after vs t us f ∙ l,
    subst (λ (x : List Token). In depth after x end) (same_rest (at total k from after) t vs us f) h,
  )

  less_outside : (text : List ℕ) (ts : List Token) (e : Ending) → TokensOf total text ts e
      → (t : Token) (us : List Token) → ts ≡ t ∷ us → t.class ≡ SymLessThan
      → First (λ after vs. TokensOf total after vs e) text us
  less_outside text ts e (at_end s r) t us f l = absurd cc
  less_outside text ts e (at_fault s from after r) t us f l = absurd cc
  less_outside text ts e (before_template s from after rest k vs ws g r w q h) t us f l =
      absurd (no_less is_word k from after (vs ++ ws) t us f l refl w)
  less_outside text ts e (before_more s from after k vs g r n h) t us f l = (
    k,
    from,
    after,
    r,
    same_class k from after vs t us f ∙ l,
    subst (λ (x : List Token). TokensOf total after x e) (same_rest (at total k from after) t vs us f) h,
  )

  -- with a run up to the token that is reached, which derives list(Expression), there would be one
  would_stand : (text from after : List ℕ) (k : Kind) (ts : List Token) (v : List ExpressionNode)
      → raw text ≡ token k from after → k.class ≡ SymLessThan → Reached total (Template total) 0 after ts
      → Derives checking written expressions v (first_tokens (ahead 0 0 (map without_place ts)) ts)
      → NoTemplate (Template total) text → ⊥
  would_stand text from after k ts v e l g d n =
      let us = first_tokens (ahead 0 0 (map without_place ts)) ts in
      n (marked total from after us g.0) (drop 1 g.0) ((template_is total text
      (marked total from after us g.0) (drop 1 g.0)).1 (enclosed text from after g.0 k us v e l g.1 d))

  not_inside : (depth : ℕ) (text : List ℕ) (ts : List Token) (end : List ℕ) → In depth text ts end
      → NoTemplate (Template total) text → NotReached inside ts
  not_inside depth text [] end h n = tt
  not_inside depth text (t ∷ ts) end h n = λ l re v d.
      let f = less_inside depth text (t ∷ ts) end h t ts refl l in
      would_stand text f.1 f.2 f.0 ts v f.3 f.4 (reached_inside total (Template total)
      (template_closed total) depth f.2 ts end f.5 0 (omega arith) re) d n

  not_outside : (text : List ℕ) (ts : List Token) → TokensOf total text ts finished
      → NoTemplate (Template total) text → NotReached outside ts
  not_outside text [] h n = tt
  not_outside text (t ∷ ts) h n = λ l re v d.
      let f = less_outside text (t ∷ ts) finished h t ts refl l in
      would_stand text f.1 f.2 f.0 ts v f.3 f.4 (reached_outside total f.2 ts finished f.5 refl 0 re) d n

  -- ---- one token
  outside_token : (t : Token) (ts : List Token) (r : Role) → role t.class ≡ r
      → is_mark_role r ≡ false → (is_word_role r ≡ true → NotReached outside ts)
      → IsSourceShape outside 0 ts → IsSourceShape outside 0 (t ∷ ts)
  outside_token t ts name e m n s = shape_word (ap is_word_role e) (n refl) s
  outside_token t ts keyword e m n s = shape_word (ap is_word_role e) (n refl) s
  outside_token t ts greater e m n s = shape_greater (ap is_greater_role e) tt s
  outside_token t ts greater_stop e m n s = shape_greater (ap is_greater_role e) tt s
  outside_token t ts opening e m n s = shape_opening e s
  outside_token t ts closing e m n s = shape_closing e refl s
  outside_token t ts short_circuit e m n s = shape_short_circuit e tt s
  outside_token t ts stop e m n s = shape_plain (ap is_plain_role e) s
  outside_token t ts other e m n s = shape_plain (ap is_plain_role e) s
  outside_token t ts template_start e m n s = absurd cc
  outside_token t ts template_end e m n s = absurd cc

  -- what goes on inside a template list
  inside_token : (t : Token) (ts : List Token) (r : Role) (depth : ℕ) → role t.class ≡ r
      → Says t.class r → is_mark_role r ≡ false → goes_on depth t.class ≡ true
      → (is_word_role r ≡ true → NotReached inside ts) → IsSourceShape inside depth ts
      → IsSourceShape inside depth (t ∷ ts)
  inside_token t ts name depth e w m g n s = shape_word (ap is_word_role e) (n refl) s
  inside_token t ts keyword depth e w m g n s = shape_word (ap is_word_role e) (n refl) s
  inside_token t ts greater zero e w m g n s = clash _ w (no_end t.class g).0
  inside_token t ts greater (suc depth) e w m g n s = shape_greater (ap is_greater_role e) tt s
  inside_token t ts greater_stop zero e w m g n s = clash _ w (no_end t.class g).0
  inside_token t ts greater_stop (suc depth) e w m g n s = shape_greater (ap is_greater_role e) tt s
  inside_token t ts opening depth e w m g n s = clash _ w (no_bracket depth t.class g).0
  inside_token t ts closing depth e w m g n s = clash _ w (no_bracket depth t.class g).1
  inside_token t ts short_circuit zero e w m g n s = clash _ w (no_end t.class g).1
  inside_token t ts short_circuit (suc depth) e w m g n s = shape_short_circuit e tt s
  inside_token t ts stop depth e w m g n s = shape_plain (ap is_plain_role e) s
  inside_token t ts other depth e w m g n s = shape_plain (ap is_plain_role e) s
  inside_token t ts template_start depth e w m g n s = absurd cc
  inside_token t ts template_end depth e w m g n s = absurd cc

  -- ---- a template list
  -- what is inside the template lists at the front of a text has the shape
  abbrev Known : List ℕ → Type 0
  Known text = (depth : ℕ) (after : List ℕ) (us : List Token) (end : List ℕ)
      → length after < length text → In depth after us end → IsSourceShape inside depth us

  list_shape : (p : Place) (depth : ℕ) (t : Token) (text : List ℕ) (us ts : List Token) (rest : List ℕ)
      → is_word_role (role t.class) ≡ true → Known text
      → Enclosed total (Template total) text us rest → IsSourceShape p depth ts
      → IsSourceShape p depth (t ∷ (us ++ ts))
  list_shape p depth t text us ts rest w known (enclosed s from after end k vs v r l h d) src =
      let start = at total (plain TemplateArgsStart) from after in
      let last = at total (plain TemplateArgsEnd) end (drop 1 end) in
      subst (λ (x : List Token). IsSourceShape p depth (t ∷ (start ∷ x))) (sym (append_assoc vs (last ∷ []) ts))
      (shape_template t start last vs ts w refl refl (known 0 after vs end (shorter text from after k r) h) (v, d) src)

  -- ---- what is inside a template list
  inside_step : (depth : ℕ) (text : List ℕ) (ts : List Token) (end : List ℕ) → Known text
      → In depth text ts end → IsSourceShape inside depth ts
  inside_step depth text ts end known (at_greater s e after k r g) = shape_end
  inside_step depth text ts end known (at_opening d s from after e k us r g h) = shape_opening
      (opening_role k.class g) (known (suc depth) after us end (shorter text from after k r) h)
  inside_step depth text ts end known (at_closing d s from after e k us r g h) =
      shape_closing (closing_role k.class g) refl (known d after us end (shorter text from after k r) h)
  inside_step depth text ts end known (at_template d s from after rest e k us vs r w q h) =
      let less = shorter text from after k r in
      let lasts = ends_length after rest (template_leaves total after us rest q) in
      list_shape inside depth (at total k from after) after us vs rest (word_role k.class w)
      (λ d a xs stop lt i. known d a xs stop (omega arith) i)
      ((template_is total after us rest).0 q) (known depth rest vs end (omega arith) h)
  inside_step depth text ts end known (at_other d s from after e k us r g n h) =
      inside_token (at total k from after) us (role k.class) depth refl (role_says k.class)
      (raw_unmarked text from after k r) g
      (λ w. not_inside depth after us end h (n (word_class k.class w)))
      (known depth after us end (shorter text from after k r) h)

  inside_below : (n depth : ℕ) (text : List ℕ) (ts : List Token) (end : List ℕ) → length text < n
      → In depth text ts end → IsSourceShape inside depth ts
  inside_below zero depth text ts end lt h = absurd (omega arith)
  inside_below (suc n) depth text ts end lt h = inside_step depth text ts end
      (λ d after us stop less i. inside_below n d after us stop (omega arith) i) h

  known_of : (text : List ℕ) → Known text
  known_of text depth after us end lt h = inside_below (suc (length after)) depth after us end (omega arith) h

  -- ---- a whole text
  outside_shape : (text : List ℕ) (ts : List Token) (e : Ending) → TokensOf total text ts e
      → e ≡ finished → IsSourceShape outside 0 ts
  outside_shape text ts e (at_end s r) f = shape_end
  outside_shape text ts e (at_fault s from after r) f = absurd cc
  outside_shape text ts e (before_template s from after rest k us vs g r w q h) f =
      list_shape outside 0 (at total k from after) after us vs rest (word_role k.class w)
      (known_of after) ((template_is total after us rest).0 q) (outside_shape rest vs e h f)
  outside_shape text ts e (before_more s from after k us g r n h) f =
      outside_token (at total k from after) us (role k.class) refl (raw_unmarked text from after k r)
      (λ w. not_outside after us (subst (λ (x : Ending). TokensOf total after us x) f h) (n (word_class k.class w)))
      (outside_shape after us e h f)

-- the tokens of a source have the shape
pub source_shape : (source : List ℕ) (ts : List Token) → IsTokenList source ts finished → IsSourceShape outside 0 ts
source_shape source ts h = outside_shape (width source) source ts finished h refl
