-- Kinds of the classes of a source's tokens have the shape that lets a text have tokens of these
-- kinds.
use Rattle.std.proofs.Common.{◌≡◌, ℕ, zero, suc, List, [], ◌∷◌, ◌++◌, map, take, refl, sym, ap, subst, ◌∙◌}
use Rattle.std.proofs.lemmas.List.{map-append}
use Rattle.grammar.specs.Tokens.{Token, first_tokens}
use Rattle.grammar.specs.Endings.{Ending.finished}
use Rattle.wgsl_model.specs.Tokens.Kind.{Kind}
use Rattle.wgsl_model.specs.Tokens.TokenList.{IsTokenList}
use Rattle.wgsl_theory_templates.proofs.Reaching.Reach.{Place, Place.outside, role, reach, reach_role, ahead, ahead_role}
use Rattle.wgsl_theory_templates.proofs.Reaching.Moves.{kinds}
use Rattle.wgsl_theory_templates.proofs.Lexed.Shapes.{is_word_role, is_greater_role, is_plain_role, shape_end, shape_opening, shape_closing, shape_greater, shape_short_circuit, shape_plain, shape_word, shape_template, NotReached, NoListReached, DerivesAnywhere, IsSourceShape, IsWrittenShape}
use Rattle.wgsl_theory_templates.proofs.Lexed.SourceShape.{source_shape}
use Rattle.wgsl_theory_grammar.proofs.Tokens.Decided.{IsList}
use Rattle.wgsl_theory_names.proofs.Lexed.ByClass.{classes, list_by_class}

-- the classes of kinds
abbrev pub kind_classes : List Kind → List ℕ
kind_classes = map (λ (k : Kind). k.class)

pub classes_of_kinds : (ts : List Token) → kind_classes (kinds ts) ≡ classes ts
classes_of_kinds [] = refl
classes_of_kinds (t ∷ ts) = ap (λ cs. t.class ∷ cs) (classes_of_kinds ts)

first_classes : (n : ℕ) (ts : List Token) → classes (first_tokens n ts) ≡ take n (classes ts)
first_classes zero ts = refl
first_classes (suc n) [] = refl
first_classes (suc n) (t ∷ ts) = ap (λ cs. t.class ∷ cs) (first_classes n ts)

take_classes : (n : ℕ) (ks : List Kind) → kind_classes (take n ks) ≡ take n (kind_classes ks)
take_classes zero ks = refl
take_classes (suc n) [] = refl
take_classes (suc n) (k ∷ ks) = ap (λ cs. k.class ∷ cs) (take_classes n ks)

-- ---- the first kind, and a part of kinds
-- the first kind of some classes, and the rest
record First (ks : List Kind) (c : ℕ) (cs : List ℕ) : Type 0 where
  kind : Kind
  rest : List Kind
  whole : kind ∷ rest ≡ ks
  class : c ≡ kind.class
  same : kind_classes rest ≡ cs

first_of : (ks : List Kind) (c : ℕ) (cs : List ℕ) → kind_classes ks ≡ c ∷ cs → First ks c cs
first_of [] c cs e = absurd (cc)
first_of (k ∷ ks) c cs e = record { kind = k; rest = ks; whole = refl; class = cc; same = cc }

-- the kinds of some classes, one kind after them, and the rest
record Split (ks : List Kind) (bs : List ℕ) (c : ℕ) (cs : List ℕ) : Type 0 where
  front : List Kind
  kind : Kind
  rest : List Kind
  whole : front ++ (kind ∷ rest) ≡ ks
  front_same : kind_classes front ≡ bs
  class : c ≡ kind.class
  same : kind_classes rest ≡ cs

split : (ks : List Kind) (bs : List ℕ) (c : ℕ) (cs : List ℕ) → kind_classes ks ≡ bs ++ (c ∷ cs) → Split ks bs c cs
split ks [] c cs e =
    let first = first_of ks c cs e in
    record {
      front = [];
      kind = first.kind;
      rest = first.rest;
      whole = first.whole;
      front_same = refl;
      class = first.class;
      same = first.same;
    }
split ks (b ∷ bs) c cs e =
    let first = first_of ks b (bs ++ (c ∷ cs)) e in
    let part = split first.rest bs c cs first.same in
    record {
      front = first.kind ∷ part.front;
      kind = part.kind;
      rest = part.rest;
      whole = ap (λ js. first.kind ∷ js) part.whole ∙ first.whole;
      front_same = λ i. sym first.class i ∷ part.front_same i;
      class = part.class;
      same = part.same;
    }

-- ---- what a `<` reaches
reach_same : (p : Place) (n d : ℕ) (ks js : List Kind) → kind_classes ks ≡ kind_classes js
    → reach p n d ks ≡ reach p n d js
reach_same p n d [] [] e = refl
reach_same p n d [] (j ∷ js) e = absurd (cc)
reach_same p n d (k ∷ ks) [] e = absurd (cc)
reach_same p n d (k ∷ ks) (j ∷ js) e =
    let first : k.class ≡ j.class = cc in
    let rest : kind_classes ks ≡ kind_classes js = cc in
    λ i. reach_role (role (first i)) n d (λ a b. reach_same p a b ks js rest i)

ahead_same : (n d : ℕ) (ks js : List Kind) → kind_classes ks ≡ kind_classes js → ahead n d ks ≡ ahead n d js
ahead_same n d [] [] e = refl
ahead_same n d [] (j ∷ js) e = absurd (cc)
ahead_same n d (k ∷ ks) [] e = absurd (cc)
ahead_same n d (k ∷ ks) (j ∷ js) e =
    let first : k.class ≡ j.class = cc in
    let rest : kind_classes ks ≡ kind_classes js = cc in
    λ i. ahead_role (role (first i)) n d (λ a b. ahead_same a b ks js rest i)

-- no list of expressions is reached
none_reached : (p : Place) (ts : List Token) (ks : List Kind) → kind_classes ks ≡ classes ts
    → NotReached p ts → NoListReached p ks
none_reached p ts [] e n = tt
none_reached p [] (k ∷ ks) e n = absurd (cc)
none_reached p (t ∷ ts) (k ∷ ks) e n = λ less reached us taken list.
    let first : k.class ≡ t.class = cc in
    let rest : kind_classes ks ≡ classes ts = cc in
    let same : kind_classes ks ≡ kind_classes (kinds ts) = rest ∙ sym (classes_of_kinds ts) in
    let before = first_tokens (ahead 0 0 (kinds ts)) ts in
    let classes_before : classes before ≡ classes us = first_classes (ahead 0 0 (kinds ts)) ts
    ∙ sym (λ i. take (ahead_same 0 0 ks (kinds ts) same i) (rest i)) ∙ sym (take_classes (ahead 0 0 ks) ks)
    ∙ sym (ap kind_classes taken) ∙ classes_of_kinds us in
    let found = list_by_class us before classes_before list in
    n (sym first ∙ less) (sym (reach_same p 0 0 ks (kinds ts) same) ∙ reached) found.0 found.1

-- the kinds of a list of expressions
lists_anywhere : (ts : List Token) (ks : List Kind) → kind_classes ks ≡ classes ts → IsList ts → DerivesAnywhere ks
lists_anywhere ts ks e list us same =
    list_by_class ts us (sym (classes_of_kinds us) ∙ ap kind_classes same ∙ e) list

-- ---- shapes
shape_of_classes : {p : Place} {depth : ℕ} {ts : List Token} → IsSourceShape p depth ts
    → (ks : List Kind) → kind_classes ks ≡ classes ts → IsWrittenShape p depth ks
shape_of_classes {p} shape_end [] e = shape_end
shape_of_classes {p} shape_end (k ∷ ks) e = absurd (cc)
shape_of_classes {p} {depth} (shape_opening {t = t} {ts = ts} r s) ks e =
    let first = first_of ks t.class (classes ts) e in
    subst (IsWrittenShape p depth) first.whole
    (shape_opening (sym (ap role first.class) ∙ r) (shape_of_classes s first.rest first.same))
shape_of_classes {p} {depth} (shape_closing {t = t} {ts = ts} r d s) ks e =
    let first = first_of ks t.class (classes ts) e in
    subst (IsWrittenShape p depth) first.whole
    (shape_closing (sym (ap role first.class) ∙ r) d (shape_of_classes s first.rest first.same))
shape_of_classes {p} {depth} (shape_greater {t = t} {ts = ts} r m s) ks e =
    let first = first_of ks t.class (classes ts) e in
    subst (IsWrittenShape p depth) first.whole (shape_greater
    (sym (ap (λ (c : ℕ). is_greater_role (role c)) first.class) ∙ r) m (shape_of_classes s first.rest first.same))
shape_of_classes {p} {depth} (shape_short_circuit {t = t} {ts = ts} r m s) ks e =
    let first = first_of ks t.class (classes ts) e in
    subst (IsWrittenShape p depth) first.whole
    (shape_short_circuit (sym (ap role first.class) ∙ r) m (shape_of_classes s first.rest first.same))
shape_of_classes {p} {depth} (shape_plain {t = t} {ts = ts} r s) ks e =
    let first = first_of ks t.class (classes ts) e in
    subst (IsWrittenShape p depth) first.whole (shape_plain
    (sym (ap (λ (c : ℕ). is_plain_role (role c)) first.class) ∙ r) (shape_of_classes s first.rest first.same))
shape_of_classes {p} {depth} (shape_word {t = t} {ts = ts} r n s) ks e =
    let first = first_of ks t.class (classes ts) e in
    subst (IsWrittenShape p depth) first.whole (shape_word
    (sym (ap (λ (c : ℕ). is_word_role (role c)) first.class) ∙ r) (none_reached p ts first.rest first.same n)
    (shape_of_classes s first.rest first.same))
shape_of_classes {p} {depth} (shape_template t start end us ts r f g i l s) ks e =
    let word = first_of ks t.class (start.class ∷ classes (us ++ (end ∷ ts))) e in
    let opened = first_of word.rest start.class (classes (us ++ (end ∷ ts))) word.same in
    let part = split opened.rest (classes us) end.class (classes ts)
    (opened.same ∙ map-append (λ (x : Token). x.class) us (end ∷ ts)) in
    subst (IsWrittenShape p depth)
    (ap (λ js. word.kind ∷ (opened.kind ∷ js)) part.whole ∙ ap (λ js. word.kind ∷ js) opened.whole ∙ word.whole)
    (shape_template word.kind opened.kind part.kind part.front part.rest
    (sym (ap (λ (c : ℕ). is_word_role (role c)) word.class) ∙ r)
    (sym (ap role opened.class) ∙ f) (sym (ap role part.class) ∙ g)
    (shape_of_classes i part.front part.front_same) (lists_anywhere us part.front part.front_same l)
    (shape_of_classes s part.rest part.same))

-- kinds of the classes of a source's tokens
pub source_classes : (source : List ℕ) (ts : List Token) → IsTokenList source ts finished
    → (ks : List Kind) → kind_classes ks ≡ classes ts → IsWrittenShape outside 0 ks
source_classes source ts h = shape_of_classes (source_shape source ts h)
