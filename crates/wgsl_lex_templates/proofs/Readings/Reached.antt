-- What was read after a `<`, one token or one list further.
use Rattle.std.proofs.Common.{◌≡◌, ◌↔◌, ◌≤◌, ◌+◌, ℕ, suc, arith, Bool, true, false, List, [], ◌∷◌, ◌++◌, drop, length, map, refl, sym, ap, ap₂, subst, ◌∙◌, append_assoc, inl, inr}
use Rattle.std.proofs.lemmas.List.{map-append, length-append}
use Rattle.grammar.specs.Tokens.{Token}
use Rattle.grammar.specs.Grammar.{is_among}
use Rattle.wgsl_model.specs.Tokens.ClassTable.{SymLessThan, TemplateArgsStart, TemplateArgsEnd, Ident}
use Rattle.wgsl_model.specs.Tokens.Kind.{Kind, plain}
use Rattle.wgsl_model.specs.Tokens.Raw.{token, raw}
use Rattle.wgsl_model.specs.Tokens.Templates.{is_word, begins_with_greater, NoTemplate, Inside, Template}
use Rattle.wgsl_lex_token.specs.declared.kind_table.TokenKind.{TokenKind}
use Rattle.wgsl_lex_token.specs.View.{class_of_kind}
use Rattle.wgsl_theory_grammar.proofs.Tokens.Cuts.{EndsWith, joined, after_token}
use Rattle.wgsl_theory_grammar.proofs.Tokens.Inside.{at}
use Rattle.wgsl_theory_grammar.proofs.Tokens.Unique.{marked}
use Rattle.wgsl_lex_templates.specs.ExpressionLists.{classes_of, IsExpressionList}
use Rattle.wgsl_theory_templates.specs.Attempts.{EndsAt, HasNoEnd, ReadsTo, less_signs}
use Rattle.wgsl_theory_templates.proofs.Swaps.Attempts.{IsTaken, front_list, goes_by_less}
use Rattle.wgsl_theory_templates.proofs.Swaps.Attempts as attempt
use Rattle.wgsl_theory_templates.proofs.Swaps.Swapped.{no_tokens, one_enclosed}
use Rattle.wgsl_theory_templates.proofs.Swaps.Exchanges.{unchanged, exchanged, exchanged_again, both_exchanged, exchanged_list}
use Rattle.wgsl_lex_templates.specs.declared.kept.Piece.{Piece}
use Rattle.wgsl_lex_templates.specs.declared.kept.Piece.TheVariants.{Token as OneToken, Stretch}
use Rattle.wgsl_lex_templates.specs.Kept.{held}
use Rattle.wgsl_lex_templates.specs.Reached.{Reaches, GoesOn}
use Rattle.wgsl_lex_templates.specs.Advancing.{token_of_class}
use Rattle.wgsl_lex_templates.specs.Shortened.{MayReplace}
use Rattle.wgsl_lex_templates.proofs.Advancing.Advances.{bare_classes}
use Rattle.wgsl_lex_templates.proofs.Readings.Replaced.{of_classes}
use Rattle.wgsl_lex_templates.proofs.Readings.Held.{held_more}
use Rattle.wgsl_lex_templates.proofs.Readings.Pieces.{held_from, token_held, stretch_held}
use Rattle.wgsl_lex_templates.proofs.Readings.Names.{name_start, one_name, name_end, name_list}

-- at the start
pub starts : (total : ℕ) (text now : List ℕ) → now ≡ [] → Reaches total text now false 0 text
starts total text now e = record {
  seen = [];
  short = [];
  read = e;
  exchanged = unchanged [];
  reads = attempt.starts total text;
}

longer : (now : List ℕ) (short us : List Token) (cs : List ℕ) → now ≡ classes_of short
    → cs ≡ classes_of us → now ++ cs ≡ classes_of (short ++ us)
longer now short us cs e f = ap₂ (λ a b. a ++ b) e f ∙ sym (map-append (λ (t : Token). t.class) short us)

-- one token is taken
pub takes : (total : ℕ) (text now : List ℕ) (word : Bool) (depth following : ℕ) (rest from after : List ℕ)
    (kind : Kind) → Reaches total text now word depth rest → raw rest ≡ token kind from after
    → (word ≡ true → kind.class ≡ SymLessThan → HasNoEnd total after) → IsTaken depth kind.class following
    → Reaches total text (now ++ kind.class ∷ []) (is_word kind.class) following after
takes total text now word depth following rest from after kind r e n t =
    let one : List Token = at total kind from after ∷ [] in
    record {
      seen = r.seen ++ one;
      short = r.short ++ one;
      read = longer now r.short one (kind.class ∷ []) r.read refl;
      exchanged = both_exchanged r.short r.seen one one r.exchanged (unchanged one);
      reads = attempt.takes total text r.seen word depth following rest from after kind r.reads e n t;
    }

-- after a word, a list is taken
pub takes_list : (total : ℕ) (text now : List ℕ) (word : Bool) (depth : ℕ) (rest from after end : List ℕ)
    (kind : Kind) → Reaches total text now word depth rest → raw rest ≡ token kind from after
    → word ≡ true → kind.class ≡ SymLessThan → (k : EndsAt total after end)
    → Reaches total text (now ++ (TemplateArgsStart ∷ Ident ∷ TemplateArgsEnd ∷ [])) false depth (drop 1 end)
takes_list total text now word depth rest from after end kind r e w c k =
    let name : List Token = name_start ∷ one_name ∷ name_end ∷ [] in
    let us = marked total from after k.0 end in
    record {
      seen = r.seen ++ us;
      short = r.short ++ name;
      read = longer now r.short name (TemplateArgsStart ∷ Ident ∷ TemplateArgsEnd ∷ []) r.read refl;
      exchanged = both_exchanged r.short r.seen name us r.exchanged
          (exchanged name us (one_enclosed name_start name_end (at total (plain TemplateArgsStart)
          from after) (at total (plain TemplateArgsEnd) end (drop 1 end)) (one_name ∷ []) k.0 [] []
          (inl ((refl, refl, name_list), (refl, refl, k.2))) no_tokens));
      reads = attempt.takes_list total text r.seen word depth rest from after end kind r.reads e w c k;
    }

-- an operator that ends with a `<` is taken, with what was read after it
pub takes_less : (total : ℕ) (text now more : List ℕ) (word : Bool) (depth : ℕ)
    (rest from after place : List ℕ) (kind : Kind) → Reaches total text now word depth rest
    → raw rest ≡ token kind from after
    → is_among kind.class less_signs ≡ true
    → (word ≡ true → kind.class ≡ SymLessThan → HasNoEnd total after)
    → Reaches total after more false 0 place
    → Reaches total text ((now ++ kind.class ∷ []) ++ more) false depth place
takes_less total text now more word depth rest from after place kind r e c n s =
    let less : Token = at total kind from after in
    let as_deep : depth + 0 ≡ depth = omega arith in
    record {
      seen = r.seen ++ (less ∷ s.seen);
      short = r.short ++ (less ∷ s.short);
      read = append_assoc now (kind.class ∷ []) more
          ∙ longer now r.short (less ∷ s.short) (kind.class ∷ more) r.read (ap (λ cs. kind.class ∷ cs) s.read);
      exchanged = both_exchanged r.short r.seen (less ∷ s.short) (less ∷ s.seen) r.exchanged
          (both_exchanged (less ∷ []) (less ∷ []) s.short s.seen (unchanged (less ∷ [])) s.exchanged);
      reads = subst (λ (d : ℕ). ReadsTo total text (r.seen ++ (less ∷ s.seen)) false d place) as_deep
          (goes_by_less total text r.seen s.seen word false depth 0 rest from after place kind r.reads e c n s.reads);
    }

-- the `>` that ends the list
pub ends : (total : ℕ) (text now : List ℕ) (word : Bool) (depth : ℕ) (rest from after : List ℕ) (kind : Kind)
    → Reaches total text now word depth rest → raw rest ≡ token kind from after
    → depth ≡ 0 → begins_with_greater kind.class ≡ true
    → (ts us : List Token) × Inside total (Template total) 0 text ts from × (classes_of us ≡ now)
    × (IsExpressionList us ↔ IsExpressionList ts)
ends total text now word depth rest from after kind r e z g = (
  r.seen,
  r.short,
  attempt.ends total text r.seen word rest from after kind
      (subst (λ (d : ℕ). ReadsTo total text r.seen word d rest) z r.reads) e g,
  sym r.read,
  exchanged_list r.short r.seen r.exchanged,
)

-- where no list begins the rest, it is of no account whether the last token was a word
pub forget_word : (total : ℕ) (text now : List ℕ) (word : Bool) (depth : ℕ) (rest : List ℕ)
    → Reaches total text now word depth rest → (word ≡ true → NoTemplate (Template total) rest)
    → Reaches total text now false depth rest
forget_word total text now word depth rest r n = record {
  seen = r.seen;
  short = r.short;
  read = r.read;
  exchanged = r.exchanged;
  reads = attempt.forget_word total text r.seen word depth rest r.reads n;
}

-- nor at which of two texts with the same first token one is
pub reached_alike : (total : ℕ) (text now : List ℕ) (depth : ℕ) (rest other : List ℕ) → raw rest ≡ raw other
    → Reaches total text now false depth rest → Reaches total text now false depth other
reached_alike total text now depth rest other e r = record {
  seen = r.seen;
  short = r.short;
  read = r.read;
  exchanged = r.exchanged;
  reads = attempt.reads_alike total text r.seen depth rest other e r.reads;
}

-- the same of equal lists, flags and depths
pub moved : (total : ℕ) (text now now' : List ℕ) (word word' : Bool) (depth : ℕ) (rest rest' : List ℕ)
    → now' ≡ now → word' ≡ word → rest' ≡ rest → Reaches total text now word depth rest
    → Reaches total text now' word' depth rest'
moved total text now now' word word' depth rest rest' e f g r = rw (e, f, g) r

-- one more bracket is open after a token that is taken, at most
pub taken_within : (depth c following : ℕ) → IsTaken depth c following → following ≤ suc depth
taken_within depth c following (inl t) = omega (arith, t.1)
taken_within depth c following (inr (inl t)) = omega (arith, t.1)
taken_within depth c following (inr (inr t)) = omega (arith, t.1)

-- after a `<` that begins no list, no list ends
pub no_end_after : (total : ℕ) (from after : List ℕ) (kind : Kind) → raw from ≡ token kind from after
    → kind.class ≡ SymLessThan → NoTemplate (Template total) from → HasNoEnd total after
no_end_after total from after kind e c n end k = n _ _ (front_list total from from after end kind e c k)

-- a kind whose class is that of a token ends with a `<` as the token does
pub sign_of : (c class : ℕ) → c ≡ class → is_among c less_signs ≡ true → is_among class less_signs ≡ true
sign_of c class e m = ap (λ x. is_among x less_signs) (sym e) ∙ m

-- after an operator that ends with a `<`, what was read before is taken as a stretch
pub goes_on_by : (total : ℕ) (text : List ℕ) (ps mid now : List Piece) (k : TokenKind)
    (start b e : ℕ) (word : Bool) (depth : ℕ) (rest from after place : List ℕ) (kind : Kind)
    → Reaches total text (held_from ps start) word depth rest → raw rest ≡ token kind from after
    → is_among kind.class less_signs ≡ true
    → (word ≡ true → kind.class ≡ SymLessThan → HasNoEnd total after) → GoesOn total ps after place b e
    → start ≤ length ps → mid ≡ ps ++ OneToken k ∷ [] → class_of_kind k ≡ kind.class
    → now ≡ mid ++ Stretch b e ∷ [] → EndsWith text rest
    → EndsWith text place × Reaches total text (held_from now start) false depth place
goes_on_by total text ps mid now k start b e word depth rest from after place kind r front less n
    (cut, fits, more) s one same two ends =
    let first = token_held ps mid k start one s in
    let second = stretch_held mid now b e start two first.1
    (omega (arith, fits, ap length one, length-append ps (OneToken k ∷ []))) in
    let stretch : held mid b e ≡ held ps b e = ap (λ (x : List Piece). held x b e) one
    ∙ held_more ps (OneToken k ∷ []) b e fits in
    let all : held_from now start ≡ (held_from ps start ++ kind.class ∷ []) ++ held ps b e = second
    ∙ ap₂ (λ x y. x ++ y) (first.0 ∙ ap (λ c. held_from ps start ++ c ∷ []) same) stretch in (
      joined text after place (joined text rest after ends (after_token rest from after kind front)) cut,
      subst (λ (x : List ℕ). Reaches total text x false depth place) (sym all) (takes_less total text
          (held_from ps start) (held ps b e) word depth rest from after place kind r front less n more),
    )

-- classes that may replace those are held in their place
pub shortened : (total : ℕ) (text cs ds : List ℕ) (word : Bool) (depth : ℕ) (rest : List ℕ)
    → MayReplace cs ds → Reaches total text ds word depth rest → Reaches total text cs word depth rest
shortened total text cs ds word depth rest e r =
    let us : List Token = map token_of_class cs in
    record {
      seen = r.seen;
      short = us;
      read = sym (bare_classes cs);
      exchanged = exchanged_again us (map token_of_class ds) r.seen e
          (exchanged_again (map token_of_class ds) r.short r.seen
          (of_classes (map token_of_class ds) r.short (bare_classes ds ∙ r.read)) r.exchanged);
      reads = r.reads;
    }
