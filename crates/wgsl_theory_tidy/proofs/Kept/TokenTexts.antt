-- The characters of the token at the front of a text, after blank space and comments.
use Rattle.std.proofs.Common.{◌≡◌, inl, inr, ℕ, ◌==◌, Bool, true, false, refl, sym, ap, subst, ◌∙◌, List, [], ◌∷◌, ◌++◌, drop, Option, Some, None, arith}
use Rattle.std.proofs.lemmas.Bool.{eqb-true, false_from_ne_true}
use Rattle.wgsl_model.proofs.Tokens.Fronts.{front-append}
use Rattle.wgsl_model.specs.Tokens.Characters.{is_blank}
use Rattle.wgsl_model.specs.Tokens.ClassTable.{SymLessThan, TemplateArgsStart, TemplateArgsEnd}
use Rattle.wgsl_model.specs.Tokens.Kind.{Kind, plain}
use Rattle.wgsl_model.specs.Tokens.Pattern.{spells, after_spelling}
use Rattle.wgsl_model.specs.Tokens.Raw.{none_left, token, front, kind_of_spelling, valued, spelled, raw_at, raw}
use Rattle.wgsl_model.specs.Tokens.Spelling.{spelling}
use Rattle.wgsl_model.specs.Tokens.Templates.{begins_with_greater}
use Rattle.wgsl_model.specs.Tokens.Trivia.{outside, after_trivia}
use Rattle.wgsl_theory_reread.proofs.Names.TextWords.{valued_kind}
use Rattle.wgsl_theory_templates.proofs.Lexed.RawClasses.{raw_unmarked}
use Rattle.wgsl_theory_templates.proofs.Reaching.Reach.{role}
use Rattle.wgsl_theory_templates.proofs.Lexed.RoleClasses.{is_mark_role}
use Rattle.wgsl_theory_printed.proofs.Spelling.Cut.{longest_spelling}
use Rattle.wgsl_theory_grammar.proofs.Tokens.Bare.{IsBare, bare_after_trivia, over_blank}
use Rattle.wgsl_theory_grammar.proofs.Tokens.Cuts.{trivia-ends, ends_length}
use Rattle.wgsl_theory_tidy.proofs.Kept.Readings.{IsToken, is_word, is_slash, is_slash_equal, is_start, is_end}
use Rattle.wgsl_theory_tidy.proofs.Kept.Signs.{less_text, greater_text, slash_text, IsSlash}

-- ---- after blank space and comments

-- so the first character is not blank
pub bare_solid : (c : ℕ) (cs : List ℕ) → IsBare (c ∷ cs) → is_blank c ≡ false
bare_solid c cs h = false_from_ne_true (is_blank c) (λ b.
    (let same : after_trivia outside cs ≡ c ∷ cs = sym (over_blank c cs b) ∙ h in
    absurd (omega (
      arith,
      ends_length cs (c ∷ cs)
          (subst (λ rest. (before : List ℕ) × (cs ≡ before ++ rest)) same (trivia-ends outside cs)),
    ))))

-- ---- the characters of a token

-- a text begins with the spelling of a token
record Spelled (text : List ℕ) (k : Kind) (from after : List ℕ) : Type 0 where
  word : List ℕ
  here : from ≡ text
  whole : text ≡ word ++ after
  valued : kind_of_spelling word ≡ Some k
  spelled : spells spelling word ≡ true

pub valued_from : (o : Option Kind) (text rest from after : List ℕ) (k : Kind)
    → valued text rest o ≡ token k from after → (from ≡ text) × (rest ≡ after)
valued_from None text rest from after k e = absurd (cc)
valued_from (Some m) text rest from after k e = (cc, cc)

spelled_text : (o : Option (List ℕ)) (c : ℕ) (cs from after : List ℕ) (k : Kind)
    → after_spelling spelling (c ∷ cs) ≡ o → spelled (c ∷ cs) cs o ≡ token k from after
    → Spelled (c ∷ cs) k from after
spelled_text None c cs from after k e h = absurd (cc)
spelled_text (Some rest) c cs from after k e h =
    let found = longest_spelling spelling (c ∷ cs) rest e in
    let word : front (c ∷ cs) rest ≡ found.0 = ap (λ text. front text rest) found.1.whole ∙ front-append found.0 rest in
    let at = valued_from (kind_of_spelling (front (c ∷ cs) rest)) (c ∷ cs) rest from after k h in
    record {
      word = found.0;
      here = at.0;
      whole = found.1.whole ∙ ap (λ following. found.0 ++ following) at.1;
      valued = ap kind_of_spelling (sym word)
          ∙ valued_kind (kind_of_spelling (front (c ∷ cs) rest)) (c ∷ cs) rest from after k h;
      spelled = found.1.passes;
    }

raw_at_text : (text from after : List ℕ) (k : Kind) → raw_at text ≡ token k from after → Spelled text k from after
raw_at_text [] from after k h = absurd (cc)
raw_at_text (c ∷ cs) from after k h = spelled_text (after_spelling spelling (c ∷ cs)) c cs from after k refl h

-- a spelling that is at the front of a text with nothing before it
slash_token : (cs rest : List ℕ) (k : Kind) → IsSlash (47 ∷ cs) k
    → raw ((47 ∷ cs) ++ rest) ≡ token k ((47 ∷ cs) ++ rest) rest → IsToken k (47 ∷ cs) rest
slash_token cs rest k (inl h) e =
    subst (λ w. IsToken k w rest) (sym h.0)
    (subst (λ l. IsToken l (47 ∷ []) rest) (sym h.1) (is_slash rest (subst (λ l. raw (47 ∷ rest)
    ≡ token l (47 ∷ rest) rest) h.1 (subst (λ w. raw (w ++ rest) ≡ token k (w ++ rest) rest) h.0 e))))
slash_token cs rest k (inr h) e =
    subst (λ w. IsToken k w rest) (sym h.0)
    (subst (λ l. IsToken l (47 ∷ (61 ∷ [])) rest) (sym h.1)
    (is_slash_equal rest (subst (λ l. raw (47 ∷ (61 ∷ rest)) ≡ token l (47 ∷ (61 ∷ rest)) rest) h.1
    (subst (λ w. raw (w ++ rest) ≡ token k (w ++ rest) rest) h.0 e))))

word_token : (w rest : List ℕ) (k : Kind) → is_mark_role (role k.class) ≡ false
    → spells spelling w ≡ true → kind_of_spelling w ≡ Some k → IsBare (w ++ rest)
    → raw (w ++ rest) ≡ token k (w ++ rest) rest → IsToken k w rest
word_token [] rest k m s v b e = absurd (cc)
word_token (c ∷ cs) rest k m s v b e = go (c == 47) refl
  where
    go : (slash : Bool) → (c == 47) ≡ slash → IsToken k (c ∷ cs) rest
    go true f =
        let same : c ≡ 47 = eqb-true c 47 f in
        subst (λ d. IsToken k (d ∷ cs) rest) (sym same)
        (slash_token cs rest k (slash_text cs k (subst (λ d. kind_of_spelling (d ∷ cs) ≡ Some k) same v))
        (subst (λ d. raw ((d ∷ cs) ++ rest) ≡ token k ((d ∷ cs) ++ rest) rest) same e))
    go false f = is_word k (c ∷ cs) rest m
        (record { spelled = s; valued = v; begins = (bare_solid c (cs ++ rest) b, f) }) e

-- ---- what is before a token, and its characters

pub record TokenCut (text : List ℕ) (k : Kind) (from rest : List ℕ) : Type 0 where
  pub trivia : List ℕ
  pub word : List ℕ
  pub whole : text ≡ trivia ++ from
  pub begins : from ≡ word ++ rest
  pub passed : after_trivia outside text ≡ from
  pub is_token : IsToken k word rest

-- where the characters begin, by those of the token that is there
cut_from : (text from rest : List ℕ) (k : Kind) (word : List ℕ) → after_trivia outside text ≡ from
    → from ≡ word ++ rest → IsToken k word rest → TokenCut text k from rest
cut_from text from rest k word p b t =
    let before = trivia-ends outside text in
    record {
      trivia = before.0;
      word = word;
      whole = before.1 ∙ ap (λ xs. before.0 ++ xs) p;
      begins = b;
      passed = p;
      is_token = t;
    }

front_text : (text from after : List ℕ) (k : Kind) → raw text ≡ token k from after
    → Spelled (after_trivia outside text) k from after
front_text text from after k e = raw_at_text (after_trivia outside text) from after k e

-- a token as it is
pub cut_token : (text from after : List ℕ) (k : Kind) → raw text ≡ token k from after → TokenCut text k from after
cut_token text from after k e =
    let s = front_text text from after k e in
    let here : from ≡ s.word ++ after = s.here ∙ s.whole in
    let bare : IsBare from = subst IsBare (sym s.here) (bare_after_trivia outside text) in
    let again : raw from ≡ token k from after = ap raw_at bare ∙ ap raw_at s.here ∙ e in
    cut_from text from after k s.word (sym s.here) here
    (word_token s.word after k (raw_unmarked text from after k e) s.spelled s.valued
    (subst IsBare here bare) (subst (λ xs. raw xs ≡ token k xs after) here again))

-- the `<` of a template list
pub cut_start : (text from after : List ℕ) (k : Kind) → raw text ≡ token k from after
    → k.class ≡ SymLessThan → TokenCut text (plain TemplateArgsStart) from after
cut_start text from after k e l =
    let s = front_text text from after k e in
    cut_from text from after (plain TemplateArgsStart) (60 ∷ []) (sym s.here)
    (s.here ∙ s.whole ∙ ap (λ w. w ++ after) (less_text s.word k s.valued l)) (is_start after)

-- its `>`
pub cut_end : (text from after : List ℕ) (k : Kind) → raw text ≡ token k from after
    → begins_with_greater k.class ≡ true → TokenCut text (plain TemplateArgsEnd) from (drop 1 from)
cut_end text from after k e g =
    let s = front_text text from after k e in
    let w = greater_text s.word k s.valued g in
    let here : from ≡ 62 ∷ (w.0 ++ after) = s.here ∙ s.whole ∙ ap (λ w. w ++ after) w.1 in
    let rest : drop 1 from ≡ w.0 ++ after = ap (drop 1) here in
    cut_from text from (drop 1 from) (plain TemplateArgsEnd) (62 ∷ []) (sym s.here)
    (here ∙ ap (λ xs. 62 ∷ xs) (sym rest)) (is_end (drop 1 from))

-- ---- where no token is left

spelled_some : (text cs : List ℕ) (o : Option (List ℕ)) → spelled text cs o ≡ none_left → ⊥
spelled_some text cs None e = absurd (cc)
spelled_some text cs (Some rest) e = valued_some (kind_of_spelling (front text rest)) e
  where
    valued_some : (o : Option Kind) → valued text rest o ≡ none_left → ⊥
    valued_some None e = absurd (cc)
    valued_some (Some k) e = absurd (cc)

at_none : (text : List ℕ) → raw_at text ≡ none_left → text ≡ []
at_none [] e = refl
at_none (c ∷ cs) e = absurd (spelled_some (c ∷ cs) cs (after_spelling spelling (c ∷ cs)) e)

pub none_after : (text : List ℕ) → raw text ≡ none_left → after_trivia outside text ≡ []
none_after text e = at_none (after_trivia outside text) e
