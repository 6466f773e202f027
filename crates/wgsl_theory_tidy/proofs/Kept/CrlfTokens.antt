-- A text with CR LF in place of each LF: its tokens are the same.
use Rattle.std.proofs.Common.{◌≡◌, ℕ, ◌≤◌, ◌==◌, Bool, true, false, not, refl, sym, ap, subst, ◌∙◌, List, [], ◌∷◌, ◌++◌, drop, length, lit<, Option, Some, None, arith}
use Rattle.std.proofs.lemmas.Bool.{eqb-true, false_from_ne_true, true≢false, not-true}
use Rattle.wgsl_model.proofs.Tokens.Fronts.{front-append, after_longest_is}
use Rattle.unicode_ident.proofs.IdentLemmas.{is_xid_start-ascii, is_xid_continue-ascii}
use Rattle.wgsl_model.specs.Tokens.Characters.{is_blank}
use Rattle.wgsl_model.specs.Tokens.Kind.{Kind}
use Rattle.wgsl_model.specs.Tokens.Pattern.{spells, after_spelling, after_longest, IsLongest, FollowsLongest}
use Rattle.wgsl_model.specs.Tokens.Raw.{Raw.none_left, Raw.token, front, kind_of_spelling, spelled, raw_at, raw}
use Rattle.wgsl_model.specs.Tokens.Spelling.{spelling}
use Rattle.wgsl_model.specs.Tokens.Trivia.{outside, after_trivia}
use Rattle.wgsl_theory_grammar.proofs.Tokens.Bare.{IsBare, bare_after_trivia}
use Rattle.wgsl_theory_printed.proofs.Spelling.Cut.{longest_spelling, found}
use Rattle.wgsl_theory_printed.proofs.Spelling.Fronts.{stands_alone}
use Rattle.wgsl_theory_printed.proofs.Spelling.Split.{Each, differs}
use Rattle.wgsl_theory_reread.proofs.Names.TextWords.{valued_kind}
use Rattle.wgsl_model_tidy.specs.Formatted.{with_crlf}
use Rattle.wgsl_theory_tidy.proofs.Kept.Alone.{IsAlone, line_end_alone}
use Rattle.wgsl_theory_templates.proofs.Reaching.Reach.{Role, Role.template_start, Role.template_end, role}
use Rattle.wgsl_theory_templates.proofs.Lexed.LexedAlong.{along_role, Along}
use Rattle.wgsl_theory_tidy.proofs.Kept.TokenTexts.{bare_solid, valued_from, none_after}
use Rattle.wgsl_theory_tidy.proofs.Kept.CrlfTrivia.{crlf_append, crlf_other, over_crlf}

-- ---- characters of a spelling

pub return_alone : IsAlone 13
return_alone = rw (is_xid_start-ascii 13 (lit< tt), is_xid_continue-ascii 13 (lit< tt)) refl

-- a spelling that begins with another character has no such one
pub none_alone : (c x : ℕ) (xs : List ℕ) → IsAlone c → (x == c) ≡ false
    → spells spelling (x ∷ xs) ≡ true → Each (differs c) (x ∷ xs)
none_alone c x [] a n s = (ap not n, tt)
none_alone c x (y ∷ ys) a n s = stands_alone c spelling a x y ys s

pub no_return : (x : ℕ) → is_blank x ≡ false → (x == 13) ≡ false
no_return x b = false_from_ne_true (x == 13) (λ e. true≢false (sym (ap is_blank (eqb-true x 13 e)) ∙ b))

pub no_lf : (x : ℕ) → is_blank x ≡ false → (x == 10) ≡ false
no_lf x b = false_from_ne_true (x == 10) (λ e. true≢false (sym (ap is_blank (eqb-true x 10 e)) ∙ b))

-- a text without LF stays as it is
pub no_lf_same : (xs : List ℕ) → Each (differs 10) xs → with_crlf xs ≡ xs
no_lf_same [] h = refl
no_lf_same (x ∷ xs) h = crlf_other x xs (not-true (x == 10) h.0) ∙ ap (λ ys. x ∷ ys) (no_lf_same xs h.1)

-- a front without CR is a front of the text before
record FrontOf (v u text : List ℕ) : Type 0 where
  rest : List ℕ
  whole : text ≡ v ++ rest

front_before : (v u text : List ℕ) → with_crlf text ≡ v ++ u → Each (differs 13) v → FrontOf v u text
front_before [] u text e h = record { rest = text; whole = refl }
front_before (c ∷ v) u [] e h = absurd cc
front_before (c ∷ v) u (d ∷ text) e h = go (d == 10) refl (λ more. front_before v u text more h.1)
  where
    go : (b : Bool) → (d == 10) ≡ b → (with_crlf text ≡ v ++ u → FrontOf v u text) → FrontOf (c ∷ v) u (d ∷ text)
    go true t more =
        let first : 13 ∷ (10 ∷ with_crlf text) ≡ c ∷ (v ++ u) =
        subst (λ x. with_crlf (x ∷ text) ≡ c ∷ (v ++ u)) (eqb-true d 10 t) e in
        let same : c ≡ 13 = cc in
        absurd (true≢false (sym h.0 ∙ ap (λ x. differs 13 x) same))
    go false t more =
        let first : d ∷ with_crlf text ≡ c ∷ (v ++ u) = sym (crlf_other d text t) ∙ e in
        let same : d ≡ c = cc in
        let later : with_crlf text ≡ v ++ u = cc in
        let f = more later in
        record { rest = f.rest; whole = ap (λ x. x ∷ text) same ∙ ap (λ xs. c ∷ xs) f.whole }

-- ---- the longest spelling

-- what follows fronts of one length is the same
same_rest : (w v rest u : List ℕ) → w ++ rest ≡ v ++ u → length v ≡ length w → rest ≡ u
same_rest [] [] rest u e l = e
same_rest [] (y ∷ v) rest u e l = absurd (omega (arith, l))
same_rest (x ∷ w) [] rest u e l = absurd (omega (arith, l))
same_rest (x ∷ w) (y ∷ v) rest u e l =
    let tail : w ++ rest ≡ v ++ u = cc in same_rest w v rest u tail (omega (arith, l))

-- the same word is the longest spelling at the front
longest_crlf : (x : ℕ) (xs rest : List ℕ) → is_blank x ≡ false
    → with_crlf ((x ∷ xs) ++ rest) ≡ (x ∷ xs) ++ with_crlf rest
    → IsLongest (spells spelling) ((x ∷ xs) ++ rest) (x ∷ xs) rest
    → after_spelling spelling ((x ∷ xs) ++ with_crlf rest) ≡ Some (with_crlf rest)
unfolding after_spelling
longest_crlf x xs rest b whole i = go (after_longest (spells spelling) ((x ∷ xs) ++ with_crlf rest))
    (after_longest_is (spells spelling) ((x ∷ xs) ++ with_crlf rest))
  where
    -- a front that is longer would be one of the text before
    same_length : (v u : List ℕ) → IsLongest (spells spelling) ((x ∷ xs) ++ with_crlf rest) v u
        → length v ≤ length (x ∷ xs)
    same_length [] u j = omega arith
    same_length (y ∷ ys) u j =
        let head : x ≡ y = cc in
        let each = none_alone 13 y ys return_alone (subst (λ c. (c == 13) ≡ false) head (no_return x b)) j.passes in
        let f = front_before (y ∷ ys) u ((x ∷ xs) ++ rest) (whole ∙ j.whole) each in
        i.longest (y ∷ ys) f.rest f.whole j.passes

    go : (o : Option (List ℕ)) → FollowsLongest (spells spelling) ((x ∷ xs) ++ with_crlf rest) o
        → o ≡ Some (with_crlf rest)
    go None f = absurd (f (x ∷ xs) (with_crlf rest) refl i.passes)
    go (Some u) (v, j) =
        let least = j.longest (x ∷ xs) (with_crlf rest) refl i.passes in
        let most = same_length v u j in
        ap Some (sym (same_rest (x ∷ xs) v (with_crlf rest) u j.whole (omega (arith, least, most))))

-- ---- the token at the front

-- a token and what it is cut from, after the change
record SameToken (text from after : List ℕ) (k : Kind) : Type 0 where
  is_token : raw_at (with_crlf text) ≡ token k (with_crlf text) (with_crlf after)
  here : from ≡ text
  first : drop 1 (with_crlf text) ≡ with_crlf (drop 1 text)

spelled_same : (c : ℕ) (cs from after : List ℕ) (k : Kind) → is_blank c ≡ false
    → after_spelling spelling (c ∷ cs) ≡ Some after → kind_of_spelling (front (c ∷ cs) after) ≡ Some k
    → from ≡ c ∷ cs → SameToken (c ∷ cs) from after k
spelled_same c cs from after k b e v h =
    let l = longest_spelling spelling (c ∷ cs) after e in
    go l.0 l.1 (ap (λ text. front text after) l.1.whole ∙ front-append l.0 after)
  where
    go : (w : List ℕ) → IsLongest (spells spelling) (c ∷ cs) w after → front (c ∷ cs) after ≡ w
        → SameToken (c ∷ cs) from after k
    go [] i f = let none : None ≡ Some k = ap kind_of_spelling (sym f) ∙ v in absurd cc
    go (x ∷ xs) i f =
        let head : x ≡ c = cc in
        let blank : is_blank x ≡ false = ap is_blank head ∙ b in
        let word = no_lf_same (x ∷ xs) (none_alone 10 x xs line_end_alone (no_lf x blank) i.passes) in
        let whole : with_crlf ((x ∷ xs) ++ after) ≡ (x ∷ xs) ++ with_crlf after =
        crlf_append (x ∷ xs) after ∙ ap (λ ys. ys ++ with_crlf after) word in
        let text : with_crlf (c ∷ cs) ≡ (x ∷ xs) ++ with_crlf after = ap with_crlf i.whole ∙ whole in
        let longest = longest_crlf x xs after blank whole
        (subst (λ (text : List ℕ). IsLongest (spells spelling) text (x ∷ xs) after) i.whole i) in
        record {
          is_token = subst (λ (text : List ℕ). raw_at text ≡ token k text (with_crlf after))
              (sym text) (found x xs (with_crlf after) k longest (ap kind_of_spelling (sym f) ∙ v));
          here = h;
          first = ap (drop 1) (crlf_other c cs (no_lf c b));
        }

spelled_so : (o : Option (List ℕ)) (c : ℕ) (cs from after : List ℕ) (k : Kind) → is_blank c ≡ false
    → after_spelling spelling (c ∷ cs) ≡ o → spelled (c ∷ cs) cs o ≡ token k from after
    → SameToken (c ∷ cs) from after k
spelled_so None c cs from after k b e h = absurd cc
spelled_so (Some rest) c cs from after k b e h =
    let at = valued_from (kind_of_spelling (front (c ∷ cs) rest)) (c ∷ cs) rest from after k h in
    let v = valued_kind (kind_of_spelling (front (c ∷ cs) rest)) (c ∷ cs) rest from after k h in
    spelled_same c cs from after k b (e ∙ ap Some at.1)
    (ap (λ xs. kind_of_spelling (front (c ∷ cs) xs)) (sym at.1) ∙ v) at.0

same_at : (text from after : List ℕ) (k : Kind) → IsBare text → raw_at text ≡ token k from after
    → SameToken text from after k
same_at [] from after k b h = absurd cc
same_at (c ∷ cs) from after k b h = spelled_so (after_spelling spelling (c ∷ cs)) c cs from after k
    (bare_solid c cs b) refl h

-- the token, and what comes after its first character
pub record CrlfToken (text from after : List ℕ) (k : Kind) : Type 0 where
  pub is_token : raw (with_crlf text) ≡ token k (with_crlf from) (with_crlf after)
  pub first : drop 1 (with_crlf from) ≡ with_crlf (drop 1 from)

pub raw_crlf : (text from after : List ℕ) (k : Kind) → raw text ≡ token k from after → CrlfToken text from after k
raw_crlf text from after k e =
    let s = same_at (after_trivia outside text) from after k (bare_after_trivia outside text) e in
    record {
      is_token = ap raw_at (over_crlf outside text tt)
          ∙ subst (λ xs. raw_at (with_crlf (after_trivia outside text))
          ≡ token k (with_crlf xs) (with_crlf after)) (sym s.here) s.is_token;
      first = subst (λ xs. drop 1 (with_crlf xs) ≡ with_crlf (drop 1 xs)) (sym s.here) s.first;
    }

pub none_crlf : (text : List ℕ) → raw text ≡ none_left → raw (with_crlf text) ≡ none_left
none_crlf text e = ap raw_at (over_crlf outside text tt ∙ ap with_crlf (none_after text e))

-- ---- all tokens

pub along_crlf : (ks : List Kind) (text : List ℕ) → Along ks text → Along ks (with_crlf text)
along_crlf [] text a = none_crlf text a
along_crlf (k ∷ ks) text a = go (role k.class) a (λ rest b. along_crlf ks rest b)
  where
    on : List ℕ → Type 0
    on rest = Along ks rest

    go : (r : Role) → along_role r k on text → ((rest : List ℕ) → on rest → on (with_crlf rest))
        → along_role r k on (with_crlf text)
    go template_start b more =
        (b.0, with_crlf b.1, with_crlf b.2, (raw_crlf text b.1 b.2 b.0 b.3).is_token, b.4, (b.5.0, more b.2 b.5.1))
    go template_end b more =
        let t = raw_crlf text b.1 b.2 b.0 b.3 in
        (b.0, with_crlf b.1, with_crlf b.2, t.is_token, b.4, (b.5.0, subst on (sym t.first) (more (drop 1 b.1) b.5.1)))
    go r b more = (with_crlf b.0, with_crlf b.1, (raw_crlf text b.0 b.1 k b.2).is_token, more b.1 b.3)
