-- The tokens of a text one by one, those of template lists too, each with its characters.
use Rattle.std.proofs.Common.{◌≡◌, ℕ, zero, suc, List, [], ◌∷◌, ◌++◌, drop, length, sym, subst, append_assoc}
use Rattle.grammar.specs.Tokens.{Token}
use Rattle.grammar.specs.Endings.{Ending, Ending.finished}
use Rattle.wgsl_model.specs.Tokens.ClassTable.{TemplateArgsStart, TemplateArgsEnd}
use Rattle.wgsl_model.specs.Tokens.Kind.{Kind, plain, placed}
use Rattle.wgsl_model.specs.Tokens.Raw.{Raw.token, raw}
use Rattle.wgsl_model.specs.Tokens.Templates.{TemplateRelation, Inside, at_greater, at_opening, at_closing, at_template, at_other, enclosed, TemplateUpTo}
use Rattle.wgsl_model.specs.Tokens.TokenList.{TokensOf, at_end, at_fault, before_template, before_more, place}
use Rattle.wgsl_model.specs.Tokens.Trivia.{outside, after_trivia}
use Rattle.wgsl_theory_tidy.proofs.Kept.TokenTexts.{TokenCut, cut_token, cut_start, cut_end, none_after}

-- a text that ends a source of a number of bytes has these tokens one after another
pub data Walk (total : ℕ) : List ℕ → List Token → Type 0 where
  walk_end : (text : List ℕ) → after_trivia outside text ≡ [] → Walk total text []
  walk_token : (text from rest : List ℕ) (k : Kind) (ts : List Token) → TokenCut text k from rest
      → Walk total rest ts → Walk total text (placed k (place total from) (place total rest) ∷ ts)

-- a token as it is
one_more : (total : ℕ) (text from after : List ℕ) (k : Kind) (ts : List Token)
    → raw text ≡ token k from after → Walk total after ts
    → Walk total text (placed k (place total from) (place total after) ∷ ts)
one_more total text from after k ts r h = walk_token text from after k ts (cut_token text from after k r) h

-- template lists, with the tokens after them
abbrev Walks : ℕ → TemplateRelation → Type 0
Walks total R = (text : List ℕ) (us : List Token) (rest : List ℕ) (ts : List Token) → R text us rest
    → Walk total rest ts → Walk total text (us ++ ts)

-- the `>` of a list
abbrev list_end : ℕ → List ℕ → Token
list_end total end = placed (plain TemplateArgsEnd) (place total end) (place total (drop 1 end))

-- what is inside a list, its `>` and the tokens after it
inside_walked : (total : ℕ) (R : TemplateRelation) → Walks total R
    → (depth : ℕ) (text : List ℕ) (us : List Token) (end : List ℕ) (ts : List Token)
    → Inside total R depth text us end → Walk total (drop 1 end) ts
    → Walk total text (us ++ (list_end total end ∷ ts))
inside_walked total R s depth text us end ts (at_greater t e after k r g) w = walk_token text end
    (drop 1 end) (plain TemplateArgsEnd) ts (cut_end text end after k r g) w
inside_walked total R s depth text us end ts (at_opening d t from after e k vs r g h) w =
    one_more total text from after k _ r (inside_walked total R s (suc depth) after vs end ts h w)
inside_walked total R s depth text us end ts (at_closing d t from after e k vs r g h) w =
    one_more total text from after k _ r (inside_walked total R s d after vs end ts h w)
inside_walked total R s depth text us end ts (at_template d t from after rest e k vs xs r g q h) w =
    one_more total text from after k _ r
    (subst (λ (l : List Token). Walk total after l) (sym (append_assoc vs xs (list_end total end ∷ ts)))
    (s after vs rest (xs ++ (list_end total end ∷ ts)) q (inside_walked total R s depth rest xs end ts h w)))
inside_walked total R s depth text us end ts (at_other d t from after e k vs r g n h) w =
    one_more total text from after k _ r (inside_walked total R s depth after vs end ts h w)

template_walked : (bound total : ℕ) → Walks total (TemplateUpTo bound total)
template_walked zero total text us rest ts h w = absurd h
template_walked (suc bound) total text us rest ts (enclosed t from after end k vs v r c h d) w =
    walk_token text from after (plain TemplateArgsStart) _ (cut_start text from after k r c)
    (subst (λ (l : List Token). Walk total after l) (sym (append_assoc vs (list_end total end ∷ []) ts))
    (inside_walked total (TemplateUpTo bound total) (template_walked bound total) 0 after vs end ts h w))

-- the tokens of a text that has no fault
pub walked : (total : ℕ) (text : List ℕ) (ts : List Token) (e : Ending) → e ≡ finished
    → TokensOf total text ts e → Walk total text ts
walked total text ts e f (at_end t r) = walk_end text (none_after text r)
walked total text ts e f (at_fault t from after r) = absurd (cc)
walked total text ts e f (before_template t from after rest k us vs g r c q h) =
    one_more total text from after k _ r
    (template_walked (length after) total after us rest vs q (walked total rest vs e f h))
walked total text ts e f (before_more t from after k us g r n h) =
    one_more total text from after k _ r (walked total after us e f h)
