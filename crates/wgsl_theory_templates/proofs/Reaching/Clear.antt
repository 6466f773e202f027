-- Tokens in which after each `<` of a comparison and each `<<` no token that begins with `>` is
-- reached, and how what a right side derives has only such tokens, by the ways to write it.
use Rattle.std.proofs.Common.{◌≡◌, ℕ, Bool, true, false, List, [], ◌∷◌, ◌++◌, sym, subst, ◌∙◌, append_assoc}
use Rattle.grammar.specs.Tokens.{Token}
use Rattle.grammar.specs.Grammar.{Mode.checking, Means, Derives, is_among}
use Rattle.grammar.specs.Tables.{disjoint}
use Rattle.grammar.proofs.Reading.Sets.{clash, not_left, not_right, apart}
use Rattle.grammar.proofs.Reading.Exact.{same_front}
use Rattle.grammar.proofs.Reading.Depth.{same_mode, means_mono}
use Rattle.grammar.proofs.Reading.Frame.{joined, framed, framed_part}
use Rattle.wgsl_model.specs.Tokens.ClassTable.{TemplateArgsStart, TemplateArgsEnd}
use Rattle.wgsl_model.specs.Trees.Expressions.{ExpressionNode}
use Rattle.wgsl_model.specs.Grammar.Symbols.{Symbol, expressions, shift_expression, relational_expression, expression, return_statement, var_statement, value_statement, assignment, phony_assignment, const_assert, case_selector, for_init, for_update, Value, Rule}
use Rattle.wgsl_model.specs.Grammar.Written.{written}
use Rattle.wgsl_theory_reread.proofs.Again.{D}
use Rattle.wgsl_theory_templates.proofs.Reaching.Reach.{Place, inside, reach}
use Rattle.wgsl_theory_templates.proofs.Reaching.Moves.{kinds, stretch}
use Rattle.wgsl_theory_templates.proofs.Reaching.Closes.{GoesOn, ended}
use Rattle.wgsl_theory_templates.proofs.Reaching.After.{NoListAt, ShiftCloses, shift_closes}
use Rattle.wgsl_theory_templates.specs.Attempts.{less_signs}

-- the classes of the ends of a template list
abbrev pub template_ends : List ℕ
template_ends = TemplateArgsStart ∷ TemplateArgsEnd ∷ []

-- The tokens from a list to another after it: after each `<` and each `<<` no token that begins
-- with `>` is reached, if no list of expressions is before that token. A template list is
-- passed over whole, and inside it the same holds of its tokens alone.
pub data AllClear : Place → List Token → List Token → Type 0 where
  done : (p : Place) (ys : List Token) → AllClear p ys ys
  other_token : (p : Place) (t : Token) (rest ys : List Token) → is_among t.class template_ends ≡ false
      → (is_among t.class less_signs ≡ true → NoListAt p rest → reach p 0 0 (kinds rest) ≡ false)
      → AllClear p rest ys → AllClear p (t ∷ rest) ys
  template : (p : Place) (start end : Token) (mid rest ys : List Token) (v : List ExpressionNode)
      → is_among start.class (TemplateArgsStart ∷ []) ≡ true
      → is_among end.class (TemplateArgsEnd ∷ []) ≡ true
      → Derives checking written expressions v mid → AllClear inside mid [] → AllClear p rest ys
      → AllClear p (start ∷ (mid ++ (end ∷ rest))) ys

both_clear : {p : Place} {xs ys zs : List Token} → AllClear p xs ys → AllClear p ys zs → AllClear p xs zs
both_clear (done p ys) b = b
both_clear {zs = zs} (other_token p t rest ys none less a) b = other_token p t rest zs none less (both_clear a b)
both_clear {zs = zs} (template p start end mid rest ys v h i d c a) b =
    template p start end mid rest zs v h i d c (both_clear a b)

-- ---- what has to be after what a symbol derives
-- any tokens, what goes on with a list of expressions after a shift or after an expression, or what
-- ends one
pub data Need : Type 0 where
  any_tokens rest_of_shift rest_of_list end_of_list : Need

abbrev pub Meets : Need → Place → List Token → Type 0
Meets any_tokens p ys = Unit {0}
Meets rest_of_shift p ys = ShiftCloses p ys
Meets rest_of_list p ys = GoesOn p ys
Meets end_of_list p ys = stretch 0 0 ys ≡ []

abbrev pub need : Symbol → Need
need expressions = end_of_list
need shift_expression = rest_of_shift
need relational_expression = rest_of_list
need expression = rest_of_list
need return_statement = rest_of_list
need var_statement = rest_of_list
need value_statement = rest_of_list
need assignment = rest_of_list
need phony_assignment = rest_of_list
need const_assert = rest_of_list
need case_selector = rest_of_list
need for_init = rest_of_list
need for_update = rest_of_list
need n = any_tokens

-- what meets one need meets another
abbrev pub is_enough : Need → Need → Bool
is_enough m any_tokens = true
is_enough end_of_list n = true
is_enough rest_of_list rest_of_list = true
is_enough rest_of_list rest_of_shift = true
is_enough rest_of_shift rest_of_shift = true
is_enough m n = false

pub enough : (m n : Need) → is_enough m n ≡ true → (p : Place) (ys : List Token) → Meets m p ys → Meets n p ys
enough m any_tokens e p ys h = tt
enough end_of_list end_of_list e p ys h = h
enough end_of_list rest_of_list e p ys h = λ r. ended h
enough end_of_list rest_of_shift e p ys h = shift_closes p ys (λ r. ended h)
enough rest_of_list rest_of_list e p ys h = h
enough rest_of_list rest_of_shift e p ys h = shift_closes p ys h
enough rest_of_shift rest_of_shift e p ys h = h
enough m n e p ys h = absurd cc

-- ---- the tokens that are between two lists
-- they are clear before every list that meets a need
pub record Cut (n : Need) (xs ys : List Token) : Type 0 where
  pub tokens : List Token
  pub whole : xs ≡ tokens ++ ys
  pub clear : (p : Place) (zs : List Token) → Meets n p zs → AllClear p (tokens ++ zs) zs

pub wider_cut : {m n : Need} {xs ys : List Token} → is_enough m n ≡ true → Cut n xs ys → Cut m xs ys
wider_cut {m} {n} e a =
    record { tokens = a.tokens; whole = a.whole; clear = λ p zs h. a.clear p zs (enough m n e p zs h) }

pub none_cut : {n : Need} {xs ys : List Token} → xs ≡ ys → Cut n xs ys
none_cut w = record { tokens = []; whole = w; clear = λ p zs h. done p zs }

pub both_cut : {m n : Need} {xs ms ys : List Token} → Cut m xs ms → (b : Cut n ms ys)
    → ((p : Place) (zs : List Token) → Meets n p zs → Meets m p (b.tokens ++ zs)) → Cut n xs ys
both_cut {xs = xs} {ms = ms} {ys = ys} a b f = record {
  tokens = a.tokens ++ b.tokens;
  whole = joined a.tokens b.tokens xs ms ys a.whole b.whole;
  clear = λ p zs h. subst (λ (z : List Token). AllClear p z zs) (sym (append_assoc a.tokens b.tokens zs))
      (both_clear (a.clear p (b.tokens ++ zs) (f p zs h)) (b.clear p zs h));
}

-- a token that is no `<`, no `<<` and no end of a template list
abbrev pub is_plain : List ℕ → Bool
is_plain s = disjoint s (template_ends ++ less_signs)

pub token_cut : {n : Need} {t : Token} {xs ys : List Token} (s : List ℕ) → is_plain s ≡ true
    → is_among t.class s ≡ true → xs ≡ t ∷ ys → Cut n xs ys
token_cut {t = t} s e known w =
    let none = apart t.class s (template_ends ++ less_signs) e known in record {
      tokens = t ∷ [];
      whole = w;
      clear = λ p zs h.
          other_token p t zs zs (not_left t.class template_ends less_signs none) (λ less no. clash
          (is_among t.class less_signs) less (not_right t.class template_ends less_signs none)) (done p zs);
    }

-- ---- what a symbol derives
-- what a symbol derives is clear before all that meets its need
abbrev pub Cleared : (n : Symbol) → Value n → List Token → List Token → Type 0
Cleared n v xs ys = D n v xs ys × Cut (need n) xs ys

pub derived : {A : Type 0} (g : Rule A) (v : A) (xs ys : List Token)
    → Means checking Cleared g v xs ys → Means checking D g v xs ys
derived g v xs ys d = means_mono checking checking (same_mode checking) Cleared D (λ m w us vs h. h.0) g v xs ys d

-- what is derived from some tokens is derived from them before every list
pub moved : {A : Type 0} (g : Rule A) (v : A) (xs ys ts : List Token) → xs ≡ ts ++ ys
    → Means checking D g v xs ys → (zs : List Token) → Means checking D g v (ts ++ zs) zs
moved g v xs ys ts e d zs =
    let w = framed checking D (framed_part checking written) g v xs ys d in
    let same : w.0 ≡ ts = same_front w.0 ts ys (sym w.1 ∙ e) in
    subst (λ (z : List Token). Means checking D g v (z ++ zs) zs) same (w.2 zs)
