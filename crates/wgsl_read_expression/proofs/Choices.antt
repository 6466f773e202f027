-- A choice between two parts that begin with different tokens, tested in the other order.
use Rattle.std.proofs.Common.{◌≡◌, ℕ, Bool, true, false, cond, eqb, List, [], ◌∷◌, refl, sym, ap, ◌∙◌}
use Rattle.std.proofs.lemmas.Bool.{eqb-true}
use Rattle.grammar.specs.Tokens.{Token}
use Rattle.grammar.specs.Grammar.{is_among}
use Rattle.grammar.specs.Tables.{disjoint, subset}
use Rattle.grammar.specs.States.{State, Read, ◌>>=◌, refused_at, refused, is_first, is_at, is_any, take}
use Rattle.grammar.proofs.Reading.Beginnings.{cond_no}
use Rattle.wgsl_lex_token.specs.declared.kind_table.TokenKind.{TokenKind}
use Rattle.wgsl_lex_token.specs.View.{class_of_kind}
use Rattle.grammar.proofs.Reading.Sets.{apart', not_subset}

-- the class of the first token is one of a list
abbrev begins_with : List ℕ → List Token → Bool
begins_with cs [] = false
begins_with cs (t ∷ ts) = is_among t.class cs

cond_self : (b : Bool) → b ≡ cond b true false
cond_self true = refl
cond_self false = refl

any_is : (cs : List ℕ) (end : ℕ) (ts : List Token) → is_any cs (record { end = end; rest = ts }) ≡ begins_with cs ts
unfolding is_at
any_is [] end [] = refl
any_is [] end (t ∷ ts) = refl
any_is (c ∷ []) end [] = refl
any_is (c ∷ []) end (t ∷ ts) = cond_self (eqb t.class c)
any_is (c ∷ (d ∷ cs)) end [] = any_is (d ∷ cs) end []
any_is (c ∷ (d ∷ cs)) end (t ∷ ts) = ap (λ (b : Bool). cond (eqb t.class c) true b) (any_is (d ∷ cs) end (t ∷ ts))

-- the next token is of one of some classes, by its kind
pub any_of_kind : (cs : List ℕ) (s : State) (kind : TokenKind) (b : Bool)
    → is_at (class_of_kind kind) s ≡ true → b ≡ is_among (class_of_kind kind) cs → b ≡ is_any cs s
unfolding is_at
any_of_kind cs s kind b h e = e ∙ of_list s.rest h ∙ sym (any_is cs s.end s.rest)
  where
    of_list : (ts : List Token) → is_first (class_of_kind kind) ts ≡ true
        → is_among (class_of_kind kind) cs ≡ begins_with cs ts
    of_list [] h = absurd cc
    of_list (t ∷ ts) h = ap (λ (c : ℕ). is_among c cs) (sym (eqb-true t.class (class_of_kind kind) h))

pub any_of_none : (cs : List ℕ) (s : State) → s.rest ≡ [] → false ≡ is_any cs s
any_of_none cs s h = sym (any_is cs s.end s.rest ∙ ap (begins_with cs) h)

-- what begins with one class of a list begins with none of a list apart from it
pub apart_at : (cs ds : List ℕ) → disjoint cs ds ≡ true → (s : State) → is_any ds s ≡ true → is_any cs s ≡ false
apart_at cs ds h s e = any_is cs s.end s.rest ∙ of_list s.rest (sym (any_is ds s.end s.rest) ∙ e)
  where
    of_list : (ts : List Token) → begins_with ds ts ≡ true → begins_with cs ts ≡ false
    of_list [] e = refl
    of_list (t ∷ ts) e = apart' t.class cs ds h e

-- what begins with no class of a list begins with none of a part of it
pub none_at : (cs ds : List ℕ) → subset cs ds ≡ true → (s : State) → is_any ds s ≡ false → is_any cs s ≡ false
none_at cs ds h s e = any_is cs s.end s.rest ∙ of_list s.rest (sym (any_is ds s.end s.rest) ∙ e)
  where
    of_list : (ts : List Token) → begins_with ds ts ≡ false → begins_with cs ts ≡ false
    of_list [] e = refl
    of_list (t ∷ ts) e = not_subset t.class cs ds h e

other_first : {A : Type 0} (a b : Bool) (x y : A) → (b ≡ true → a ≡ false)
    → (a ≡ false → b ≡ false → x ≡ y) → cond a x y ≡ cond b y x
other_first true true x y h k = let clash = h refl in absurd cc
other_first true false x y h k = refl
other_first false true x y h k = refl
other_first false false x y h k = sym (k refl refl)

-- the second part is tested first; what begins neither is refused by both
pub tested_first : {A : Type 0} (cs ds : List ℕ) → disjoint cs ds ≡ true → (s : State) (x y : Read A)
    → (is_any cs s ≡ false → is_any ds s ≡ false → x ≡ y) → cond (is_any cs s) x y ≡ cond (is_any ds s) y x
tested_first cs ds h s x y k = other_first (is_any cs s) (is_any ds s) x y (apart_at cs ds h s) k

-- what is refused gives nothing to go on with
refused_goes_on : {A B : Type 0} (end : ℕ) (ts : List Token) (f : A → State → Read B)
    → (refused_at end ts >>= f) ≡ refused_at end ts
refused_goes_on end [] f = refl
refused_goes_on end (t ∷ ts) f = refl

pub refuses : {A B : Type 0} (s : State) (m : Read A) (f : A → State → Read B) → m ≡ refused s → (m >>= f) ≡ refused s
refuses s m f e = ap (λ m. m >>= f) e ∙ refused_goes_on s.end s.rest f

-- a token that is not there is refused
pub not_taken : (c : ℕ) (s : State) → is_at c s ≡ false → take c s ≡ refused s
unfolding take
not_taken c s e = cond_no (is_at c s) _ _ e
