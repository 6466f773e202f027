-- How the kinds that are written from a tree differ from the kinds of the tokens that were read,
-- and that `reach` is the same for both.
use Rattle.std.proofs.Common.{◌≡◌, ℕ, zero, suc, Bool, true, false, cond, eqb, List, [], ◌∷◌, refl, sym, ap, subst, ◌∙◌, inl, inr, eqb-true}
use Rattle.grammar.specs.Grammar.{is_among}
use Rattle.grammar.proofs.Reading.Sets.{clash, cond_either, cond_false}
use Rattle.wgsl_model.specs.Tokens.ClassTable.{SymAttr, SymBraceLeft, SymBraceRight, SymColon, SymComma, SymLessThan, SymMinus, SymMinusMinus, SymParenRight, SymSemicolon, KwCase, KwDefault, TemplateArgsEnd}
use Rattle.wgsl_model.specs.Tokens.Kind.{Kind, plain}
use Rattle.wgsl_theory_templates.proofs.Reaching.Reach.{Role, name, keyword, greater, greater_stop, opening, closing, short_circuit, stop, other, template_start, template_end, role, Place, reach_role, reach}
use Rattle.wgsl_theory_templates.proofs.Lexed.Shapes.{NeverReached}
use Rattle.wgsl_theory_templates.proofs.Reaching.Moves.{all_roles, role_of}

-- ---- what is written in place of what was read
-- a token that no expression has and that is no keyword
abbrev pub is_stop_role : Role → Bool
is_stop_role stop = true
is_stop_role r = false

abbrev pub is_stop : ℕ → Bool
is_stop c = is_stop_role (role c)

-- the first of some kinds has one of these classes
abbrev pub first_among : List ℕ → List Kind → Bool
first_among s [] = false
first_among s (k ∷ ks) = is_among k.class s

-- what is after a list with commas, or nothing, and what begins a block
abbrev pub list_ends : List ℕ
list_ends = SymParenRight ∷ SymBraceRight ∷ SymBraceLeft ∷ SymAttr ∷ SymSemicolon ∷ TemplateArgsEnd ∷ []

abbrev pub ends_list : List Kind → Bool
ends_list [] = true
ends_list (k ∷ ks) = is_among k.class list_ends

abbrev pub block_begins : List ℕ
block_begins = SymBraceLeft ∷ SymAttr ∷ []

-- kinds that were read and kinds that are written: classes are kept, but a last comma, a colon
-- before a block and the `;` of an empty item are left out, `--` becomes `-` `-`, and `case` is
-- before `default`; the truth value says that the token before is a stop or that nothing is
-- before
pub data Edits : Bool → List Kind → List Kind → Type 0 where
  at_the_end : (b : Bool) → Edits b [] []
  kept : (b : Bool) (k j : Kind) (s c : List Kind) → k.class ≡ j.class → Edits (is_stop k.class) s c
      → Edits b (k ∷ s) (j ∷ c)
  no_comma : (b : Bool) (k : Kind) (s c : List Kind) → k.class ≡ SymComma → ends_list c ≡ true
      → Edits false s c → Edits b (k ∷ s) c
  no_colon : (b : Bool) (k : Kind) (s c : List Kind) → k.class ≡ SymColon
      → first_among block_begins c ≡ true → Edits false s c → Edits b (k ∷ s) c
  no_semicolon : (k : Kind) (s c : List Kind) → k.class ≡ SymSemicolon → Edits true s c → Edits true (k ∷ s) c
  two_minuses : (b : Bool) (k : Kind) (s c : List Kind) → k.class ≡ SymMinusMinus → Edits false s c
      → Edits b (k ∷ s) (plain SymMinus ∷ (plain SymMinus ∷ c))
  with_case : (b : Bool) (k : Kind) (s c : List Kind) → k.class ≡ KwDefault → Edits false s c
      → Edits b (k ∷ s) (plain KwCase ∷ (plain KwDefault ∷ c))

-- ---- what may be before
-- what holds with the one before holds with the other
abbrev pub Widens : Bool → Bool → Type 0
Widens false b = Unit {0}
Widens true true = Unit {0}
Widens true false = ⊥

unstopped : (b e : Bool) (s c : List Kind) → e ≡ false → Edits e s c → Edits b s c
unstopped b _ _ _ q (at_the_end e) = at_the_end b
unstopped b _ _ _ q (kept e k j s c h m) = kept b k j s c h m
unstopped b _ _ _ q (no_comma e k s c h f m) = no_comma b k s c h f m
unstopped b _ _ _ q (no_colon e k s c h f m) = no_colon b k s c h f m
unstopped b _ _ _ q (no_semicolon k s c h m) = absurd cc
unstopped b _ _ _ q (two_minuses e k s c h m) = two_minuses b k s c h m
unstopped b _ _ _ q (with_case e k s c h m) = with_case b k s c h m

pub widen : {e b : Bool} {s c : List Kind} → Widens e b → Edits e s c → Edits b s c
widen {e} {b} {s} {c} w m = go e b w m where
  go : (e b : Bool) → Widens e b → Edits e s c → Edits b s c
  go false b w m = unstopped b false s c refl m
  go true true w m = m
  go true false w m = absurd w

-- ---- `reach`
-- after a stop only what is within a template list counts
abbrev pub Counts : Bool → ℕ → Type 0
Counts false k = Unit {0}
Counts true zero = ⊥
Counts true (suc k) = Unit {0}

reach_alike : (r : Role) (k d : ℕ) (f g : ℕ → ℕ → Bool)
    → ((j e : ℕ) → Counts (is_stop_role r) j → f j e ≡ g j e) → reach_role r k d f ≡ reach_role r k d g
reach_alike template_start k d f g h = h (suc k) d tt
reach_alike template_end (suc k) d f g h = h k d tt
reach_alike template_end zero zero f g h = refl
reach_alike template_end zero (suc d) f g h = h zero (suc d) tt
reach_alike name (suc k) d f g h = h (suc k) d tt
reach_alike name zero d f g h = h zero d tt
reach_alike keyword (suc k) d f g h = h (suc k) d tt
reach_alike keyword zero d f g h = refl
reach_alike stop (suc k) d f g h = h (suc k) d tt
reach_alike stop zero d f g h = refl
reach_alike other (suc k) d f g h = h (suc k) d tt
reach_alike other zero d f g h = h zero d tt
reach_alike greater (suc k) d f g h = h (suc k) d tt
reach_alike greater zero zero f g h = refl
reach_alike greater zero (suc d) f g h = h zero (suc d) tt
reach_alike greater_stop (suc k) d f g h = h (suc k) d tt
reach_alike greater_stop zero zero f g h = refl
reach_alike greater_stop zero (suc d) f g h = refl
reach_alike short_circuit (suc k) d f g h = h (suc k) d tt
reach_alike short_circuit zero zero f g h = refl
reach_alike short_circuit zero (suc d) f g h = h zero (suc d) tt
reach_alike opening (suc k) d f g h = h (suc k) d tt
reach_alike opening zero d f g h = h zero (suc d) tt
reach_alike closing (suc k) d f g h = h (suc k) d tt
reach_alike closing zero zero f g h = refl
reach_alike closing zero (suc d) f g h = h zero d tt

-- a token of a plain role is passed
other_passed : (k d : ℕ) (f : ℕ → ℕ → Bool) → reach_role other k d f ≡ f k d
other_passed zero d f = refl
other_passed (suc k) d f = refl

comma_passed : (c : ℕ) → c ≡ SymComma → (k d : ℕ) (f : ℕ → ℕ → Bool) → reach_role (role c) k d f ≡ f k d
comma_passed c q k d f = ap (λ (x : ℕ). reach_role (role x) k d f) q ∙ other_passed k d f

-- a stop ends what is outside of template lists, and is passed within them
stopped : (r : Role) (d : ℕ) (f : ℕ → ℕ → Bool) → is_stop_role r ≡ true → reach_role r zero d f ≡ false
stopped stop d f h = refl
stopped r d f h = absurd cc

-- where what is written begins with a stop, nothing is reached
stop_first : (p : Place) (d : ℕ) (s : List ℕ) (c : List Kind) → all_roles is_stop_role s ≡ true
    → first_among s c ≡ true → reach p zero d c ≡ false
stop_first p d s [] t h = absurd cc
stop_first p d s (k ∷ c) t h = stopped (role k.class) d (λ j e. reach p j e c) (role_of is_stop_role k.class s t h)

stop_passed : (r : Role) (k d : ℕ) (f : ℕ → ℕ → Bool) → r ≡ stop → reach_role r (suc k) d f ≡ f (suc k) d
stop_passed r k d f q = ap (λ (x : Role). reach_role x (suc k) d f) q

edits_reach : (b : Bool) (s c : List Kind) → Edits b s c → (p : Place) (k d : ℕ) → Counts b k
    → reach p k d s ≡ reach p k d c
edits_reach _ _ _ (at_the_end b) p k d i = refl
edits_reach _ _ _ (kept b t j s c q m) p k d i =
    reach_alike (role t.class) k d (λ n e. reach p n e s) (λ n e. reach p n e c)
    (λ n e h. edits_reach (is_stop t.class) s c m p n e h)
    ∙ ap (λ (x : ℕ). reach_role (role x) k d (λ n e. reach p n e c)) q
edits_reach _ _ _ (no_comma b t s c q f m) p k d i =
    comma_passed t.class q k d (λ n e. reach p n e s) ∙ edits_reach false s c m p k d tt
edits_reach _ _ _ (no_colon b t s c q f m) p zero d i =
    ap (λ (x : ℕ). reach_role (role x) zero d (λ n e. reach p n e s)) q
    ∙ sym (stop_first p d block_begins c refl f)
edits_reach _ _ _ (no_colon b t s c q f m) p (suc k) d i =
    stop_passed (role t.class) k d (λ n e. reach p n e s) (ap role q)
    ∙ edits_reach false s c m p (suc k) d tt
edits_reach _ _ _ (no_semicolon t s c q m) p zero d i = absurd i
edits_reach _ _ _ (no_semicolon t s c q m) p (suc k) d i =
    stop_passed (role t.class) k d (λ n e. reach p n e s) (ap role q)
    ∙ edits_reach true s c m p (suc k) d tt
edits_reach _ _ _ (two_minuses b t s c q m) p k d i =
    ap (λ (x : ℕ). reach_role (role x) k d (λ n e. reach p n e s)) q
    ∙ other_passed k d (λ n e. reach p n e s) ∙ edits_reach false s c m p k d tt
    ∙ sym (other_passed k d (λ n e. reach p n e (plain SymMinus ∷ c)) ∙ other_passed k d (λ n e. reach p n e c))
edits_reach _ _ _ (with_case b t s c q m) p zero d i =
    ap (λ (x : ℕ). reach_role (role x) zero d (λ n e. reach p n e s)) q
edits_reach _ _ _ (with_case b t s c q m) p (suc k) d i =
    ap (λ (x : ℕ). reach_role (role x) (suc k) d (λ n e. reach p n e s)) q
    ∙ edits_reach false s c m p (suc k) d tt

-- ---- the `<` directly after a word
-- no class of a list is `<`
abbrev none_less : List ℕ → Bool
none_less [] = true
none_less (c ∷ s) = cond (eqb c SymLessThan) false (none_less s)

not_less : (c : ℕ) (s : List ℕ) → none_less s ≡ true → is_among c s ≡ true → eqb c SymLessThan ≡ false
not_less c [] n m = absurd cc
not_less c (a ∷ s) n m = let w = cond_false (eqb a SymLessThan) (none_less s) n in
    elim (cond_either (eqb c a) (is_among c s) m) [
      | inl q ↦ ap (λ (x : ℕ). eqb x SymLessThan) (eqb-true c a q) ∙ w.0
      | inr q ↦ not_less c s w.1 q
    ]

-- kinds that begin with no `<`
other_first : (p : Place) (s : List ℕ) (c : List Kind) → none_less s ≡ true → first_among s c ≡ true → NeverReached p c
other_first p s [] n f = tt
other_first p s (t ∷ c) n f = λ l. clash _ (ap (λ (x : ℕ). eqb x SymLessThan) l) (not_less t.class s n f)

list_ended : (p : Place) (c : List Kind) → ends_list c ≡ true → NeverReached p c
list_ended p [] f = tt
list_ended p (t ∷ c) f = other_first p list_ends (t ∷ c) refl f

-- after `<` all of what is outside of template lists counts
less_counts : (c : ℕ) → c ≡ SymLessThan → Counts (is_stop c) 0
less_counts c h = subst (λ (x : ℕ). Counts (is_stop x) 0) (sym h) tt

-- where no token is reached after a `<` that was read, none is after it as it is written
pub edits_never : (p : Place) (b : Bool) (s c : List Kind) → b ≡ false → Edits b s c
    → NeverReached p s → NeverReached p c
edits_never p _ _ _ q (at_the_end b) h = tt
edits_never p _ _ _ q (kept b t j s c e m) h = λ l.
    let less : t.class ≡ SymLessThan = e ∙ l in
    sym (edits_reach (is_stop t.class) s c m p 0 0 (less_counts t.class less)) ∙ h less
edits_never p _ _ _ q (no_comma b t s c e f m) h = list_ended p c f
edits_never p _ _ _ q (no_colon b t s c e f m) h = other_first p block_begins c refl f
edits_never p _ _ _ q (no_semicolon t s c e m) h = absurd cc
edits_never p _ _ _ q (two_minuses b t s c e m) h = other_first p (SymMinus ∷ [])
    (plain SymMinus ∷ (plain SymMinus ∷ c)) refl refl
edits_never p _ _ _ q (with_case b t s c e m) h = other_first p (KwCase ∷ [])
    (plain KwCase ∷ (plain KwDefault ∷ c)) refl refl
