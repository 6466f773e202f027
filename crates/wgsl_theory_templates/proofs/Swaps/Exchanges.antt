-- Tokens that may replace others: one after another, and part by part.
use Rattle.std.proofs.Common.{◌≡◌, ◌↔◌, List, [], ◌++◌, sym, ap, subst, ◌∙◌, append_assoc, append-nil}
use Rattle.grammar.specs.Tokens.{Token}
use Rattle.wgsl_theory_grammar.proofs.Tokens.Decided.{IsList}
use Rattle.wgsl_theory_templates.specs.Exchanged.{Exchanged}
use Rattle.wgsl_theory_templates.proofs.Swaps.Swapped.{Swapped, unswapped, swapped_back, both_swapped}
use Rattle.wgsl_theory_templates.proofs.Swaps.SwapRules.{swapped_list}

-- the tokens themselves
pub unchanged : (us : List Token) → Exchanged us us
unchanged us before after = (λ l. l, λ l. l)

-- what is swapped
pub exchanged : (us vs : List Token) → Swapped us vs → Exchanged us vs
exchanged us vs s before after =
    let all = both_swapped before before (unswapped before) (us ++ after) (vs ++ after)
    (both_swapped us vs s after after (unswapped after)) in
    (swapped_list _ _ all, swapped_list _ _ (swapped_back _ _ all))

-- others in place of those
pub exchanged_again : (us vs ws : List Token) → Exchanged us vs → Exchanged vs ws → Exchanged us ws
exchanged_again us vs ws e f before after =
    (λ l. (f before after).0 ((e before after).0 l), λ l. (e before after).1 ((f before after).1 l))

-- with more after them
after_first : (us ps before after : List Token) → before ++ ((us ++ ps) ++ after) ≡ before ++ (us ++ (ps ++ after))
after_first us ps before after = ap (λ (z : List Token). before ++ z) (append_assoc us ps after)

first_exchanged : (us vs ps : List Token) → Exchanged us vs → Exchanged (us ++ ps) (vs ++ ps)
first_exchanged us vs ps e before after = (
  λ l. subst IsList (sym (after_first vs ps before after))
      ((e before (ps ++ after)).0 (subst IsList (after_first us ps before after) l)),
  λ l. subst IsList (sym (after_first us ps before after))
      ((e before (ps ++ after)).1 (subst IsList (after_first vs ps before after) l)),
)

-- with more before them
before_last : (us ps before after : List Token) → before ++ ((us ++ ps) ++ after) ≡ (before ++ us) ++ (ps ++ after)
before_last us ps before after = after_first us ps before after ∙ sym (append_assoc before us (ps ++ after))

last_exchanged : (us ps qs : List Token) → Exchanged ps qs → Exchanged (us ++ ps) (us ++ qs)
last_exchanged us ps qs e before after = (
  λ l. subst IsList (sym (before_last us qs before after))
      ((e (before ++ us) after).0 (subst IsList (before_last us ps before after) l)),
  λ l. subst IsList (sym (before_last us ps before after))
      ((e (before ++ us) after).1 (subst IsList (before_last us qs before after) l)),
)

pub both_exchanged : (us vs ps qs : List Token) → Exchanged us vs → Exchanged ps qs → Exchanged (us ++ ps) (vs ++ qs)
both_exchanged us vs ps qs e f = exchanged_again (us ++ ps) (vs ++ ps) (vs ++ qs)
    (first_exchanged us vs ps e) (last_exchanged vs ps qs f)

-- as whole lists
pub exchanged_list : (us vs : List Token) → Exchanged us vs → IsList us ↔ IsList vs
exchanged_list us vs e = (
  λ l. subst IsList (append-nil vs) ((e [] []).0 (subst IsList (sym (append-nil us)) l)),
  λ l. subst IsList (append-nil us) ((e [] []).1 (subst IsList (sym (append-nil vs)) l)),
)
