use Rattle.std.proofs.Common.{◌≡◌, ℕ, ◌≤◌, ◌-◌, List, ◌++◌, chars, length, reverse, sym, ap, subst, ◌∙◌, arith}
use Rattle.wgsl_span.specs.declared.Span.{Span}
use Rattle.wgsl_lex_templates.specs.Lists.{AreTold}
use Rattle.wgsl_lexer.specs.Room.{starts_from}
use Rattle.wgsl_lexer.specs.TextTokens.{from_next, end_from_next}
use Rattle.wgsl_theory_templates.proofs.Rest.LeftTokens.{left_exists}
use Rattle.wgsl_lexer.proofs.text_tokens.TextTokens.clone.Goals as goal

pub invariant_of-result : goal.invariant_of-result
invariant_of-result c =
    let t = c.args.self.now in
    let lists = c.in_ok-templates.ensures.lists in
    record {
      within = t.within;
      told = subst (λ (spans : List Span). AreTold t.total spans (chars t.rest.now)) (sym lists) t.told;
      reserved = omega (
        arith,
        c.in_ok-ends.ensures.capacity,
        c.in_ok-extend_from_slice.ensures.len,
        c.in_ok-ends.ensures.len,
        c.extend_from_slice.ensures.capacity,
        c.deref.ensures.len,
        c.len.ensures,
        t.reserved,
      );
      enough = subst (λ (spans : List Span). starts_from (t.total - length t.rest.now) spans ≤ t.room)
          (sym lists) t.enough;
    }

-- the places are copied
same : (c : goal.After-result-3-1) → c.extend_from_slice.new.self.items ≡ c.args.self.now.ends.items
same c = c.in_ok-extend_from_slice.ensures.items
    ∙ ap (λ (xs : List ℕ). xs ++ c.deref.result.now) c.in_ok-ends.ensures.items ∙ c.deref.ensures.value

pub returns-clause-left : goal.returns-clause-left
returns-clause-left c =
    let t = c.args.self.now in ap (λ (ends : List ℕ). from_next t.next
    (left_exists t.total (reverse ends) t.after_word (chars t.rest.now)).0) (same c)

pub returns-clause-ending : goal.returns-clause-ending
returns-clause-ending c =
    let t = c.args.self.now in ap (λ (ends : List ℕ). end_from_next t.next
    (left_exists t.total (reverse ends) t.after_word (chars t.rest.now)).1) (same c)
