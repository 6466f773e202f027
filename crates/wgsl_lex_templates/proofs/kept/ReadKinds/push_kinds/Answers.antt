use Rattle.std.proofs.Common.{◌<◌, ◌≤◌, ◌+◌, [], ◌∷◌, ◌++◌, length, Some, sym, ap, ◌∙◌, arith}
use Rattle.std.proofs.lemmas.List.Elements.{All-pop, All-push, All-same}
use Rattle.wgsl_lex_token.specs.View.{class_of_kind, classes}
use Rattle.wgsl_lex_templates.proofs.Readings.Pushes.{pushed}
use Rattle.wgsl_lex_templates.proofs.Readings.Held.{gone_through, ends_before}
use Rattle.wgsl_lex_templates.proofs.Readings.Rests.{held_left, rest_begun, token_taken, last_begun, stretch_begun, less_at_rest, less_after, less_at_last, less_at_stretch}
use Rattle.wgsl_lex_templates.proofs.kept.ReadKinds.push_kinds.Goals as goal

-- the last rest is taken
pub pieces-smaller-then-left : goal.pieces-smaller-then-left
pieces-smaller-then-left c = less_at_rest c.pieces.left.at c.pieces.left.to c.pieces.rests.items
    c.pop.new.self.items c.in-Some.rest c.in-Some.ensures.items

pub pieces-preserved-then-left : goal.pieces-preserved-then-left
pieces-preserved-then-left c =
    let ps = c.args.self.now.pieces.items in
    let each = All-pop (λ r. r.to ≤ length ps) c.pieces.rests.items c.pop.new.self.items
    (Some c.in-Some.rest) c.in-Some.ensures.items c.pieces.invariant.each in
    record {
      within = each.1;
      each = each.0;
      whole = ap (λ u. classes c.pieces.kinds.items ++ u)
          (sym (rest_begun ps c.pieces.left.at c.pieces.left.to c.pieces.rests.items c.pop.new.self.items
          c.in-Some.rest c.if-left.true c.in-Some.ensures.items)) ∙ c.pieces.invariant.whole;
    }

-- a token
pub pieces-smaller-in-Token : goal.pieces-smaller-in-Token
pieces-smaller-in-Token c = less_after c.pieces.left.at c.pieces.left.to c.pieces.rests.items
    (omega (arith, c.if-left.false))

pub pieces-preserved-in-Token : goal.pieces-preserved-in-Token
pieces-preserved-in-Token c =
    let ps = c.args.self.now.pieces.items in
    let rs = c.pieces.rests.items in
    record {
      within = c.pieces.invariant.within;
      each = c.pieces.invariant.each;
      whole = gone_through (classes c.pieces.kinds.items) (classes c.push.new.self.items)
          (class_of_kind c.in-Token.kind ∷ []) (held_left ps (c.pieces.left.at + 1) c.pieces.left.to rs)
          (held_left ps c.pieces.left.at c.pieces.left.to rs) _
          (pushed c.pieces.kinds.items c.push.new.self.items c.in-Token.kind c.in_ok-push-in-Token.ensures.items)
          (token_taken ps c.pieces.left.at c.pieces.left.to rs c.index.result.now c.in-Token.kind
          (omega (arith, c.if-left.false)) c.pieces.invariant.within c.index.ensures c.in-Token.is)
          c.pieces.invariant.whole;
    }

-- a stretch that is last
pub pieces-smaller-then-left-2 : goal.pieces-smaller-then-left-2
pieces-smaller-then-left-2 c =
    let ps = c.args.self.now.pieces.items in
    let less : c.pieces.left.at < length ps = omega (arith, c.if-left.false, c.pieces.invariant.within) in
    let ends = ends_before ps c.pieces.left.at c.index.result.now c.in-Stretch.start
    c.in-Stretch.end c.args.self.now.earlier less c.index.ensures c.in-Stretch.is in
    less_at_last c.pieces.left.at c.pieces.left.to c.pieces.rests.items c.in-Stretch.start
    c.in-Stretch.end (omega (arith, c.if-left.false)) ends

pub pieces-preserved-then-left-2 : goal.pieces-preserved-then-left-2
pieces-preserved-then-left-2 c =
    let ps = c.args.self.now.pieces.items in
    let less : c.pieces.left.at < length ps = omega (arith, c.if-left.false, c.pieces.invariant.within) in
    let ends = ends_before ps c.pieces.left.at c.index.result.now c.in-Stretch.start
    c.in-Stretch.end c.args.self.now.earlier less c.index.ensures c.in-Stretch.is in
    let same = last_begun ps c.pieces.left.at c.pieces.left.to c.pieces.rests.items
    c.index.result.now c.in-Stretch.start c.in-Stretch.end c.if-left-2.true
    c.pieces.invariant.within ends c.index.ensures c.in-Stretch.is in
    record {
      within = omega (arith, ends, less);
      each = c.pieces.invariant.each;
      whole = ap (λ u. classes c.pieces.kinds.items ++ u) (sym same) ∙ c.pieces.invariant.whole;
    }

-- a stretch with a rest after it
pub pieces-smaller : goal.pieces-smaller
pieces-smaller c =
    let ps = c.args.self.now.pieces.items in
    let less : c.pieces.left.at < length ps = omega (arith, c.if-left.false, c.pieces.invariant.within) in
    let ends = ends_before ps c.pieces.left.at c.index.result.now c.in-Stretch.start
    c.in-Stretch.end c.args.self.now.earlier less c.index.ensures c.in-Stretch.is in
    less_at_stretch c.pieces.left.at c.pieces.left.to c.pieces.rests.items
    c.push-in-Stretch.new.self.items c.in-Stretch.start c.in-Stretch.end
    (omega (arith, c.if-left.false)) ends c.in_ok-push-in-Stretch.ensures.items

pub pieces-preserved : goal.pieces-preserved
pieces-preserved c =
    let ps = c.args.self.now.pieces.items in
    let less : c.pieces.left.at < length ps = omega (arith, c.if-left.false, c.pieces.invariant.within) in
    let ends = ends_before ps c.pieces.left.at c.index.result.now c.in-Stretch.start
    c.in-Stretch.end c.args.self.now.earlier less c.index.ensures c.in-Stretch.is in
    let same = stretch_begun ps c.pieces.left.at c.pieces.left.to c.pieces.rests.items
    c.push-in-Stretch.new.self.items c.index.result.now c.in-Stretch.start c.in-Stretch.end
    (omega (arith, c.if-left.false)) c.pieces.invariant.within ends c.index.ensures c.in-Stretch.is
    c.in_ok-push-in-Stretch.ensures.items in
    record {
      within = omega (arith, ends, less);
      each = All-same (λ r. r.to ≤ length ps) c.push-in-Stretch.new.self.items _
          c.in_ok-push-in-Stretch.ensures.items (All-push (λ r. r.to ≤ length ps)
          c.pieces.rests.items _ c.pieces.invariant.each c.pieces.invariant.within);
      whole = ap (λ u. classes c.pieces.kinds.items ++ u) (sym same) ∙ c.pieces.invariant.whole;
    }
