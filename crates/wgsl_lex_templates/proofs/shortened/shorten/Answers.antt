-- Kind by kind, and parentheses with what may be in them.
use Rattle.wgsl_lex_token.specs.View.{classes}
use Rattle.wgsl_lex_templates.proofs.Readings.Enclosed.{group_put, kind_put, all_put}
use Rattle.wgsl_lex_templates.proofs.shortened.shorten.Goals as goal

pub kinds-preserved-in-Some-parenthesized : goal.kinds-preserved-in-Some-parenthesized
kinds-preserved-in-Some-parenthesized c =
    group_put (classes c.args.kinds.now) c.kinds.short.items c.push.new.self.items
    c.extend_from_slice.new.self.items c.push-in-Some-parenthesized.new.self.items c.in_ok-inside.inside.now
    c.kinds.left.now c.in-Some-parenthesized.inner.now c.in-Some-parenthesized.rest.now
    c.in_ok-push.ensures.items c.in_ok-extend_from_slice.ensures.items c.in_ok-push-2.ensures.items
    c.in-Some-parenthesized.ensures c.in_ok-inside.ensures c.kinds.invariant

pub kinds-preserved : goal.kinds-preserved
kinds-preserved c =
    kind_put (classes c.args.kinds.now) c.kinds.short.items c.push-in-Some.new.self.items c.kinds.left.now
    c.in-Some.next.now c.in-Some.kind.now c.in_ok-push-3.ensures.items c.in-Some.ensures.cases.0
    c.kinds.invariant

pub returns : goal.returns
returns c all = all_put (classes c.args.kinds.now) c.kinds.short.items c.kinds.left.now
    c.in_default.ensures.cases c.kinds.invariant
