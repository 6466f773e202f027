use Rattle.std.proofs.Common.{◌∙◌, sym}
use Rattle.wgsl_rename.proofs.Found.{is_placed, is_there}
use Rattle.wgsl_rename.proofs.target.declaration_at.Goals as goal

pub returns-in-Some-declaration_of-clause-declared : goal.returns-in-Some-declaration_of-clause-declared
returns-in-Some-declaration_of-clause-declared c =
    let items = c.args.names.now.names.items in
    let named = c.index-named.result.now in
    record {
      named = named;
      there = is_there items c.deref.result.now c.in-Some.index named c.deref.ensures.value c.in-Some.ensures.0
          c.index-named.ensures;
      at = is_placed items c.deref.result.now c.args.place c.in-Some.index named c.deref.ensures.value c.in-Some.ensures.1
          c.index-named.ensures;
      declared = c.in-Some-declaration_of.ensures;
    }

pub returns-then-is_member-clause-undeclared : goal.returns-then-is_member-clause-undeclared
returns-then-is_member-clause-undeclared c =
    let items = c.args.names.now.names.items in
    let named = c.index-named.result.now in
    record {
      named = named;
      there = is_there items c.deref.result.now c.in-Some.index named c.deref.ensures.value c.in-Some.ensures.0
          c.index-named.ensures;
      at = is_placed items c.deref.result.now c.args.place c.in-Some.index named c.deref.ensures.value c.in-Some.ensures.1
          c.index-named.ensures;
      undeclared = c.in_default-declaration_of.ensures;
      kind = sym c.is_member.ensures ∙ c.if-is_member.true;
    }

pub returns-clause-undeclared : goal.returns-clause-undeclared
returns-clause-undeclared c =
    let items = c.args.names.now.names.items in
    let named = c.index-named.result.now in
    record {
      named = named;
      there = is_there items c.deref.result.now c.in-Some.index named c.deref.ensures.value c.in-Some.ensures.0
          c.index-named.ensures;
      at = is_placed items c.deref.result.now c.args.place c.in-Some.index named c.deref.ensures.value c.in-Some.ensures.1
          c.index-named.ensures;
      undeclared = c.in_default-declaration_of.ensures;
      kind = sym c.is_member.ensures ∙ c.if-is_member.false;
    }
