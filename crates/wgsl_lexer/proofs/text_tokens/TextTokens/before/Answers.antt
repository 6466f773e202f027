use Rattle.std.proofs.Common.{◌≡◌, ◌-◌, sym, ap, chars, length, reverse, arith}
use Rattle.std.proofs.lemmas.Str.{encodes-chars}
use Rattle.wgsl_model.specs.Tokens.TokenList.{width}
use Rattle.wgsl_lex_templates.proofs.TextLists.Known.{source_known}
use Rattle.wgsl_lexer.proofs.Lefts.{whole_left}
use Rattle.wgsl_lexer.proofs.Room.{at_most_all}
use Rattle.wgsl_lexer.proofs.text_tokens.TextTokens.before.Goals as goal

pub invariant_of-result : goal.invariant_of-result
invariant_of-result c =
    let text = c.args.source.now in
    let spans = c.in_ok-templates.templates.lists.spans.items in
    record {
      within = omega arith;
      told = source_known text spans c.utf8.source c.in_ok-templates.ensures.lists;
      reserved = omega (arith, c.in_ok-ends.ensures.len, c.in_ok-ends.ensures.capacity);
      enough = omega (
        arith,
        at_most_all (length text - length text) spans,
        c.in_ok-templates.ensures.found,
        c.attempts-room.ensures,
      );
    }

pub returns : goal.returns
returns c ts e h =
    let text = c.args.source.now in
    let same : width (chars text) ≡ length text = ap length (encodes-chars text c.utf8.source) in
    whole_left (chars text) (length text) (reverse c.in_ok-ends.ends.items) (sym same)
    (ap reverse c.in_ok-ends.ensures.items) ts e h
