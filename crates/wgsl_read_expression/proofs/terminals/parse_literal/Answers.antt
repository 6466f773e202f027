use Rattle.std.proofs.Common.{◌≡◌, ◌∙◌, ap, sym, rules, w32, w64}
use mir.Val.{SFits}
use Rattle.std.proofs.lemmas.Int.{to_z-of_z}
use Rattle.grammar.specs.States.{is_at}
use Rattle.wgsl_lex_token.specs.declared.token_table.Token.TheVariants as token
use Rattle.wgsl_read_cursor.specs.Reading.{state}
use Rattle.wgsl_read_expression.proofs.Literals.{token_taken, literal_refused}
use Rattle.wgsl_read_expression.proofs.terminals.parse_literal.Goals as goal

pub returns-in-KwTrue : goal.returns-in-KwTrue
unfolding is_at
returns-in-KwTrue c = record {
  value = token_taken (state c.args.tokens.now)
      (state c.next.new.self) c.in_ok-token.field-0 token.KwTrue c.in_ok-token.ensures.value cc;
  shorter = c.in_ok-token.ensures.shorter;
}

pub returns-in-KwFalse : goal.returns-in-KwFalse
unfolding is_at
returns-in-KwFalse c = record {
  value = token_taken (state c.args.tokens.now)
      (state c.next.new.self) c.in_ok-token.field-0 token.KwFalse c.in_ok-token.ensures.value cc;
  shorter = c.in_ok-token.ensures.shorter;
}

pub returns-in-AbstractInt : goal.returns-in-AbstractInt
unfolding is_at
returns-in-AbstractInt c =
    let fits : SFits w64 c.in-AbstractInt.number = search rules in
    let is : c.in_ok-token.field-0.token ≡ token.AbstractInt c.in-AbstractInt.number = cc in
    record {
      value = token_taken (state c.args.tokens.now) (state c.next.new.self) c.in_ok-token.field-0
          (token.AbstractInt _) c.in_ok-token.ensures.value
          (is ∙ ap token.AbstractInt (sym (to_z-of_z w64 c.in-AbstractInt.number fits)));
      shorter = c.in_ok-token.ensures.shorter;
    }

pub returns-in-I32 : goal.returns-in-I32
unfolding is_at
returns-in-I32 c =
    let fits : SFits w32 c.in-I32.number = search rules in
    let is : c.in_ok-token.field-0.token ≡ token.I32 c.in-I32.number = cc in
    record {
      value = token_taken (state c.args.tokens.now) (state c.next.new.self) c.in_ok-token.field-0
          (token.I32 _) c.in_ok-token.ensures.value
          (is ∙ ap token.I32 (sym (to_z-of_z w32 c.in-I32.number fits)));
      shorter = c.in_ok-token.ensures.shorter;
    }

pub returns-in-U32 : goal.returns-in-U32
unfolding is_at
returns-in-U32 c = record {
  value = token_taken (state c.args.tokens.now) (state c.next.new.self) c.in_ok-token.field-0
      (token.U32 c.in-U32.number) c.in_ok-token.ensures.value cc;
  shorter = c.in_ok-token.ensures.shorter;
}

pub returns-in-AbstractFloat : goal.returns-in-AbstractFloat
unfolding is_at
returns-in-AbstractFloat c = record {
  value = token_taken (state c.args.tokens.now) (state c.next.new.self) c.in_ok-token.field-0
      (token.AbstractFloat c.in-AbstractFloat.text) c.in_ok-token.ensures.value cc;
  shorter = c.in_ok-token.ensures.shorter;
}

pub returns-in-F32 : goal.returns-in-F32
unfolding is_at
returns-in-F32 c = record {
  value = token_taken (state c.args.tokens.now) (state c.next.new.self) c.in_ok-token.field-0
      (token.F32 c.in-F32.text) c.in_ok-token.ensures.value cc;
  shorter = c.in_ok-token.ensures.shorter;
}

pub returns-in-F16 : goal.returns-in-F16
unfolding is_at
returns-in-F16 c = record {
  value = token_taken (state c.args.tokens.now) (state c.next.new.self) c.in_ok-token.field-0
      (token.F16 c.in-F16.text) c.in_ok-token.ensures.value cc;
  shorter = c.in_ok-token.ensures.shorter;
}

pub returns-in_default : goal.returns-in_default
returns-in_default c =
    let d = c.in_default in
    record {
      value = literal_refused (state c.args.tokens.now) (state c.next.new.self)
          c.in_ok-token.field-0 c.unexpected_token.result c.in_ok-token.ensures.value (
            d.not-KwTrue,
            d.not-KwFalse,
            d.not-AbstractInt,
            d.not-I32,
            d.not-U32,
            d.not-AbstractFloat,
            d.not-F32,
            d.not-F16,
          ) c.unexpected_token.ensures;
      shorter = tt;
    }
