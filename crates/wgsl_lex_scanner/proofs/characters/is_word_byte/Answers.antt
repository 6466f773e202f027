-- The table is held against the definition at each byte, by computing.
use Rattle.std.proofs.Common.{not, nat_eq, get_or, ◌==◌, ◌||◌, refl, arith}
use Rattle.std.specs.Char.{is_ascii_alphanumeric}
use Rattle.std.proofs.lemmas.Bool.{agree_below_at}
use Rattle.wgsl_lex_scanner.specs.declared.characters.TheConstants.{WORD_BYTES}
use Rattle.wgsl_lex_scanner.proofs.characters.is_word_byte.Goals as goal

pub returns : goal.returns
returns c = agree_below_at (λ b. not (nat_eq (get_or WORD_BYTES b 0) 46))
    (λ b. is_ascii_alphanumeric b || b == 95) 256 c.args.byte refl (omega arith)
