-- Which tokens are the name of an attribute.
use Rattle.std.proofs.Common.{◌≡◌, ℕ, zero, suc, ◌+◌, ◌-◌, Bool, true, cond, eqb, ◌&&◌, nat_le, nat_lt, List, [], ◌∷◌, refl, ap, arith}
use Rattle.std.proofs.lemmas.Bool.Decides.{nat_tests}
use Rattle.grammar.specs.Tokens as plain
use Rattle.grammar.specs.States.{Read, done, stop, unexpected, ended, is_at, first_of, after}
use Rattle.wgsl_model.specs.Tokens.ClassTable.{KwAlias, Ident, ReservedWord, is_keyword}
use Rattle.wgsl_model.specs.Grammar.TokenValues.{word_of}
use Rattle.wgsl_lex_token.specs.Groups.{word_of_class}
use Rattle.wgsl_lex_token.specs.View.{kind_view}
use Rattle.wgsl_lex_token.specs.declared.token_table.Token.{Token}
use Rattle.wgsl_lex_token.specs.declared.token_table.Token.TheVariants as token
use Rattle.wgsl_read_cursor.specs.Words.{attribute_name_at}

-- one of the numbers from one on, so many and one
one_from : ℕ → ℕ → ℕ → Bool
one_from low zero c = eqb c low
one_from low (suc n) c = cond (eqb c low) true (one_from (suc low) n c)

from_to : (low n c : ℕ) → one_from low n c ≡ (nat_le low c && nat_lt c (suc (low + n)))
unfolding one_from
from_to low zero c = grind (arith, nat_tests)
from_to low (suc n) c = rw (from_to (suc low) n c) (grind (arith, nat_tests))

-- the next token is taken as the name of an attribute, or refused
abbrev pub named : ℕ → plain.Token → List plain.Token → Bool → Read plain.Token
named end t ts taken = cond taken (done t (record { end = t.end; rest = ts })) (stop (unexpected t))

-- a name is an identifier, a reserved word or a keyword
pub attribute_name_is : (end : ℕ) (t : plain.Token) (ts : List plain.Token)
    → attribute_name_at (record { end = end; rest = t ∷ ts }) ≡ named end t ts
    (cond (eqb t.class Ident) true (cond (eqb t.class ReservedWord) true (is_keyword t.class)))
unfolding attribute_name_at is_at first_of after one_from
attribute_name_is end t ts =
    ap (λ (b : Bool). named end t ts (cond (eqb t.class Ident) true (cond (eqb t.class ReservedWord) true b)))
    (from_to KwAlias (Ident - suc KwAlias) t.class)

-- at the end there is no name
pub no_attribute_name : (end : ℕ) → attribute_name_at (record { end = end; rest = [] }) ≡ stop (ended end)
unfolding attribute_name_at is_at
no_attribute_name end = refl

-- the word of a keyword is the word of its class
pub keyword_text : (t : Token) → is_keyword (kind_view t).class ≡ true
    → word_of_class (kind_view t).class ≡ word_of (kind_view t).class (kind_view t).payload
keyword_text (token.Ident x) h = cc
keyword_text _ h = cc
