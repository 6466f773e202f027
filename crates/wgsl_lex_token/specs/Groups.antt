-- Which classes are symbols, numbers and comments, and the words of a class.
use Rattle.std.specs.Prelude.{ℕ, Bool, ◌&&◌, ◌||◌, ◌==◌, nat_le, List, ◌++◌}
use Rattle.wgsl_model.specs.Tokens.ClassTable.{SymShiftLeftAssign, AbstractInt, F16, LineComment, BlockComment, symbols, keywords}
use Rattle.wgsl_model.specs.Tokens.Texts.{word_in, special_texts}

-- a symbol: the first classes, up to `<<=`
abbrev pub is_symbol : ℕ → Bool
is_symbol class = nat_le class SymShiftLeftAssign

-- a number: a whole number or a float, with its suffix or without
abbrev pub is_numeric_literal : ℕ → Bool
is_numeric_literal class = nat_le AbstractInt class && nat_le class F16

-- a comment
abbrev pub is_trivia : ℕ → Bool
is_trivia class = class == LineComment || class == BlockComment

-- the words of a class that holds nothing
abbrev pub word_of_class : ℕ → List ℕ
word_of_class class = word_in (symbols ++ (keywords ++ special_texts)) class
