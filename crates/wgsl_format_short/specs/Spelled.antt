-- How the code holds the other text of a token, and the kinds of the tokens after it.
use Rattle.std.specs.Prelude.{ℕ, List, [], ◌∷◌, Option, Some, None, String, chars, string_bytes}
use Rattle.std.specs.Global.{Global}
use Rattle.wgsl_lex_token.specs.declared.kind_table.TokenKind.{TokenKind}
use Rattle.wgsl_lex_token.specs.View.{class_of_kind}

-- the other text, if there is one
abbrev pub spelled : Option (String Global) → List ℕ → List ℕ
spelled (Some other) text = chars (string_bytes other)
spelled None text = text

-- the classes of two tokens, if there are two
abbrev pub two_classes : Option TokenKind → Option TokenKind → List ℕ
two_classes (Some next) (Some after) = class_of_kind next ∷ (class_of_kind after ∷ [])
two_classes next after = []
