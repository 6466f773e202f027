-- The classes of kinds in a list that grows.
use Rattle.std.proofs.Common.{◌≡◌, List, [], ◌∷◌, ◌++◌, ap, ◌∙◌}
use Rattle.std.proofs.lemmas.List.{map-append}
use Rattle.wgsl_lex_token.specs.declared.kind_table.TokenKind.{TokenKind}
use Rattle.wgsl_lex_token.specs.View.{class_of_kind, classes}

-- after one kind more is its class
pub pushed : (kinds now : List TokenKind) (kind : TokenKind) → now ≡ kinds ++ kind ∷ []
    → classes now ≡ classes kinds ++ class_of_kind kind ∷ []
pushed kinds now kind e = ap classes e ∙ map-append class_of_kind kinds (kind ∷ [])
