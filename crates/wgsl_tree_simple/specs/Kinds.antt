-- The words of the kinds of declarations.
use Rattle.std.specs.Prelude.{ℕ, List, ◌≡◌, Some, None, codes}
use Rattle.wgsl_model.specs.Trees.Statements.{DeclarationKind, const_kind, override_kind, let_kind, var_kind}

-- a text is the word of a kind; a `var` with a template has none
abbrev pub IsKindWord : DeclarationKind → List ℕ → Type 0
IsKindWord const_kind text = text ≡ codes "const"
IsKindWord override_kind text = text ≡ codes "override"
IsKindWord let_kind text = text ≡ codes "let"
IsKindWord (var_kind None) text = text ≡ codes "var"
IsKindWord (var_kind (Some template)) text = ⊥
