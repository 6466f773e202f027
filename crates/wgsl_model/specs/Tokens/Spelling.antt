-- Every spelling of a token (WGSL, "Tokens", "Identifiers"; identifiers by Unicode Standard Annex
-- 31).
use Rattle.std.specs.Prelude.{ℕ, List, map}
use Rattle.unicode_ident.specs.Ident.{is_xid_start, is_xid_continue}
use Rattle.wgsl_model.specs.Tokens.Pattern.{Pattern, one, any, ◌then◌, ◌or◌, code, any_of}
use Rattle.wgsl_model.specs.Tokens.Numbers.{number_spelling}
use Rattle.wgsl_model.specs.Tokens.ClassTable.{symbols}

-- a character that may start an identifier and those that may continue it, or `_` with at least one
-- of these after it
abbrev pub identifier : Pattern
identifier = (one is_xid_start then any is_xid_continue)
    or (code 95 then (one is_xid_continue then any is_xid_continue))

-- one of the symbols
abbrev pub syntactic_token : Pattern
syntactic_token = any_of (map (λ (entry : List ℕ × ℕ). entry.0) symbols)

-- an identifier, which may be a keyword or a reserved word, a number or a symbol
abbrev pub spelling : Pattern
spelling = identifier or (number_spelling or syntactic_token)
