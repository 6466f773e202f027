-- Rows of directives: tokens, and the tree or the fault.
use Rattle.std.specs.Prelude.{List, [], ◌∷◌, Some, codes}
use Rattle.grammar.specs.Tokens.{Token, Fault}
use Rattle.wgsl_model.specs.Tokens.ClassTable.{SymComma, SymPeriod, SymParenLeft, SymParenRight, SymSemicolon, KwDiagnostic, KwRequires}
use Rattle.wgsl_model.specs.Faults.Kinds.{diagnostic_severity_kind}
use Rattle.wgsl_model.specs.Trees.Attributed.{without_attributes}
use Rattle.wgsl_model.specs.Trees.Units.{GlobalDirective}
use Rattle.wgsl_model.specs.Grammar.UnitParts.{requires_of, diagnostic_of}
use Rattle.wgsl_laws.specs.RowParts.{span, sign, word, reserved}

-- requires a, b,;
abbrev pub last_comma_of_names_tokens : List Token
last_comma_of_names_tokens = (sign KwRequires 0 8) ∷ (word (codes "a") 9 10) ∷ (sign SymComma 10 11)
    ∷ (word (codes "b") 12 13) ∷ (sign SymComma 13 14) ∷ (sign SymSemicolon 14 15) ∷ []

abbrev pub last_comma_of_names_tree : GlobalDirective
last_comma_of_names_tree = without_attributes (requires_of (word (codes "a") 9 10 ∷ (word (codes "b") 12 13 ∷ [])))

-- diagnostic(off, x.y,);
abbrev pub rule_of_two_names_tokens : List Token
rule_of_two_names_tokens = (sign KwDiagnostic 0 10) ∷ (sign SymParenLeft 10 11)
    ∷ (word (codes "off") 11 14) ∷ (sign SymComma 14 15) ∷ (word (codes "x") 16 17)
    ∷ (sign SymPeriod 17 18) ∷ (word (codes "y") 18 19) ∷ (sign SymComma 19 20)
    ∷ (sign SymParenRight 20 21) ∷ (sign SymSemicolon 21 22) ∷ []

abbrev pub rule_of_two_names_tree : GlobalDirective
rule_of_two_names_tree = without_attributes
    (diagnostic_of (word (codes "off") 11 14) (word (codes "x") 16 17) (Some (word (codes "y") 18 19)))

-- diagnostic(bad, x);
abbrev pub unknown_severity_tokens : List Token
unknown_severity_tokens = (sign KwDiagnostic 0 10) ∷ (sign SymParenLeft 10 11)
    ∷ (word (codes "bad") 11 14) ∷ (sign SymComma 14 15) ∷ (word (codes "x") 16 17)
    ∷ (sign SymParenRight 17 18) ∷ (sign SymSemicolon 18 19) ∷ []

abbrev pub unknown_severity_fault : Fault
unknown_severity_fault = record { kind = diagnostic_severity_kind; texts = []; span = span 11 14 }

-- diagnostic(self, a);
abbrev pub reserved_word_as_a_severity_tokens : List Token
reserved_word_as_a_severity_tokens = (sign KwDiagnostic 0 10) ∷ (sign SymParenLeft 10 11)
    ∷ (reserved (codes "self") 11 15) ∷ (sign SymComma 15 16) ∷ (word (codes "a") 17 18)
    ∷ (sign SymParenRight 18 19) ∷ (sign SymSemicolon 19 20) ∷ []

abbrev pub reserved_word_as_a_severity_fault : Fault
reserved_word_as_a_severity_fault = record { kind = 2; texts = codes "self" ∷ []; span = span 11 15 }
