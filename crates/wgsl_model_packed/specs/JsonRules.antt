-- Written by tools/tables/packed_rules.py from crates/wgsl_model_packed/rules: the JSON of the
-- rules.
use Rattle.std.specs.Prelude.{ℕ, List, [], ◌∷◌, ◌++◌, codes}

-- the JSON of each rule, by its number
abbrev pub json_rules : List (List ℕ)
json_rules =
    codes "{\"Literal\":{\"Bool\":false}}" ∷
    codes "{\"Literal\":{\"Bool\":true}}" ∷
    codes "{\"Literal\":{\"AbstractInt\":#}}" ∷
    codes "{\"Literal\":{\"I32\":#}}" ∷
    codes "{\"Literal\":{\"U32\":#}}" ∷
    codes "{\"Literal\":{\"AbstractFloat\":\"#\"}}" ∷
    codes "{\"Literal\":{\"F32\":\"#\"}}" ∷
    codes "{\"Literal\":{\"F16\":\"#\"}}" ∷
    codes "{\"Parenthesized\":{\"expression\":{\"span\":%,\"node\":$}}}" ∷
    codes "{\"Unary\":{\"operator\":\"#\",\"operand\":{\"span\":%,\"node\":$}}}" ∷
    codes "{\"Unary\":{\"operator\":\"#\",\"operand\":{\"span\":%,\"node\":$}}}" ∷
    codes "{\"FunctionCall\":{\"ty\":$,\"arguments\":[$]}}" ∷
    codes "\"#\"" ∷
    codes "{\"Template\":{\"ident\":\"#\",\"template_args\":[$]}}" ∷
    codes "{\"Chain\":[$$]}" ∷
    codes ",{\"NamedComponent\":{\"base\":%,\"component\":\"#\"}}$" ∷
    codes ",{\"NamedComponent\":{\"base\":%,\"component\":\"#\"}}$" ∷
    codes ",{\"Indexing\":{\"base\":%,\"index\":{\"span\":%,\"node\":$}}}$" ∷
    codes ",{\"Binary\":{\"left\":%,\"operator\":\"#\",\"right\":{\"span\":%,\"node\":$}}}$" ∷
    codes "" ∷
    codes "{\"span\":%,\"node\":$},$" ∷
    codes "{\"span\":%,\"node\":$}" ∷
    codes "$,$" ∷
    codes "$" ∷
    codes "$,$" ∷
    codes "\"#\",$" ∷
    codes "{\"span\":%,\"node\":$},$" ∷
    codes "{\"span\":%,\"node\":$}" ∷
    codes "{\"span\":%,\"node\":$}" ∷
    codes "{\"#\":{\"span\":%,\"node\":$}}" ∷
    codes "\"#\"" ∷
    codes "{\"builtin\":\"#\"}" ∷
    codes "{\"diagnostic\":{\"severity\":\"#\",\"rule\":\"#\"}}" ∷
    codes "{\"interpolate\":{\"ty\":\"#\",\"sampling\":?}}" ∷
    codes "\"#\"" ∷
    codes "{\"workgroup_size\":{\"x\":{\"span\":%,\"node\":$},\"y\":?,\"z\":?}}" ∷
    codes "{\"span\":%,\"node\":$}" ∷
    codes "{\"type\":$}" ∷
    codes "{\"ident\":\"#\",\"variants\":[$]}" ∷
    codes "{\"custom\":{\"name\":\"#\",\"arguments\":?}}" ∷
    codes "[$]" ∷
    codes "{\"var\":?}" ∷
    codes "[\"#\",?]" ∷
    codes "{\"Declaration\":{\"attributes\":[$],\"kind\":$,\"ident\":\"#\",\"ty\":?,\"initializer\":?}}" ∷
    codes "$" ∷
    codes "{\"span\":%,\"node\":$}" ∷
    (codes "{\"Assignment\":{\"attributes\":[$],\"lhs\":{\"span\":%"
    ++ codes ",\"node\":$},\"operator\":\"#\",\"rhs\":{\"span\":%,\"node\":$}}}") ∷
    codes "{\"Increment\":{\"attributes\":[$],\"expression\":{\"span\":%,\"node\":$}}}" ∷
    codes "{\"Decrement\":{\"attributes\":[$],\"expression\":{\"span\":%,\"node\":$}}}" ∷
    codes "{\"Break\":{\"attributes\":[$]}}" ∷
    codes "{\"Continue\":{\"attributes\":[$]}}" ∷
    codes "{\"Discard\":{\"attributes\":[$]}}" ∷
    codes "{\"Return\":{\"attributes\":[$],\"expression\":?}}" ∷
    codes "{\"span\":%,\"node\":$}" ∷
    codes "{\"FunctionCall\":{\"attributes\":[$],\"call\":$}}" ∷
    codes "{\"ConstAssert\":{\"attributes\":[$],\"expression\":{\"span\":%,\"node\":$}}}" ∷
    codes "{\"attributes\":[$],\"expression\":{\"span\":%,\"node\":$}}" ∷
    codes "\"default\"" ∷
    codes "{\"Void\":{\"attributes\":[$]}}" ∷
    codes "$" ∷
    codes "{\"Compound\":{\"attributes\":[$],\"statements\":[$]}}" ∷
    codes "{\"span\":%,\"node\":{\"Void\":{\"attributes\":[]}}}&" ∷
    codes "{\"span\":%,\"node\":$}&" ∷
    codes "" ∷
    codes "" ∷
    codes "" ∷
    codes "" ∷
    codes "{\"If\":{\"attributes\":[$],\"if_clause\":$,\"else_if_clauses\":[$],\"else_clause\":?}}" ∷
    codes "{\"expression\":{\"span\":%,\"node\":$},\"body\":$}" ∷
    codes "{\"attributes\":[$],\"expression\":{\"span\":%,\"node\":$},\"body\":$}" ∷
    codes "{\"attributes\":[$],\"body\":$}" ∷
    codes "$" ∷
    codes "$&" ∷
    (codes "{\"Switch\":{\"attributes\":[$]"
    ++ codes ",\"expression\":{\"span\":%,\"node\":$},\"body_attributes\":[$],\"clauses\":[$]}}") ∷
    codes "{\"attributes\":[$],\"case_selectors\":[$],\"body\":$}" ∷
    codes "{\"Loop\":{\"attributes\":[$],\"body\":$,\"continuing\":?}}" ∷
    codes "$" ∷
    codes "{\"attributes\":[$],\"body\":$,\"break_if\":?}" ∷
    codes "{\"For\":{\"attributes\":[$],\"initializer\":?,\"condition\":?,\"update\":?,\"body\":$}}" ∷
    codes "{\"While\":{\"attributes\":[$],\"condition\":{\"span\":%,\"node\":$},\"body\":$}}" ∷
    codes "{\"global_directives\":[$],\"global_declarations\":[$]}" ∷
    codes "$,$" ∷
    codes "$" ∷
    codes "{\"Diagnostic\":{\"attributes\":[$],\"severity\":\"#\",\"rule_name\":\"#\"}}" ∷
    codes "{\"Enable\":{\"attributes\":[$],\"extensions\":[$]}}" ∷
    codes "{\"Requires\":{\"attributes\":[$],\"extensions\":[$]}}" ∷
    codes "{\"span\":%,\"node\":$}&" ∷
    codes "{\"span\":%,\"node\":$}&" ∷
    codes "{\"TypeAlias\":{\"attributes\":[$],\"ident\":\"#\",\"ty\":$}}" ∷
    codes "{\"Struct\":{\"attributes\":[$],\"ident\":\"#\",\"members\":[$]}}" ∷
    codes "{\"span\":%,\"node\":$},$" ∷
    codes "{\"span\":%,\"node\":$}" ∷
    codes "{\"attributes\":[$],\"ident\":\"#\",\"ty\":$}" ∷
    codes "{\"Function\":{\"attributes\":[$],\"ident\":\"#\",\"parameters\":[$],\"result\":?,\"body\":$}}" ∷
    codes "{\"attributes\":[$],\"ty\":$}" ∷
    []
