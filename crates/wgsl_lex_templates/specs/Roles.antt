-- What a class of tokens is to a template list.
use Rattle.std.specs.Prelude.{ℕ, zero, suc, if◌then◌else◌}
use Rattle.grammar.specs.Grammar.{is_among}
use Rattle.wgsl_model.specs.Tokens.Templates.{is_opening, is_closing, begins_with_greater, is_short_circuit}
use Rattle.wgsl_theory_grammar.specs.Tokens.Refuted.{in_no_expression}
use Rattle.wgsl_lex_templates.specs.declared.roles.TemplateRole.{TemplateRole}
use Rattle.wgsl_lex_templates.specs.declared.roles.TemplateRole.TheVariants.{Opening, Closing, Greater, ShortCircuit, Stranger, Other}
use Rattle.wgsl_lex_templates.specs.declared.roles.Turn.{Turn}
use Rattle.wgsl_lex_templates.specs.declared.roles.Turn.TheVariants.{Ends, Stops, Refutes, Takes}

-- its role
abbrev pub role : ℕ → TemplateRole
role class =
    if is_opening class then Opening
    else if is_closing class then Closing
    else if begins_with_greater class then Greater
    else if is_short_circuit class then ShortCircuit
    else if is_among class in_no_expression then Stranger
    else Other

-- what a token of a role does with a number of brackets open
abbrev pub turn_by : ℕ → TemplateRole → Turn
turn_by depth Opening = Takes (suc depth)
turn_by zero Closing = Stops
turn_by (suc depth) Closing = Takes depth
turn_by zero Greater = Ends
turn_by (suc depth) Greater = Takes (suc depth)
turn_by zero ShortCircuit = Stops
turn_by (suc depth) ShortCircuit = Takes (suc depth)
turn_by depth Stranger = Refutes
turn_by depth Other = Takes depth

-- what a token of a class does
abbrev pub turn : ℕ → ℕ → Turn
turn depth class = turn_by depth (role class)
