-- What is returned of a text.
use Rattle.std.specs.Prelude.{◌≡◌, ℕ, List, [], ◌∷◌}
use Rattle.grammar.specs.Tokens.{Token}
use Rattle.grammar.specs.Grammar.{IsSentence}
use Rattle.grammar.specs.Endings.{Ending.finished}
use Rattle.wgsl_model.specs.Grammar.Symbols.{Symbol.unit}
use Rattle.wgsl_model.specs.Grammar.Written.{written}
use Rattle.wgsl_model.specs.Tokens.TokenList.{IsTokenList}
use Rattle.wgsl_model_places.specs.Roles as roles
use Rattle.wgsl_model_places.specs.Signs.{name_at}
use Rattle.wgsl_model_places.specs.Steps.{events}
use Rattle.wgsl_lex_names.specs.declared.role.Name.{Name}
use Rattle.wgsl_lex_names.specs.View.{name_view}
use Rattle.wgsl_resolve_names.specs.Found.{AreNames}
use Rattle.wgsl_resolve_names.specs.declared.whole.Names.{Names}

-- the first of some tokens was taken, and this is its name or its word
abbrev pub TakesName : List Token → Name → List Token → Type 0
TakesName [] name us = ⊥
TakesName (t ∷ ts) name us = (name_view name ≡ name_at t) × (us ≡ ts)

-- the text has the syntax of a module, and this is what happens at its tokens
abbrev pub AreEventsOf : List ℕ → List roles.Event → Type 0
AreEventsOf source found = (ts : List Token) × IsTokenList source ts finished × IsSentence written unit ts
    × (found ≡ events ts)

-- the text has the syntax of a module, and these are its names with what they refer to
abbrev pub AreNamesOf : List ℕ → Names → Type 0
AreNamesOf source found = (ts : List Token) × IsTokenList source ts finished × IsSentence written unit ts
    × AreNames (events ts) found
