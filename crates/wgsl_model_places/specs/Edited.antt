-- Tokens with other names in their places.
use Rattle.std.specs.Prelude.{◌≡◌, ℕ, if◌then◌else◌, List, [], ◌∷◌, ⊤, map, codes}
use Rattle.std.specs.Option.{option_map}
use Rattle.grammar.specs.Tokens.{Token}
use Rattle.wgsl_model.specs.Tokens.Kind as kind
use Rattle.wgsl_model_places.specs.Roles.{Role, word, Name, Entry, Event, named, in_module, in_scope, scope_start, scope_end}
use Rattle.wgsl_model_places.specs.Signs.{has_text, name_at}

-- what is written in place of a name
abbrev pub Edit : Type 0
Edit = Name → List ℕ

-- the name with this text
abbrev pub new_name : Edit → Name → Name
new_name g name = record name { text = g name }

abbrev pub edited_token : Edit → Token → Token
edited_token g t = if has_text t.class then kind.placed (kind.named t.class (g (name_at t))) t.start t.end else t

abbrev pub edited : Edit → List Token → List Token
edited g = map (edited_token g)

-- ---- what happens then
abbrev pub edited_entry : Edit → Entry → Entry
edited_entry g entry = record entry { name = option_map (new_name g) entry.name }

abbrev pub edited_event : Edit → Event → Event
edited_event g (named role name) = named role (new_name g name)
edited_event g (in_module entry) = in_module (edited_entry g entry)
edited_event g (in_scope entry) = in_scope (edited_entry g entry)
edited_event g scope_start = scope_start
edited_event g scope_end = scope_end

-- words stay
abbrev pub KeepsWord : Edit → Event → Type 0
KeepsWord g (named word name) = g name ≡ name.text
KeepsWord g event = ⊤

abbrev pub KeepsWords : Edit → List Event → Type 0
KeepsWords g [] = ⊤
KeepsWords g (e ∷ es) = KeepsWord g e × KeepsWords g es

-- `_` stays
abbrev pub KeepsUnderscore : Edit → Type 0
KeepsUnderscore g = (name : Name) → name.text ≡ codes "_" → g name ≡ name.text
