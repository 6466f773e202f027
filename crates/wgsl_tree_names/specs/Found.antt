-- The names that were collected, from the end of a module to its start.
use Rattle.std.specs.Prelude.{◌≡◌, ℕ, List, ◌∷◌, Option, map, reverse}
use Rattle.std.specs.Borrow.{Bor}
use Rattle.std.specs.Option.{option_map}
use Rattle.wgsl_model_names.specs.Scopes as scopes
use Rattle.wgsl_model_names.specs.Scopes.{Names, nothing, used, unknown, declared, alternative, ◌then◌, scope}
use Rattle.wgsl_model_minify.specs.Occurrences as plain
use Rattle.wgsl_tree_names.specs.declared.collected.Branch.{Branch}
use Rattle.wgsl_tree_names.specs.declared.collected.Branch.TheVariants as branch
use Rattle.wgsl_tree_names.specs.declared.collected.Kind.{Kind}
use Rattle.wgsl_tree_names.specs.declared.collected.Kind.TheVariants as kind
use Rattle.wgsl_tree_names.specs.declared.collected.Occurrence.{Occurrence}
use Rattle.wgsl_tree_names.specs.declared.collected.Occurrence.TheVariants as variant
use Rattle.wgsl_tree_names.specs.declared.collected.Collected.{Collected}

-- a condition as plain data
abbrev pub branch_view : Branch → scopes.Branch
branch_view branch.If = scopes.under_if
branch_view branch.Elif = scopes.under_elif
branch_view branch.Else = scopes.under_else
branch_view branch.Several = scopes.under_several

-- what a name of a kind is
abbrev pub kind_view : Kind → List ℕ → Names
kind_view kind.Use = used
kind_view kind.Unknown = unknown

-- the bytes of a name, if there is one
abbrev pub name_view : Option (Bor (List ℕ)) → Option (List ℕ)
name_view = option_map (λ (name : Bor (List ℕ)). name.now)

-- an occurrence as plain data
abbrev pub occurrence_view : Occurrence → plain.Occurrence
occurrence_view (variant.Use name) = plain.use_of name.now
occurrence_view (variant.Unknown name) = plain.unknown_name name.now
occurrence_view (variant.Declaration name) = plain.declaration_of name.now
occurrence_view (variant.Alternative under name) = plain.alternative_of (branch_view under) (name_view name)
occurrence_view variant.ScopeStart = plain.scope_start
occurrence_view variant.ScopeEnd = plain.scope_end

-- what was collected, in the order of the module
abbrev pub collected : Collected → List plain.Occurrence
collected c = reverse (map occurrence_view c.from_end.items)

-- what is met in a part, before what is met after it
abbrev pub met_before : Names → List plain.Occurrence → List plain.Occurrence
met_before nothing after = after
met_before (used x) after = plain.use_of x ∷ after
met_before (unknown x) after = plain.unknown_name x ∷ after
met_before (declared x) after = plain.declaration_of x ∷ after
met_before (alternative under name) after = plain.alternative_of under name ∷ after
met_before (a then b) after = met_before a (met_before b after)
met_before (scope a) after = plain.scope_start ∷ met_before a (plain.scope_end ∷ after)

-- what is collected when a part is put before what was collected
abbrev pub Collects : Names → Collected → Collected → Type 0
Collects names old new = collected new ≡ met_before names (collected old)
