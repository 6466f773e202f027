-- Paths and the faults of their texts as plain data.
use Rattle.std.specs.Prelude.{ℕ, List, [], length, map, Option, Some, None, string_bytes}
use Rattle.wgsl_model.specs.Trees.Paths as plain
use Rattle.wgsl_tree_path.specs.declared.path.PathOrigin.{PathOrigin}
use Rattle.wgsl_tree_path.specs.declared.path.PathOrigin.TheVariants as origin
use Rattle.wgsl_tree_path.specs.declared.path.ModulePath.{ModulePath}
use Rattle.wgsl_tree_path.specs.declared.error.ModulePathParseError.{ModulePathParseError}
use Rattle.wgsl_tree_path.specs.declared.error.ModulePathParseError.TheVariants as error

abbrev pub origin_view : PathOrigin → plain.PathOrigin
origin_view origin.Absolute = plain.absolute
origin_view (origin.Relative levels) = plain.relative levels
origin_view (origin.Package name) = plain.of_package (string_bytes name)

-- an origin and names, as a path
abbrev pub plain_path : plain.PathOrigin → List (List ℕ) → plain.ModulePath
plain_path origin components = record { origin = origin; components = components }

abbrev pub path_view : ModulePath → plain.ModulePath
path_view path = plain_path (origin_view path.origin) (map string_bytes path.components.items)

-- the origin of a path that is joined with a suffix, by the suffix's origin
abbrev pub origin_after : ModulePath → PathOrigin → plain.PathOrigin
origin_after path suffix = plain.joined_origin (origin_view path.origin)
    (length path.components.items) (origin_view suffix)

-- the fault that an error names, unless it is a failed allocation
abbrev pub parse_fault : ModulePathParseError → Option plain.PathFault
parse_fault error.Empty = Some plain.empty
parse_fault error.MisplacedPackage = Some plain.misplaced_package
parse_fault error.MisplacedSelf = Some plain.misplaced_self
parse_fault error.MisplacedSuper = Some plain.misplaced_super
parse_fault error.OutOfMemory = None

-- the parts of a text that is left, if one is
abbrev pub parts_left : Option (List ℕ) → List (List ℕ)
parts_left None = []
parts_left (Some text) = plain.path_parts text
