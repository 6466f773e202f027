use Rattle.std.proofs.Common.{◌≡◌, ◌++◌, take, map, string_bytes}
use Rattle.std.specs.List.{flat_map}
use Rattle.wgsl_parse.specs.SpanView.{spanned_view}
use Rattle.wgsl_parse.specs.UnitView.{global_declaration_view}
use Rattle.wgsl_test_calls.specs.Names.{function_name_in}
use Rattle.wgsl_test_calls.proofs.names.push_names.Given as goal

abbrev pub invariant-declarations : goal.invariant-declarations
invariant-declarations l =
    map string_bytes l.names.items ≡ map string_bytes l.initial.names.items
    ++ flat_map function_name_in (map (spanned_view global_declaration_view) (take l.declaration-index l.declarations))
