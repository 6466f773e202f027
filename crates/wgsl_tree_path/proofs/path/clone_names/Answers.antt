use Rattle.std.proofs.Common.{◌≡◌, List, map, string_bytes, Result, Ok, Err, IfOk, Vec, String, Global}
use Rattle.std.specs.declared.alloc.AllocError.{AllocError}
use Rattle.std.specs.List.{AllZip}
use Rattle.wgsl_tree_path.proofs.Names.{same_names}
use Rattle.wgsl_tree_path.proofs.path.clone_names.Goals as goal

copied : (names : List (String Global)) (r : Result (Vec (String Global) Global) AllocError)
    → IfOk r (λ copy. AllZip (λ name copy. string_bytes copy ≡ string_bytes name) names copy.items)
    → IfOk r (λ copy. map string_bytes copy.items ≡ map string_bytes names)
copied names (Ok copy) same = same_names names copy.items same
copied names (Err e) same = tt

pub returns : goal.returns
returns c = copied c.args.names.now c.from_clones.result c.from_clones.ensures.items
