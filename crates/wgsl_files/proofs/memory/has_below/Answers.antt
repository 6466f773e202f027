use Rattle.std.proofs.Common.{rules, tests, string_bytes, ◌∙◌}
use Rattle.std.specs.BTreeMap.{keys}
use Rattle.std.proofs.lemmas.Iterator.Search.{any_from_yields_List}
use Rattle.std.proofs.lemmas.Iterator.Consumers.{YieldsList-from_rest}
use Rattle.wgsl_files.specs.Folders.{is_below}
use Rattle.wgsl_files.proofs.Listings.{any_texts}
use Rattle.wgsl_files.proofs.memory.has_below.Goals as goal

pub returns : goal.returns
returns c =
    let found = any_from_yields_List (λ path. is_below c.args.folder.now (string_bytes path)) _ _ _
    c.any.ensures.ran (YieldsList-from_rest (keys c.args.files.now) c.keys.ensures.rest)
    (λ x b q k. search (rules, tests)) in
    found ∙ any_texts c.args.folder.now (keys c.args.files.now)
