use Rattle.std.proofs.Common.{ap, ◌∙◌, string_bytes, map, reverse, Ok, lit<}
use Rattle.std.specs.declared.alloc.AllocError.{AllocError}
use Rattle.std.proofs.lemmas.Iterator.Consumers.{map_from_collect}
use Rattle.std.proofs.lemmas.Iterator.Splits.{YieldsList-from_str_split}
use Rattle.wgsl_format_files.specs.Configs.{paths_from}
use Rattle.wgsl_format_files.proofs.Configs.{map_reverse}
use Rattle.wgsl_format_files.proofs.config.paths_below.Goals as goal

pub returns : goal.returns
returns c =
    let names = map_from_collect {E = AllocError} (Ok c.in_ok-names.names) c.in_ok-names.ensures.ran
    (YieldsList-from_str_split 47 c.args.path.now
    (lit< tt) c.split.ensures.text c.split.ensures.has_more c.split.ensures.pattern) in
    ap (map string_bytes) c.reverse.ensures.items
    ∙ map_reverse string_bytes c.in_ok-paths.paths.items ∙ ap reverse c.in_ok-paths.ensures
    ∙ ap (λ ns. reverse (paths_from c.args.folder.now ns))
    (ap (map (λ name. name.now)) c.as_slice.ensures.value ∙ names)
