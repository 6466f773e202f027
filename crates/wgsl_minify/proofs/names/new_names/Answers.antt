use Rattle.std.proofs.Common.{◌≡◌, ◌++◌, ℕ, List, String, sym, ap, subst, ◌∙◌, map}
use Rattle.std.specs.Borrow.{Bor}
use Rattle.std.specs.Global.{Global}
use Rattle.wgsl_model_names.specs.Names.{unit_names}
use Rattle.wgsl_model_minify.specs.Chosen.{AreNewNames}
use Rattle.wgsl_minify_names.specs.View.{table_view, texts, which_view, occurrence_view}
use Rattle.wgsl_tree_unit.specs.View.{unit_view}
use Rattle.wgsl_tree_unit.specs.declared.unit.TranslationUnit.{TranslationUnit}
use Rattle.wgsl_tree_names.specs.declared.collected.Occurrence.{Occurrence}
use Rattle.wgsl_model_names.specs.Scopes.{Names}
use Rattle.wgsl_model_minify.specs.Occurrences.{occurrences}
use Rattle.wgsl_minify.specs.declared.options.MinifyOptions.{MinifyOptions}
use Rattle.wgsl_minify.specs.Hosts.{host_names}
use Rattle.wgsl_minify.proofs.names.new_names.Goals as goal

-- what is chosen serves
serves : (unit : TranslationUnit) (options : MinifyOptions) (names lent : List Occurrence) (keep kept : List (Bor (List ℕ)))
    (list : List (String Global × String Global)) → lent ≡ names
    → map occurrence_view names ≡ occurrences (unit_names (unit_view unit))
    → kept ≡ keep → texts keep ≡ host_names (unit_view unit) ++ texts options.keep.now
    → ((all : Names) → map occurrence_view lent ≡ occurrences all
    → AreNewNames (which_view options.names) (texts kept) all (table_view list))
    → AreNewNames (which_view options.names) (host_names (unit_view unit) ++ texts options.keep.now)
    (unit_names (unit_view unit)) (table_view list)
serves unit options names lent keep kept list n o k t chosen =
    subst (λ (keep : List (List ℕ)). AreNewNames (which_view options.names) keep (unit_names (unit_view unit)) (table_view list))
    (ap texts k ∙ t) (chosen (unit_names (unit_view unit)) (ap (map occurrence_view) n ∙ o))

pub table_of-requires : goal.table_of-requires
table_of-requires c = (serves c.args.unit.now c.args.options c.in_ok-names.names.items c.deref.result.now
    c.in_ok-keep.keep.items c.deref-2.result.now c.in_ok-list.list.items c.deref.ensures.value c.in_ok-names.ensures
    c.deref-2.ensures.value c.in_ok-keep.ensures c.in_ok-list.ensures).once

pub returns : goal.returns
returns c = subst (AreNewNames (which_view c.args.options.names)
    (host_names (unit_view c.args.unit.now) ++ texts c.args.options.keep.now)
    (unit_names (unit_view c.args.unit.now))) (sym c.in_ok-table.ensures)
    (serves c.args.unit.now c.args.options c.in_ok-names.names.items c.deref.result.now
    c.in_ok-keep.keep.items c.deref-2.result.now c.in_ok-list.list.items c.deref.ensures.value c.in_ok-names.ensures
    c.deref-2.ensures.value c.in_ok-keep.ensures c.in_ok-list.ensures)
