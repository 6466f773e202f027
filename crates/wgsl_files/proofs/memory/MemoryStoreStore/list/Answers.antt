use Rattle.std.proofs.Common.{rules}
use Rattle.wgsl_files.proofs.Listings.{folder_listing, file_listing}
use Rattle.wgsl_files.proofs.memory.MemoryStoreStore.list.Goals as goal

pub returns-in_ok-wgsl_below-clause-listing : goal.returns-in_ok-wgsl_below-clause-listing
returns-in_ok-wgsl_below-clause-listing c =
    folder_listing c.args.self.now.files c.args.path.now _ (search rules) (search rules) c.wgsl_below.ensures.ordered

pub returns-in_ok-single-clause-listing : goal.returns-in_ok-single-clause-listing
returns-in_ok-single-clause-listing c = file_listing c.args.self.now.files c.args.path.now _
    (search rules) c.in_ok-single.ensures
