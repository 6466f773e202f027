use Rattle.std.proofs.Common.{rules, refl}
use Rattle.wgsl_files.specs.Files.{unknown}
use Rattle.wgsl_files.proofs.Listings.{unknown_below, unknown_file, unknown_error}
use Rattle.wgsl_files.proofs.host.HostStoreStore.list.Goals as goal

pub returns-in-Ok : goal.returns-in-Ok
returns-in-Ok g c =
    record {
      listing = unknown_below c.args.path.now c.below.result (search rules) c.below.ensures.ordered;
      failed = unknown_error c.below.result;
    }

pub returns-in_ok-single-in_default : goal.returns-in_ok-single-in_default
returns-in_ok-single-in_default g c =
    record { listing = unknown_file unknown c.args.path.now _ refl c.in_ok-single-in_default.ensures; failed = tt }
