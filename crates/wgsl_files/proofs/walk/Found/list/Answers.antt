use Rattle.std.proofs.Common.{◌≡◌, true, rules, string_bytes}
use Rattle.std.specs.Result.{is_ok}
use Rattle.wgsl_files.specs.Folders.{is_listed_below}
use Rattle.wgsl_files.proofs.Listings.{all_pushed}
use Rattle.wgsl_files.proofs.walk.Found.list.Goals as goal

pub invariant_of-self : goal.invariant_of-self
invariant_of-self c =
    let self = c.args.self.now in
    record {
      each = all_pushed (λ path. is_listed_below self.root.now (string_bytes path) ≡ true)
          self.listed.items c.push.new.self.items c.args.path
          (is_ok c.push.result) c.push.ensures.items self.each (search rules);
    }
