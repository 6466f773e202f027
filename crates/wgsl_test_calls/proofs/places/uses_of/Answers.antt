use Rattle.wgsl_test_calls.proofs.places.uses_of.Goals as goal

pub returns : goal.returns
returns c = record {
  places = (c.in_ok-found.found, c.in_ok-found.ensures.accepted, c.in_ok-references.ensures);
}
