use Rattle.std.proofs.Common.{inl, refl}
use Rattle.std.proofs.KnownBytes.{Appends-nil}
use Rattle.wgsl_format.specs.Ends.{nothing_read}
use Rattle.wgsl_format.proofs.Told.{goes_to_errors, goes_to_output, memory_told}
use Rattle.wgsl_format.proofs.report.deliver.Goals as goal

pub returns-in-Written-clause-sent : goal.returns-in-Written-clause-sent
returns-in-Written-clause-sent g c =
    rw (c.in-Written.is, ← c.as_str.ensures.value, ← c.as_bytes.ensures.value)
    (goes_to_output _ _ _ _ _ _ _ c.tell.ensures.1 c.tell.ensures.2)

pub returns-in-Refused-clause-sent : goal.returns-in-Refused-clause-sent
returns-in-Refused-clause-sent g c =
    rw (c.in-Refused.is, ← c.as_bytes-in-Refused.ensures.value)
    (goes_to_errors _ _ _ _ _ _ _ c.tell-in-Refused.ensures.1 c.tell-in-Refused.ensures.2)

pub returns-in-NotUtf8-clause-sent : goal.returns-in-NotUtf8-clause-sent
returns-in-NotUtf8-clause-sent g c = rw c.in-NotUtf8.is
    (goes_to_errors _ _ _ _ _ _ _ c.tell-in-NotUtf8.ensures.1 c.tell-in-NotUtf8.ensures.2)

pub returns-in-TooDeep-clause-sent : goal.returns-in-TooDeep-clause-sent
returns-in-TooDeep-clause-sent g c =
    rw (c.in-TooDeep.is, ← c.as_bytes-in-TooDeep.ensures.value)
    (goes_to_errors _ _ _ _ _ _ _ c.tell-in-TooDeep.ensures.1 c.tell-in-TooDeep.ensures.2)

pub returns-in-OutOfMemory-clause-sent : goal.returns-in-OutOfMemory-clause-sent
returns-in-OutOfMemory-clause-sent g c =
    let told = c.refuse_memory.ensures in
    rw c.in-OutOfMemory.is (told.0, told.1, told.2, memory_told told.0 _ told.1, told.3)

pub returns-in-Unread-clause-sent : goal.returns-in-Unread-clause-sent
returns-in-Unread-clause-sent g c = rw c.in-Unread.is (nothing_read, inl refl, refl, Appends-nil _, Appends-nil _)
