-- What a run owes of what it read, and how it can end.
use Rattle.std.proofs.Common.{◌≡◌, ◌⊎◌, inl, inr, ℕ, ◌≤◌, ◌<◌, List, Option, sym, subst, ap, ◌∙◌, arith}
use Rattle.std.specs.Prelude.{Result, Ok, Err, IfOk, OnOk}
use Rattle.std.specs.Io.KnownBytes.{IsAtEnd}
use Rattle.std.specs.declared.alloc.Global.{Global}
use Rattle.std.specs.declared.vec.Vec.{Vec}
use Rattle.wgsl_model.specs.Program.{ProcessOutput}
use Rattle.wgsl_format.specs.declared.streams.ReadError.{ReadError}
use Rattle.wgsl_format.specs.declared.streams.ReadError.TheVariants as unread
use Rattle.wgsl_format.specs.declared.report.Report.{Report}
use Rattle.wgsl_format.specs.declared.report.Report.TheVariants as reports
use Rattle.wgsl_format.specs.Report.{outcome_of}
use Rattle.wgsl_format.specs.Ends.{IsInput, IsDue, IsOwed, IsOwed.all_read, IsOwed.memory_refused, IsOwed.read_failed, GoesOut}

-- what is due of all that a reader gave, or of why it could not be read, is owed
pub owed_is : (Writes : List ℕ → ProcessOutput → Type 0) (input left : Option (List ℕ))
    (read : Result (Vec ℕ Global) ReadError) (due : ProcessOutput)
    → IfOk read (λ all. IsInput input all.items) → OnOk read (IsAtEnd left) → IsDue Writes read due
    → IsOwed Writes input left due
owed_is Writes input left (Ok bytes) due is end (inl asked) = all_read bytes.items due is end asked
owed_is Writes input left (Ok bytes) due is end (inr memory) = subst (IsOwed Writes input left)
    (sym memory) memory_refused
owed_is Writes input left (Err unread.OutOfMemory) due is end memory =
    subst (IsOwed Writes input left) (sym memory) memory_refused
owed_is Writes input left (Err unread.Failed) due is end failed = subst (IsOwed Writes input left)
    (sym failed) read_failed

abbrev status : ProcessOutput → ℕ
status o = o.status

-- the statuses of what a report asks for
pub outcome_within : (report : Report) → (outcome_of report).status ≤ 4
outcome_within (reports.Written text) = omega arith
outcome_within (reports.Refused line) = omega arith
outcome_within reports.NotUtf8 = omega arith
outcome_within (reports.TooDeep line) = omega arith
outcome_within reports.OutOfMemory = omega arith
outcome_within reports.Unread = omega arith

-- the status where what is due went out, or a beginning of it
pub ends_within : (due end : ProcessOutput) → due.status ≤ 4 → GoesOut due end → end.status ≤ 4
ends_within due end within (inl whole) = omega (arith, within, ap status whole)
ends_within due end within (inr part) = omega (arith, ap status part.1)

-- where not all was read, the status is 3 or 4
pub unread_status : (Writes : List ℕ → ProcessOutput → Type 0) (left : Option (List ℕ))
    (read : Result (Vec ℕ Global) ReadError) (due : ProcessOutput)
    → OnOk read (IsAtEnd left) → IsDue Writes read due → IsAtEnd left ⊎ (3 ≤ due.status)
unread_status Writes left (Ok bytes) due end owed = inl end
unread_status Writes left (Err unread.OutOfMemory) due end memory = inr (omega (arith, ap status memory))
unread_status Writes left (Err unread.Failed) due end failed = inr (omega (arith, ap status failed))

-- so it is where what is due went out, or a beginning of it
late_status : (due end : ProcessOutput) → 3 ≤ due.status → GoesOut due end → 3 ≤ end.status
late_status due end late (inl whole) = omega (arith, late, ap status whole)
late_status due end late (inr part) = omega (arith, ap status part.1)

-- with a lower status all was read
pub read_early : (left : Option (List ℕ)) (due end : ProcessOutput)
    → IsAtEnd left ⊎ (3 ≤ due.status) → GoesOut due end → end.status < 3 → IsAtEnd left
read_early left due end (inl read) written early = read
read_early left due end (inr late) written early = absurd (omega (arith, early, late_status due end late written))

-- what is left alone where the status of what is due is not 0
pub unread_spared : (left : Option (List ℕ)) (due : ProcessOutput) (Spared : Type 0)
    → IsAtEnd left ⊎ (3 ≤ due.status) → (0 < due.status → Spared) → IsAtEnd left ⊎ Spared
unread_spared left due Spared (inl read) spared = inl read
unread_spared left due Spared (inr late) spared = inr (spared (omega (arith, late)))

-- what goes out with status 0 is what is due of the bytes that were read, whole: a failed
-- allocation has another status, and so have a read that failed and what was cut
pub end_written : (Writes : List ℕ → ProcessOutput → Type 0) (IsMadeOf : List ℕ → List ℕ → Type 0)
    (input : Option (List ℕ)) (read : Result (Vec ℕ Global) ReadError) (due end : ProcessOutput)
    → IfOk read (λ all. IsInput input all.items) → IsDue Writes read due
    → IfOk read (λ all. due.status ≡ 0 → IsMadeOf all.items due.output) → GoesOut due end → end.status ≡ 0
    → (bytes : List ℕ) × IsInput input bytes × IsMadeOf bytes due.output × (end ≡ due)
end_written Writes IsMadeOf input (Ok bytes) due end is owed made (inl whole) zero =
    (bytes.items, is, made (sym (ap status whole) ∙ zero), whole)
end_written Writes IsMadeOf input (Err unread.OutOfMemory) due end is memory made (inl whole) zero =
    absurd (omega (arith, ap status (whole ∙ memory)))
end_written Writes IsMadeOf input (Err unread.Failed) due end is failed made (inl whole) zero =
    absurd (omega (arith, ap status (whole ∙ failed)))
end_written Writes IsMadeOf input read due end is owed made (inr part) zero = absurd (omega (arith, ap status part.1))
