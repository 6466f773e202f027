-- A run holds what it has to where what is due of all that was read goes out.
use Rattle.std.proofs.Common.{◌≡◌, ℕ, ◌<◌, List, Option, sym, subst, ◌∙◌}
use Rattle.std.specs.Prelude.{Result, IfOk, OnOk}
use Rattle.std.specs.Io.KnownBytes.{Appends, IsAtEnd}
use Rattle.std.specs.declared.alloc.Global.{Global}
use Rattle.std.specs.declared.vec.Vec.{Vec}
use Rattle.wgsl_model.specs.Program.{ProcessOutput}
use Rattle.wgsl_format.specs.declared.streams.ReadError.{ReadError}
use Rattle.wgsl_format.specs.declared.report.Report.{Report}
use Rattle.wgsl_format.specs.Ends.{IsInput, IsDue, GoesOut}
use Rattle.wgsl_format.specs.Report.{outcome_of}
use Rattle.wgsl_format.specs.Run.{Runs}
use Rattle.wgsl_format.proofs.Ends.{owed_is, outcome_within, ends_within, unread_status, read_early, unread_spared, end_written}

pub run_holds : {Output : Type 0} (Writes : List ℕ → ProcessOutput → Type 0) (IsMadeOf : List ℕ
    → List ℕ → Type 0) (input left : Option (List ℕ)) (contents : Output → Option (List ℕ))
    (output written : Output) (errors told : Option (List ℕ)) (status : ℕ)
    (read : Result (Vec ℕ Global) ReadError) (report : Report)
    → IfOk read (λ all. IsInput input all.items) → OnOk read (IsAtEnd left)
    → IsDue Writes read (outcome_of report)
    → IfOk read (λ all. (outcome_of report).status ≡ 0 → IsMadeOf all.items (outcome_of report).output)
    → (end : ProcessOutput) × GoesOut (outcome_of report) end × (status ≡ end.status)
    × Appends (contents output) (contents written) end.output × Appends errors told end.errors
    → (0 < (outcome_of report).status → written ≡ output)
    → Runs Writes IsMadeOf input left contents output written errors told status
run_holds Writes IsMadeOf input left contents output written errors told status read report is end
    owed made sent spared =
    let due = outcome_of report in
    let late = unread_status Writes left read due end owed in
    record {
      within = rw sent.2 (ends_within due sent.0 (outcome_within report) sent.1);
      ends = (
        sent.0,
        record { due = due; owed = owed_is Writes input left read due is end owed; written = sent.1 },
        sent.2,
        sent.3,
        sent.4,
      );
      all_read = λ early. read_early left due sent.0 late sent.1 (rw sent.2 at early);
      spared = unread_spared left due (written ≡ output) late spared;
      made = λ zero.
          let went = end_written Writes IsMadeOf input read due sent.0 is owed made sent.1 (sym sent.2 ∙ zero) in (
            went.0,
            sent.0.output,
            went.1,
            subst (λ (o : ProcessOutput). IsMadeOf went.0 o.output) (sym went.3) went.2,
            sent.3,
          );
    }
