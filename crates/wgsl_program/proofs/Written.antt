-- What was written, one text after another.
use Rattle.std.proofs.Common.{◌≡◌, refl, sym, ap, ◌∙◌, ℕ, Bool, true, false, List, [], ◌++◌, take, drop, Option, subst}
use Rattle.std.proofs.lemmas.List.{append-nil, append_assoc, take-append-drop}
use Rattle.std.proofs.lemmas.Bool.{false≢true}
use Rattle.std.proofs.KnownBytes.{Appends-nil, Appends-trans}
use Rattle.std.specs.Io.KnownBytes.{Appends}
use Rattle.wgsl_program.specs.Written.{Wrote}

module _ (old new : Option (List ℕ)) (text : List ℕ) where
  -- all of a text
  pub wrote_all : (whole : Bool) → Appends old new text → Wrote whole text old new
  wrote_all whole appended =
      record { sent = text; rest = []; parts = sym (append-nil text); all = λ _. refl; appended = appended }

  -- a beginning of it
  pub wrote_some : (n : ℕ) → Appends old new (take n text) → Wrote false text old new
  wrote_some n appended = record {
    sent = take n text;
    rest = drop n text;
    parts = sym (take-append-drop n text);
    all = λ whole. absurd (false≢true whole);
    appended = appended;
  }

-- nothing of no text
pub wrote_none : (whole : Bool) (known : Option (List ℕ)) → Wrote whole [] known known
wrote_none whole known = wrote_all known known [] whole (Appends-nil known)

-- no more after a beginning of a text
pub wrote_no_more : (whole : Bool) (old new : Option (List ℕ)) (first second : List ℕ)
    → Wrote whole first old new → whole ≡ false → Wrote false (first ++ second) old new
wrote_no_more whole old new first second wrote failed = record {
  sent = wrote.sent;
  rest = wrote.rest ++ second;
  parts = ap (λ bs. bs ++ second) wrote.parts ∙ append_assoc wrote.sent wrote.rest second;
  all = λ whole. absurd (false≢true whole);
  appended = wrote.appended;
}

-- another text after one that was written
pub wrote_then : (whole more : Bool) (old between new : Option (List ℕ)) (first second : List ℕ)
    → Wrote whole first old between → whole ≡ true → Wrote more second between new
    → Wrote more (first ++ second) old new
wrote_then whole more old between new first second one went two =
    let sent_all : first ≡ one.sent = one.parts ∙ ap (λ bs. one.sent ++ bs) (one.all went) ∙ append-nil one.sent in
    record {
      sent = first ++ two.sent;
      rest = two.rest;
      parts = ap (λ bs. first ++ bs) two.parts ∙ sym (append_assoc first two.sent two.rest);
      all = two.all;
      appended = Appends-trans old between new first two.sent
          (subst (Appends old between) (sym sent_all) one.appended) two.appended;
    }

-- where all went well, each of two went well
pub wrote_where : (whole less : Bool) (text : List ℕ) (old new : Option (List ℕ))
    → (less ≡ true → whole ≡ true) → Wrote whole text old new → Wrote less text old new
wrote_where whole less text old new each wrote = record {
  sent = wrote.sent;
  rest = wrote.rest;
  parts = wrote.parts;
  all = λ went. wrote.all (each went);
  appended = wrote.appended;
}
