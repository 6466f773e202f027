use Rattle.std.proofs.Common.{ℕ, ◌++◌, ◌≡◌, ◌<◌, ◌^◌, length, length-append, take, drop, arith, ap, ◌∙◌}
use Rattle.std.proofs.Math.Seq.{take-append_seam, drop-append_seam}
use Rattle.wgsl_print_packed.proofs.reading.split_text.Goals as goal

pub returns-clause-text : goal.returns-clause-text
returns-clause-text c = λ text left e.
    let low : length text < 2 ^ 64 = omega (arith, ap length e, length-append text left) in
    let read = c.in_ok-size.ensures.number (length text) (text ++ left) e in
    let same : c.in_ok-size.size ≡ length text = omega (arith, low, read.0) in
    let front = ap (λ (n : ℕ). take n c.in_ok-size.left.now) same ∙ ap (take (length text)) read.1 in
    let back = ap (λ (n : ℕ). drop n c.in_ok-size.left.now) same ∙ ap (drop (length text)) read.1 in (
      c.split_at.ensures.front ∙ front ∙ take-append_seam text left,
      c.split_at.ensures.back ∙ back ∙ drop-append_seam text left,
    )

pub returns-then-size-length-clause-text : goal.returns-then-size-length-clause-text
returns-then-size-length-clause-text c = λ text left e.
    let low : length text < 2 ^ 64 = omega (arith, ap length e, length-append text left) in
    let read = c.in_ok-size.ensures.number (length text) (text ++ left) e in
    let same : c.in_ok-size.size ≡ length text = omega (arith, low, read.0) in
    omega (arith, same, ap length read.1, length-append text left, c.if-size-length.true)
