-- What is printed of the packed form of a module that a text is: what formatting the text returns.
use Rattle.std.proofs.Common.{ℕ, ◌≡◌, ◌⊎◌, inl, sym, subst, List, [], codes, arith}
use Rattle.std.specs.Str.{IsUtf8, chars}
use Rattle.wgsl_model.specs.Printed.Units.{print_unit}
use Rattle.wgsl_model_packed.specs.Printing.{Prints}
use Rattle.wgsl_buffers.specs.declared.answer.Answer.{Answer}
use Rattle.wgsl_buffers.specs.Answers.{Holds, Lacks}
use Rattle.wgsl_buffers.specs.Kinds.{a_module}
use Rattle.wgsl_buffers.specs.Trees.{module_tree, IsPackedOf}
use Rattle.wgsl_buffers.proofs.PackedKinds.{packed_prints}
use Rattle.wgsl_buffers.specs.Calls.{Formats, PrintsPacked}

pub packed_as_formatted : (depth : ℕ) (text form before buffer : List ℕ) (answer : Answer) (result : ℕ)
    → IsUtf8 text → IsPackedOf module_tree (chars text) form → (result ≡ 0) ⊎ (result ≡ 4)
    → PrintsPacked form before buffer answer result → Formats depth text before buffer answer result
packed_as_formatted depth text form before buffer answer result valid (u, tree, e) status prints =
    let shown = subst (λ f. Prints 0 (codes "$") f (print_unit u) []) (sym e) (packed_prints a_module u) in
    record {
      printed = λ done. let (t, only, holds) = prints.printed done in
          (u, tree, subst (λ x. Holds x buffer answer) (only.1 _ shown) holds);
      refused = λ e. absurd (omega (arith, status, e));
      small = λ lacks. let (t, only, small) = prints.small lacks in
          (u, tree, subst (λ x. Lacks x before buffer answer) (only.1 _ shown) small);
      deeper = λ e. absurd (omega (arith, status, e));
      status = inl (omega (arith, status));
      reads = record {
        not_utf8 = λ e. absurd (omega (arith, status, e));
        memory = λ e. absurd (omega (arith, status, e));
        valid = λ _. valid;
      };
    }
