use Rattle.std.proofs.Common.{◌≡◌, List, [], ◌∷◌, refl, map, string_bytes, Result, Ok, Err, IfOk, Vec, String, Global}
use Rattle.std.specs.declared.alloc.AllocError.{AllocError}
use Rattle.std.specs.List.{AllZip}
use Rattle.wgsl_error.proofs.clones.clone_texts.Goals as goal

same_texts : (texts copies : List (String Global))
    → AllZip (λ text copy. string_bytes copy ≡ string_bytes text) texts copies
    → map string_bytes copies ≡ map string_bytes texts
same_texts [] [] same = refl
same_texts (text ∷ texts) (copy ∷ copies) same = λ i. same.0 i ∷ same_texts texts copies same.1 i
same_texts [] (copy ∷ copies) same = absurd same
same_texts (text ∷ texts) [] same = absurd same

copied : (texts : List (String Global)) (r : Result (Vec (String Global) Global) AllocError)
    → IfOk r (λ copy. AllZip (λ text copy. string_bytes copy ≡ string_bytes text) texts copy.items)
    → IfOk r (λ copy. map string_bytes copy.items ≡ map string_bytes texts)
copied texts (Ok copy) same = same_texts texts copy.items same
copied texts (Err e) same = tt

pub returns : goal.returns
returns c = copied c.args.texts.now c.from_clones.result c.from_clones.ensures.items
