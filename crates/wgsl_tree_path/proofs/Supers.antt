-- How many `super` are first, and their text, one more at a time.
use Rattle.std.proofs.Common.{ℕ, zero, suc, ◌+◌, ◌<◌, ◌≡◌, refl, sym, ◌∙◌, ap, List, ◌++◌, replicate, codes, arith}
use Rattle.std.proofs.lemmas.List.{append_assoc}
use Rattle.std.specs.List.{flat_map}
use Rattle.wgsl_model.specs.Trees.Paths.{relative, origin_text}

-- the text of a `super` after another
abbrev further : List ℕ → List ℕ
further word = codes "::" ++ word

last_first : (n : ℕ) → codes "::super" ++ flat_map further (replicate n (codes "super"))
    ≡ flat_map further (replicate n (codes "super")) ++ codes "::super"
last_first zero = refl
last_first (suc n) = ap (λ text. codes "::super" ++ text) (last_first n)
    ∙ sym (append_assoc (codes "::super") (flat_map further (replicate n (codes "super"))) (codes "::super"))

pub one_super_more : (n : ℕ) → 0 < n → origin_text (relative (n + 1)) ≡ origin_text (relative n) ++ codes "::super"
one_super_more zero h = absurd (omega arith)
one_super_more (suc n) h =
    let next : suc n + 1 ≡ suc (suc n) = omega arith in
    ap (λ m. origin_text (relative m)) next ∙ ap (λ text. codes "super" ++ text) (last_first n)
    ∙ sym (append_assoc (codes "super") (flat_map further (replicate n (codes "super"))) (codes "::super"))
