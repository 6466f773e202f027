-- How the parts of a text make a path or a fault.
use Rattle.std.proofs.Common.{ℕ, suc, ◌+◌, ◌≡◌, refl, sym, ◌∙◌, ap, List, [], ◌∷◌, Bool, not, cond, true, false, None, Ok, length, take, drop, codes, arith}
use Rattle.std.specs.Str.{bytes_eq}
use Rattle.std.specs.List.{filter_map, cons_option, prefix_len}
use Rattle.wgsl_model.specs.Tokens.Words.{look_up}
use Rattle.wgsl_model.specs.Trees.Paths.{PathOrigin, PathFault, first_words, unless_faults, path_from, levels}

-- how many `super` are first

pub is_other : (same : Bool) → true ≡ not same → same ≡ false
is_other true e = e
is_other false e = refl

pub is_same : (same : Bool) → false ≡ not same → same ≡ true
is_same true e = refl
is_same false e = e

abbrev supers : List (List ℕ) → ℕ
supers parts = prefix_len (λ part. bytes_eq part (codes "super")) parts

pub levels_other : (part : List ℕ) (parts : List (List ℕ)) → bytes_eq part (codes "super") ≡ false
    → levels (part ∷ parts) ≡ 0
levels_other part parts other = ap (λ is. length (take (cond is (1 + supers parts) 0) (part ∷ parts))) other

pub levels_suc : (part : List ℕ) (parts : List (List ℕ)) → bytes_eq part (codes "super") ≡ true
    → levels (part ∷ parts) ≡ suc (levels parts)
levels_suc part parts same =
    let next : 1 + supers parts ≡ suc (supers parts) = omega arith in
    ap (λ is. length (take (cond is (1 + supers parts) 0) (part ∷ parts))) same
    ∙ ap (λ n. length (take n (part ∷ parts))) next

pub levels_super : (part : List ℕ) (parts : List (List ℕ)) → bytes_eq part (codes "super") ≡ true
    → levels (part ∷ parts) ≡ levels parts + 1
levels_super part parts same = levels_suc part parts same ∙ omega arith

pub after_super : (part : List ℕ) (parts : List (List ℕ)) → bytes_eq part (codes "super") ≡ true
    → drop (levels (part ∷ parts)) (part ∷ parts) ≡ drop (levels parts) parts
after_super part parts same = ap (λ n. drop n (part ∷ parts)) (levels_suc part parts same)

-- the components and the faults among them

abbrev pub faults : List (List ℕ) → List PathFault
faults parts = filter_map (look_up first_words) parts

pub fault_free : (part : List ℕ) (parts : List (List ℕ)) → look_up first_words part ≡ None
    → faults (part ∷ parts) ≡ faults parts
fault_free part parts free = ap (λ fault. cons_option fault (faults parts)) free

pub accepted : (parts names : List (List ℕ)) → faults parts ≡ [] → names ≡ parts → (origin : PathOrigin)
    → path_from origin parts ≡ Ok (record { origin = origin; components = names })
accepted parts names none same origin =
    ap (λ found. unless_faults found (record { origin = origin; components = parts })) none
    ∙ ap (λ list. Ok (record { origin = origin; components = list })) (sym same)
