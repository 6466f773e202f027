-- Joining is associative, and the path `self` changes nothing.
use Rattle.std.proofs.Common.{◌≡◌, ◌∙◌, ℕ, ◌+◌, ◌-◌, ◌≤◌, List, [], ◌++◌, refl, sym, ap, length, take, codes, ⊎_elim, arith, length-append}
use Rattle.std.proofs.lemmas.Bool.{cases_lt}
use Rattle.std.proofs.lemmas.List.{take-take, take_all, take-append-le, length-take-le, append-nil, append_assoc}
use Rattle.std.proofs.Math.Seq.{take-append-add}
use Rattle.wgsl_model.specs.Trees.Paths.{PathOrigin, absolute, relative, of_package, ModulePath, join_paths, self_path, without_last_names}

abbrev Names : Type 0
Names = List (List ℕ)

abbrev path : PathOrigin → Names → ModulePath
path origin components = record { origin = origin; components = components }

-- the length of names without their last ones, and others after them
kept_length : (m : ℕ) (xs ys : Names) → length (without_last_names m xs ++ ys) ≡ (length xs - m) + length ys
kept_length m xs ys = length-append (without_last_names m xs) ys
    ∙ ap (λ n. n + length ys) (length-take-le (length xs - m) xs (omega arith))

-- Going up from the second names, which are enough, or on into the first.
up_within : (m n : ℕ) (xs ys : Names) → n ≤ length ys → without_last_names n (without_last_names m xs ++ ys)
    ≡ without_last_names (m + (n - length ys)) xs ++ without_last_names n ys
up_within m n xs ys enough =
    let front = without_last_names m xs in
    let count = length-append front ys in
    let all : length (front ++ ys) - n ≡ length front + (length ys - n) = omega arith in
    let none : m ≡ m + (n - length ys) = omega arith in
    ap (λ k. take k (front ++ ys)) all ∙ take-append-add front ys (length ys - n)
    ∙ ap (λ k. without_last_names k xs ++ without_last_names n ys) none

up_beyond : (m n : ℕ) (xs ys : Names) → length ys ≤ n → without_last_names n (without_last_names m xs ++ ys)
    ≡ without_last_names (m + (n - length ys)) xs ++ without_last_names n ys
up_beyond m n xs ys beyond =
    let front = without_last_names m xs in
    let count = kept_length m xs ys in
    let front_count = length-take-le (length xs - m) xs (omega arith) in
    let less = length xs - (m + (n - length ys)) in
    let all : length (front ++ ys) - n ≡ less = omega arith in
    let none : 0 ≡ length ys - n = omega arith in
    ap (λ k. take k (front ++ ys)) all ∙ take-append-le less front ys (omega arith)
    ∙ take-take less (length xs - m) xs (omega arith)
    ∙ sym (append-nil (take less xs)) ∙ ap (λ k. take less xs ++ take k ys) none

up : (m n : ℕ) (xs ys : Names) → without_last_names n (without_last_names m xs ++ ys)
    ≡ without_last_names (m + (n - length ys)) xs ++ without_last_names n ys
up m n xs ys = ⊎_elim (λ less. up_beyond m n xs ys (omega arith))
    (λ enough. up_within m n xs ys enough) (cases_lt (length ys) n)

components : (m n : ℕ) (xs ys zs : Names) → without_last_names n (without_last_names m xs ++ ys) ++ zs
    ≡ without_last_names (m + (n - length ys)) xs ++ (without_last_names n ys ++ zs)
components m n xs ys zs = ap (λ names. names ++ zs) (up m n xs ys)
    ∙ append_assoc (without_last_names (m + (n - length ys)) xs) (without_last_names n ys) zs

levels : (k m n : ℕ) (xs ys : Names)
    → (k + (m - length xs)) + (n - length (without_last_names m xs ++ ys)) ≡ k + ((m + (n - length ys)) - length xs)
levels k m n xs ys = let count = kept_length m xs ys in omega arith

associative : (a b c : PathOrigin) (xs ys zs : Names) → join_paths (join_paths (path a xs) (path b ys))
    (path c zs) ≡ join_paths (path a xs) (join_paths (path b ys) (path c zs))
associative (of_package p) (of_package q) (of_package r) xs ys zs =
    ap (λ name. path (of_package name) zs) (ap (λ name. name ++ r)
    (append_assoc (p ++ codes "/") q (codes "/")) ∙ append_assoc (p ++ codes "/") (q ++ codes "/") r)
associative (relative k) (relative m) (relative n) xs ys zs =
    λ i. path (relative (levels k m n xs ys i)) (components m n xs ys zs i)
associative absolute (relative m) (relative n) xs ys zs = ap (path absolute) (components m n xs ys zs)
associative (of_package p) (relative m) (relative n) xs ys zs = ap (path (of_package p)) (components m n xs ys zs)
associative absolute absolute absolute xs ys zs = refl
associative absolute (of_package q) absolute xs ys zs = refl
associative (relative k) absolute absolute xs ys zs = refl
associative (relative k) (of_package q) absolute xs ys zs = refl
associative (of_package p) absolute absolute xs ys zs = refl
associative a b c xs ys zs = refl

pub joins_associative : (first second third : ModulePath)
    → join_paths (join_paths first second) third ≡ join_paths first (join_paths second third)
joins_associative first second third = associative first.origin second.origin third.origin
    first.components second.components third.components

first_self : (origin : PathOrigin) (names : Names) → join_paths self_path (path origin names) ≡ path origin names
first_self absolute names = refl
first_self (relative n) names =
    let same : 0 + (n - 0) ≡ n = omega arith in
    let none : 0 - n ≡ 0 = omega arith in
    λ i. path (relative (same i)) (take (none i) [] ++ names)
first_self (of_package name) names = refl

pub self_first : (path : ModulePath) → join_paths self_path path ≡ path
self_first path = first_self path.origin path.components

all_kept : (names : Names) → without_last_names 0 names ++ [] ≡ names
all_kept names = append-nil (without_last_names 0 names) ∙ take_all (length names - 0) names (omega arith)

last_self : (origin : PathOrigin) (names : Names) → join_paths (path origin names) self_path ≡ path origin names
last_self absolute names = ap (path absolute) (all_kept names)
last_self (relative m) names =
    let same : m + (0 - length names) ≡ m = omega arith in λ i. path (relative (same i)) (all_kept names i)
last_self (of_package name) names = ap (path (of_package name)) (all_kept names)

pub self_last : (path : ModulePath) → join_paths path self_path ≡ path
self_last path = last_self path.origin path.components
