-- Patterns with the classes of what they spell: the longest front of a text that one of them
-- spells.
use Rattle.std.proofs.Common.{◌≡◌, ℕ, Bool, true, false, cond, ◌||◌, refl, sym, List, [], ◌∷◌, ◌++◌, Option, Some, None, ap, ◌∙◌}
use Rattle.std.specs.Prelude.{unwrap_or}
use Rattle.wgsl_model.specs.Tokens.Pattern.{Pattern, nothing, empty, one, any, both, either, or_else, begins, spells, after_longest, after_spelling}
use Rattle.wgsl_lex_scanner.specs.Digits.{skip_while}
use Rattle.wgsl_lex_scanner.proofs.Derivative.{after, nullable}
use Rattle.wgsl_lex_scanner.proofs.Steps.{spells-nil, spells-cons, same_tests}

-- the class of the first pattern that spells a word
abbrev pub first_spelled : List (Pattern × ℕ) → List ℕ → Option ℕ
first_spelled [] word = None
first_spelled (p ∷ ps) word = cond (spells p.0 word) (Some p.1) (first_spelled ps word)

-- the class of the first pattern that spells the empty word
abbrev pub first_nullable : List (Pattern × ℕ) → Option ℕ
first_nullable [] = None
first_nullable (p ∷ ps) = cond (nullable p.0) (Some p.1) (first_nullable ps)

-- a pattern more, if it spells something
abbrev pub with_pattern : Pattern → ℕ → List (Pattern × ℕ) → List (Pattern × ℕ)
with_pattern nothing class ps = ps
with_pattern empty class ps = (empty, class) ∷ ps
with_pattern (one p) class ps = (one p, class) ∷ ps
with_pattern (any p) class ps = (any p, class) ∷ ps
with_pattern (both a b) class ps = (both a b, class) ∷ ps
with_pattern (either a b) class ps = (either a b, class) ∷ ps

-- what may follow the character
abbrev pub after_each : ℕ → List (Pattern × ℕ) → List (Pattern × ℕ)
after_each c [] = []
after_each c (p ∷ ps) = with_pattern (after c p.0) p.1 (after_each c ps)

-- a class, if there is one, with a rest
abbrev pub with_rest : Option ℕ → List ℕ → Option (ℕ × List ℕ)
with_rest None rest = None
with_rest (Some class) rest = Some (class, rest)

-- the class and the rest of the longest front that one of the patterns spells
unfoldable pub longest_of : List (Pattern × ℕ) → List ℕ → Option (ℕ × List ℕ)
longest_of ps [] = with_rest (first_nullable ps) []
longest_of ps (c ∷ cs) = or_else (longest_of (after_each c ps) cs) (with_rest (first_nullable ps) (c ∷ cs))

-- ---- a character at a time

first_spelled-with : (p : Pattern) (class : ℕ) (ps : List (Pattern × ℕ)) (w : List ℕ)
    → first_spelled (with_pattern p class ps) w ≡ cond (spells p w) (Some class) (first_spelled ps w)
unfolding begins
first_spelled-with nothing class ps w = refl
first_spelled-with empty class ps w = refl
first_spelled-with (one p) class ps w = refl
first_spelled-with (any p) class ps w = refl
first_spelled-with (both a b) class ps w = refl
first_spelled-with (either a b) class ps w = refl

pub first_spelled-nil : (ps : List (Pattern × ℕ)) → first_spelled ps [] ≡ first_nullable ps
first_spelled-nil [] = refl
first_spelled-nil (p ∷ ps) = ap (λ b. cond b (Some p.1) (first_spelled ps [])) (spells-nil p.0)
    ∙ ap (cond (nullable p.0) (Some p.1)) (first_spelled-nil ps)

pub first_spelled-cons : (ps : List (Pattern × ℕ)) (c : ℕ) (w : List ℕ)
    → first_spelled ps (c ∷ w) ≡ first_spelled (after_each c ps) w
first_spelled-cons [] c w = refl
first_spelled-cons (p ∷ ps) c w =
    ap (λ b. cond b (Some p.1) (first_spelled ps (c ∷ w))) (spells-cons p.0 c w)
    ∙ ap (cond (spells (after c p.0) w) (Some p.1)) (first_spelled-cons ps c w)
    ∙ sym (first_spelled-with (after c p.0) p.1 (after_each c ps) w)

-- ---- the longest front

abbrev pub is_found : {A : Type 0} → Option A → Bool
is_found None = false
is_found (Some x) = true

-- the rest that was found
abbrev pub rest_of : Option (ℕ × List ℕ) → Option (List ℕ)
rest_of None = None
rest_of (Some found) = Some found.1

found_here : (o : Option ℕ) (s : List ℕ) → cond (is_found o) (Some s) None ≡ rest_of (with_rest o s)
found_here None s = refl
found_here (Some class) s = refl

found_further : (found : Option (ℕ × List ℕ)) (o : Option ℕ) (s : List ℕ)
    → or_else (rest_of found) (cond (is_found o) (Some s) None) ≡ rest_of (or_else found (with_rest o s))
found_further None o s = found_here o s
found_further (Some found) o s = refl

longest-rest : (ps : List (Pattern × ℕ)) (text : List ℕ)
    → after_longest (λ w. is_found (first_spelled ps w)) text ≡ rest_of (longest_of ps text)
unfolding after_longest longest_of
longest-rest ps [] = ap (λ o. cond (is_found o) (Some []) None) (first_spelled-nil ps)
    ∙ found_here (first_nullable ps) []
longest-rest ps (c ∷ cs) =
    ap (λ x. or_else x (cond (is_found (first_spelled ps [])) (Some (c ∷ cs)) None))
    (same_tests (λ w. is_found (first_spelled ps (c ∷ w))) (λ w. is_found (first_spelled (after_each c ps) w))
    (λ w. ap (λ o. is_found o) (first_spelled-cons ps c w)) cs ∙ longest-rest (after_each c ps) cs)
    ∙ ap (λ o. or_else (rest_of (longest_of (after_each c ps) cs)) (cond (is_found o) (Some (c ∷ cs)) None))
    (first_spelled-nil ps)
    ∙ found_further (longest_of (after_each c ps) cs) (first_nullable ps) (c ∷ cs)

-- one of the patterns
abbrev union : Pattern × ℕ → List (Pattern × ℕ) → Pattern
union p [] = p.0
union p (q ∷ ps) = either p.0 (union q ps)

spelled_or : (b : Bool) (class : ℕ) (o : Option ℕ) → (b || is_found o) ≡ is_found (cond b (Some class) o)
spelled_or true class o = refl
spelled_or false class o = refl

found_if : (b : Bool) (class : ℕ) → b ≡ is_found (cond b (Some class) None)
found_if true class = refl
found_if false class = refl

spells-union : (p : Pattern × ℕ) (ps : List (Pattern × ℕ)) (w : List ℕ)
    → spells (union p ps) w ≡ is_found (first_spelled (p ∷ ps) w)
unfolding begins
spells-union p [] w = found_if (spells p.0 w) p.1
spells-union p (q ∷ ps) w = ap (λ b. spells p.0 w || b) (spells-union q ps w)
    ∙ spelled_or (spells p.0 w) p.1 (first_spelled (q ∷ ps) w)

abbrev pub union_of : List (Pattern × ℕ) → Pattern
union_of [] = nothing
union_of (p ∷ ps) = union p ps

spells-union_of : (ps : List (Pattern × ℕ)) (w : List ℕ) → spells (union_of ps) w ≡ is_found (first_spelled ps w)
unfolding begins
spells-union_of [] w = refl
spells-union_of (p ∷ ps) w = spells-union p ps w

-- what one of the patterns leaves
pub after_spelling-union : (ps : List (Pattern × ℕ)) (text : List ℕ)
    → after_spelling (union_of ps) text ≡ rest_of (longest_of ps text)
unfolding after_spelling
after_spelling-union ps text =
    same_tests (spells (union_of ps)) (λ w. is_found (first_spelled ps w)) (spells-union_of ps) text
    ∙ longest-rest ps text

spelled_append : (b : Bool) (class : ℕ) (o further whole : Option ℕ)
    → (is_found o || is_found further) ≡ is_found whole
    → (is_found (cond b (Some class) o) || is_found further) ≡ is_found (cond b (Some class) whole)
spelled_append true class o further whole e = refl
spelled_append false class o further whole e = e

first_spelled-append : (ps qs : List (Pattern × ℕ)) (w : List ℕ)
    → (is_found (first_spelled ps w) || is_found (first_spelled qs w)) ≡ is_found (first_spelled (ps ++ qs) w)
first_spelled-append [] qs w = refl
first_spelled-append (p ∷ ps) qs w = spelled_append (spells p.0 w) p.1 (first_spelled ps w)
    (first_spelled qs w) (first_spelled (ps ++ qs) w) (first_spelled-append ps qs w)

spells-either : (ps qs : List (Pattern × ℕ)) (w : List ℕ)
    → spells (either (union_of ps) (union_of qs)) w ≡ is_found (first_spelled (ps ++ qs) w)
unfolding begins
spells-either ps qs w =
    ap (λ b. b || spells (union_of qs) w) (spells-union_of ps w)
    ∙ ap (λ b. is_found (first_spelled ps w) || b) (spells-union_of qs w) ∙ first_spelled-append ps qs w

-- the same of two lists
pub after_spelling-either : (ps qs : List (Pattern × ℕ)) (text : List ℕ)
    → after_spelling (either (union_of ps) (union_of qs)) text ≡ rest_of (longest_of (ps ++ qs) text)
unfolding after_spelling
after_spelling-either ps qs text = same_tests (spells (either (union_of ps) (union_of qs)))
    (λ w. is_found (first_spelled (ps ++ qs) w)) (spells-either ps qs) text ∙ longest-rest (ps ++ qs) text

-- a front that the first of the patterns with this class spells, and its rest
abbrev pub IsCut : List (Pattern × ℕ) → List ℕ → ℕ × List ℕ → Type 0
IsCut ps text found = (front : List ℕ) × (text ≡ front ++ found.1) × (first_spelled ps front ≡ Some found.0)

cut_here : (ps : List (Pattern × ℕ)) (o : Option ℕ) (text : List ℕ) (found : ℕ × List ℕ)
    → first_nullable ps ≡ o → with_rest o text ≡ Some found → IsCut ps text found
cut_here ps None text found n e = absurd (cc)
cut_here ps (Some class) text found n e =
    let same : (class, text) ≡ found = cc in
    ([], ap (λ (x : ℕ × List ℕ). x.1) same, first_spelled-nil ps ∙ n ∙ ap (λ (x : ℕ × List ℕ). Some x.0) same)

cut_further : (ps : List (Pattern × ℕ)) (c : ℕ) (cs : List ℕ) (further : Option (ℕ × List ℕ)) (found : ℕ × List ℕ)
    → ((found : ℕ × List ℕ) → further ≡ Some found → IsCut (after_each c ps) cs found)
    → or_else further (with_rest (first_nullable ps) (c ∷ cs)) ≡ Some found → IsCut ps (c ∷ cs) found
cut_further ps c cs None found h e = cut_here ps (first_nullable ps) (c ∷ cs) found refl e
cut_further ps c cs (Some other) found h e =
    let (front, whole, spelled) = h found e in
    (c ∷ front, ap (λ xs. c ∷ xs) whole, first_spelled-cons ps c front ∙ spelled)

pub longest-cut : (ps : List (Pattern × ℕ)) (text : List ℕ) (found : ℕ × List ℕ)
    → longest_of ps text ≡ Some found → IsCut ps text found
unfolding longest_of
longest-cut ps [] found e = cut_here ps (first_nullable ps) [] found refl e
longest-cut ps (c ∷ cs) found e = cut_further ps c cs (longest_of (after_each c ps) cs) found
    (longest-cut (after_each c ps) cs) e

-- ---- walking over a text

pub longest-nil : (ps : List (Pattern × ℕ)) → longest_of ps [] ≡ with_rest (first_nullable ps) []
unfolding longest_of
longest-nil ps = refl

longest-cons : (ps : List (Pattern × ℕ)) (c : ℕ) (cs : List ℕ) → longest_of ps (c ∷ cs)
    ≡ or_else (longest_of (after_each c ps) cs) (with_rest (first_nullable ps) (c ∷ cs))
unfolding longest_of
longest-cons ps c cs = refl

longest-nothing : (s : List ℕ) → longest_of [] s ≡ None
longest-nothing [] = longest-nil []
longest-nothing (c ∷ cs) = longest-cons [] c cs ∙ ap (λ o. or_else o None) (longest-nothing cs)

-- no character goes on: what is there is the longest front, or there is none
pub longest-stop : (ps : List (Pattern × ℕ)) (c : ℕ) (cs : List ℕ) → after_each c ps ≡ []
    → longest_of ps (c ∷ cs) ≡ with_rest (first_nullable ps) (c ∷ cs)
longest-stop ps c cs e = longest-cons ps c cs
    ∙ ap (λ qs. or_else (longest_of qs cs) (with_rest (first_nullable ps) (c ∷ cs))) e
    ∙ ap (λ o. or_else o (with_rest (first_nullable ps) (c ∷ cs))) (longest-nothing cs)

-- the character goes on
pub longest-go : (ps qs : List (Pattern × ℕ)) (c : ℕ) (cs : List ℕ) (found : ℕ × List ℕ)
    → after_each c ps ≡ qs → longest_of qs cs ≡ Some found → longest_of ps (c ∷ cs) ≡ Some found
longest-go ps qs c cs found e h = longest-cons ps c cs
    ∙ ap (λ rs. or_else (longest_of rs cs) (with_rest (first_nullable ps) (c ∷ cs))) e
    ∙ ap (λ o. or_else o (with_rest (first_nullable ps) (c ∷ cs))) h

or_this : {A : Type 0} (o : Option A) (x : A) → or_else o (Some x) ≡ Some (unwrap_or o x)
or_this None x = refl
or_this (Some y) x = refl

or_none : {A : Type 0} (o : Option A) → or_else o None ≡ o
or_none None = refl
or_none (Some y) = refl

-- the character goes on, or the front ends before it
pub longest-try : (ps qs : List (Pattern × ℕ)) (class c : ℕ) (cs : List ℕ) (o : Option (ℕ × List ℕ))
    → after_each c ps ≡ qs → first_nullable ps ≡ Some class → longest_of qs cs ≡ o
    → longest_of ps (c ∷ cs) ≡ Some (unwrap_or o (class, c ∷ cs))
longest-try ps qs class c cs o e n h =
    longest-cons ps c cs ∙ ap (λ rs. or_else (longest_of rs cs) (with_rest (first_nullable ps) (c ∷ cs))) e
    ∙ ap (λ x. or_else x (with_rest (first_nullable ps) (c ∷ cs))) h
    ∙ ap (λ k. or_else o (with_rest k (c ∷ cs))) n ∙ or_this o (class, c ∷ cs)

-- the character goes on, and no front ends before it
pub longest-must : (ps qs : List (Pattern × ℕ)) (c : ℕ) (cs : List ℕ) → after_each c ps ≡ qs
    → first_nullable ps ≡ None → longest_of ps (c ∷ cs) ≡ longest_of qs cs
longest-must ps qs c cs e n =
    longest-cons ps c cs ∙ ap (λ rs. or_else (longest_of rs cs) (with_rest (first_nullable ps) (c ∷ cs))) e
    ∙ ap (λ k. or_else (longest_of qs cs) (with_rest k (c ∷ cs))) n ∙ or_none (longest_of qs cs)

pub longest-alone : (class : ℕ) (s : List ℕ) → longest_of ((empty, class) ∷ []) s ≡ Some (class, s)
longest-alone class [] = longest-nil ((empty, class) ∷ [])
longest-alone class (c ∷ cs) = longest-stop ((empty, class) ∷ []) c cs refl

-- ---- a run of characters

some_of : (found : Option (ℕ × List ℕ)) (class : ℕ) (s : List ℕ)
    → (x : ℕ × List ℕ) × (or_else found (Some (class, s)) ≡ Some x)
some_of None class s = ((class, s), refl)
some_of (Some x) class s = (x, refl)

longest-nullable : (ps : List (Pattern × ℕ)) (class : ℕ) (s : List ℕ)
    → first_nullable ps ≡ Some class → (x : ℕ × List ℕ) × (longest_of ps s ≡ Some x)
longest-nullable ps class [] n = ((class, []), longest-nil ps ∙ ap (λ k. with_rest k []) n)
longest-nullable ps class (c ∷ cs) n =
    let (x, e) = some_of (longest_of (after_each c ps) cs) class (c ∷ cs) in
    (x, longest-cons ps c cs ∙ ap (λ k. or_else (longest_of (after_each c ps) cs) (with_rest k (c ∷ cs))) n ∙ e)

stays : (ps : List (Pattern × ℕ)) (o : Option ℕ) (c : ℕ) (cs : List ℕ) → after_each c ps ≡ ps
    → first_nullable ps ≡ o → longest_of ps (c ∷ cs) ≡ longest_of ps cs
stays ps None c cs e n = longest-must ps ps c cs e n
stays ps (Some class) c cs e n =
    let (x, h) = longest-nullable ps class cs n in
    longest-go ps ps c cs x e h ∙ sym h

run_one : (p : ℕ → Bool) (b : Bool) (ps : List (Pattern × ℕ)) (c : ℕ) (cs : List ℕ) → p c ≡ b
    → ((d : ℕ) → p d ≡ true → after_each d ps ≡ ps) → longest_of ps cs ≡ longest_of ps (skip_while p cs)
    → longest_of ps (c ∷ cs) ≡ longest_of ps (skip_while p (c ∷ cs))
unfolding skip_while
run_one p true ps c cs e step rest = stays ps (first_nullable ps) c cs (step c e) refl ∙ rest ∙ rw e refl
run_one p false ps c cs e step rest = rw e refl

-- patterns that stay as they are over the characters of a run go on after the run
pub longest-run : (p : ℕ → Bool) (ps : List (Pattern × ℕ)) → ((c : ℕ) → p c ≡ true → after_each c ps ≡ ps)
    → (s : List ℕ) → longest_of ps s ≡ longest_of ps (skip_while p s)
unfolding skip_while
longest-run p ps step [] = refl
longest-run p ps step (c ∷ cs) = run_one p (p c) ps c cs refl step (longest-run p ps step cs)
