-- What is shown of a line, by how many columns it has.
use Rattle.std.proofs.Common.{ℕ, ◌+◌, ◌-◌, ◌<◌, ◌≤◌, ◌≡◌, ◌∙◌, sym, ap, arith, min, max, if◌then◌else◌, List, ◌++◌, length, take, drop, codes, Result, Ok, Err}
use Rattle.std.proofs.lemmas.Bool.{le-leb, lt-leb}
use Rattle.std.proofs.lemmas.Str.{encodes-chars}
use Rattle.std.specs.Prelude.{IfOk}
use Rattle.std.specs.Str.{chars, encode_utf8_all, IsUtf8}
use Rattle.wgsl_report.specs.Lines.{last_columns, first_columns, marked, shown_line}

-- what holds of a value, if there is one
pub if_ok : {T E : Type 0} (r : Result T E) (P Q : T → Type 0) → ((x : T) → P x → Q x) → IfOk r P → IfOk r Q
if_ok (Ok x) P Q follows holds = follows x holds
if_ok (Err e) P Q follows holds = holds

-- a text is that of its characters
pub whole_text : (bs : List ℕ) → IsUtf8 bs → bs ≡ encode_utf8_all (chars bs)
whole_text bs utf8 = sym (encodes-chars bs utf8)

-- a short front is shown as a whole
pub short_front : (bs : List ℕ) → IsUtf8 bs → length (chars bs) ≤ 60 → bs ≡ last_columns (chars bs)
short_front bs utf8 fits =
    let cs = chars bs in
    whole_text bs utf8 ∙ sym (ap (λ t. if t then encode_utf8_all cs
    else codes "..." ++ encode_utf8_all (drop (length cs - 57) cs)) (le-leb (length cs) 60 fits))

-- and so is a short rest
pub short_back : (bs : List ℕ) → IsUtf8 bs → length (chars bs) ≤ 60 → bs ≡ first_columns (chars bs)
short_back bs utf8 fits =
    let cs = chars bs in
    whole_text bs utf8 ∙ sym (ap (λ t. if t then encode_utf8_all cs
    else encode_utf8_all (take 57 cs) ++ codes "...") (le-leb (length cs) 60 fits))

-- of a longer one the end or the start is shown
pub long_front : (cs : List ℕ) → 60 < length cs
    → codes "..." ++ encode_utf8_all (drop (length cs - 57) cs) ≡ last_columns cs
long_front cs over = sym (ap (λ t. if t then encode_utf8_all cs
    else codes "..." ++ encode_utf8_all (drop (length cs - 57) cs)) (lt-leb (length cs) 60 over))

pub long_back : (cs : List ℕ) → 60 < length cs → encode_utf8_all (take 57 cs) ++ codes "..." ≡ first_columns cs
long_back cs over = sym (ap (λ t. if t then encode_utf8_all cs
    else encode_utf8_all (take 57 cs) ++ codes "...") (lt-leb (length cs) 60 over))

-- a line that is short enough is shown as a whole
pub whole_line : (front back : List ℕ) (before marks carets : ℕ) → IsUtf8 front → IsUtf8 back
    → before ≡ length (chars front) → carets ≡ max marks 1 → before + length (chars back) ≤ 120
    → marked front back before carets ≡ shown_line (chars front) (chars back) marks
whole_line front back before marks carets utf8_front utf8_back before_is carets_is fits =
    let fs = chars front in
    let bs = chars back in
    let all : length fs + length bs ≤ 120 = omega (arith, fits, before_is) in
    ap (λ n. marked front back n carets) before_is
    ∙ ap (λ n. marked front back (length fs) n) carets_is
    ∙ ap (λ t. marked t back (length fs) (max marks 1)) (whole_text front utf8_front)
    ∙ ap (λ t. marked (encode_utf8_all fs) t (length fs) (max marks 1)) (whole_text back utf8_back)
    ∙ sym (ap (λ t. if t then marked (encode_utf8_all fs) (encode_utf8_all bs) (length fs) (max marks 1)
    else marked (last_columns fs) (first_columns bs) (min (length fs) 60) (max (min marks 60) 1))
    (le-leb (length fs + length bs) 120 all))
