-- Characters that are in no token but alone.
use Rattle.std.proofs.Common.{◌≡◌, ℕ, false, refl, List, [], ◌∷◌, ◌++◌, lit<}
use Rattle.unicode_ident.proofs.IdentLemmas.{is_xid_start-ascii, is_xid_continue-ascii}
use Rattle.wgsl_model.specs.Tokens.Spelling.{spelling}
use Rattle.wgsl_theory_printed.proofs.Spelling.Split.{goes_on_with}
use Rattle.wgsl_theory_printed.proofs.Spelling.Fronts.{stands_alone}
use Rattle.wgsl_theory_printed.proofs.Spelling.Ends.{no_such}
use Rattle.wgsl_theory_printed.proofs.Spelling.Spellings.{EndsAt}

-- no spelling of more than one character has it
abbrev pub IsAlone : ℕ → Type 0
IsAlone c = goes_on_with c spelling ≡ false

-- no token goes on with one
pub alone_ends : (c x : ℕ) (xs : List ℕ) → IsAlone c → EndsAt (x ∷ xs) c
alone_ends c x [] a z h = no_such c (x ∷ []) z (stands_alone c spelling a x c z h)
alone_ends c x (y ∷ ys) a z h = no_such c (x ∷ (y ∷ ys)) z (stands_alone c spelling a x y (ys ++ (c ∷ z)) h)

-- and none begins with one and goes on
pub alone_before : (c d : ℕ) → IsAlone c → EndsAt (c ∷ []) d
alone_before c d a z h = no_such c [] (d ∷ z) (stands_alone c spelling a c d z h)

-- blank space and line ends
pub space_alone : IsAlone 32
space_alone = rw (is_xid_start-ascii 32 (lit< tt), is_xid_continue-ascii 32 (lit< tt)) refl

pub line_end_alone : IsAlone 10
line_end_alone = rw (is_xid_start-ascii 10 (lit< tt), is_xid_continue-ascii 10 (lit< tt)) refl

pub paren_left_alone : IsAlone 40
paren_left_alone = rw (is_xid_start-ascii 40 (lit< tt), is_xid_continue-ascii 40 (lit< tt)) refl

pub paren_right_alone : IsAlone 41
paren_right_alone = rw (is_xid_start-ascii 41 (lit< tt), is_xid_continue-ascii 41 (lit< tt)) refl

pub comma_alone : IsAlone 44
comma_alone = rw (is_xid_start-ascii 44 (lit< tt), is_xid_continue-ascii 44 (lit< tt)) refl

pub colon_alone : IsAlone 58
colon_alone = rw (is_xid_start-ascii 58 (lit< tt), is_xid_continue-ascii 58 (lit< tt)) refl

pub semicolon_alone : IsAlone 59
semicolon_alone = rw (is_xid_start-ascii 59 (lit< tt), is_xid_continue-ascii 59 (lit< tt)) refl

pub at_alone : IsAlone 64
at_alone = rw (is_xid_start-ascii 64 (lit< tt), is_xid_continue-ascii 64 (lit< tt)) refl

pub bracket_left_alone : IsAlone 91
bracket_left_alone = rw (is_xid_start-ascii 91 (lit< tt), is_xid_continue-ascii 91 (lit< tt)) refl

pub bracket_right_alone : IsAlone 93
bracket_right_alone = rw (is_xid_start-ascii 93 (lit< tt), is_xid_continue-ascii 93 (lit< tt)) refl

pub brace_right_alone : IsAlone 125
brace_right_alone = rw (is_xid_start-ascii 125 (lit< tt), is_xid_continue-ascii 125 (lit< tt)) refl

pub tilde_alone : IsAlone 126
tilde_alone = rw (is_xid_start-ascii 126 (lit< tt), is_xid_continue-ascii 126 (lit< tt)) refl
