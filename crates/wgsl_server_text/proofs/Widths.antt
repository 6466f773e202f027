-- Units of the bytes that a loop has gone over.
use Rattle.std.proofs.Common.{◌≡◌, ap, ℕ, ◌+◌, ◌<◌, ◌≤◌, Bool, true, false, cond, nat_lt, List, length, drop, slice_index, arith}
use Rattle.std.proofs.lemmas.List.{drop_more}
use Rattle.wgsl_server_text.specs.Positions.{is_first, units, width}
use Rattle.wgsl_server_text.specs.declared.encoding.PositionEncoding.{PositionEncoding}
use Rattle.wgsl_server_text.specs.declared.encoding.PositionEncoding.TheVariants as encoding

chosen_small : (b : Bool) (x y most : ℕ) → x ≤ most → y ≤ most → cond b x y ≤ most
chosen_small true x y most h k = h
chosen_small false x y most h k = k

-- a byte has two units at most
pub units_small : (e : PositionEncoding) (b : ℕ) → units e b ≤ 2
units_small encoding.Utf8 b = omega arith
units_small encoding.Utf16 b =
    chosen_small (is_first b) (cond (nat_lt b 240) 1 2) 0 2
    (chosen_small (nat_lt b 240) 1 2 2 (omega arith) (omega arith)) (omega arith)

-- the units of what is left, one byte on
pub width_step : (e : PositionEncoding) (bytes : List ℕ) (i : ℕ) → i < length bytes
    → width e (drop i bytes) ≡ units e (slice_index bytes i) + width e (drop (i + 1) bytes)
width_step e bytes i h = ap (width e) (drop_more bytes i 0 h)
