-- The fields before a message ("Header Part").
use Rattle.std.specs.Prelude.{ℕ, suc, ◌==◌, ◌^◌, not, ◌&&◌, Bool, List, [], ◌∷◌, length, nat_eq, nat_lt, Option, Some, None, codes, if◌then◌else◌}
use Rattle.std.specs.List.{starts_with, fold, slice_split, position_or_len, before_first, after_first}
use Rattle.std.specs.Option.{option_map, option_or}
use Rattle.std.specs.Str.{trim, all_ascii_digits, str_eq_ignore_ascii_case}
use Rattle.std.specs.Str.Parse.{digits_value}

-- two line breaks, after which the fields end
abbrev pub empty_line : List ℕ
empty_line = 13 ∷ 10 ∷ 13 ∷ 10 ∷ []

-- where the fields end, if they do
abbrev pub head_end : List ℕ → Option ℕ
head_end [] = None
head_end (b ∷ bs) = if starts_with nat_eq (b ∷ bs) empty_line then Some 4 else option_map suc (head_end bs)

abbrev pub is_colon : ℕ → Bool
is_colon c = c == 58

abbrev pub is_newline : ℕ → Bool
is_newline c = c == 10

-- the number that a text writes in decimal digits, if it is below 2 ^ 32
abbrev pub number_of : List ℕ → Option ℕ
number_of text =
    if (all_ascii_digits text && not (length text == 0)) && nat_lt (digits_value 10 text) (2 ^ 32)
    then Some (digits_value 10 text) else None

-- the number after the colon of a field with this name
abbrev pub number_in : List ℕ → List ℕ → Option ℕ
number_in name value = if str_eq_ignore_ascii_case name (codes "Content-Length") then number_of value else None

-- the length that a field gives, if it is one of the length
abbrev pub length_of : List ℕ → Option ℕ
length_of field =
    if nat_lt (position_or_len is_colon field) (length field)
    then number_in (trim (before_first is_colon field)) (trim (after_first is_colon field)) else None

-- the length that the first field gives which does
abbrev pub length_in : List ℕ → Option ℕ
length_in head = fold (λ so_far field. option_or so_far (length_of field)) None (slice_split is_newline head)
