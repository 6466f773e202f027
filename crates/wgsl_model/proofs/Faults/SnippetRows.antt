-- Snippets of worked sources, computed.
use lib.Utf8.{encode}
use Rattle.std.proofs.Common.{◌≡◌, refl, ℕ, List, codes}
use Rattle.std.specs.Fmt.{digits}
use Rattle.std.specs.Str.{encode_utf8_all}
use Rattle.wgsl_model.specs.Faults.Snippets.{snippet}

-- the snippet of an invalid token from a place up to another
abbrev row : List ℕ → ℕ → ℕ → List ℕ
row source start end = snippet (codes "invalid token") source (record { start = start; end = end })

-- the bytes of a text
abbrev text : List ℕ → List ℕ
text characters = encode_utf8_all characters

pub one_character : row (codes "const x = 1 #;") 12 13
    ≡ text (codes "error: invalid token\n --> line 1, column 13\nconst x = 1 #;\n            ^")
unfolding digits encode
one_character = refl

pub several_characters : row (codes "let abc;") 4 7
    ≡ text (codes "error: invalid token\n --> line 1, column 5\nlet abc;\n    ^^^")
unfolding digits encode
several_characters = refl

pub start_in_a_character : row (codes "a€\nb") 2 3 ≡ text (codes "error: invalid token\n --> line 1, column 2\na€\n ^")
unfolding digits encode
start_in_a_character = refl

pub end_past_the_source : row (codes "a€\nb") 1 9 ≡ text (codes "error: invalid token\n --> line 1, column 2\na€\n ^")
unfolding digits encode
end_past_the_source = refl

pub empty_source : row (codes "") 0 1 ≡ text (codes "error: invalid token\n --> line 1, column 1\n\n^")
unfolding digits encode
empty_source = refl

pub over_two_lines : row (codes "ab\ncd\nef") 4 8 ≡ text (codes "error: invalid token\n --> line 2, column 2\ncd\n ^")
unfolding digits encode
over_two_lines = refl

pub at_a_line_end : row (codes "ab\ncd") 2 4 ≡ text (codes "error: invalid token\n --> line 1, column 3\nab\n  ^")
unfolding digits encode
at_a_line_end = refl

pub after_the_last_line_end : row (codes "ab\n") 3 4 ≡ text (codes "error: invalid token\n --> line 2, column 1\n\n^")
unfolding digits encode
after_the_last_line_end = refl

pub before_a_carriage_return : row (codes "a\r\nb") 1 4
    ≡ text (codes "error: invalid token\n --> line 1, column 2\na\r\n ^")
unfolding digits encode
before_a_carriage_return = refl

pub after_a_tab : row (codes "\tx") 1 2 ≡ text (codes "error: invalid token\n --> line 1, column 2\n\tx\n ^")
unfolding digits encode
after_a_tab = refl

pub wide_characters : row (codes "€é𝄞 #") 3 9 ≡ text (codes "error: invalid token\n --> line 1, column 2\n€é𝄞 #\n ^^")
unfolding digits encode
wide_characters = refl

pub start_past_the_source : row (codes "ab") 7 9 ≡ text (codes "error: invalid token\n --> line 1, column 3\nab\n  ^")
unfolding digits encode
start_past_the_source = refl

pub end_before_the_start : row (codes "abc") 2 1 ≡ text (codes "error: invalid token\n --> line 1, column 3\nabc\n  ^")
unfolding digits encode
end_before_the_start = refl
