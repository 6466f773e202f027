-- The table of keywords and reserved words: what its entries say, and where a word is in it if
-- it is one of them.
use Rattle.std.specs.Prelude.{ℕ, Bool, true, false, ◌==◌, ◌&&◌, List, ◌≡◌, ◌+◌, ◌*◌, ◌-◌, ◌/◌, ◌%◌, length, slice_index, slice_index_or, Option, Some, None, is_none, bytes_eq}
use Rattle.std.specs.List.{list_all}
use denote.Bor.{Bor}
use Rattle.wgsl_model.specs.Tokens.ClassTable as class
use Rattle.wgsl_model.specs.Tokens.Kind.{Kind, named}
use Rattle.wgsl_model.specs.Tokens.Raw.{keyword_or_name}
use Rattle.wgsl_model.specs.Tokens.Words.{look_up, is_word_among, reserved_words}
use Rattle.wgsl_model.specs.Tokens.ClassTable.{keywords}
use Rattle.wgsl_lex_token.specs.View.{class_of_kind, view_of_class}
use Rattle.wgsl_lex_scanner.specs.declared.word_table.Meaning.{Meaning}
use Rattle.wgsl_lex_scanner.specs.declared.word_table.Meaning.TheVariants as meaning
use Rattle.wgsl_lex_scanner.specs.declared.word_table.TheConstants.{MOVES, PLACES}

-- the token of a word other than `_`
unfoldable pub kind_of_name : List ℕ → Kind
kind_of_name word = keyword_or_name (look_up keywords word) word

-- the token of a word by what the table says of it
abbrev pub meant : Option Meaning → List ℕ → Kind
meant None word = named class.Ident word
meant (Some (meaning.Keyword kind)) word = view_of_class (class_of_kind kind)
meant (Some (meaning.Reserved)) word = named class.ReservedWord word

-- ---- places

-- how far the sum of its length and its other characters is moved, by its length and its first
-- character
unfoldable pub moved : ℕ → ℕ → ℕ
moved first size = slice_index MOVES ((first + 2 * size) % 64)

-- its place, by its length and its first, middle and last character
unfoldable pub slot_by : ℕ → ℕ → ℕ → ℕ → ℕ
slot_by size first middle last = slice_index PLACES ((((moved first size + size) + 2 * middle) + 8 * last) % 256)

abbrev pub slot_of : List ℕ → ℕ
slot_of word = slot_by (length word % 64) (slice_index word 0) (slice_index word (length word / 2))
    (slice_index word (length word - 1))

-- ---- entries

abbrev pub Entry : Type 0
Entry = Bor (List ℕ) × Meaning

abbrev pub is_class : Option ℕ → ℕ → Bool
is_class None n = false
is_class (Some m) n = m == n

-- a word is the keyword that is said, or it is reserved and no keyword
abbrev pub says : Meaning → List ℕ → Bool
says (meaning.Keyword kind) word = is_class (look_up keywords word) (class_of_kind kind)
says (meaning.Reserved) word = is_none (look_up keywords word) && is_word_among reserved_words word

-- each entry is what it says
unfoldable pub EntriesHold : List Entry → Type 0
EntriesHold table = list_all (λ (e : Entry). says e.1 e.0.now) table ≡ true

-- a word is at its place
abbrev pub stands : List Entry → Entry → List ℕ → Bool
stands table d word = bytes_eq (slice_index_or table (slot_of word) d).0.now word

-- each keyword and each reserved word is at its place
unfoldable pub HoldsAllWords : List Entry → Type 0
HoldsAllWords table = (d : Entry) → (list_all (λ (e : List ℕ × ℕ). stands table d e.0) keywords
    && list_all (λ word. stands table d word) reserved_words) ≡ true
