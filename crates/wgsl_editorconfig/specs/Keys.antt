-- The keys of properties.
use Rattle.std.specs.Prelude.{ℕ, Bool, List, [], ◌∷◌, Option, codes}
use Rattle.std.specs.List.{find}
use Rattle.std.specs.Str.{str_eq_ignore_ascii_case}
use Rattle.wgsl_editorconfig.specs.declared.key.Key.{Key}
use Rattle.wgsl_editorconfig.specs.declared.key.Key.TheVariants.{Root, IndentStyle, IndentSize, TabWidth, MaxLineLength, EndOfLine}

-- a text is a word, in capitals or not
abbrev pub is_word : List ℕ → List ℕ → Bool
is_word word text = str_eq_ignore_ascii_case text word

-- the name of a key
abbrev pub key_text : Key → List ℕ
key_text Root = codes "root"
key_text IndentStyle = codes "indent_style"
key_text IndentSize = codes "indent_size"
key_text TabWidth = codes "tab_width"
key_text MaxLineLength = codes "max_line_length"
key_text EndOfLine = codes "end_of_line"

-- the key with a name
abbrev pub key_of : List ℕ → Option Key
key_of name = find (λ key. is_word (key_text key) name)
    (Root ∷ IndentStyle ∷ IndentSize ∷ TabWidth ∷ MaxLineLength ∷ EndOfLine ∷ [])
