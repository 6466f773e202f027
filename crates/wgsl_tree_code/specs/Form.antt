-- The JSON of named values, without blank space.
use Rattle.std.specs.Prelude.{ℕ, List, [], ◌∷◌, ◌++◌, ◌/◌, ◌%◌, ◌==◌, nat_lt, false, if◌then◌else◌, codes, flat_map}
use Rattle.std.specs.Fmt.{digit_glyph, signed_decimal}
use Rattle.wgsl_tree_code.specs.Code.{Code, absent, boolean, number, text, list, node, Codes, no_codes, code_before, Fields, no_fields, field}

-- a byte of a text: with a `\` before a quotation mark and a `\`, and a control character by its
-- number
abbrev pub escaped_byte : ℕ → List ℕ
escaped_byte b =
    if b == 34 then codes "\\\""
    else if b == 92 then codes "\\\\"
    else if nat_lt b 32 then codes "\\u00" ++ (digit_glyph false (b / 16) ∷ digit_glyph false (b % 16) ∷ [])
    else b ∷ []

-- a text between quotation marks
abbrev pub escaped : List ℕ → List ℕ
escaped bytes = flat_map escaped_byte bytes

abbrev pub quoted : List ℕ → List ℕ
quoted bytes = codes "\"" ++ escaped bytes ++ codes "\""

abbrev mutual
  -- what is written of a value
  pub form : Code → List ℕ
  form absent = codes "null"
  form (boolean b) = if b then codes "true" else codes "false"
  form (number n) = signed_decimal n
  form (text bytes) = quoted bytes
  form (list items) = codes "[" ++ items_form items
  form (node fields) = codes "{" ++ fields_form fields

  -- the items of a list, with a comma between each two, and the bracket that ends it
  pub items_form : Codes → List ℕ
  items_form no_codes = codes "]"
  items_form (code_before c cs) = form c ++ further_items cs

  pub further_items : Codes → List ℕ
  further_items no_codes = codes "]"
  further_items (code_before c cs) = codes "," ++ form c ++ further_items cs

  -- the same of the fields of a node, each after its name
  pub fields_form : Fields → List ℕ
  fields_form no_fields = codes "}"
  fields_form (field name value fs) = quoted name ++ codes ":" ++ form value ++ further_fields fs

  pub further_fields : Fields → List ℕ
  further_fields no_fields = codes "}"
  further_fields (field name value fs) = codes "," ++ quoted name ++ codes ":" ++ form value ++ further_fields fs
