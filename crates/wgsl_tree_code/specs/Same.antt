-- When two trees are equal: when their codes are the same but for spans.
use Rattle.std.specs.Prelude.{ℕ, Bool, true, false, ◌&&◌, ◌==◌, List, [], ◌∷◌, codes, bytes_eq, if◌then◌else◌}
use Rattle.std.specs.Ordering.{int_eq}
use Rattle.std.specs.Bool.{beq}
use Rattle.std.specs.Cmp.Lexicographic.{pointwise}
use Rattle.wgsl_tree_code.specs.Code.{Code, absent, boolean, number, text, list, node, Codes, no_codes, code_before, Fields, no_fields, field, natural, pair_of}

-- whether a field has the span of a node
abbrev pub is_span : List ℕ → Bool
is_span name = bytes_eq name (codes "span")

abbrev mutual
  -- a code with 0 to 0 in place of each span
  pub spanless : Code → Code
  spanless absent = absent
  spanless (boolean b) = boolean b
  spanless (number n) = number n
  spanless (text bytes) = text bytes
  spanless (list items) = list (spanless_items items)
  spanless (node fields) = node (spanless_fields fields)

  pub spanless_items : Codes → Codes
  spanless_items no_codes = no_codes
  spanless_items (code_before c cs) = code_before (spanless c) (spanless_items cs)

  pub spanless_fields : Fields → Fields
  spanless_fields no_fields = no_fields
  spanless_fields (field name value fs) =
      field name (if is_span name then pair_of (natural 0) (natural 0) else spanless value) (spanless_fields fs)

abbrev mutual
  -- whether two codes are one
  pub identical : Code → Code → Bool
  identical absent absent = true
  identical (boolean a) (boolean b) = beq a b
  identical (number m) (number n) = int_eq m n
  identical (text s) (text t) = pointwise ◌==◌ s t
  identical (list cs) (list ds) = identical_items cs ds
  identical (node fs) (node gs) = identical_fields fs gs
  identical c d = false

  pub identical_items : Codes → Codes → Bool
  identical_items no_codes no_codes = true
  identical_items (code_before c cs) (code_before d ds) = identical c d && identical_items cs ds
  identical_items cs ds = false

  pub identical_fields : Fields → Fields → Bool
  identical_fields no_fields no_fields = true
  identical_fields (field name c no_fields) (field other d no_fields) = pointwise ◌==◌ name other && identical c d
  identical_fields (field name c (field n1 c1 fs)) (field other d (field m1 d1 gs)) =
      pointwise ◌==◌ name other && (identical c d && identical_fields (field n1 c1 fs) (field m1 d1 gs))
  identical_fields fs gs = false

-- whether two codes are the same but for spans
abbrev pub same : Code → Code → Bool
same c d = identical (spanless c) (spanless d)
