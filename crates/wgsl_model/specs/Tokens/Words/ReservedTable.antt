-- Written by tools/tables/tokens.py from crates/wgsl_model/tokens: the reserved words.
use Rattle.std.specs.Prelude.{ℕ, List, [], ◌∷◌, codes}

-- the words that no name may be; the list is the library's own, close to the draft's
abbrev pub reserved_words : List (List ℕ)
reserved_words =
    codes "NULL" ∷ codes "Self" ∷ codes "abstract" ∷ codes "active" ∷ codes "alignas" ∷
    codes "alignof" ∷ codes "as" ∷ codes "asm" ∷ codes "asm_fragment" ∷ codes "async" ∷
    codes "attribute" ∷ codes "auto" ∷ codes "await" ∷ codes "become" ∷ codes "binding_array" ∷
    codes "cast" ∷ codes "catch" ∷ codes "class" ∷ codes "co_await" ∷ codes "co_return" ∷
    codes "co_yield" ∷ codes "coherent" ∷ codes "column_major" ∷ codes "common" ∷ codes "compile" ∷
    codes "compile_fragment" ∷ codes "concept" ∷ codes "const_cast" ∷ codes "consteval" ∷
    codes "constexpr" ∷ codes "constinit" ∷ codes "crate" ∷ codes "debugger" ∷ codes "decltype" ∷
    codes "delete" ∷ codes "demote" ∷ codes "demote_to_helper" ∷ codes "do" ∷ codes "dynamic_cast" ∷
    codes "enum" ∷ codes "explicit" ∷ codes "export" ∷ codes "extends" ∷ codes "extern" ∷
    codes "external" ∷ codes "fallthrough" ∷ codes "filter" ∷ codes "final" ∷ codes "finally" ∷
    codes "friend" ∷ codes "from" ∷ codes "fxgroup" ∷ codes "get" ∷ codes "goto" ∷
    codes "groupshared" ∷ codes "highp" ∷ codes "impl" ∷ codes "implements" ∷ codes "import" ∷
    codes "inline" ∷ codes "instanceof" ∷ codes "interface" ∷ codes "layout" ∷ codes "lowp" ∷
    codes "macro" ∷ codes "macro_rules" ∷ codes "match" ∷ codes "mediump" ∷ codes "meta" ∷
    codes "mod" ∷ codes "module" ∷ codes "move" ∷ codes "mut" ∷ codes "mutable" ∷
    codes "namespace" ∷ codes "new" ∷ codes "nil" ∷ codes "noexcept" ∷ codes "noinline" ∷
    codes "nointerpolation" ∷ codes "non_coherent" ∷ codes "noncoherent" ∷ codes "noperspective" ∷
    codes "null" ∷ codes "nullptr" ∷ codes "of" ∷ codes "operator" ∷ codes "package" ∷
    codes "packoffset" ∷ codes "partial" ∷ codes "pass" ∷ codes "patch" ∷ codes "pixelfragment" ∷
    codes "precise" ∷ codes "precision" ∷ codes "premerge" ∷ codes "priv" ∷ codes "protected" ∷
    codes "pub" ∷ codes "public" ∷ codes "readonly" ∷ codes "ref" ∷ codes "regardless" ∷
    codes "register" ∷ codes "reinterpret_cast" ∷ codes "require" ∷ codes "resource" ∷
    codes "restrict" ∷ codes "self" ∷ codes "set" ∷ codes "shared" ∷ codes "sizeof" ∷
    codes "smooth" ∷ codes "snorm" ∷ codes "static" ∷ codes "static_assert" ∷ codes "static_cast" ∷
    codes "std" ∷ codes "subroutine" ∷ codes "super" ∷ codes "target" ∷ codes "template" ∷
    codes "this" ∷ codes "thread_local" ∷ codes "throw" ∷ codes "trait" ∷ codes "try" ∷
    codes "type" ∷ codes "typedef" ∷ codes "typeid" ∷ codes "typename" ∷ codes "typeof" ∷
    codes "union" ∷ codes "unless" ∷ codes "unorm" ∷ codes "unsafe" ∷ codes "unsized" ∷
    codes "use" ∷ codes "using" ∷ codes "varying" ∷ codes "virtual" ∷ codes "volatile" ∷
    codes "wgsl" ∷ codes "where" ∷ codes "with" ∷ codes "writeonly" ∷ codes "yield" ∷ []
