-- The classes in the tables of words hold nothing.
use Rattle.std.proofs.Common.{◌≡◌, ℕ, List, [], ◌∷◌, Option, Some, Bool, true, false, cond, not, ◌&&◌, nat_le, refl}
use Rattle.std.specs.Prelude.{bytes_eq}
use Rattle.std.proofs.lemmas.Bool.{and_parts}
use Rattle.wgsl_model.specs.Tokens.ClassTable.{Ident, AbstractInt, U32, F16, symbols, keywords}
use Rattle.wgsl_model.specs.Tokens.Kind.{plain}
use Rattle.wgsl_model.specs.Tokens.Words.{look_up}
use Rattle.wgsl_lex_token.specs.View.{view_of_class}

-- no name and no number
abbrev holds_nothing : ℕ → Bool
holds_nothing class = not (nat_le AbstractInt class && nat_le class U32) && not (nat_le Ident class && nat_le class F16)

abbrev all_hold_nothing : List (List ℕ × ℕ) → Bool
all_hold_nothing [] = true
all_hold_nothing (entry ∷ entries) = holds_nothing entry.1 && all_hold_nothing entries

no_payload : (a b : Bool) (class : ℕ) → (nat_le AbstractInt class && nat_le class U32) ≡ a
    → (nat_le Ident class && nat_le class F16) ≡ b → (not a && not b) ≡ true
    → view_of_class class ≡ plain class
no_payload true b class e f h = absurd (cc)
no_payload false true class e f h = absurd (cc)
no_payload false false class e f h = rw (e, f) refl

pub view_of_class-plain : (class : ℕ) → holds_nothing class ≡ true → view_of_class class ≡ plain class
view_of_class-plain class h = no_payload (nat_le AbstractInt class && nat_le class U32)
    (nat_le Ident class && nat_le class F16) class refl refl h

class_one : (b : Bool) (entry : List ℕ × ℕ) (rest : Option ℕ) (class : ℕ)
    → cond b (Some entry.1) rest ≡ Some class → holds_nothing entry.1 ≡ true
    → (rest ≡ Some class → holds_nothing class ≡ true) → holds_nothing class ≡ true
class_one true entry rest class e h other = let same : entry.1 ≡ class = cc in rw (← same) h
class_one false entry rest class e h other = other e

class_holds_nothing : (entries : List (List ℕ × ℕ)) (word : List ℕ) (class : ℕ)
    → all_hold_nothing entries ≡ true → look_up entries word ≡ Some class → holds_nothing class ≡ true
class_holds_nothing [] word class h e = absurd (cc)
class_holds_nothing (entry ∷ entries) word class h e =
    let parts = and_parts (holds_nothing entry.1) (all_hold_nothing entries) h in
    class_one (bytes_eq entry.0 word) entry (look_up entries word) class e parts.0
    (λ other. class_holds_nothing entries word class parts.1 other)

pub keyword-plain : (word : List ℕ) (class : ℕ) → look_up keywords word ≡ Some class → view_of_class class ≡ plain class
keyword-plain word class e = view_of_class-plain class (class_holds_nothing keywords word class refl e)

pub symbol-plain : (word : List ℕ) (class : ℕ) → look_up symbols word ≡ Some class → view_of_class class ≡ plain class
symbol-plain word class e = view_of_class-plain class (class_holds_nothing symbols word class refl e)
