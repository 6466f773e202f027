-- What holds of each attribute that has a check of its own, and of any other name, holds of every
-- name.
use Rattle.std.proofs.Common.{◌≡◌, ℕ, ◌+◌, Bool, true, false, cond, List, [], ◌∷◌, ◌++◌, length, drop, Some, None, refl, subst}
use Rattle.std.specs.Prelude.{bytes_eq}
use Rattle.std.proofs.lemmas.Slice.Eq.{bytes_eq-Decides}
use Rattle.wgsl_model.specs.Tokens.Words.{look_up}
use Rattle.wgsl_model.specs.Trees.NamedValues.{WordTable, words_of}
use Rattle.wgsl_model.specs.Trees.Attributes.{OneArgument, one_argument_text, one_argument_attributes, NoArgument, no_argument_text, no_argument_attributes, Attribute, with_argument, without_argument}
use Rattle.wgsl_model.specs.Grammar.Checks.{Checked, Arguments, with_one, with_none, attribute_names, named_attribute}

-- the names that are in neither table of names
abbrev pub further_names : WordTable (Arguments → Checked Attribute)
further_names = drop (length one_argument_attributes + length no_argument_attributes) attribute_names

module _ (Holds : List ℕ → (Arguments → Checked Attribute) → Type 0) where
  -- it holds of each name of a table
  abbrev pub HoldsOfAll : WordTable (Arguments → Checked Attribute) → Type 0
  HoldsOfAll [] = Unit {0}
  HoldsOfAll (entry ∷ entries) = Holds entry.0 entry.1 × HoldsOfAll entries

  of_words : {A : Type 0} (text : A → List ℕ) (check : A → Arguments → Checked Attribute)
      → ((a : A) → Holds (text a) (check a))
      → (values : List A) (others : WordTable (Arguments → Checked Attribute)) → HoldsOfAll others
      → HoldsOfAll (words_of text check values ++ others)
  of_words text check h [] others more = more
  of_words text check h (a ∷ values) others more = (h a, of_words text check h values others more)

  of_name : ((name : List ℕ) → Holds name (named_attribute None name))
      → (table : WordTable (Arguments → Checked Attribute)) → HoldsOfAll table
      → (name : List ℕ) → Holds name (named_attribute (look_up table name) name)
  of_name other [] all name = other name
  of_name other (entry ∷ entries) all name = at (of_name other entries all.1 name) (bytes_eq entry.0 name) refl where
    at : Holds name (named_attribute (look_up entries name) name) → (b : Bool) → bytes_eq entry.0 name ≡ b
        → Holds name (named_attribute (cond b (Some entry.1) (look_up entries name)) name)
    at more true e = subst (λ (n : List ℕ). Holds n entry.1) ((bytes_eq-Decides entry.0 name).0 e) all.0
    at more false e = more

  pub of_each_name : ((name : OneArgument) → Holds (one_argument_text name) (with_one (with_argument name)))
      → ((name : NoArgument) → Holds (no_argument_text name) (with_none (without_argument name)))
      → HoldsOfAll further_names → ((name : List ℕ) → Holds name (named_attribute None name))
      → (name : List ℕ) → Holds name (named_attribute (look_up attribute_names name) name)
  of_each_name one none further other =
      of_name other attribute_names (of_words one_argument_text (λ name. with_one (with_argument name))
      one one_argument_attributes (drop (length one_argument_attributes) attribute_names)
      (of_words no_argument_text
      (λ name. with_none (without_argument name)) none no_argument_attributes further_names further))
