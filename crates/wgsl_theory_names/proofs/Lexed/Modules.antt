-- A renamed module is the module of some text, ignoring spans, so its printed text reads as it.
use Rattle.std.proofs.Common.{◌≡◌, ℕ, true, refl, sym, ap, subst, ◌∙◌, List, [], ◌∷◌, inl, inr}
use Rattle.std.specs.Str.{is_utf8}
use Rattle.grammar.specs.Tokens.{Token}
use Rattle.grammar.specs.Endings.{Ending.finished}
use Rattle.wgsl_model.specs.Tokens.TokenList.{width}
use Rattle.wgsl_model.specs.Trees.Units.{TranslationUnit}
use Rattle.wgsl_model.specs.Trees.StatementsWithoutSpans.{bare_unit}
use Rattle.wgsl_model.specs.Printed.Units.{print_unit}
use Rattle.wgsl_model.specs.Program.{IsUnit, ReadsBack}
use Rattle.wgsl_theory_reread.specs.CanonicalUnits.{canonical, HasTokens}
use Rattle.wgsl_theory_reread.proofs.Trees.SpansUnits.{unit_print_bare}
use Rattle.wgsl_theory_templates.proofs.Reaching.Reach.{Place.outside}
use Rattle.wgsl_theory_templates.proofs.Reaching.Moves.{kinds}
use Rattle.wgsl_theory_templates.proofs.Lexed.Runs.{lexed}
use Rattle.wgsl_theory_templates.proofs.Lexed.Shapes.{IsWrittenShape}
use Rattle.wgsl_theory_templates.proofs.Changes.WrittenShape.{written_shape}
use Rattle.wgsl_theory_printed.proofs.PlainWords.{module_words}
use Rattle.wgsl_theory_printed.proofs.RoundTrip.{printed_is_utf8, printed_tokens}
use Rattle.wgsl_theory_tidy.proofs.Moved.Moved.{moved_unit}
use Rattle.wgsl_model_names.specs.Renamed.{Renaming, renamed_unit}
use Rattle.wgsl_model_names.specs.RenamedTokens.{IsRenamedToken, AreRenamedTokens, FixesUnderscore, GivesIdentifiers}
use Rattle.wgsl_theory_names.proofs.Derived.Derivations.{unit_renames}
use Rattle.wgsl_theory_names.proofs.Derived.RenamedWords.{renamed_parse}
use Rattle.wgsl_theory_names.proofs.Lexed.ByClass.{classes}
use Rattle.wgsl_theory_names.proofs.Lexed.Shape.{kind_classes, source_classes}
use Rattle.wgsl_theory_names.proofs.Lexed.Spelled.{renamed_along}
use Rattle.wgsl_theory_names.proofs.Lexed.SpansUnwritten.{canonical_bare}

-- renamed tokens have the same classes
same_class : (f : Renaming) (t u : Token) → IsRenamedToken f t u → u.class ≡ t.class
same_class f t u (inl e) = ap (λ (x : Token). x.class) e
same_class f t u (inr e) = ap (λ (x : Token). x.class) e.1

same_classes : (f : Renaming) (ts us : List Token) → AreRenamedTokens f ts us → kind_classes (kinds us) ≡ classes ts
same_classes f [] [] e = refl
same_classes f [] (u ∷ us) e = absurd e
same_classes f (t ∷ ts) [] e = absurd e
same_classes f (t ∷ ts) (u ∷ us) e = λ i. same_class f t u e.0 i ∷ same_classes f ts us e.1 i

-- a text whose module is the renamed one, ignoring spans
pub record IsModuleOf (v : TranslationUnit) : Type 0 where
  pub text : List ℕ
  pub its_unit : TranslationUnit
  pub is_unit : IsUnit text its_unit
  pub same : bare_unit its_unit ≡ bare_unit v

module _ (source : List ℕ) (u : TranslationUnit) (h : IsUnit source u)
    (f : Renaming) (fixes : FixesUnderscore f) (gives : GivesIdentifiers f) where
  pub renamed_module : IsModuleOf (renamed_unit f u)
  renamed_module =
      let r = unit_renames f fixes u h.0 h.2 in
      let along = renamed_along source h.0 r.0 h.1 (module_words source h.0 finished h.1) f gives r.1 in
      let shape = source_classes source h.0 h.1 (kinds r.0) (same_classes f h.0 r.0 r.1) in
      let tokens = lexed (kinds r.0) shape (width along.0) along.0 along.1 in
      let moved = moved_unit (renamed_unit f u) r.0 tokens.0 r.2 tokens.2 in
      record { text = along.0; its_unit = moved.0; is_unit = (tokens.0, tokens.1, moved.1); same = moved.2 }

  -- what is written from it, and what it prints
  written : canonical renamed_module.its_unit ≡ canonical (renamed_unit f u)
  written = sym (canonical_bare renamed_module.its_unit) ∙ ap canonical renamed_module.same
      ∙ canonical_bare (renamed_unit f u)

  printed : print_unit renamed_module.its_unit ≡ print_unit (renamed_unit f u)
  printed = sym (unit_print_bare renamed_module.its_unit) ∙ ap print_unit renamed_module.same
      ∙ unit_print_bare (renamed_unit f u)

  -- the kinds that are written from a renamed module have the shape that lets a text have tokens of
  -- these kinds
  pub renamed_shape : IsWrittenShape outside 0 (canonical (renamed_unit f u))
  renamed_shape = subst (IsWrittenShape outside 0) written
      (written_shape renamed_module.text renamed_module.its_unit
      renamed_module.is_unit
      (module_words renamed_module.text renamed_module.is_unit.0 finished renamed_module.is_unit.1))

  pub renamed_is_utf8 : is_utf8 (print_unit (renamed_unit f u)) ≡ true
  renamed_is_utf8 = subst (λ (text : List ℕ). is_utf8 text ≡ true) printed
      (printed_is_utf8 renamed_module.text renamed_module.its_unit renamed_module.is_unit)

  pub renamed_tokens : HasTokens (print_unit (renamed_unit f u)) (canonical (renamed_unit f u))
  renamed_tokens = subst (λ (text : List ℕ). HasTokens text (canonical (renamed_unit f u))) printed
      (subst (HasTokens (print_unit renamed_module.its_unit)) written
      (printed_tokens renamed_module.text renamed_module.its_unit renamed_module.is_unit))

  pub renamed_reads_back : ReadsBack (print_unit (renamed_unit f u)) (renamed_unit f u)
  renamed_reads_back =
      let back = renamed_parse source u h f fixes gives renamed_tokens.0 renamed_tokens.2 in
      (back.0, (renamed_tokens.0, renamed_tokens.1, back.1), back.2)
