-- No word of a text has a `.`, so the tokens that are written from the tree of a module derive that
-- tree.
use Rattle.std.proofs.Common.{◌≡◌, ℕ, Bool, true, false, cond, refl, sym, ap, subst, List, [], ◌∷◌, map, Some, ◌∙◌}
use Rattle.std.specs.Prelude.{option_map}
use Rattle.std.specs.Str.{encode_utf8_all}
use Rattle.std.proofs.lemmas.Bool.{true≢false}
use Rattle.grammar.specs.Tokens.{Token}
use Rattle.grammar.specs.Grammar.{Mode.checking, Derives}
use Rattle.grammar.specs.Endings.{Ending, Ending.finished}
use Rattle.wgsl_model.specs.Tokens.Kind.{Kind, plain}
use Rattle.wgsl_model.specs.Tokens.Numbers.{number_of}
use Rattle.wgsl_model.specs.Tokens.Pattern.{spells}
use Rattle.wgsl_model.specs.Program.{IsUnit}
use Rattle.wgsl_model.specs.Tokens.Raw.{kind_of_spelling, front, kind_of_word}
use Rattle.wgsl_model.specs.Tokens.Spelling.{spelling}
use Rattle.wgsl_model.specs.Trees.StatementsWithoutSpans.{bare_unit}
use Rattle.wgsl_model.specs.Trees.EmptyItems.{full_unit}
use Rattle.wgsl_model.specs.Grammar.Symbols.{Symbol.unit}
use Rattle.wgsl_model.specs.Tokens.TokenList.{IsTokenList}
use Rattle.wgsl_model.specs.Trees.Units.{TranslationUnit}
use Rattle.wgsl_model.specs.Tokens.Words.{look_up}
use Rattle.wgsl_model.specs.Tokens.ClassTable.{symbols}
use Rattle.wgsl_model.specs.Grammar.Written.{written}
use Rattle.wgsl_theory_reread.specs.CanonicalUnits.{canonical, without_place}
use Rattle.wgsl_theory_reread.proofs.Words.{NoPeriod, AllWords}
use Rattle.wgsl_theory_reread.proofs.Names.TextWords.{IsNamed, text_in, WordsArePlain, word_text, number_unnamed, sign_unnamed, text_words}
use Rattle.wgsl_theory_reread.proofs.DerivedAgain.{unit_again}
use Rattle.wgsl_theory_printed.proofs.Spelling.NoPeriods.{word_has_no_period}
use Rattle.wgsl_theory_printed.proofs.Spelling.Signs.{begins_name}
use Rattle.wgsl_model.proofs.Tokens.Fronts.{front-append}
use Rattle.wgsl_theory_printed.proofs.Spelling.Cut.{longest_spelling}

-- ---- words

-- the kind of a spelling, where it is a word, has no `.`
value_plain : (word : List ℕ) (kind : Kind) → spells spelling word ≡ true
    → kind_of_spelling word ≡ Some kind → IsNamed kind → NoPeriod (text_in kind)
value_plain [] kind s h n = absurd (cc)
value_plain (c ∷ cs) kind s h n = go (begins_name c) _ refl h where
  bytes : List ℕ
  bytes = encode_utf8_all (c ∷ cs)

  go : (a b : Bool) → begins_name c ≡ a → cond a (Some (kind_of_word bytes))
      (cond b (number_of (c ∷ cs)) (option_map plain (look_up symbols (c ∷ cs)))) ≡ Some kind
      → NoPeriod (text_in kind)
  go true b e f =
      let same : kind_of_word bytes ≡ kind = cc in
      let text : text_in kind ≡ bytes = ap text_in (sym same) ∙ word_text bytes (subst IsNamed (sym same) n) in
      subst NoPeriod (sym text) (word_has_no_period c cs e s)
  go false true e f = absurd (true≢false (sym n ∙ number_unnamed (c ∷ cs) kind f))
  go false false e f = absurd (true≢false (sym n ∙ sign_unnamed (c ∷ cs) kind f))

words_are_plain : WordsArePlain
words_are_plain text rest kind e v n =
    let found = longest_spelling spelling text rest e in
    let word : front text rest ≡ found.0 = ap (λ all. front all rest) found.1.whole ∙ front-append found.0 rest in
    value_plain found.0 kind found.1.passes (ap kind_of_spelling (sym word) ∙ v) n

-- ---- modules

pub module_words : (source : List ℕ) (ts : List Token) (e : Ending) → IsTokenList source ts e → AllWords ts
module_words = text_words words_are_plain

-- tokens with the kinds that are written from the tree of a module derive it again
pub canonical_parse : (source : List ℕ) (u : TranslationUnit) → IsUnit source u → (ts : List Token)
    → map without_place ts ≡ canonical u
    → (again : TranslationUnit) × Derives checking written unit again ts × (bare_unit again ≡ bare_unit (full_unit u))
canonical_parse source u h ts e = unit_again u h.0 (module_words source h.0 finished h.1) h.2 ts e
