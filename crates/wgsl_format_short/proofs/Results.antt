-- The shortest text of a source, whichever way its tokens are known, is shortest by them and keeps
-- what the source has; no other text with its tokens is shorter.
use Rattle.std.proofs.Common.{◌≡◌, ℕ, List, sym, ap, ◌∙◌, subst}
use Rattle.grammar.specs.Tokens.{Token}
use Rattle.grammar.specs.Endings.{Ending, Ending.finished}
use Rattle.wgsl_model.specs.Tokens.TokenList.{IsTokenList}
use Rattle.wgsl_theory_grammar.proofs.Tokens.Lists.{token_list_unique}
use Rattle.wgsl_model_tidy.specs.Formatted.{unmarked}
use Rattle.wgsl_model_tidy.specs.Syntax.{IsModuleInSyntax}
use Rattle.wgsl_model_short.specs.Shortest.{shortest}
use Rattle.wgsl_model_short.specs.Shortened.{IsShortest, KeepsTokens, IsLeast}
use Rattle.wgsl_model.specs.Program.{IsUnit}
use Rattle.wgsl_model.specs.Trees.Units.{TranslationUnit}
use Rattle.wgsl_model_short.specs.Respelled.{minified, IsMinifiedText}
use Rattle.wgsl_theory_short.proofs.Kept as kept
use Rattle.wgsl_theory_short.proofs.Least as least
use Rattle.wgsl_theory_short.proofs.Minified.{minified_text}

-- a module has one token list, so the text is shortest by any that it has
pub is_shortest : (source body text : List ℕ) (ts : List Token) (e : Ending) → body ≡ unmarked source
    → IsModuleInSyntax body → IsTokenList body ts e → text ≡ shortest body ts → IsShortest source text
is_shortest source body text ts e b m h t =
    let read : IsTokenList (unmarked source) m.0 finished = subst (λ xs. IsTokenList xs m.0 finished) b m.1 in (
      m.0,
      read,
      t ∙ ap (shortest body) (token_list_unique body ts m.0 e finished h m.1).0
          ∙ ap (λ xs. shortest xs m.0) b,
    )

-- so it keeps what the source has
pub keeps : (source text : List ℕ) → IsShortest source text → KeepsTokens source text
keeps source text s = subst (KeepsTokens source) (sym s.2) (kept.kept source s.0 s.1)

-- and no text with the tokens of a module is shorter
pub is_least : (source body text : List ℕ) → body ≡ unmarked source → IsModuleInSyntax body
    → IsShortest source text → IsLeast source text
is_least source body text b m s = subst (IsLeast source) (sym s.2)
    (least.least source s.0 (subst IsModuleInSyntax b m) s.1)

-- the minified text of a printed module is so by any token list that the print has
pub is_minified : (source text : List ℕ) (ts : List Token) (e : Ending) (u : TranslationUnit) → IsUnit source u
    → IsTokenList source ts e → text ≡ minified source ts → IsMinifiedText source text
is_minified source text ts e u m h t = subst (IsMinifiedText source)
    (sym (t ∙ ap (minified source) (token_list_unique source ts m.0 e finished h m.1).0))
    (minified_text source u m.0 m.1 m.2)
