-- The formatted text of a source, whichever way its tokens are known, is formatted by them and
-- keeps what the source has.
use Rattle.std.proofs.Common.{◌≡◌, ℕ, Bool, List, ◌++◌, sym, ap, ap₂, ◌∙◌, subst}
use Rattle.grammar.specs.Tokens.{Token}
use Rattle.grammar.specs.Endings.{Ending, Ending.finished}
use Rattle.wgsl_model.specs.Tokens.TokenList.{IsTokenList}
use Rattle.wgsl_theory_grammar.proofs.Tokens.Lists.{token_list_unique}
use Rattle.wgsl_model_tidy.specs.Pieces.{pieces}
use Rattle.wgsl_model_tidy.specs.Layout.{Layout}
use Rattle.wgsl_model_tidy.specs.LaidOut as model
use Rattle.wgsl_model_tidy.specs.Formatted.{mark_of, unmarked, ends_crlf, with_line_ends}
use Rattle.wgsl_model_tidy.specs.NonBlank.{non_blank}
use Rattle.wgsl_model_tidy.specs.Kept.{IsFormatted, Keeps}
use Rattle.wgsl_model_tidy.specs.Syntax.{IsModuleInSyntax}
use Rattle.wgsl_theory_tidy.proofs.Kept.Kept as theory

-- the text is the laid-out text of the source by some token list, however that ends
abbrev pub IsSomeLaidOut : Layout → List ℕ → List ℕ → Type 0
IsSomeLaidOut layout source text = (ts : List Token) × (e : Ending) × IsTokenList source ts e
    × (text ≡ model.laid_out layout (pieces source ts))

-- a text has one token list, so it is formatted by any that it has
by_its_tokens : (layout : Layout) (source text : List ℕ) (ts : List Token) → IsTokenList source ts finished
    → IsSomeLaidOut layout source text → text ≡ model.laid_out layout (pieces source ts)
by_its_tokens layout source text ts h laid =
    laid.3 ∙ ap (λ us. model.laid_out layout (pieces source us))
    (token_list_unique source laid.0 ts laid.1 finished laid.2 h).0

-- the text of a source after its mark, formatted, and the mark before it
pub record IsWhole (layout : Layout) (source mark body laid text : List ℕ) (crlf : Bool) : Type 0 where
  pub is_mark : mark ≡ mark_of source
  pub is_body : body ≡ unmarked source
  pub accepted : IsModuleInSyntax body
  pub is_laid : IsSomeLaidOut layout body laid
  pub is_crlf : crlf ≡ ends_crlf layout.newlines body
  pub is_text : text ≡ mark ++ with_line_ends crlf laid

-- the formatted text of the source, by the tokens after its mark
pub is_formatted : (layout : Layout) (source mark body laid text : List ℕ) (crlf : Bool)
    → IsWhole layout source mark body laid text crlf → IsFormatted layout source text
is_formatted layout source mark body laid text crlf w =
    let ts = w.accepted.0 in
    let read : IsTokenList (unmarked source) ts finished =
    subst (λ xs. IsTokenList xs ts finished) w.is_body w.accepted.1 in
    let ends : with_line_ends crlf laid ≡ with_line_ends (ends_crlf layout.newlines (unmarked source))
    (model.laid_out layout (pieces (unmarked source) ts)) =
    ap₂ with_line_ends (w.is_crlf ∙ ap (ends_crlf layout.newlines) w.is_body) (by_its_tokens layout
    body laid ts w.accepted.1 w.is_laid ∙ ap (λ xs. model.laid_out layout (pieces xs ts)) w.is_body) in
    (ts, read, w.is_text ∙ ap₂ (λ xs ys. xs ++ ys) w.is_mark ends)

-- so it has the characters of the source that are not blank
pub keeps_characters : (layout : Layout) (source text : List ℕ) → IsFormatted layout source text
    → non_blank text ≡ non_blank source
keeps_characters layout source text f = ap non_blank f.2 ∙ theory.characters layout source f.0 f.1

-- and it keeps what the source has
pub keeps : (layout : Layout) (source text : List ℕ) → IsFormatted layout source text → Keeps layout source text
keeps layout source text f = subst (Keeps layout source) (sym f.2) (theory.kept layout source f.0 f.1)
