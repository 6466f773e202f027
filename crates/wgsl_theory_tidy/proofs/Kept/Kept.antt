-- The formatted text of a source keeps its byte order mark, its tokens and its comments, and the
-- unit of a module, and is formatted already.
use Rattle.std.proofs.Common.{◌≡◌, ℕ, true, false, refl, ap, ◌∙◌, List, map}
use Rattle.grammar.specs.Tokens.{Token}
use Rattle.grammar.specs.Endings.{Ending.finished}
use Rattle.wgsl_model.specs.Tokens.TokenList.{IsTokenList, width}
use Rattle.wgsl_theory_templates.proofs.Lexed.Runs.{lexed}
use Rattle.wgsl_model_tidy.specs.Pieces.{pieces}
use Rattle.wgsl_model_tidy.specs.NonBlank.{non_blank}
use Rattle.wgsl_model_tidy.specs.Layout.{Layout}
use Rattle.wgsl_model_tidy.specs.LaidOut.{first_spot, laid_out}
use Rattle.wgsl_model_tidy.specs.Formatted.{unmarked, ends_crlf, formatted}
use Rattle.wgsl_model_tidy.specs.Lines.{EndsLinesWithCRLF, HasNoCRLF}
use Rattle.wgsl_model_tidy.specs.Kept.{unplaced, class_and_text, Keeps}
use Rattle.wgsl_theory_tidy.proofs.Kept.Read.{read}
use Rattle.wgsl_theory_tidy.proofs.Kept.SameShape.{same_shape}
use Rattle.wgsl_theory_tidy.proofs.Kept.Relaid.{relaid_spelled}
use Rattle.wgsl_theory_tidy.proofs.Kept.RelaidAgain.{relaid_again}
use Rattle.wgsl_theory_tidy.proofs.Kept.LaidText.{laid_along, laid_pieces}
use Rattle.wgsl_theory_tidy.proofs.Kept.SameCharacters.{same_characters}
use Rattle.wgsl_theory_tidy.proofs.Kept.LaidLineEnds.{laid_no_crlf}
use Rattle.wgsl_theory_tidy.proofs.Kept.LineEnds.{formatted_crlf, formatted_lf}
use Rattle.wgsl_theory_tidy.proofs.Kept.FormattedKept.{KeepsLaidOut, formatted_kept}

laid_out_kept : (layout : Layout) (source : List ℕ) (ts : List Token) → IsTokenList source ts finished
    → KeepsLaidOut layout source ts (laid_out layout (pieces source ts))
laid_out_kept layout source ts h =
    let out = laid_out layout (pieces source ts) in
    let before = read source ts h in
    let along = laid_along layout source (map unplaced ts) (pieces source ts) before
    (first_spot layout (pieces source ts)) in
    let after = lexed (map unplaced ts) (same_shape source ts h) (width out) out along in
    let us = after.0 in
    let same = laid_pieces layout source (map unplaced ts) (pieces source ts) before
    (first_spot layout (pieces source ts)) out
    (map unplaced us) (pieces out us) (read out us after.1) refl after.2 in
    record {
      after = us;
      read_after = after.1;
      same_characters = same_characters layout source ts h;
      same_tokens = after.2;
      same_pieces = ap (map class_and_text) same
          ∙ relaid_spelled layout (first_spot layout (pieces source ts)) (pieces source ts);
      again = ap (laid_out layout) same ∙ relaid_again layout (pieces source ts);
      along = along;
      no_crlf = laid_no_crlf layout source (map unplaced ts) (pieces source ts) before
          (first_spot layout (pieces source ts));
    }

pub kept : (layout : Layout) (source : List ℕ) (ts : List Token)
    → IsTokenList (unmarked source) ts finished → Keeps layout source (formatted layout source ts)
kept layout source ts h = formatted_kept layout source ts h (laid_out_kept layout (unmarked source) ts h)

pub characters : (layout : Layout) (source : List ℕ) (ts : List Token)
    → IsTokenList (unmarked source) ts finished → non_blank (formatted layout source ts) ≡ non_blank source
characters layout source ts h = let k = kept layout source ts h in k.same_characters

-- ---- its line ends

pub with_crlf_ends : (layout : Layout) (source : List ℕ) (ts : List Token)
    → IsTokenList (unmarked source) ts finished → ends_crlf layout.newlines (unmarked source) ≡ true
    → EndsLinesWithCRLF (formatted layout source ts)
with_crlf_ends layout source ts h e = formatted_crlf layout source ts e

pub with_lf_ends : (layout : Layout) (source : List ℕ) (ts : List Token)
    → IsTokenList (unmarked source) ts finished
    → ends_crlf layout.newlines (unmarked source) ≡ false → HasNoCRLF (formatted layout source ts)
with_lf_ends layout source ts h e =
    let k = laid_out_kept layout (unmarked source) ts h in formatted_lf layout source ts k.no_crlf e
