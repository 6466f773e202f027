-- What was scanned: a token at the front of a text, or none.
use Rattle.std.proofs.Common.{◌≡◌, ◌<◌, ◌≤◌, List, [], ◌∷◌, ℕ, refl, sym, subst, chars, drop, length, arith}
use Rattle.std.proofs.lemmas.Str.{chars-nil}
use Rattle.std.specs.Borrow.{Bor}
use Rattle.wgsl_model.specs.Tokens.Kind.{Kind}
use Rattle.wgsl_model.specs.Tokens.Raw.{raw, token}
use Rattle.wgsl_lex_scanner.specs.declared.lexeme.Lexeme.{Lexeme}
use Rattle.wgsl_lex_scanner.specs.declared.scan.Scanned.{Scanned}
use Rattle.wgsl_lex_scanner.specs.declared.scan.Scanned.TheVariants as scanned
use Rattle.wgsl_lex_scanner.specs.View.{lexeme_view, scanned_view, IsShorter}
use Rattle.wgsl_theory_grammar.proofs.Tokens.Cuts.{EndsWith, cut_at, after_token}
use Rattle.wgsl_lex_templates.proofs.TextLists.Fronts.{raw_again}

-- a token of a kind is the first of a text; it begins one end of the text, and another is
-- after it
pub record Taken (text from after : List ℕ) (kind : Kind) : Type 0 where
  pub front : raw (chars text) ≡ token kind (chars from) (chars after)
  pub again : raw (chars from) ≡ token kind (chars from) (chars after)
  pub starts : EndsWith (chars text) (chars from)
  pub leaves : EndsWith (chars text) (chars after)
  pub shorter : (length from ≤ length text) × (length after < length text)

pub taken : (text : List ℕ) (s : Scanned) (lexeme : Lexeme) (from after : Bor (List ℕ))
    → s ≡ scanned.Found lexeme from after → scanned_view s ≡ raw (chars text)
    → IsShorter (length text) s → Taken text from.now after.now (lexeme_view lexeme)
taken text s lexeme from after is view shorter =
    let front = sym (subst (λ x. scanned_view x ≡ raw (chars text)) is view) in
    record {
      front = front;
      again = raw_again (chars text) (chars from.now) (chars after.now) (lexeme_view lexeme) front;
      starts = (cut_at (chars text) (chars from.now) (chars after.now) (lexeme_view lexeme) front).0;
      leaves = after_token (chars text) (chars from.now) (chars after.now) (lexeme_view lexeme) front;
      shorter = subst (IsShorter (length text)) is shorter;
    }

pub no_token : (s : Scanned)
    → ((lexeme : Lexeme) (from after : Bor (List ℕ)) → s ≡ scanned.Found lexeme from after → ⊥)
    → (kind : Kind) (from after : List ℕ) → scanned_view s ≡ token kind from after → ⊥
no_token scanned.NoneLeft n kind from after e = cc
no_token (scanned.Invalid f a) n kind from after e = cc
no_token (scanned.Found lexeme f a) n kind from after e = n lexeme f a refl

-- a text of no bytes has no characters, also after its first
pub no_text : (text : List ℕ) → length text ≡ 0 → chars text ≡ drop 1 (chars text)
no_text [] e = rw chars-nil refl
no_text (b ∷ bs) e = absurd (omega (arith, e))
