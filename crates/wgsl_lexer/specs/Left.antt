-- What a lexer has still to give.
use Rattle.std.specs.Prelude.{◌≡◌, ◌⊎◌, ◌+◌, ℕ, List, [], ◌∷◌, length, Option, Some, None, Ok, Err}
use Rattle.grammar.specs.Tokens.{Token}
use Rattle.grammar.specs.Endings.{Ending, Ending.finished, Ending.carried}
use Rattle.wgsl_model.specs.Tokens.Templates.{Template}
use Rattle.wgsl_model.specs.Tokens.TokenList.{width}
use Rattle.wgsl_lex_token.specs.View.{token_view}
use Rattle.wgsl_error.specs.declared.ParseError.TheVariants as parse
use Rattle.wgsl_lexer.specs.declared.lexer.Lexer.{Lexer}
use Rattle.wgsl_lexer.specs.Placed.{placed_fault}
use Rattle.wgsl_lexer.specs.Given.{TokenItem}
pub use Rattle.wgsl_lexer.specs.TextTokens.{tokens_left, ending_left}

-- these tokens are left, and this is how they end
abbrev pub IsLeft : Lexer → List Token → Ending → Type 0
IsLeft l ts e = (ts ≡ tokens_left l.tokens) × (e ≡ ending_left l.tokens)

-- nothing is left
abbrev pub HasEnded : Lexer → Type 0
HasEnded l = IsLeft l [] finished

-- some token is left
abbrev pub HasToken : Lexer → Type 0
HasToken l = (t : Token) × (ts : List Token) × (e : Ending) × IsLeft l (t ∷ ts) e

-- What a call of `next` gives: nothing where nothing is left; the first of the tokens that are
-- left; the fault that is left, or that an allocation failed for a token. After these last two
-- nothing is left.
abbrev pub GivesItem : Lexer → Option TokenItem → Lexer → Type 0
GivesItem old None new = HasEnded old × HasEnded new
GivesItem old (Some (Ok given)) new = (ts : List Token) (e : Ending) → IsLeft new ts e
    → IsLeft old (token_view given.0 given.1 given.2 ∷ ts) e
GivesItem old (Some (Err x)) new =
    (IsLeft old [] (carried (placed_fault x)) ⊎ ((x.1 ≡ parse.OutOfMemory) × HasToken old)) × HasEnded new

-- how many faults end tokens that end so
abbrev pub faults_in : Ending → ℕ
faults_in finished = 0
faults_in (carried x) = 1

-- how many items are left: tokens, and a fault that ends them
abbrev pub items_left : Lexer → ℕ
items_left l = length (tokens_left l.tokens) + faults_in (ending_left l.tokens)

-- the text begins with a template list, where it is a source of its own
abbrev pub BeginsWithList : List ℕ → Type 0
BeginsWithList source = (ts : List Token) × (rest : List ℕ) × Template (width source) source ts rest
