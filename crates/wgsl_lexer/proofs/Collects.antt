-- What was collected from a lexer.
use Rattle.std.proofs.Common.{◌≡◌, ◌⊎◌, ℕ, List, [], ◌∷◌, ◌++◌, map, Option, Some, None, inl, inr, sym, subst, append-nil, ◌↔◌, Result, Ok, Err, IfOk}
use Rattle.std.specs.Iterator.{Yields, YieldsThen}
use Rattle.std.specs.declared.alloc.AllocError.{AllocError}
use Rattle.grammar.specs.Tokens.{Token}
use Rattle.grammar.specs.Endings.{Ending, Ending.finished}
use Rattle.wgsl_model.specs.Tokens.TokenList.{IsTokenList}
use Rattle.wgsl_lex_token.specs.declared.placed.PlacedToken.{PlacedToken}
use Rattle.wgsl_lexer.specs.declared.collect.Collected.{Collected}
use Rattle.wgsl_lexer.specs.declared.lexer.Lexer.{Lexer}
use Rattle.wgsl_lex_token.specs.Placed.{placed_view}
use Rattle.wgsl_lexer.specs.Placed.{PlacedError, tokens_view, ending_view, IsOutOfMemory}
use Rattle.wgsl_lexer.specs.Given.{item_of, last_of, Gave}
use Rattle.wgsl_lexer.specs.Left.{IsLeft, GivesItem}

-- tokens that were given stood before what is left
given_before : (l u : Lexer) (given : List PlacedToken) (ts : List Token) (e : Ending)
    → Yields GivesItem l (map item_of given) u → IsLeft u ts e → IsLeft l (map placed_view given ++ ts) e
given_before l u [] ts e h left = subst (λ x. IsLeft x ts e) (sym h) left
given_before l u (p ∷ given) ts e h left = h.1 (map placed_view given ++ ts) e (given_before h.0 u given ts e h.2 left)

-- all tokens and how they end, unless an allocation failed
all_by : (l : Lexer) (given : List PlacedToken) (error : Option PlacedError) (u : Lexer)
    → YieldsThen GivesItem l (map item_of given) (last_of error) u
    → IsLeft l (map placed_view given) (ending_view error) ⊎ IsOutOfMemory error
all_by l given None u h =
    inl (subst (λ ts. IsLeft l ts finished) (append-nil (map placed_view given))
    (given_before l h.0 given [] finished h.1 h.2.0))
all_by l given (Some x) u h = elim h.2.0 [
  | inl fault ↦ inl (subst (λ ts. IsLeft l ts (ending_view (Some x)))
      (append-nil (map placed_view given)) (given_before l h.0 given [] _ h.1 fault))
  | inr refused ↦ inr refused.0
]

-- the same of what was collected
pub all_collected : (l : Lexer) (found : Collected) → Gave GivesItem l found
    → IsLeft l (tokens_view found) (ending_view found.error) ⊎ IsOutOfMemory found.error
all_collected l found h = all_by l found.tokens.items found.error h.0 h.1

-- tokens that were given begin those that were left
beginning_by : (l : Lexer) (given : List PlacedToken) (error : Option PlacedError) (u : Lexer)
    → YieldsThen GivesItem l (map item_of given) (last_of error) u
    → (us : List Token) × (e : Ending) × IsLeft l (map placed_view given ++ us) e
beginning_by l given None u h = ([], finished, given_before l h.0 given [] finished h.1 h.2.0)
beginning_by l given (Some x) u h = elim h.2.0 [
  | inl fault ↦ ([], _, given_before l h.0 given [] _ h.1 fault)
  | inr refused ↦ (refused.1.0 ∷ refused.1.1, refused.1.2, given_before l h.0 given _ _ h.1 refused.1.3)
]

-- the same of what was collected
pub collected_begins : (l : Lexer) (found : Collected) → Gave GivesItem l found
    → (us : List Token) × (e : Ending) × IsLeft l (tokens_view found ++ us) e
collected_begins l found h = beginning_by l found.tokens.items found.error h.0 h.1

-- the lexer has the tokens of the source left
abbrev pub Reads : List ℕ → Lexer → Type 0
Reads source l = (ts : List Token) (e : Ending) → IsTokenList source ts e ↔ IsLeft l ts e

-- what was collected came from this lexer
abbrev pub Came : Lexer → Collected → Type 0
Came l found = (it : Lexer) × (it ≡ l) × Gave GivesItem it found

-- of a lexer that has a source left: all tokens of the source
all_read : (source : List ℕ) (l : Lexer) (found : Collected) → Reads source l → Came l found
    → IsTokenList source (tokens_view found) (ending_view found.error) ⊎ IsOutOfMemory found.error
all_read source l found reads came =
    elim (all_collected l found (subst (λ it. Gave GivesItem it found) came.1 came.2)) [
      | inl left ↦ inl ((reads (tokens_view found) (ending_view found.error)).1 left)
      | inr refused ↦ inr refused
    ]

-- of such a lexer: a beginning of the source's tokens
beginning_read : (source : List ℕ) (l : Lexer) (found : Collected) → Reads source l → Came l found
    → (us : List Token) × (e : Ending) × IsTokenList source (tokens_view found ++ us) e
beginning_read source l found reads came =
    let b = collected_begins l found (subst (λ it. Gave GivesItem it found) came.1 came.2) in
    (b.0, b.1, (reads (tokens_view found ++ b.0) b.1).1 b.2)

-- all tokens of the source were collected, unless an allocation failed
pub all_lexed : (source : List ℕ) (l : Lexer) (r : Result Collected AllocError) → Reads source l → IfOk r (Came l)
    → IfOk r (λ found. IsTokenList source (tokens_view found) (ending_view found.error) ⊎ IsOutOfMemory found.error)
all_lexed source l (Ok found) reads came = all_read source l found reads came
all_lexed source l (Err e) reads came = tt

-- what was collected begins the tokens of the source
pub beginning_lexed : (source : List ℕ) (l : Lexer) (r : Result Collected AllocError) → Reads source l → IfOk r (Came l)
    → IfOk r (λ found. (us : List Token) × (e : Ending) × IsTokenList source (tokens_view found ++ us) e)
beginning_lexed source l (Ok found) reads came = beginning_read source l found reads came
beginning_lexed source l (Err e) reads came = tt
