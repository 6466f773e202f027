-- The names in directives, as texts.
use Rattle.std.proofs.Common.{◌≡◌, ℕ, Bool, true, false, cond, List, [], ◌∷◌, ◌++◌, refl, ap, ap₂, ◌∙◌}
use Rattle.std.specs.Prelude.{Option, Some, None}
use Rattle.std.specs.Option.{option_map}
use Rattle.grammar.specs.Tokens.{Token}
use Rattle.grammar.specs.States.{State, Read, Read.done, Read.stop, ◌>>=◌, is_at, take}
use Rattle.wgsl_model.specs.Tokens.ClassTable.{SymComma, SymSemicolon, KwEnable, KwRequires}
use Rattle.wgsl_model.specs.Grammar.TokenValues.{text_of}
use Rattle.wgsl_model.specs.Trees.Units.{UnattributedDirective, UnattributedDirective.enable, UnattributedDirective.requires}
use Rattle.wgsl_model.specs.Grammar.UnitParts.{rule_of, texts_of}
use Rattle.wgsl_model.specs.Grammar.Symbols.{Symbol.ident}
use Rattle.wgsl_theory_grammar.specs.Factored.{FactoredSymbol.of, FactoredSymbol.further, Further.name_items, Further.name_rest, Further.name_more, Further.enable_part, Further.requires_part}
use Rattle.wgsl_theory_grammar.specs.Reader.{reader}
use Rattle.wgsl_theory_grammar.proofs.Reader.{step}
use Rattle.wgsl_read_declaration.specs.Parts.{names_at}
use Rattle.wgsl_read_declaration.specs.Names.{dotted}
use Rattle.wgsl_read_declaration.proofs.ClosedLists.{closing, item_before, past_token, put_after, from_first, further_items}

-- the name of a rule, by the texts of its parts
pub rule_of_is : (first : Token) (second : Option Token)
    → rule_of first second ≡ dotted (text_of first) (option_map text_of second)
rule_of_is first None = refl
rule_of_is first (Some second) = refl

-- ---- names, read as texts
-- a name as its text
abbrev as_text : Read Token → Read (List ℕ)
as_text m = m >>= λ t s. done (text_of t) s

-- names as their texts
abbrev as_texts : Read (List Token) → Read (List (List ℕ))
as_texts m = m >>= λ ts s. done (texts_of ts) s

-- the three symbols of a list of names
abbrev name : State → Read (List ℕ)
name s = as_text (reader (of ident) s)

abbrev rest : State → Read (List (List ℕ))
rest s = as_texts (reader (further name_rest) s)

abbrev more : State → Read (List (List ℕ))
more s = as_texts (reader (further name_more) s)

texts_cond : (b : Bool) (x y : Read (List Token)) → as_texts (cond b x y) ≡ cond b (as_texts x) (as_texts y)
texts_cond true x y = refl
texts_cond false x y = refl

closing_texts : (m : Read Token) → as_texts (closing m) ≡ closing m
closing_texts (done t s) = refl
closing_texts (stop e) = refl

one_text : (t : Token) (m : Read (List Token))
    → as_texts ((m >>= λ l s. done (t, l) s) >>= λ (p : Token × List Token) s. done (p.0 ∷ p.1) s)
    ≡ ((as_texts m >>= λ l s. done (text_of t, l) s) >>= λ (p : List ℕ × List (List ℕ)) s. done (p.0 ∷ p.1) s)
one_text t (done l s) = refl
one_text t (stop e) = refl

item_texts : (following : State → Read (List Token)) (m : Read Token)
    → as_texts (item_before following m) ≡ item_before (λ s. as_texts (following s)) (as_text m)
item_texts following (done t s) = one_text t (following s)
item_texts following (stop e) = refl

token_texts : (t : Token) (m : Read (List Token))
    → as_texts ((m >>= λ l s. done (t, l) s) >>= λ (p : Token × List Token) s. done p.1 s)
    ≡ ((as_texts m >>= λ l s. done (t, l) s) >>= λ (p : Token × List (List ℕ)) s. done p.1 s)
token_texts t (done l s) = refl
token_texts t (stop e) = refl

past_texts : (following : State → Read (List Token)) (m : Read Token)
    → as_texts (past_token following m) ≡ past_token (λ s. as_texts (following s)) m
past_texts following (done t s) = token_texts t (following s)
past_texts following (stop e) = refl

rest_is : (s : State) → rest s ≡ cond (is_at SymSemicolon s) (closing (take SymSemicolon s)) (item_before more (name s))
rest_is s =
    ap as_texts (step (further name_rest) s) ∙ texts_cond (is_at SymSemicolon s) _ _
    ∙ ap₂ (cond (is_at SymSemicolon s)) (closing_texts (take SymSemicolon s))
    (item_texts (reader (further name_more)) (reader (of ident) s))

more_is : (s : State)
    → more s ≡ cond (is_at SymComma s) (past_token rest (take SymComma s)) (closing (take SymSemicolon s))
more_is s =
    ap as_texts (step (further name_more) s) ∙ texts_cond (is_at SymComma s) _ _
    ∙ ap₂ (cond (is_at SymComma s)) (past_texts (reader (further name_rest)) (take SymComma s))
    (closing_texts (take SymSemicolon s))

-- ---- the list, name by name
-- the names after some
unfoldable pub names_from : List (List ℕ) → State → Read (List (List ℕ))
names_from names s = put_after names (more s)

-- one more after a comma, where the list is not closed
unfoldable pub names_turn : List (List ℕ) → State → Read (List (List ℕ))
names_turn names s = cond (is_at SymComma s)
    (take SymComma s >>= λ t s'. cond (is_at SymSemicolon s') (take SymSemicolon s'
    >>= λ u s''. done names s'') (name s' >>= λ n s''. names_from (names ++ (n ∷ [])) s''))
    (take SymSemicolon s >>= λ t s'. done names s')

-- a first name and those after it
unfoldable pub first_names : State → Read (List (List ℕ))
first_names s = name s >>= λ n s'. names_from (n ∷ []) s'

pub names_is : (s : State) → names_at s ≡ first_names s
unfolding names_at first_names names_from
names_is s = ap as_texts (step (further name_items) s)
    ∙ item_texts (reader (further name_more)) (reader (of ident) s) ∙ from_first more (name s)

pub names_are : (names : List (List ℕ)) (s : State) → names_from names s ≡ names_turn names s
unfolding names_from names_turn
names_are names s = further_items rest more name _ _ rest_is more_is names s

-- ---- the directives, without their attributes
-- a keyword and names
abbrev directive_at : ℕ → (List (List ℕ) → UnattributedDirective) → State → Read UnattributedDirective
directive_at keyword directive s = take keyword s >>= λ t s'. names_at s' >>= λ names s''. done (directive names) s''

unfoldable pub enable_part_at : State → Read UnattributedDirective
enable_part_at s = directive_at KwEnable (λ names. enable (record { extensions = names })) s

unfoldable pub requires_part_at : State → Read UnattributedDirective
requires_part_at s = directive_at KwRequires (λ names. requires (record { extensions = names })) s

of_names : (directive : List (List ℕ) → UnattributedDirective) (t : Token) (m : Read (List Token))
    → (((m >>= λ l s. done (t, l) s) >>= λ (p : Token × List Token) s. done p.1 s)
    >>= λ ts s. done (directive (texts_of ts)) s)
    ≡ (as_texts m >>= λ names s. done (directive names) s)
of_names directive t (done l s) = refl
of_names directive t (stop e) = refl

past_keyword : (directive : List (List ℕ) → UnattributedDirective) (m : Read Token)
    → (past_token (reader (further name_items)) m >>= λ ts s. done (directive (texts_of ts)) s)
    ≡ (m >>= λ t s. names_at s >>= λ names s'. done (directive names) s')
unfolding names_at
past_keyword directive (done t s) = of_names directive t (reader (further name_items) s)
past_keyword directive (stop e) = refl

pub enable_part_is : (s : State) → reader (further enable_part) s ≡ enable_part_at s
unfolding enable_part_at
enable_part_is s = step (further enable_part) s
    ∙ past_keyword (λ names. enable (record { extensions = names })) (take KwEnable s)

pub requires_part_is : (s : State) → reader (further requires_part) s ≡ requires_part_at s
unfolding requires_part_at
requires_part_is s = step (further requires_part) s
    ∙ past_keyword (λ names. requires (record { extensions = names })) (take KwRequires s)
