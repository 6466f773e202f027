-- Tokens that are taken or passed over, and what happens at them.
use Rattle.std.proofs.Common.{◌≡◌, ◌∙◌, ℕ, false, cond, List, [], ◌∷◌, ◌++◌, drop, append_assoc, Option, Some, None, sym, ap}
use Rattle.std.specs.Prelude.{MatchOption}
use Rattle.std.specs.Option.{option_map}
use Rattle.grammar.specs.Tokens.{Token}
use Rattle.grammar.specs.Endings.{Ending, Ending.finished}
use Rattle.wgsl_model.specs.Grammar.TokenValues.{text_of}
use Rattle.wgsl_model.specs.Tokens.TokenList.{IsTokenList}
use Rattle.wgsl_model_tidy.specs.Syntax.{IsModuleInSyntax}
use Rattle.wgsl_theory_grammar.proofs.Tokens.Lists.{token_list_unique}
use Rattle.wgsl_lex_token.specs.Groups.{word_of_class}
use Rattle.wgsl_lex_token.specs.View.{class_of_kind}
use Rattle.wgsl_lex_token.specs.declared.kind_table.TokenKind.{TokenKind}
use Rattle.wgsl_lexer.specs.TextTokens.{BeginAt, StartWithKind}
use Rattle.wgsl_model_places.specs.Items.{State}
use Rattle.wgsl_model_places.specs.Roles as roles
use Rattle.wgsl_model_places.specs.Signs.{first_class, has_text, name_at, sign_of}
use Rattle.wgsl_model_places.specs.Steps.{Step, at_any_name, at_sign_of, events, events_from, takes_name}
use Rattle.wgsl_lex_names.specs.declared.role.Name.{Name}
use Rattle.wgsl_lex_names.specs.declared.reader.Reader.{Reader}
use Rattle.wgsl_lex_names.specs.View.{state_view}
use Rattle.wgsl_lex_names.specs.Readers.{happened, Passes}
use Rattle.wgsl_read_names.specs.Texts.{AreEventsOf, TakesName}

-- a word that holds no text of its own
pub word_taken : (ts us : List Token) (kind : TokenKind) (name : Name) → StartWithKind ts kind → BeginAt ts name.span
    → has_text (class_of_kind kind) ≡ false → name.text.now ≡ word_of_class (class_of_kind kind) → us ≡ drop 1 ts
    → TakesName ts name us
word_taken [] us kind name starts place none text left = absurd starts
word_taken (t ∷ ts) us kind name starts place none text left =
    ((λ i. record { text = words i; start = sym place.0 i; end = sym place.1 i }), left)
  where
    words : name.text.now ≡ (name_at t).text
    words = text ∙ ap word_of_class (sym starts)
        ∙ sym (ap (λ own. cond own (text_of t) (word_of_class t.class)) (ap has_text starts ∙ none))

-- the class of the next token
next_class : (us : List Token) (next : Option TokenKind) → MatchOption next (us ≡ []) (StartWithKind us)
    → first_class us ≡ option_map class_of_kind next
next_class us None h = ap first_class h
next_class [] (Some kind) h = absurd h
next_class (t ∷ us) (Some kind) h = ap Some h

-- the token is no name
passed_over : (ts us : List Token) (kind : TokenKind) (next : Option TokenKind) (σ : State) → StartWithKind ts kind
    → us ≡ drop 1 ts → MatchOption next (us ≡ []) (StartWithKind us) → takes_name σ.last (class_of_kind kind) ≡ false
    → let step = at_sign_of (sign_of (class_of_kind kind)) (option_map class_of_kind next) σ in
    step.0 ++ events_from step.1 us ≡ events_from σ ts
passed_over [] us kind next σ starts left after other = absurd starts
passed_over (t ∷ ts) us kind next σ starts left after other =
    let class = class_of_kind kind in
    let step : ℕ → Option ℕ → Step = λ c n. at_sign_of (sign_of c) n σ in
    let class_next : option_map class_of_kind next ≡ first_class ts = sym (next_class us next after) ∙ ap first_class left in
    (λ i. (step (sym starts i) (class_next i)).0 ++ events_from (step (sym starts i) (class_next i)).1 (left i))
    ∙ ap (λ named. (cond named (at_any_name (name_at t) σ) (step t.class (first_class ts))).0
    ++ events_from (cond named (at_any_name (name_at t) σ) (step t.class (first_class ts))).1 ts)
    (sym (ap (takes_name σ.last) starts ∙ other))

pub went_on : (before after : Reader) (ts us : List Token) (all : List roles.Event) (kind : TokenKind) (next : Option TokenKind)
    → StartWithKind ts kind → us ≡ drop 1 ts → MatchOption next (us ≡ []) (StartWithKind us)
    → takes_name (state_view before.state).last (class_of_kind kind) ≡ false
    → Passes before (at_sign_of (sign_of (class_of_kind kind)) (option_map class_of_kind next)) after
    → happened before ++ events_from (state_view before.state) ts ≡ all
    → happened after ++ events_from (state_view after.state) us ≡ all
went_on before after ts us all kind next starts left more other passes known =
    let σ = state_view before.state in
    let step : Step = at_sign_of (sign_of (class_of_kind kind)) (option_map class_of_kind next) σ in
    (λ i. passes.events i ++ events_from (passes.state i) us) ∙ append_assoc (happened before) step.0 (events_from step.1 us)
    ∙ ap (λ es. happened before ++ es) (passed_over ts us kind next σ starts left more other) ∙ known

-- what happens at the tokens of a module
pub are_events : (source : List ℕ) (found : List roles.Event) (us : List Token) (e : Ending) → IsTokenList source us e
    → found ≡ events us → IsModuleInSyntax source → AreEventsOf source found
are_events source found us e listed is (ts, tokens, sentence) =
    (ts, tokens, sentence, is ∙ ap events (token_list_unique source us ts e finished listed tokens).0)
