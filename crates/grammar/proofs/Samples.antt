-- A small grammar whose tables pass: it shows that tests and readings are computed, and how a
-- grammar is put to use.
use Rattle.std.proofs.Common.{◌≡◌, ℕ, ◌+◌, Bool, true, false, cond, eqb, List, [], ◌∷◌, ◌++◌, inl, inr, refl, sym, subst, arith}
use Rattle.std.specs.Prelude.{Option, Some, None}
use Rattle.grammar.specs.Tokens.{Payload.nothing, Token, Span, Fault, span_between}
use Rattle.grammar.specs.Grammar.{Grammar, Grammar.token, Grammar.symbol, Mode.checking, Mode.unchecked}
use Rattle.grammar.specs.Notation.{one_token, ◌then◌, ◌or◌, ◌gives◌, ◌makes◌, ◌with_check◌, ◌▹◌, ◌◃◌, many}
use Rattle.grammar.specs.Endings.{Ending, Wording}
use Rattle.grammar.specs.Faults.{IsFaulty, Answers}
use Rattle.grammar.specs.Tables.{Tables, Passes}
use Rattle.grammar.specs.Reading.{Outcome.ok, Outcome.stuck, Outcome.bad, chooses, read_all}
use Rattle.grammar.specs.States.{State, Read, Read.done, ◌>>=◌, is_at, take, start_state, reads, answer}
use Rattle.grammar.proofs.Reading.Sets.{cases}
use Rattle.grammar.proofs.Reading.Beginnings.{cond_yes, cond_no}
use Rattle.grammar.proofs.Reading.Depth.{unroll}
use Rattle.grammar.proofs.Faults.Guards.{guarded_alone}
use Rattle.grammar.proofs.Lists.{separated}
use Rattle.grammar.proofs.Faults.Named.{answers}
use Rattle.grammar.proofs.Faults.Outcomes.{IsTested}
use Rattle.grammar.proofs.States.{reads_is}
use Rattle.grammar.proofs.Words.{all_sentences}

-- the classes: a word, a reserved word, `alias`, `list`, `=`, `(`, `,`, `)` and `;`
abbrev Word : ℕ
Word = 1

abbrev Reserved : ℕ
Reserved = 2

abbrev Alias : ℕ
Alias = 3

abbrev Enumerate : ℕ
Enumerate = 4

abbrev Equal : ℕ
Equal = 5

abbrev Open : ℕ
Open = 6

abbrev Comma : ℕ
Comma = 7

abbrev Close : ℕ
Close = 8

abbrev Semicolon : ℕ
Semicolon = 9

data Symbol : Type 0 where
  unit : Symbol
  declaration : Symbol
  names : Symbol
  more_names : Symbol
  name : Symbol

-- a declaration, with its names and where it is
record Declaration : Type 0 where
  names : List Token
  span : Span

abbrev Value : Symbol → Type 0
Value unit = List Declaration
Value declaration = Declaration
Value names = List Token
Value more_names = List Token
Value name = Token

abbrev Rule : Type 0 → Type 1
Rule A = Grammar Symbol Value A

abbrev reserved_fault : Span → Fault
reserved_fault s = record { kind = 2; texts = []; span = s }

abbrev unreserved : Token → Span → Option Fault
unreserved t s = cond (eqb t.class Reserved) (Some (reserved_fault s)) None

-- a unit is many declarations, as `alias a = b;` and `list (a, b);`
abbrev body : (n : Symbol) → Rule (Value n)
body unit = many (symbol declaration)
body declaration =
    (Alias ▹ symbol name then Equal ▹ symbol name ◃ Semicolon
    makes λ (p : Token × Token) s. record { names = p.0 ∷ (p.1 ∷ []); span = s })
    or (Enumerate ▹ Open ▹ symbol names ◃ Semicolon makes λ ns s. record { names = ns; span = s })
body names = (one_token Close gives λ t. [])
    or (symbol name then symbol more_names gives λ (p : Token × List Token). p.0 ∷ p.1)
body more_names = Comma ▹ symbol names or (one_token Close gives λ t. [])
body name = token (Word ∷ Reserved ∷ []) with_check unreserved

abbrev firsts : Symbol → List ℕ
firsts unit = Alias ∷ Enumerate ∷ []
firsts declaration = Alias ∷ Enumerate ∷ []
firsts names = Close ∷ Word ∷ Reserved ∷ []
firsts more_names = Comma ∷ Close ∷ []
firsts name = Word ∷ Reserved ∷ []

abbrev empties : Symbol → Bool
empties unit = true
empties _ = false

abbrev mores : Symbol → List ℕ
mores unit = Alias ∷ Enumerate ∷ []
mores _ = []

abbrev ranks : Symbol → ℕ
ranks unit = 1
ranks declaration = 0
ranks names = 1
ranks more_names = 0
ranks name = 0

abbrev tables : Tables Symbol
tables = record { first = firsts; empty = empties; more = mores; rank = ranks }

passes : Passes tables body 2
passes = record {
  begins = elim [ unit ↦ refl | declaration ↦ refl | names ↦ refl | more_names ↦ refl | name ↦ refl ];
  empty = elim [ unit ↦ refl | declaration ↦ refl | names ↦ refl | more_names ↦ refl | name ↦ refl ];
  more = elim [ unit ↦ refl | declaration ↦ refl | names ↦ refl | more_names ↦ refl | name ↦ refl ];
  one = elim [ unit ↦ refl | declaration ↦ refl | names ↦ refl | more_names ↦ refl | name ↦ refl ];
  spans = elim [ unit ↦ refl | declaration ↦ refl | names ↦ refl | more_names ↦ refl | name ↦ refl ];
  rank = elim [
    | unit ↦ omega arith
    | declaration ↦ omega arith
    | names ↦ omega arith
    | more_names ↦ omega arith
    | name ↦ omega arith
  ];
  ranks = elim [
    | unit ↦ omega arith
    | declaration ↦ omega arith
    | names ↦ omega arith
    | more_names ↦ omega arith
    | name ↦ omega arith
  ];
}

-- a reserved word is a fault wherever it is
abbrev apart : Symbol → List ℕ
apart n = []

names_start : (x : Fault) (xs ys : List Token) → IsFaulty body name x xs ys → chooses (Reserved ∷ []) xs ≡ true
names_start x xs ys (t, d, e) =
    let first = unroll unchecked body name t xs ys d in
    subst (λ (z : List Token). chooses (Reserved ∷ []) z ≡ true) (sym first.1.1)
    (elim (cases (eqb t.class Reserved)) [
      | inl y ↦ cond_yes (eqb t.class Reserved) true false y
      | inr n ↦ let none = cond_no {A = Option Fault} (eqb t.class Reserved)
          (Some (reserved_fault (span_between xs ys))) None n in absurd cc
    ])

tested : IsTested tables body 2 apart
tested = record {
  passes = passes;
  sentences = all_sentences (elim [ unit ↦ 2 | declaration ↦ 1 | names ↦ 0 | more_names ↦ 0 | name ↦ 0 ]) body
      (elim [ unit ↦ refl | declaration ↦ refl | names ↦ refl | more_names ↦ refl | name ↦ refl ]);
  guarded = elim [
    | unit ↦ inl (λ v s. refl)
    | declaration ↦ inl (λ v s. refl)
    | names ↦ inl (λ v s. refl)
    | more_names ↦ inl (λ v s. refl)
    | name ↦ inr (guarded_alone tables body 2 passes apart name refl refl (Reserved ∷ [])
        (elim [
          | unit ↦ inl refl
          | declaration ↦ inl refl
          | names ↦ inl refl
          | more_names ↦ inl refl
          | name ↦ inr (refl, refl)
        ]) names_start)
  ];
  following = [];
  within = λ n. refl;
  keeps = elim [ unit ↦ refl | declaration ↦ refl | names ↦ refl | more_names ↦ refl | name ↦ refl ];
  no_token = refl;
}

-- a token of a class in one place after another
abbrev at : ℕ → ℕ → Token
at c place = record { class = c; payload = nothing; start = place; end = place + 1 }

-- `alias a = b; list (a, b);`, with the spans of both
units_are_read : read_all tables checking body 2 unit
    (at Alias 0 ∷ at Word 1 ∷ at Equal 2 ∷ at Word 3 ∷ at Semicolon 4 ∷ at Enumerate 5 ∷ at Open 6
    ∷ at Word 7 ∷ at Comma 8 ∷ at Word 9 ∷ at Close 10 ∷ at Semicolon 11 ∷ [])
    ≡ ok (record { names = at Word 1 ∷ at Word 3 ∷ []; span = record { start = 0; end = 5 } }
    ∷ record { names = at Word 7 ∷ at Word 9 ∷ []; span = record { start = 5; end = 12 } } ∷ []) []
units_are_read = refl

-- of `alias a = r = b` the reserved word r is named, which ends before the second `=`
faults_are_read : read_all tables checking body 2 unit
    (at Alias 0 ∷ at Word 1 ∷ at Equal 2 ∷ at Reserved 3 ∷ at Equal 4 ∷ at Word 5 ∷ [])
    ≡ bad (reserved_fault (record { start = 3; end = 4 })) (at Equal 4 ∷ at Word 5 ∷ [])
faults_are_read = refl

-- and of `alias a b r` the b
tokens_are_refused : read_all tables checking body 2 unit
    (at Alias 0 ∷ at Word 1 ∷ at Word 2 ∷ at Reserved 3 ∷ []) ≡ stuck (at Word 2 ∷ at Reserved 3 ∷ [])
tokens_are_refused = refl

-- what is answered is true, however the list ended
units_are_answered : (wording : Wording) (ts : List Token) (ending : Ending) → Answers body apart
    wording unit ts ending (answer wording ending (reads tables body 2 unit (start_state ts)))
units_are_answered wording ts ending = answers tables body 2 apart tested wording unit ts ending

-- the names after those that were read so far
abbrev names_from : List Token → State → Read (List Token)
names_from l s = reads tables body 2 names s >>= λ m s'. done (l ++ m) s'

-- one turn of a loop that reads names
names_turn : (l : List Token) (s : State)
    → names_from l s ≡ cond (is_at Close s) (take Close s >>= λ c s'. done l s')
    (reads tables body 2 name s >>= λ t s'. cond (is_at Comma s') (take Comma s'
    >>= λ c s''. names_from (l ++ t ∷ []) s'') (take Close s' >>= λ c s''. done (l ++ t ∷ []) s''))
names_turn l s =
    let step = reads_is tables body 2 passes in separated (reads tables body 2 names)
    (reads tables body 2 more_names) (reads tables body 2 name) Comma Close (step names)
    (step more_names) l s
