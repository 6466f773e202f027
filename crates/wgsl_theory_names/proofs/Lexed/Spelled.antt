-- The tokens of a text, and renamed ones, are each spelled so that they end before a space, so a
-- text has them.
use Rattle.std.proofs.Common.{◌≡◌, ℕ, true, false, refl, sym, ap, subst, ◌∙◌, ◌⊎◌, inl, inr, List, [], ◌∷◌, ◌++◌, chars}
use Rattle.std.proofs.lemmas.Bool.{true≢false}
use Rattle.grammar.specs.Tokens.{Token, Payload.name}
use Rattle.grammar.specs.Grammar.{is_among}
use Rattle.grammar.specs.Endings.{Ending.finished}
use Rattle.wgsl_model.specs.Tokens.ClassTable.{SymLessThan, TemplateArgsStart, TemplateArgsEnd, Ident}
use Rattle.wgsl_model.specs.Tokens.Kind.{Kind, plain}
use Rattle.wgsl_model.specs.Tokens.Raw.{Raw.none_left, Raw.token, raw, kind_of_word}
use Rattle.wgsl_model.specs.Tokens.TokenList.{IsTokenList, width}
use Rattle.wgsl_model.specs.Tokens.Trivia.{after_trivia}
use Rattle.wgsl_model.specs.Grammar.TokenValues.{text_of, word_of}
use Rattle.wgsl_theory_reread.specs.CanonicalUnits.{without_place}
use Rattle.wgsl_theory_reread.proofs.Words.{IsWord, AllWords}
use Rattle.wgsl_theory_templates.proofs.Reaching.Reach.{Role, template_start, template_end, role}
use Rattle.wgsl_theory_templates.proofs.Reaching.Moves.{kinds}
use Rattle.wgsl_theory_templates.proofs.Lexed.RoleClasses.{is_mark_role}
use Rattle.wgsl_theory_templates.proofs.Lexed.LexedAlong.{BeginsWith, along_role, Along}
use Rattle.wgsl_theory_printed.proofs.Spelling.Along.{after_one}
use Rattle.wgsl_theory_printed.proofs.Spelling.Ends.{IsNameText, name_stands}
use Rattle.wgsl_theory_printed.proofs.Spelling.Pieces.{raw_blank}
use Rattle.wgsl_theory_printed.proofs.Sound.Scanned.{word_classes, IsScanned, AllScanned, tokens_scanned}
use Rattle.wgsl_model_tidy.specs.Pieces.{Piece, pieces}
use Rattle.wgsl_model_tidy.specs.Open.{start}
use Rattle.wgsl_theory_tidy.proofs.Kept.Neighbours.{parts}
use Rattle.wgsl_theory_tidy.proofs.Kept.Parted.{token_again, start_again}
use Rattle.wgsl_theory_tidy.proofs.Kept.Read.{read}
use Rattle.wgsl_theory_tidy.proofs.Kept.Readings.{IsToken, is_word, is_slash, is_slash_equal, is_start, is_end, Reads, reads_end, reads_token}
use Rattle.wgsl_model_names.specs.Renamed.{Renaming}
use Rattle.wgsl_model_names.specs.RenamedTokens.{IsRenamedToken, AreRenamedTokens, IsIdentifier, GivesIdentifiers}
use Rattle.wgsl_theory_names.proofs.Derived.RenamedWords.{given_kind}

-- a kind has a spelling that is its token before a space, or is a mark of a template list
data Spelled (k : Kind) : Type 0 where
  as_word : (w : List ℕ) → is_mark_role (role k.class) ≡ false
      → ((more : List ℕ) → raw (w ++ (32 ∷ more)) ≡ token k (w ++ (32 ∷ more)) (32 ∷ more)) → Spelled k
  as_start : k ≡ plain TemplateArgsStart → Spelled k
  as_end : k ≡ plain TemplateArgsEnd → Spelled k

abbrev AllSpelled : List Kind → Type 0
AllSpelled [] = Unit {0}
AllSpelled (k ∷ ks) = Spelled k × AllSpelled ks

-- ---- the tokens of a text
front : (k : Kind) (w text : List ℕ) → IsToken k w text → is_mark_role (role k.class) ≡ false
    → raw (w ++ text) ≡ token k (w ++ text) text
front k w text (is_word j v r m s e) unmarked = e
front k w text (is_slash r e) unmarked = e
front k w text (is_slash_equal r e) unmarked = e
front k w text (is_start r) unmarked = absurd (true≢false unmarked)
front k w text (is_end r) unmarked = absurd (true≢false unmarked)

before_space : (k : Kind) (w rest : List ℕ) → IsToken k w rest → is_mark_role (role k.class) ≡ false → Spelled k
before_space k w rest i m = as_word w m (λ more. front k w (32 ∷ more)
    (token_again start k false w rest (32 ∷ more) i (λ h. (parts _ w h).space)) m)

spelled : (k : Kind) (w rest : List ℕ) → IsToken k w rest → Spelled k
spelled k w rest (is_word j v r m s e) = before_space k w rest (is_word j v r m s e) m
spelled k w rest (is_slash r e) = before_space k w rest (is_slash r e) refl
spelled k w rest (is_slash_equal r e) = before_space k w rest (is_slash_equal r e) refl
spelled k w rest (is_start r) = as_start refl
spelled k w rest (is_end r) = as_end refl

reads_spelled : (text : List ℕ) (ks : List Kind) (ps : List Piece) → Reads text ks ps → AllSpelled ks
reads_spelled _ _ _ (reads_end text e) = tt
reads_spelled _ _ _ (reads_token trivia w rest k ks ps p i r) = (spelled k w rest i, reads_spelled rest ks ps r)

-- ---- renamed ones
name_in : (t : Token) → IsScanned (without_place t) → t.class ≡ Ident → IsNameText (text_of t)
name_in t scanned class =
    scanned.words (subst (λ (c : ℕ). is_among c word_classes ≡ true) (sym class) refl)

identifier_text : (x : List ℕ) → IsIdentifier x → IsNameText x
identifier_text x (t, tokens, class, payload, front) = subst IsNameText (ap (word_of t.class) payload)
    (name_in t (tokens_scanned (width (chars x)) (chars x) (t ∷ []) finished tokens).0 class)

given_text : (x y : List ℕ) → IsNameText x → (y ≡ x) ⊎ IsIdentifier y → IsNameText y
given_text x y text (inl same) = subst IsNameText (sym same) text
given_text x y text (inr identifier) = identifier_text y identifier

-- an identifier is spelled as its word is
name_spelled : (x : List ℕ) → record { class = Ident; payload = name x } ≡ kind_of_word x → IsNameText x
    → Spelled (record { class = Ident; payload = name x })
name_spelled x same text = as_word (chars x) refl (λ more.
    subst (λ (k : Kind). raw (chars x ++ (32 ∷ more)) ≡ token k (chars x ++ (32 ∷ more)) (32 ∷ more)) (sym same)
    (name_stands x (32 ∷ more) text refl))

renamed_spelled : (f : Renaming) → GivesIdentifiers f → (t u : Token) → IsWord t → IsScanned (without_place t)
    → Spelled (without_place t) → IsRenamedToken f t u → Spelled (without_place u)
renamed_spelled f gives t u word scanned here (inl e) = subst Spelled (ap without_place (sym e)) here
renamed_spelled f gives t u word scanned here (inr (class, e)) =
    let x = text_of t in
    let given = gives x in
    subst Spelled ((λ i. record { class = sym class i; payload = name (f x) }) ∙ ap without_place (sym e))
    (name_spelled (f x) (given_kind t word class (f x) given).0 (given_text x (f x) (name_in t scanned class) given))

all_renamed_spelled : (f : Renaming) → GivesIdentifiers f → (ts us : List Token) → AllWords ts → AllScanned ts
    → AllSpelled (kinds ts) → AreRenamedTokens f ts us → AllSpelled (kinds us)
all_renamed_spelled f gives [] [] words scanned here e = tt
all_renamed_spelled f gives [] (u ∷ us) words scanned here e = absurd e
all_renamed_spelled f gives (t ∷ ts) [] words scanned here e = absurd e
all_renamed_spelled f gives (t ∷ ts) (u ∷ us) words scanned here e = (
  renamed_spelled f gives t u words.0 scanned.0 here.0 e.0,
  all_renamed_spelled f gives ts us words.1 scanned.1 here.1 e.1,
)

-- ---- a text
raw_nothing : raw [] ≡ none_left
unfolding after_trivia
raw_nothing = refl

-- a space is passed over
along_space : (ks : List Kind) (text : List ℕ) → Along ks text → Along ks (32 ∷ text)
along_space [] text h = raw_blank 32 text refl ∙ h
along_space (k ∷ ks) text h = go (role k.class) (λ rest. Along ks rest) h where
  go : (r : Role) (on : List ℕ → Type 0) → along_role r k on text → along_role r k on (32 ∷ text)
  go template_start on b = (b.0, b.1, b.2, raw_blank 32 text refl ∙ b.3, b.4, b.5)
  go template_end on b = (b.0, b.1, b.2, raw_blank 32 text refl ∙ b.3, b.4, b.5)
  go r on b = (b.0, b.1, raw_blank 32 text refl ∙ b.2, b.3)

along_word : (r : Role) (k : Kind) (on : List ℕ → Type 0) (text : List ℕ)
    → is_mark_role r ≡ false → BeginsWith k on text → along_role r k on text
along_word template_start k on text m h = absurd (true≢false m)
along_word template_end k on text m h = absurd (true≢false m)
along_word r k on text m h = h

-- a token, a space, and a text
one_along : (k : Kind) (ks : List Kind) → Spelled k → (text : List ℕ) → Along ks text
    → (all : List ℕ) × Along (k ∷ ks) all
one_along k ks (as_word w m stands) text h = (
  w ++ (32 ∷ text),
  along_word (role k.class) k (λ rest. Along ks rest) (w ++ (32 ∷ text)) m
      (w ++ (32 ∷ text), 32 ∷ text, stands text, along_space ks text h),
)
one_along k ks (as_start e) text h = (
  60 ∷ (32 ∷ text),
  subst (λ (j : Kind). Along (j ∷ ks) (60 ∷ (32 ∷ text))) (sym e) (
    plain SymLessThan,
    60 ∷ (32 ∷ text),
    32 ∷ text,
    start_again start (32 ∷ text) (λ m. (parts _ (60 ∷ []) m).space),
    refl,
    (refl, along_space ks text h),
  ),
)
one_along k ks (as_end e) text h =
    let g = after_one (32 ∷ text) in (
      62 ∷ (32 ∷ text),
      subst (λ (j : Kind). Along (j ∷ ks) (62 ∷ (32 ∷ text))) (sym e)
          (g.kind, 62 ∷ (32 ∷ text), g.after, g.is_token, g.greater, (refl, along_space ks text h)),
    )

-- kinds that are spelled are those of a text
text_along : (ks : List Kind) → AllSpelled ks → (text : List ℕ) × Along ks text
text_along [] spelled = ([], raw_nothing)
text_along (k ∷ ks) spelled =
    let rest = text_along ks spelled.1 in one_along k ks spelled.0 rest.0 rest.1

-- renamed tokens of a source are those of a text
pub renamed_along : (source : List ℕ) (ts us : List Token) → IsTokenList source ts finished → AllWords ts
    → (f : Renaming) → GivesIdentifiers f → AreRenamedTokens f ts us → (text : List ℕ) × Along (kinds us) text
renamed_along source ts us h words f gives e = text_along (kinds us) (all_renamed_spelled f gives ts us words
    (tokens_scanned (width source) source ts finished h)
    (reads_spelled source (kinds ts) (pieces source ts) (read source ts h)) e)
