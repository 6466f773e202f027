-- How checked symbols are guarded: those that nothing goes on with, and those with an end that may
-- be left out.
use Rattle.std.proofs.Common.{◌≡◌, ℕ, Bool, true, false, List, [], ◌∷◌, ◌++◌, ◌⊎◌, inl, inr, sym, ap, ap₂, subst, ◌∙◌}
use Rattle.std.specs.Prelude.{Option, Some, None}
use Rattle.grammar.specs.Tokens.{Token, Fault, tokens_between}
use Rattle.grammar.specs.Grammar.{Grammar, Grammar.symbol, Mode.unchecked, is_among, Means, Part, IsViable}
use Rattle.grammar.specs.Notation.{optional}
use Rattle.grammar.specs.Faults.{IsFaulty, IsEnded}
use Rattle.grammar.specs.Tables.{Tables, Passes}
use Rattle.grammar.specs.Reading.{Outcome.ok, chooses, run, read}
use Rattle.grammar.specs.Anchors.{IsAnchored}
use Rattle.grammar.proofs.Reading.Sets.{cases, clash}
use Rattle.grammar.proofs.Reading.Beginnings.{pick_yes, pick_no, begins_within}
use Rattle.grammar.proofs.Reading.Complete.{OrOut, or_bind, or_same}
use Rattle.grammar.proofs.Reading.Frame.{tokens_append}
use Rattle.grammar.proofs.Reading.Step.{sane}
use Rattle.grammar.proofs.Faults.First.{Guarded, ended_read, reads_alone, chosen_head}

-- a part begins with a token of its table
pub chosen : {N : Type 0} {Value : N → Type 0} (T : Tables N)
    (body : (n : N) → Grammar N Value (Value n)) (R : ℕ) → Passes T body R
    → (n : N) → T.empty n ≡ false → (v : Value n) (xs ys : List Token)
    → Part unchecked body n v xs ys → chooses (T.first n) xs ≡ true
chosen T body R p n f v xs ys (k, d) = elim (begins_within T unchecked body
    (sane T body R p) k n v xs ys d) [ inl z ↦ clash (T.empty n) z.0 f | inr z ↦ z.0 ]

pub faulty_chosen : {N : Type 0} {Value : N → Type 0} (T : Tables N)
    (body : (n : N) → Grammar N Value (Value n)) (R : ℕ) → Passes T body R
    → (n : N) → T.empty n ≡ false → (x : Fault) (xs ys : List Token) → IsFaulty body n x xs ys
    → chooses (T.first n) xs ≡ true
faulty_chosen T body R p n f x xs ys (v, d, e) = chosen T body R p n f v xs ys d

-- a part of a symbol that nothing goes on with is ended
pub ended_alone : {N : Type 0} {Value : N → Type 0} (T : Tables N)
    (body : (n : N) → Grammar N Value (Value n)) (R : ℕ) → Passes T body R
    → (n : N) → T.more n ≡ [] → (v : Value n) (xs ys : List Token) → Part unchecked body n v xs ys
    → IsEnded body n xs ys
ended_alone T body R p n m v xs ys d = ended_read T body R p n v xs ys
    (λ k. reads_alone T body (sane T body R p) n m v xs ys d k)

-- a symbol that nothing goes on with, whose faulty parts begin with an anchor
pub guarded_alone : {N : Type 0} {Value : N → Type 0} (T : Tables N)
    (body : (n : N) → Grammar N Value (Value n)) (R : ℕ) → Passes T body R → (apart : N → List ℕ)
    → (n : N) → T.empty n ≡ false → T.more n ≡ [] → (anchor : List ℕ) → IsAnchored body anchor (apart n) n
    → ((x : Fault) (xs ys : List Token) → IsFaulty body n x xs ys → chooses anchor xs ≡ true)
    → Guarded T body apart n
guarded_alone T body R p apart n f m anchor a starts =
    record {
      anchor = anchor;
      anchored = a;
      nonempty = f;
      starts = starts;
      reads = λ v xs ys d i k. reads_alone T body (sane T body R p) n m v xs ys d k;
    }

-- ---- a symbol at the end that may be left out
abbrev pub is_some : {A : Type 0} → Option A → Bool
is_some o = elim o [ None ↦ false | Some a ↦ true ]

-- it is there, or none that begins with these classes comes next
abbrev pub Closed : {A : Type 0} → List ℕ → Option A → List Token → Type 0
Closed s o ys = (is_some o ≡ true) ⊎ (chooses s ys ≡ false)

abbrev End : {N : Type 0} {Value : N → Type 0} (m : N) → Grammar N Value (Option (Value m))
End m = optional (symbol m)

none_is : {A : Type 0} (o : Option A) → None ≡ o → is_some o ≡ false
none_is o e = sym (ap is_some e)

-- an end that is closed is read
pub reads_end : {N : Type 0} {Value : N → Type 0} (T : Tables N)
    (body : (n : N) → Grammar N Value (Value n)) (R : ℕ) → Passes T body R
    → (m : N) → T.more m ≡ [] → T.empty m ≡ false → (o : Option (Value m)) (us ys : List Token)
    → Means unchecked (Part unchecked body) (End m) o us ys → Closed (T.first m) o ys
    → (k : ℕ) → OrOut (run T unchecked (read T unchecked body k) (End m) us) o ys
reads_end {Value} T body R p m e f o us ys (inl (a, h, d)) i k =
    or_same _ _ o ys (pick_yes (chooses (T.first m) us) _ _ (chosen T body R p m f a us ys d))
    (or_bind (read T unchecked body k m us) (λ y us. ok (Some y) us) a ys o ys (reads_alone T body
    (sane T body R p) m e a us ys d k) (inl (ap (λ (y : Option (Value m)). ok y ys) h)))
reads_end {Value} T body R p m e f o us ys (inr (h, w)) i k = elim i [
  | inl y ↦ clash _ y (none_is o h)
  | inr y ↦ or_same _ _ o ys
      (pick_no (chooses (T.first m) us) _ _ (ap (λ (z : List Token). chooses (T.first m) z) w ∙ y))
      (inl (ap₂ (λ (z : Option (Value m)) (us : List Token). ok z us) h w))
]

-- an end that goes no further is closed, if its first token goes on
pub closed_end : {N : Type 0} {Value : N → Type 0} (T : Tables N) (body : (n : N)
    → Grammar N Value (Value n)) (m n : N) (o : Option (Value m)) (p us xs ys : List Token)
    → xs ≡ p ++ us → Means unchecked (Part unchecked body) (End m) o us ys
    → ((t : Token) → is_among t.class (T.first m) ≡ true → IsViable body n (p ++ (t ∷ [])))
    → IsEnded body n xs ys → Closed (T.first m) o ys
closed_end T body m n o p us xs ys w (inl (a, h, d)) v i = inl (sym (ap is_some h))
closed_end T body m n o p us xs ys w (inr (h, u)) v i = elim (cases (chooses (T.first m) ys)) [
  | inl y ↦
      let t = chosen_head (T.first m) ys y in
      let s : tokens_between xs ys ≡ p = ap (λ (z : List Token). tokens_between z ys)
      (w ∙ ap (λ (z : List Token). p ++ z) u) ∙ tokens_append p ys in
      absurd (i t.0 t.1 t.2 (subst (λ (z : List Token). IsViable body n (z ++ (t.0 ∷ []))) (sym s) (v t.0 t.3)))
  | inr y ↦ inr y
]
