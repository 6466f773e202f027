-- What is written where.
use Rattle.std.proofs.Common.{◌≡◌, ◌∙◌, ℕ, ◌+◌, ◌<◌, Bool, true, false, cond, ◌||◌, List, [], ◌∷◌, ◌++◌, length, get_or, take, refl, sym, ap, subst}
use Rattle.std.specs.Prelude.{◌==◌}
use Rattle.std.specs.List.{list_any}
use Rattle.std.proofs.lemmas.Bool.Decides.{Decides-eqb}
use Rattle.std.proofs.lemmas.List.Folds.{list_any-append, list_any_more}
use Rattle.indexmap.specs.IndexSet.{insert_key}
use Rattle.wgsl_span.specs.declared.Span.{Span}
use Rattle.wgsl_rename.specs.declared.edit.Edit.{Edit as Written}
use Rattle.wgsl_rename.specs.Edits.{IsEditAt, edit_view}
use Rattle.wgsl_rename.specs.Renames.{starts_at, written_at}

abbrev has : List ℕ → ℕ → Bool
has keys n = list_any (λ (other : ℕ). n == other) keys

or_true : (b : Bool) → (b || true) ≡ true
or_true true = refl
or_true false = refl

-- a key is there after it is inserted, and so are the others
has_inserted : (keys : List ℕ) (k n : ℕ) → has (insert_key (λ (a b : ℕ). a == b) keys k) n ≡ (has keys n || n == k)
has_inserted keys k n = go (has keys k) refl where
  or_false : (b c : Bool) → c ≡ false → (b || c) ≡ b
  or_false true c e = refl
  or_false false c e = e

  go : (b : Bool) → has keys k ≡ b → has (cond b keys (keys ++ k ∷ [])) n ≡ (has keys n || n == k)
  go false e = list_any-append (λ (other : ℕ). n == other) keys (k ∷ [])
      ∙ ap (λ c. has keys n || c) (single (n == k))
    where
      single : (b : Bool) → (b || false) ≡ b
      single true = refl
      single false = refl
  go true e = here (n == k) refl where
    here : (c : Bool) → (n == k) ≡ c → has keys n ≡ (has keys n || c)
    here true f =
        let same : n ≡ k = (Decides-eqb n k).0 f in
        let there : has keys n ≡ true = subst (λ m. has keys m ≡ true) (sym same) e in
        there ∙ sym (or_true (has keys n))
    here false f = sym (or_false (has keys n) false refl)

-- one more of some places
pub starts_more : (places : List Span) (i : ℕ) (d : Span) (keys more : List ℕ) → i < length places
    → more ≡ insert_key (λ (a b : ℕ). a == b) keys (get_or places i d).start
    → ((n : ℕ) → has keys n ≡ starts_at (take i places) n) → (n : ℕ) → has more n ≡ starts_at (take (i + 1) places) n
starts_more places i d keys more lt inserted before n =
    let start = (get_or places i d).start in
    ap (λ l. has l n) inserted ∙ has_inserted keys start n ∙ ap (λ b. b || n == start) (before n)
    ∙ sym (list_any_more (λ (place : Span). n == place.start) places i d lt)

-- what an edit writes is written at its places
pub written : (places : List Span) (text : List ℕ) (edit : Written) → IsEditAt places text edit
    → edit_view edit ≡ written_at places text
written places text edit is = λ i name. cond (is.starts name.start i) (is.text i) name.text
