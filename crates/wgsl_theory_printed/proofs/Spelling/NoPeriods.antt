-- No name has a `.`, neither among its characters nor among its bytes.
use Rattle.std.proofs.Common.{◌≡◌, ℕ, suc, ◌<◌, ◌==◌, true, false, not, refl, sym, ap, subst, List, [], ◌∷◌, length, get_or, ◌∙◌, lit<, arith}
use Rattle.std.specs.Str.{NoCharPasses, encode_utf8_all}
use Rattle.std.proofs.lemmas.Bool.{eqb-true, false_from_ne_true, true≢false}
use Rattle.std.proofs.lemmas.Str.{NoCharPasses-byte, encodes-chars}
use Rattle.unicode_ident.proofs.IdentLemmas.{is_xid_start-ascii, is_xid_continue-ascii}
use Rattle.wgsl_model.specs.Tokens.Numbers.{number_spelling}
use Rattle.wgsl_model.specs.Tokens.Pattern.{spells}
use Rattle.wgsl_model.specs.Tokens.Spelling.{identifier, syntactic_token, spelling}
use Rattle.wgsl_model.proofs.Tokens.Characters.{other_than}
use Rattle.wgsl_theory_reread.proofs.Words.{NoPeriod}
use Rattle.wgsl_theory_printed.proofs.Spelling.Split.{Each, none_pass, spelled_each, differs, lets_differs, takes}
use Rattle.wgsl_theory_printed.proofs.Spelling.Fronts.{spelled_first}
use Rattle.wgsl_theory_printed.proofs.Spelling.Signs.{begins_name, begins_number, number_begins, one_of_three}
use Rattle.wgsl_theory_printed.proofs.Spelling.Ends.{IsNameText, name_no_number, name_no_symbol}

-- ---- characters

pub identifier_takes_none : takes 46 identifier ≡ false
identifier_takes_none = rw (is_xid_start-ascii 46 (lit< tt), is_xid_continue-ascii 46 (lit< tt)) refl

symbol_differs : (x : ℕ) (xs : List ℕ) → begins_name x ≡ true
    → spells syntactic_token (x ∷ xs) ≡ true → Each (differs 46) (x ∷ xs)
symbol_differs x [] b h = (ap not (other_than begins_name x b 46 (rw (is_xid_start-ascii 46 (lit< tt)) refl)), tt)
symbol_differs x (d ∷ z) b h = absurd (name_no_symbol x [] d z b h)

-- no character of a spelling that begins as a name does is `.`
name_differs : (x : ℕ) (xs : List ℕ) → begins_name x ≡ true → spells spelling (x ∷ xs) ≡ true
    → Each (differs 46) (x ∷ xs)
name_differs x xs b h =
    one_of_three (x ∷ xs) h
    (λ e. spelled_each (differs 46) identifier (lets_differs 46 identifier identifier_takes_none) (x ∷ xs) e)
    (λ e. absurd (name_no_number x b (spelled_first begins_number number_spelling number_begins x xs e)))
    (λ e. symbol_differs x xs b e)

-- ---- bytes

each_byte : (text : List ℕ) → ((i : ℕ) → i < length text → (get_or text i 0 == 46) ≡ false) → NoPeriod text
each_byte [] h = tt
each_byte (b ∷ bs) h = (h 0 (omega arith), each_byte bs (λ i l. h (suc i) (omega (arith, l))))

no_period : (text : List ℕ) → NoCharPasses (λ c. c == 46) text → NoPeriod text
no_period text none = each_byte text (λ i l. false_from_ne_true (get_or text i 0 == 46) (λ t.
    (let point : get_or text i 0 ≡ 46 = eqb-true (get_or text i 0) 46 t in
    true≢false (sym t ∙ NoCharPasses-byte (λ c. c == 46) text i none l (omega (arith, point))))))

-- the bytes of such a spelling
pub word_has_no_period : (x : ℕ) (xs : List ℕ) → begins_name x ≡ true
    → spells spelling (x ∷ xs) ≡ true → NoPeriod (encode_utf8_all (x ∷ xs))
word_has_no_period x xs b h = no_period (encode_utf8_all (x ∷ xs))
    (x ∷ xs, refl, none_pass 46 (x ∷ xs) (name_differs x xs b h))

-- the bytes of a name
pub name_has_no_period : (bytes : List ℕ) → IsNameText bytes → NoPeriod bytes
name_has_no_period bytes n = subst NoPeriod
    (ap encode_utf8_all (sym n.characters) ∙ encodes-chars bytes n.utf8)
    (word_has_no_period n.first n.others n.begins n.spelled)
