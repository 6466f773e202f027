-- Kinds between parentheses, as they are taken and put into a list.
use Rattle.std.proofs.Common.{◌≡◌, ℕ, Bool, true, false, cond, eqb, eqb-true, List, [], ◌∷◌, ◌++◌, length, refl, sym, ap, subst, ◌∙◌, append_assoc, append-nil, arith}
use Rattle.std.specs.Prelude.{Some, None}
use Rattle.std.proofs.lemmas.List.{map-append}
use Rattle.wgsl_model.specs.Tokens.ClassTable.{SymParenLeft, SymParenRight}
use Rattle.wgsl_lex_token.specs.declared.kind_table.TokenKind.{TokenKind}
use Rattle.wgsl_lex_token.specs.declared.kind_table.TokenKind.TheVariants as kind
use Rattle.wgsl_lex_token.specs.View.{class_of_kind, classes}
use Rattle.wgsl_lex_templates.specs.Advancing.{take}
use Rattle.wgsl_lex_templates.specs.Shortened.{in_parentheses, MayReplace}
use Rattle.wgsl_lex_templates.proofs.Readings.Pushes.{pushed}
use Rattle.wgsl_lex_templates.proofs.Readings.Replaced.{replaced_again, replaced_between}

-- ---- what is taken
by_test : (b : Bool) (ds es : List ℕ) → cond b (Some ds) None ≡ Some es → (b ≡ true) × (ds ≡ es)
by_test true ds es e = (refl, cc)
by_test false ds es e = absurd cc

-- a class that is taken was the first
taken : (c : ℕ) (cs ds : List ℕ) → take c cs ≡ Some ds → cs ≡ c ∷ ds
unfolding take
taken c [] ds e = absurd cc
taken c (d ∷ cs) ds e =
    let t = by_test (eqb d c) cs ds e in let same : d ≡ c = eqb-true d c t.0 in
    ap (λ (x : ℕ). x ∷ cs) same ∙ ap (λ (x : List ℕ). c ∷ x) t.1

-- two parentheses with kinds between them
pub two_taken : (kinds inner front back rest : List TokenKind)
    → take SymParenLeft (classes kinds) ≡ Some (classes inner) → front ++ back ≡ inner
    → take SymParenRight (classes back) ≡ Some (classes rest)
    → classes kinds ≡ in_parentheses (classes front) ++ classes rest
two_taken kinds inner front back rest e f g =
    taken SymParenLeft (classes kinds) (classes inner) e
    ∙ ap (λ (x : List ℕ). SymParenLeft ∷ x)
    (sym (ap classes f) ∙ map-append class_of_kind front back
    ∙ ap (λ (x : List ℕ). classes front ++ x) (taken SymParenRight (classes back) (classes rest) g)
    ∙ sym (append_assoc (classes front) (SymParenRight ∷ []) (classes rest)))

-- ---- what is put into a list
put : (short one two now content : List TokenKind) → one ≡ short ++ kind.SymParenLeft ∷ []
    → two ≡ one ++ content → now ≡ two ++ kind.SymParenRight ∷ []
    → classes now ≡ classes short ++ in_parentheses (classes content)
put short one two now content e f g =
    let cs = classes short in
    let ds = classes content in
    let first : classes one ≡ cs ++ SymParenLeft ∷ [] = pushed short one kind.SymParenLeft e in
    let both : classes two ≡ cs ++ SymParenLeft ∷ ds = ap classes f ∙ map-append class_of_kind one content
    ∙ ap (λ (x : List ℕ). x ++ ds) first ∙ append_assoc cs (SymParenLeft ∷ []) ds in
    pushed two now kind.SymParenRight g ∙ ap (λ (x : List ℕ). x ++ SymParenRight ∷ []) both
    ∙ append_assoc cs (SymParenLeft ∷ ds) (SymParenRight ∷ [])

-- parentheses are put with what may be in them
pub group_put : (whole : List ℕ) (short one two now content left inner rest : List TokenKind)
    → one ≡ short ++ kind.SymParenLeft ∷ [] → two ≡ one ++ content → now ≡ two ++ kind.SymParenRight ∷ []
    → classes left ≡ in_parentheses (classes inner) ++ classes rest
    → MayReplace (in_parentheses (classes content)) (in_parentheses (classes inner))
    → MayReplace (classes short ++ classes left) whole
    → MayReplace (classes now ++ classes rest) whole
group_put whole short one two now content left inner rest e f g h r before =
    let cs = classes short in
    let ds = classes rest in
    let here : classes now ++ ds ≡ cs ++ (in_parentheses (classes content) ++ ds) = ap (λ (x : List ℕ). x ++ ds)
    (put short one two now content e f g) ∙ append_assoc cs (in_parentheses (classes content)) ds in
    replaced_again (classes now ++ ds) (cs ++ classes left) whole
    (subst (λ (x : List ℕ). MayReplace x (cs ++ classes left)) (sym here)
    (subst (λ (x : List ℕ). MayReplace (cs ++ (in_parentheses (classes content) ++ ds)) (cs ++ x)) (sym h)
    (replaced_between cs (in_parentheses (classes content)) (in_parentheses (classes inner)) ds r))) before

-- one kind is put
pub kind_put : (whole : List ℕ) (short now left next : List TokenKind) (kind : TokenKind)
    → now ≡ short ++ kind ∷ [] → left ≡ kind ∷ next → MayReplace (classes short ++ classes left) whole
    → MayReplace (classes now ++ classes next) whole
kind_put whole short now left next kind e f before =
    let same : classes now ++ classes next ≡ classes short ++ classes left =
    ap (λ (x : List ℕ). x ++ classes next) (pushed short now kind e) ∙ append_assoc (classes short)
    (class_of_kind kind ∷ []) (classes next) ∙ ap (λ (x : List TokenKind). classes short ++ classes x) (sym f) in
    subst (λ (x : List ℕ). MayReplace x whole) (sym same) before

-- after the last
pub all_put : (whole : List ℕ) (short left : List TokenKind) → length left ≡ 0
    → MayReplace (classes short ++ classes left) whole → MayReplace (classes short) whole
all_put whole short [] e h = subst (λ (x : List ℕ). MayReplace x whole) (append-nil (classes short)) h
all_put whole short (k ∷ left) e h = absurd (omega (arith, e))
