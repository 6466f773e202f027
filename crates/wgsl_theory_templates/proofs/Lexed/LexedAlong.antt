-- What it is that a text lexes along kinds in which the template lists are told apart.
use Rattle.std.proofs.Common.{◌≡◌, ℕ, true, false, List, [], ◌∷◌, ◌++◌, drop, subst}
use Rattle.wgsl_model.specs.Tokens.ClassTable.{SymLessThan, TemplateArgsStart, TemplateArgsEnd}
use Rattle.wgsl_model.specs.Tokens.Kind.{Kind, plain}
use Rattle.wgsl_model.specs.Tokens.Raw.{none_left, token, raw}
use Rattle.wgsl_model.specs.Tokens.Templates.{begins_with_greater}
use Rattle.wgsl_theory_templates.proofs.Reaching.Reach.{Role, Role.template_start, Role.template_end, role, Place, Place.outside, Place.inside}
use Rattle.wgsl_theory_templates.proofs.Lexed.RoleClasses.{is_mark_role}

-- the text begins with a token of the kind, and goes on so after it
abbrev pub BeginsWith : Kind → (List ℕ → Type 0) → List ℕ → Type 0
BeginsWith k Rest text = (from after : List ℕ) × (raw text ≡ token k from after) × Rest after

-- the text begins with `<`, and goes on so after it
abbrev pub BeginsWithLess : (List ℕ → Type 0) → List ℕ → Type 0
BeginsWithLess Rest text = (kind : Kind) × (from after : List ℕ)
    × (raw text ≡ token kind from after) × (kind.class ≡ SymLessThan) × Rest after

-- the text begins with a token that begins with `>`, and goes on so after that one character
abbrev pub BeginsWithGreater : (List ℕ → Type 0) → List ℕ → Type 0
BeginsWithGreater Rest text = (kind : Kind) × (from after : List ℕ)
    × (raw text ≡ token kind from after) × (begins_with_greater kind.class ≡ true) × Rest (drop 1 from)

abbrev pub along_role : Role → Kind → (List ℕ → Type 0) → List ℕ → Type 0
along_role template_start k Rest text = BeginsWithLess (λ rest. (k ≡ plain TemplateArgsStart) × Rest rest) text
along_role template_end k Rest text = BeginsWithGreater (λ rest. (k ≡ plain TemplateArgsEnd) × Rest rest) text
along_role r k Rest text = BeginsWith k Rest text

-- the text lexes along the kinds, up to a text of which End holds
abbrev pub AlongTo : List Kind → (List ℕ → Type 0) → List ℕ → Type 0
AlongTo [] End text = End text
AlongTo (k ∷ ks) End text = along_role (role k.class) k (λ rest. AlongTo ks End rest) text

-- the text lexes along the kinds to its end
abbrev pub Along : List Kind → List ℕ → Type 0
Along ks text = AlongTo ks (λ rest. raw rest ≡ none_left) text

-- what follows the tokens of a whole text, and those inside a template list
abbrev pub EndOf : Place → (List ℕ → Type 0) → List ℕ → Type 0
EndOf outside Rest text = raw text ≡ none_left
EndOf inside Rest text = BeginsWithGreater Rest text

-- a kind that is no mark of a template list is the kind of a token
pub token_of : (r : Role) (k : Kind) (Rest : List ℕ → Type 0) (text : List ℕ)
    → is_mark_role r ≡ false → along_role r k Rest text → BeginsWith k Rest text
token_of template_start k Rest text e h = absurd cc
token_of template_end k Rest text e h = absurd cc
token_of r k Rest text e h = h

-- what holds of the rest may be less
along_more : (r : Role) (k : Kind) (F G : List ℕ → Type 0) → ((rest : List ℕ) → F rest → G rest)
    → (text : List ℕ) → along_role r k F text → along_role r k G text
along_more template_start k F G f text h = (h.0, h.1, h.2, h.3, h.4, (h.5.0, f h.2 h.5.1))
along_more template_end k F G f text h = (h.0, h.1, h.2, h.3, h.4, (h.5.0, f (drop 1 h.1) h.5.1))
along_more r k F G f text h = (h.0, h.1, h.2, f h.1 h.3)

-- a template list in the kinds ends at a token that begins with `>`
pub to_template_end : (us : List Kind) (end : Kind) (ts : List Kind) (End : List ℕ → Type 0) (text : List ℕ)
    → role end.class ≡ template_end
    → AlongTo (us ++ (end ∷ ts)) End text
    → AlongTo us (EndOf inside (λ rest. (end ≡ plain TemplateArgsEnd) × AlongTo ts End rest)) text
to_template_end [] end ts End text e h = subst (λ (r : Role). along_role r end (λ rest. AlongTo ts End rest) text) e h
to_template_end (k ∷ us) end ts End text e h =
    along_more (role k.class) k (λ rest. AlongTo (us ++ (end ∷ ts)) End rest)
    (λ rest. AlongTo us (EndOf inside (λ rest. (end ≡ plain TemplateArgsEnd) × AlongTo ts End rest)) rest)
    (λ rest g. to_template_end us end ts End rest e g) text h
