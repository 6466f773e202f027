-- No token at the front of a text is a mark of a template list.
use Rattle.std.proofs.Common.{◌≡◌, ℕ, false, List, refl}
use Rattle.wgsl_model.specs.Tokens.Kind.{Kind}
use Rattle.wgsl_model.specs.Tokens.Raw.{token, raw}
use Rattle.wgsl_theory_grammar.proofs.Tokens.Symbols.{none_at_front}
use Rattle.wgsl_theory_templates.proofs.Reaching.Reach.{role}
use Rattle.wgsl_theory_templates.proofs.Lexed.RoleClasses.{is_mark_role}

abbrev pub Unmarked : Kind → Type 0
Unmarked k = is_mark_role (role k.class) ≡ false

pub raw_unmarked : (text from after : List ℕ) (k : Kind) → raw text ≡ token k from after → Unmarked k
raw_unmarked text from after k e = none_at_front (λ c. is_mark_role (role c)) refl refl refl text from after k e
