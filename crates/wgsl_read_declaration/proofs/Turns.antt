-- Lists of members, item by item.
use Rattle.std.proofs.Common.{◌≡◌, cond, List, [], ◌∷◌, ◌++◌, ◌∙◌}
use Rattle.grammar.specs.States.{State, Read, Read.done, ◌>>=◌, is_at, take}
use Rattle.wgsl_model.specs.Tokens.ClassTable.{SymBraceRight, SymComma}
use Rattle.wgsl_model.specs.Trees.Spanned.{Spanned}
use Rattle.wgsl_model.specs.Trees.Units.{StructMember}
use Rattle.wgsl_model.specs.Grammar.Symbols.{Symbol.struct_member}
use Rattle.wgsl_theory_grammar.specs.Factored.{FactoredSymbol.of, FactoredSymbol.further, Further.member_items, Further.member_rest, Further.member_more}
use Rattle.wgsl_theory_grammar.specs.Reader.{reader}
use Rattle.wgsl_theory_grammar.proofs.Reader.{step}
use Rattle.wgsl_read_declaration.proofs.ClosedLists.{put_after, from_first, further_items}

-- the members after some
unfoldable pub members_from : List (Spanned StructMember) → State → Read (List (Spanned StructMember))
members_from ms s = put_after ms (reader (further member_more) s)

-- one more after a comma, where the list is not closed
unfoldable pub members_turn : List (Spanned StructMember) → State → Read (List (Spanned StructMember))
members_turn ms s = cond (is_at SymComma s)
    (take SymComma s >>= λ t s'. cond (is_at SymBraceRight s') (take SymBraceRight s' >>= λ u s''.
    done ms s'') (reader (of struct_member) s' >>= λ m s''. members_from (ms ++ (m ∷ [])) s''))
    (take SymBraceRight s >>= λ t s'. done ms s')

-- a first member and those after it
unfoldable pub members_at : State → Read (List (Spanned StructMember))
members_at s = reader (of struct_member) s >>= λ m s'. members_from (m ∷ []) s'

pub members_is : (s : State) → reader (further member_items) s ≡ members_at s
unfolding members_at members_from
members_is s = step (further member_items) s ∙ from_first (reader (further member_more)) (reader (of struct_member) s)

pub members_are : (ms : List (Spanned StructMember)) (s : State) → members_from ms s ≡ members_turn ms s
unfolding members_from members_turn
members_are ms s = further_items (reader (further member_rest)) (reader (further member_more))
    (reader (of struct_member)) _ _ (step (further member_rest)) (step (further member_more)) ms s
