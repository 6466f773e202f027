-- Directives and declarations of a module, item by item.
use Rattle.std.proofs.Common.{◌≡◌, ◌∙◌, ℕ, Bool, true, false, inl, inr, refl, sym, ap, ap₂, List, [], ◌∷◌, ◌++◌, cond, append-nil}
use Rattle.grammar.specs.Tokens.{Span}
use Rattle.grammar.specs.Grammar.{Grammar.symbol}
use Rattle.grammar.specs.Notation.{◌then◌, ◌or◌, ◌gives◌}
use Rattle.grammar.specs.States.{State, Read, Read.done, Read.stop, ◌>>=◌, is_at, is_any, next_start, span_from, go}
use Rattle.grammar.proofs.Reading.Sets.{cases}
use Rattle.grammar.proofs.Reading.Beginnings.{cond_yes, cond_no}
use Rattle.grammar.proofs.Binding.{bind_associates, bind_alike, bind_cond, pair_goes_on}
use Rattle.wgsl_model.specs.Tokens.ClassTable.{SymSemicolon}
use Rattle.wgsl_model.specs.Trees.Spanned.{Spanned, spanned}
use Rattle.wgsl_model.specs.Trees.Attributes.{Attributes}
use Rattle.wgsl_model.specs.Trees.Attributed.{with_attributes}
use Rattle.wgsl_model.specs.Trees.Units.{GlobalDirective, GlobalDeclaration, UnattributedDeclaration}
use Rattle.wgsl_model.specs.Grammar.Symbols.{Symbol.global_declaration}
use Rattle.wgsl_theory_grammar.specs.Factored.{FactoredSymbol.of, FactoredSymbol.further, FactoredRule, Further.attribute_list, Further.directive_part, Further.attributed_part, Further.led_part, Further.declaration_list, Further.front, attributes_before, taken_by, with_place, void_declaration, declaration_first, directive_first}
use Rattle.wgsl_theory_grammar.specs.Tables.{tables, begin_global_declaration}
use Rattle.wgsl_theory_grammar.specs.Reader.{reader}
use Rattle.wgsl_theory_grammar.specs.UnitRules.{front_at}
use Rattle.wgsl_theory_grammar.proofs.UnitEquations.{front_is}
use Rattle.wgsl_read_attribute.specs.After.{after_attributes}
use Rattle.wgsl_read_attribute.proofs.Begun.{attributes_begun}
use Rattle.wgsl_read_attribute.proofs.Classes.{alone, other_class, not_one, none_among}
use Rattle.wgsl_read_simple.proofs.Binding.{put_before, following, after_more, after_none}
use Rattle.wgsl_read_unit.specs.Parts.{declaration_part_at, declaration_after_at, further_declarations_at, begin_directive_part, begin_attributed}
use Rattle.wgsl_read_unit.proofs.Turns.{further_turn, further_are}
use Rattle.wgsl_read_unit.proofs.Declarations.{void_at, attributed_at, global_declaration_parts, global_declaration_by_parts}

abbrev FrontItems : Type 0
FrontItems = List GlobalDirective × List (Spanned GlobalDeclaration)

-- directives and declarations, after the directives that were read so far
unfoldable pub front_from : List GlobalDirective → State → Read FrontItems
front_from directives s = following directives (reader (further front) s)

-- further declarations, after all directives
abbrev closed_by : List GlobalDirective → List (Spanned GlobalDeclaration) → State → Read FrontItems
closed_by directives declarations s = further_declarations_at declarations s >>= λ all s'. done (directives, all) s'

-- after attributes that begin at a place: a directive and more, or a first declaration and further
-- ones
abbrev after_front_attributes : List GlobalDirective → ℕ → Attributes → State → Read FrontItems
after_front_attributes directives start a s = cond (is_any begin_directive_part s)
    (after_attributes with_attributes a (reader (further directive_part)) s
    >>= λ d s'. front_from (directives ++ d ∷ []) s')
    (declaration_after_at a start s >>= λ d s'. closed_by directives (d ∷ []) s')

unfoldable pub front_turn : List GlobalDirective → State → Read FrontItems
front_turn directives s = cond (is_any begin_attributed s) (reader (further attribute_list) s
    >>= λ a s'. after_front_attributes directives (next_start s) a s') (closed_by directives [] s)

-- ---- as the grammar writes them
abbrev directive_item : FactoredRule (Attributes → FrontItems)
directive_item = symbol (further directive_part) then symbol (further front) gives directive_first

abbrev part_written : FactoredRule UnattributedDeclaration
part_written = symbol (further attributed_part) or symbol (further led_part)

abbrev declaration_item : FactoredRule (Attributes → FrontItems)
declaration_item = with_place part_written then symbol (further declaration_list) gives declaration_first

abbrev after_them : FactoredRule (Attributes → FrontItems)
after_them = directive_item or declaration_item

abbrev void_item : FactoredRule FrontItems
void_item = void_declaration then symbol (further declaration_list) gives λ p. ([], p.0 ∷ p.1)

directive_item_is : (l : List GlobalDirective) (a : Attributes) (s : State)
    → (go tables reader directive_item s >>= λ f s'. done (put_before l (f a)) s')
    ≡ (after_attributes with_attributes a (reader (further directive_part)) s >>= λ d s'. front_from (l ++ d ∷ []) s')
unfolding front_from
directive_item_is l a s =
    bind_associates (go tables reader (symbol (further directive_part) then symbol (further front)) s)
    (λ p s'. done (directive_first p) s') (λ f s'. done (put_before l (f a)) s')
    ∙ pair_goes_on (reader (further directive_part) s) (reader (further front))
    (λ p s'. done (put_before l (directive_first p a)) s')
    ∙ bind_alike (reader (further directive_part) s) _ _
    (λ u s' h. after_more l (with_attributes a u) (reader (further front) s'))
    ∙ sym (bind_associates (reader (further directive_part) s) (λ u s'. done (with_attributes a u) s')
    (λ d s'. following (l ++ d ∷ []) (reader (further front) s')))

-- a declaration and those after it
abbrev item_written : State → Read UnattributedDeclaration → Read (Attributes → FrontItems)
item_written s m = ((m >>= λ u s1. done (u, span_from (next_start s) s1) s1)
    >>= λ x s1. reader (further declaration_list) s1 >>= λ r s2. done (x, r) s2)
    >>= λ p s1. done (declaration_first p) s1

-- the same, made where its attributes begin
abbrev item_made : List GlobalDirective → Attributes → State → Read UnattributedDeclaration → Read FrontItems
item_made l a s m = ((m >>= λ u s1. done (with_attributes a u) s1)
    >>= λ x s1. done (spanned x (span_from (next_start s) s1)) s1) >>= λ d s1. closed_by l (d ∷ []) s1

item_is : (l : List GlobalDirective) (a : Attributes) (s s' : State)
    → reader (further attribute_list) s ≡ done a s' → (m : Read UnattributedDeclaration)
    → (item_written s' m >>= λ f s1. done (put_before l (f a)) s1) ≡ item_made l a s m
unfolding further_declarations_at
item_is l a s s' h (done u s1) =
    let node : Span → Spanned GlobalDeclaration = λ span. spanned (with_attributes a u) span in
    let more : Read (List (Spanned GlobalDeclaration)) = reader (further declaration_list) s1 in
    let begun = node (span_from (next_start s) s1) in
    bind_associates (more >>= λ r s2. done ((u, span_from (next_start s') s1), r) s2)
    (λ p s2. done (declaration_first p) s2) (λ f s2. done (put_before l (f a)) s2)
    ∙ bind_associates more (λ r s2. done ((u, span_from (next_start s') s1), r) s2)
    (λ p s2. done (put_before l (declaration_first p a)) s2)
    ∙ ap (λ (span : Span). more >>= λ r s2. done (put_before l ([], node span ∷ r)) s2) (attributes_begun s a s' s1 h)
    ∙ bind_alike more _ _ (λ r s2 k. ap (λ ds. done (ds, begun ∷ r) s2) (append-nil l))
    ∙ sym (bind_associates more (λ r s2. done ((begun ∷ []) ++ r) s2) (λ all s2. done (l, all) s2))
item_is l a s s' h (stop e) = refl

declaration_item_is : (l : List GlobalDirective) (a : Attributes) (s s' : State)
    → reader (further attribute_list) s ≡ done a s'
    → (go tables reader declaration_item s' >>= λ f s''. done (put_before l (f a)) s'')
    ≡ (declaration_after_at a (next_start s) s' >>= λ d s''. closed_by l (d ∷ []) s'')
unfolding declaration_after_at declaration_part_at
declaration_item_is l a s s' h = item_is l a s s' h (go tables reader part_written s')

attributed_is : (l : List GlobalDirective) (s : State)
    → following l (go tables reader (attributes_before taken_by after_them) s)
    ≡ (reader (further attribute_list) s >>= λ a s'. after_front_attributes l (next_start s) a s')
attributed_is l s =
    ap (following l) (pair_goes_on (reader (further attribute_list) s) (go tables reader after_them)
    (λ p s'. done (taken_by p.0 p.1) s'))
    ∙ bind_associates (reader (further attribute_list) s) (λ a s'. go tables reader after_them s'
    >>= λ f s''. done (taken_by a f) s'') (λ p s'. done (put_before l p) s')
    ∙ bind_alike (reader (further attribute_list) s) _ _ (λ a s' h. bind_associates (go tables
    reader after_them s') (λ f s''. done (taken_by a f) s'') (λ p s''. done (put_before l p) s'')
    ∙ bind_cond (is_any begin_directive_part s') (go tables reader directive_item s')
    (go tables reader declaration_item s') (λ f s''. done (put_before l (f a)) s'')
    ∙ ap₂ (cond (is_any begin_directive_part s')) (directive_item_is l a s') (declaration_item_is l a s s' h))

-- ---- where no attributes can begin, all is a list of declarations
-- a `;` begins no attributes
semicolon_apart : is_any begin_attributed (alone SymSemicolon) ≡ false
unfolding is_at
semicolon_apart = refl

-- a `;` begins a declaration
semicolon_begins : (s : State) → is_at SymSemicolon s ≡ true → is_any begin_global_declaration s ≡ true
semicolon_begins s y = elim (cases (is_any begin_global_declaration s)) [
  | inl z ↦ z
  | inr n ↦ absurd (let no = not_one SymSemicolon begin_global_declaration s refl n in
      let q : true ≡ false = sym y ∙ no in cc)
]

-- an empty declaration and further ones
void_is : (l : List GlobalDirective) (s : State) → is_at SymSemicolon s ≡ true
    → following l (go tables reader void_item s) ≡ closed_by l [] s
unfolding void_at further_turn further_declarations_at global_declaration_parts
void_is l s y =
    let more : State → Read (List (Spanned GlobalDeclaration)) = reader (further declaration_list) in
    bind_associates (void_at s >>= λ d s'. more s' >>= λ ds s''. done (d, ds) s'')
    (λ p s'. done ([], p.0 ∷ p.1) s') (λ p s'. done (put_before l p) s')
    ∙ pair_goes_on (void_at s) more (λ p s'. done (put_before l ([], p.0 ∷ p.1)) s')
    ∙ bind_alike (void_at s) _ _
    (λ d s' h. bind_alike (more s') _ _ (λ ds s'' k. ap (λ xs. done (xs, d ∷ ds) s'') (append-nil l))
    ∙ sym (bind_associates (more s') (λ ds s''. done ((d ∷ []) ++ ds) s'') (λ all s''. done (l, all) s'')))
    ∙ sym (bind_associates (void_at s) (λ d s'. further_declarations_at (d ∷ []) s') (λ all s''. done (l, all) s''))
    ∙ ap (λ m. m >>= λ all s''. done (l, all) s'')
    (ap (λ m. m >>= λ d s'. further_declarations_at (d ∷ []) s') (sym (global_declaration_by_parts s
    ∙ cond_yes {A = Read (Spanned GlobalDeclaration)} (is_at SymSemicolon s) (void_at s) (attributed_at s) y))
    ∙ sym (further_are [] s ∙ cond_yes {A = Read (List (Spanned GlobalDeclaration))}
    (is_any begin_global_declaration s) (reader (of global_declaration) s
    >>= λ d s'. further_declarations_at ([] ++ (d ∷ [])) s') (done [] s) (semicolon_begins s y)))

-- nothing
nothing_is : (l : List GlobalDirective) (s : State) → is_any begin_global_declaration s ≡ false
    → following l (done ([], []) s) ≡ closed_by l [] s
unfolding further_turn
nothing_is l s n =
    ap (λ xs. done (xs, []) s) (append-nil l)
    ∙ sym (ap (λ m. m >>= λ all s'. done (l, all) s') (further_are [] s
    ∙ cond_no {A = Read (List (Spanned GlobalDeclaration))} (is_any begin_global_declaration s)
    (reader (of global_declaration) s >>= λ d s'. further_declarations_at ([] ++ (d ∷ [])) s') (done [] s) n))

neither_begins : (s : State) → is_any begin_attributed s ≡ false → is_at SymSemicolon s ≡ false
    → is_any begin_global_declaration s ≡ false
neither_begins s n m = none_among begin_global_declaration (SymSemicolon ∷ begin_attributed) s refl
    (cond_no {A = Bool} (is_at SymSemicolon s) true (is_any begin_attributed s) m ∙ n)

-- ---- the equation
pub front_are : (directives : List GlobalDirective) (s : State) → front_from directives s ≡ front_turn directives s
unfolding front_from front_turn front_at
front_are l s =
    let void : Read FrontItems = go tables reader void_item s in
    let attributed : Read FrontItems = go tables reader (attributes_before taken_by after_them) s in
    let nothing : Read FrontItems = done ([], []) s in
    let made : Read FrontItems = reader (further attribute_list) s
    >>= λ a s'. after_front_attributes l (next_start s) a s' in
    let written : Read FrontItems = cond (is_at SymSemicolon s) void
    (cond (is_any begin_attributed s) attributed nothing) in
    ap (following l) (front_is s)
    ∙ elim (cases (is_any begin_attributed s)) [
      | inl y ↦
          ap (following l) (cond_no {A = Read FrontItems} (is_at SymSemicolon s) void
          (cond (is_any begin_attributed s) attributed nothing) (not_at s y)
          ∙ cond_yes {A = Read FrontItems} (is_any begin_attributed s) attributed nothing y)
          ∙ attributed_is l s
          ∙ sym (cond_yes {A = Read FrontItems} (is_any begin_attributed s) made (closed_by l [] s) y)
      | inr n ↦ unattributed_is n
          ∙ sym (cond_no {A = Read FrontItems} (is_any begin_attributed s) made (closed_by l [] s) n)
    ]
  where
    not_at : (s : State) → is_any begin_attributed s ≡ true → is_at SymSemicolon s ≡ false
    not_at s y = elim (cases (is_at SymSemicolon s)) [
      | inl z ↦ absurd (let no = other_class begin_attributed SymSemicolon s semicolon_apart z in
          let q : true ≡ false = sym y ∙ no in cc)
      | inr m ↦ m
    ]

    unattributed_is : is_any begin_attributed s ≡ false
        → following l (cond (is_at SymSemicolon s) (go tables reader void_item s) (cond (is_any begin_attributed s)
        (go tables reader (attributes_before taken_by after_them) s) (done ([], []) s))) ≡ closed_by l [] s
    unattributed_is n = elim (cases (is_at SymSemicolon s)) [
      | inl y ↦ ap (following l) (cond_yes {A = Read FrontItems} (is_at SymSemicolon s)
          (go tables reader void_item s) (cond (is_any begin_attributed s) (go tables reader
          (attributes_before taken_by after_them) s) (done ([], []) s)) y) ∙ void_is l s y
      | inr m ↦
          ap (following l) (cond_no {A = Read FrontItems} (is_at SymSemicolon s)
          (go tables reader void_item s) (cond (is_any begin_attributed s)
          (go tables reader (attributes_before taken_by after_them) s) (done ([], []) s)) m
          ∙ cond_no {A = Read FrontItems} (is_any begin_attributed s)
          (go tables reader (attributes_before taken_by after_them) s) (done ([], []) s) n)
          ∙ nothing_is l s (neither_begins s n m)
    ]

pub front_from_none : (s : State) → reader (further front) s ≡ front_from [] s
unfolding front_from
front_from_none s = after_none (reader (further front) s)
