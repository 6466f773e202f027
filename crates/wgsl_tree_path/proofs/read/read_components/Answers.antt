use Rattle.std.proofs.Common.{◌≡◌, ℕ, List, [], ◌∷◌, ◌++◌, sym, ◌∙◌, ap, map, string_bytes, rules, String, Global}
use Rattle.std.proofs.lemmas.List.{map-append, append_assoc, append-nil}
use Rattle.wgsl_model.specs.Trees.Paths.{path_parts}
use Rattle.wgsl_tree_path.proofs.Parts.{one_part, more_parts}
use Rattle.wgsl_tree_path.proofs.Reading.{faults, fault_free, accepted}
use Rattle.wgsl_tree_path.proofs.read.read_components.Goals as goal

-- one more name, and the parts after it
name_more : (names : List (String Global)) (name : String Global) (part : List ℕ) (parts : List (List ℕ))
    → string_bytes name ≡ part
    → map string_bytes (names ++ (name ∷ [])) ++ parts ≡ map string_bytes names ++ (part ∷ parts)
name_more names name part parts same =
    ap (λ xs. xs ++ parts) (map-append string_bytes names (name ∷ []))
    ∙ append_assoc (map string_bytes names) (string_bytes name ∷ []) parts
    ∙ ap (λ first. map string_bytes names ++ (first ∷ parts)) same

pub parts-preserved : goal.parts-preserved
parts-preserved c =
    let part = c.in-Some.part.now in
    let rest = path_parts c.in-Some.rest.now in
    let parts = more_parts c.parts.left.now c.in-Some.part c.in-Some.rest c.in-Some.ensures.cases in
    let names = c.parts.names.items in (
      search rules,
      sym (fault_free part rest c.in_ok-read_component.ensures.free) ∙ sym (ap faults parts)
          ∙ c.parts.invariant.1,
      ap (λ xs. map string_bytes xs ++ rest) c.in_ok-push.ensures.items
          ∙ name_more names c.in_ok-read_component.field-0 part rest c.in_ok-read_component.ensures.name
          ∙ sym (ap (λ xs. map string_bytes names ++ xs) parts) ∙ c.parts.invariant.2,
    )

pub returns-clause-read : goal.returns-clause-read
returns-clause-read c =
    let left = c.parts.left.now in
    let part = one_part left c.in_default.ensures.cases in
    let names = c.parts.names.items in
    accepted (path_parts c.args.text.now) (map string_bytes c.push-2.new.self.items)
    (sym c.parts.invariant.1 ∙ ap faults part ∙ fault_free left [] c.in_ok-read_component-2.ensures.free)
    (sym (append-nil (map string_bytes c.push-2.new.self.items))
    ∙ ap (λ xs. map string_bytes xs ++ []) c.in_ok-push-2.ensures.items
    ∙ name_more names c.in_ok-read_component-2.field-0 left [] c.in_ok-read_component-2.ensures.name
    ∙ sym (ap (λ xs. map string_bytes names ++ xs) part) ∙ c.parts.invariant.2)
