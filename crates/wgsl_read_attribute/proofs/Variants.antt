-- The types that an expression joins by `|`, the last first.
use Rattle.std.proofs.Common.{◌≡◌, refl, sym, ap, ◌∙◌, Option, Some, None, List, [], ◌∷◌, ◌++◌, map, option_map, reverse}
use Rattle.std.proofs.lemmas.List.{append_assoc, reverse-append, map_push}
use Rattle.wgsl_model.specs.Trees.Expressions.{Expression, TypeExpression}
use Rattle.wgsl_model.specs.Grammar.Checks.{variants_in}
use Rattle.wgsl_read_attribute.specs.Variants.{variants_before}

map_reverse : {X Y : Type 0} (f : X → Y) (xs : List X) → map f (reverse xs) ≡ reverse (map f xs)
map_reverse f [] = refl
map_reverse f (x ∷ xs) =
    ap (map f) (reverse-append (x ∷ []) xs)
    ∙ map_push f (reverse xs) x
    ∙ ap (λ l. l ++ (f x ∷ [])) (map_reverse f xs)
    ∙ sym (reverse-append (f x ∷ []) (map f xs))

-- what comes before some types, the last of which was met first
abbrev pub following : List TypeExpression → Option (List TypeExpression) → Option (List TypeExpression)
following ts = option_map (λ front. front ++ reverse ts)

one_more : (t : TypeExpression) (ts : List TypeExpression) (o : Option (List TypeExpression))
    → following ts (option_map (λ front. front ++ (t ∷ [])) o) ≡ following (ts ++ (t ∷ [])) o
one_more t ts None = refl
one_more t ts (Some front) = ap Some
    (append_assoc front (t ∷ []) (reverse ts) ∙ ap (λ l. front ++ l) (sym (reverse-append ts (t ∷ []))))

-- one type more was met
pub met : (whole : Option (List TypeExpression)) (rest front : Option Expression)
    (joined : Expression) (t : TypeExpression) (ts us : List TypeExpression)
    → whole ≡ following ts (variants_before rest)
    → rest ≡ Some joined
    → variants_in joined ≡ option_map (λ first. first ++ (t ∷ [])) (variants_before front)
    → us ≡ ts ++ (t ∷ [])
    → whole ≡ following us (variants_before front)
met whole rest front joined t ts us h r j u =
    h
    ∙ ap (λ x. following ts (variants_before x)) r
    ∙ ap (following ts) j
    ∙ one_more t ts (variants_before front)
    ∙ ap (λ x. following x (variants_before front)) (sym u)

-- all were met
pub all_met : {X : Type 0} (view : X → TypeExpression) (whole : Option (List TypeExpression))
    (rest : Option Expression) (types turned : List X)
    → whole ≡ following (map view types) (variants_before rest)
    → rest ≡ None
    → turned ≡ reverse types
    → Some (map view turned) ≡ whole
all_met view whole rest types turned h r t =
    ap (λ l. Some (map view l)) t
    ∙ ap Some (map_reverse view types)
    ∙ sym (ap (λ x. following (map view types) (variants_before x)) r)
    ∙ sym h
