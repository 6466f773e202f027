-- The names of modules, computed.
use Rattle.std.proofs.Common.{◌≡◌, ℕ, true, false, List, [], ◌∷◌, Some, refl}
use Rattle.std.specs.Prelude.{codes}
use Rattle.wgsl_model_names.specs.Scopes.{Names, used, declared, alternative, ◌then◌, scope, under_if, under_elif, under_else, declaration, outside, referents_of}
use Rattle.wgsl_model_minify.specs.NewNames.{renaming_of}
use Rattle.wgsl_model_minify.specs.Occurrences.{occurrences}
use Rattle.wgsl_model_minify.specs.Renamed.{declared_names, module_names, fixed_words}
use Rattle.wgsl_minify_names.specs.InScope.{no_scopes, staying}
use Rattle.wgsl_minify_names.specs.Short.{number_of}

abbrev a : List ℕ
a = codes "a"

abbrev b : List ℕ
b = codes "b"

abbrev f : List ℕ
f = codes "f"

abbrev x : List ℕ
x = codes "x"

abbrev y : List ℕ
y = codes "y"

-- ---- const a = b; fn f(x: a) { x; { let y = 1; y; } y; }
abbrev names : Names
names = declared a then declared f then used b then used a
    then scope (declared x then used x then scope (declared y then used y) then used y)

pub all_declared : declared_names names ≡ a ∷ f ∷ x ∷ y ∷ []
all_declared = refl

pub own_of_the_module : module_names names ≡ a ∷ f ∷ []
own_of_the_module = refl

pub outside_after_its_scope : referents_of names
    ≡ (outside b ∷ []) ∷ (declaration 0 ∷ []) ∷ (declaration 2 ∷ []) ∷ (declaration 3 ∷ []) ∷ (outside y ∷ []) ∷ []
outside_after_its_scope = refl

pub outside_stays : staying false no_scopes (occurrences names) ≡ b ∷ y ∷ []
outside_stays = refl

pub own_names_stay : staying true no_scopes (occurrences names) ≡ a ∷ f ∷ b ∷ y ∷ []
own_names_stay = refl

-- ---- @if(a) const x = 1; @elif(b) const x = 2; @else const x = 3; const y = x;
abbrev alike : Names
alike = alternative under_if (Some x) then alternative under_elif (Some x)
    then alternative under_else (Some x) then declared y then used x

pub one_of_alternatives : referents_of alike ≡ (declaration 2 ∷ declaration 1 ∷ declaration 0 ∷ []) ∷ []
one_of_alternatives = refl

pub declared_in_each : staying false no_scopes (occurrences alike) ≡ []
declared_in_each = refl

-- ---- @if(a) const x = 1; @elif(b) const y = 2; @else const x = 3; const y = x;
abbrev different : Names
different = alternative under_if (Some x) then alternative under_elif (Some y)
    then alternative under_else (Some x) then declared y then used x

pub or_outside : referents_of different ≡ (declaration 2 ∷ declaration 0 ∷ outside x ∷ []) ∷ []
or_outside = refl

pub not_in_each : staying false no_scopes (occurrences different) ≡ x ∷ []
not_in_each = refl

-- ---- words and renaming
pub words : fixed_words ≡ codes "_" ∷ codes "function" ∷ codes "private" ∷ codes "workgroup" ∷ codes "uniform"
    ∷ codes "storage" ∷ codes "read" ∷ codes "write" ∷ codes "read_write" ∷ []
words = refl

pub renamed : renaming_of ((f, a) ∷ (x, b) ∷ []) x ≡ b
renamed = refl

pub not_renamed : renaming_of ((f, a) ∷ (x, b) ∷ []) y ≡ y
not_renamed = refl

pub first_letter : number_of (codes "a") ≡ 1
first_letter = refl

pub last_letter : number_of (codes "Z") ≡ 52
last_letter = refl

pub first_of_two : number_of (codes "aa") ≡ 53
first_of_two = refl

pub second_of_two : number_of (codes "ba") ≡ 54
second_of_two = refl
