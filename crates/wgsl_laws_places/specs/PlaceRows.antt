-- Modules by their tokens, and what each of their uses may refer to: declarations of the module are
-- counted first, from 0, then those in functions.
use Rattle.std.specs.Prelude.{ℕ, List, [], ◌∷◌, ◌++◌, codes}
use Rattle.wgsl_model_names.specs.Scopes.{Referent, declaration, outside}
use Rattle.wgsl_model_places.specs.Places.{referents}
use Rattle.wgsl_laws_places.specs.RowTokens.{tokens_of}

abbrev pub d : ℕ → List Referent
d n = declaration n ∷ []

abbrev pub out : List ℕ → List Referent
out x = outside x ∷ []

abbrev pub Row : Type 0
Row = List ℕ × List (List Referent)

abbrev pub refers : Row → List (List Referent)
refers row = referents (tokens_of row.0)

abbrev pub given : Row → List (List Referent)
given row = row.1

abbrev pub rows : List Row
rows = (
  codes "const a = b ; const b = 1 ;",
  d 1 ∷ [],
) ∷ (
  codes "fn f ( ) { let x = 1 ; let y = x ; }",
  d 1 ∷ [],
) ∷ (
  codes "const x = 1 ; fn f ( ) { let x = x ; }",
  d 0 ∷ [],
) ∷ (
  codes "fn f ( a : i32 ) -> i32 { return a ; }",
  out (codes "i32") ∷ out (codes "i32") ∷ d 1 ∷ [],
) ∷ (
  codes "const a = 1 ; fn f ( a : i32 , b : array ‹ i32 , a › ) { }",
  out (codes "i32") ∷ out (codes "array") ∷ out (codes "i32") ∷ d 0 ∷ [],
) ∷ (
  codes "const a = 1 ; fn f ( a : i32 ) -> array ‹ i32 , a › { return b ; }",
  out (codes "i32") ∷ out (codes "array") ∷ out (codes "i32") ∷ d 0 ∷ out (codes "b") ∷ [],
) ∷ (
  codes "fn f ( ) { { let x = 1 ; } let y = x ; }",
  out (codes "x") ∷ [],
) ∷ (
  codes "fn f ( ) { for ( var i = 0 ; i < 2 ; i ++ ) { let j = i ; } let k = i ; }",
  d 1 ∷ d 1 ∷ d 1 ∷ out (codes "i") ∷ [],
) ∷ (
  codes "fn f ( ) { for ( var i = 0 ; i < 2 ; i ++ ) { var i = 5 ; i ++ ; } }",
  d 1 ∷ d 1 ∷ d 2 ∷ [],
) ∷ (
  codes "fn f ( ) { loop { let x = 1 ; continuing { let y = x ; break if y == x ; } } }",
  d 1 ∷ d 2 ∷ d 1 ∷ [],
) ∷ (
  codes "fn f ( ) { loop { continuing { let y = 1 ; break if y == 1 ; } } let z = y ; }",
  d 1 ∷ out (codes "y") ∷ [],
) ∷ (
  codes "fn f ( ) { let i = 0 ; while i < 1 { let i = 2 ; g ( i ) ; } h ( i ) ; }",
  d 1 ∷ out (codes "g") ∷ d 2 ∷ out (codes "h") ∷ d 1 ∷ [],
) ∷ (
  codes "fn f ( ) { if true { let q = 1 ; } else if q == 1 { } else { g ( q ) ; } }",
  out (codes "q") ∷ out (codes "g") ∷ out (codes "q") ∷ [],
) ∷ (
  codes "fn f ( ) { let s = 1 ; switch s { case s : { let s = 2 ; g ( s ) ; } case default { g ( s ) ; } } }",
  d 1 ∷ d 1 ∷ out (codes "g") ∷ d 2 ∷ out (codes "g") ∷ d 1 ∷ [],
) ∷ (
  codes "const N = 4 ; @ compute @ workgroup_size ( N , 1 , N ) fn main ( ) { let N = 1 ; }",
  d 0 ∷ d 0 ∷ [],
) ∷ (
  codes "override k = 1u ; @ compute @ workgroup_size ( k ) fn main ( ) { g ( k ) ; }",
  d 0 ∷ out (codes "g") ∷ d 0 ∷ [],
) ∷ (
  codes "@ id ( n ) override k = 1u ; const n = 3 ;",
  d 1 ∷ [],
) ∷ (
  codes "const g = 0 ; @ group ( g ) @ binding ( g ) var ‹ storage , read_write › b : array ‹ f32 › ;",
  d 0 ∷ d 0 ∷ out (codes "storage") ∷ out (codes "read_write") ∷ out (codes "array")
      ∷ out (codes "f32") ∷ [],
) ∷ (
  codes "struct S { @ align ( n ) @ size ( n ) a : T } alias T = f32 ; const n = 16 ;",
  d 2 ∷ d 2 ∷ d 1 ∷ out (codes "f32") ∷ [],
) ∷ (
  codes "fn f ( ) -> @ location ( l ) vec4f { return vec4f ( ) ; } const l = 0 ;",
  d 1 ∷ out (codes "vec4f") ∷ out (codes "vec4f") ∷ [],
) ∷ (
  codes "struct V { @ builtin ( position ) position : vec4f } fn position ( ) -> V { return V ( vec4f ( ) ) ; }",
  out (codes "vec4f") ∷ d 0 ∷ d 0 ∷ out (codes "vec4f") ∷ [],
) ∷ (
  codes "const flat = 1 ; struct V { @ location ( 0 ) @ interpolate ( flat ,"
      ++ codes " either ) x : f32 } const either = flat ;",
  out (codes "f32") ∷ d 0 ∷ [],
) ∷ (
  codes "const read = 1 ; var t : texture_storage_2d ‹ rgba8unorm , read › ;",
  out (codes "texture_storage_2d") ∷ out (codes "rgba8unorm") ∷ d 0 ∷ [],
) ∷ (
  codes "const rgba8unorm = 1 ; var t : texture_storage_2d ‹ rgba8unorm , write › ;",
  out (codes "texture_storage_2d") ∷ d 0 ∷ out (codes "write") ∷ [],
) ∷ (
  codes "fn f ( p : ptr ‹ function , i32 › ) { let function = 1 ; }",
  out (codes "ptr") ∷ out (codes "function") ∷ out (codes "i32") ∷ [],
) ∷ (
  codes "fn max ( a : i32 , b : i32 ) -> i32 { return a ; } fn g ( ) -> i32 { return max ( 1 , 2 ) ; }",
  out (codes "i32") ∷ out (codes "i32") ∷ out (codes "i32") ∷ d 2 ∷ out (codes "i32") ∷ d 0 ∷ [],
) ∷ (
  codes "fn f ( ) -> f32 { let sin = 1.0 ; return sin + cos ( sin ) ; }",
  out (codes "f32") ∷ d 1 ∷ out (codes "cos") ∷ d 1 ∷ [],
) ∷ (
  codes "fn f ( ) { let min = min ( 1 , 2 ) ; g ( min ) ; }",
  out (codes "min") ∷ out (codes "g") ∷ d 1 ∷ [],
) ∷ (
  codes "struct vec3f { x : f32 } fn f ( v : vec3f ) -> f32 { return v . x ; }",
  out (codes "f32") ∷ d 0 ∷ out (codes "f32") ∷ d 2 ∷ [],
) ∷ (
  codes "fn f ( v : vec3f ) -> f32 { let xy = v . xy ; let x = xy . x ; return x ; }",
  out (codes "vec3f") ∷ out (codes "f32") ∷ d 1 ∷ d 2 ∷ d 3 ∷ [],
) ∷ (
  codes "fn f ( ) { var a = array ‹ i32 , 2 › ( ) ; let i = 0 ; a [ i ] . x = a [ i + i ] . y ; }",
  out (codes "array") ∷ out (codes "i32") ∷ d 1 ∷ d 2 ∷ d 1 ∷ d 2 ∷ d 2 ∷ [],
) ∷ (
  codes "fn f ( ) { _ = g ( _x ) ; } fn g ( x : i32 ) -> i32 { return x ; }",
  out (codes "_") ∷ d 1 ∷ out (codes "_x") ∷ out (codes "i32") ∷ out (codes "i32") ∷ d 2 ∷ [],
) ∷ (
  codes "fn f ( ) { f ( ) ; }",
  d 0 ∷ [],
) ∷ (
  codes "fn f ( f : i32 ) { g ( f ) ; }",
  out (codes "i32") ∷ out (codes "g") ∷ d 1 ∷ [],
) ∷ (
  codes "alias A = array ‹ B , c › ; struct B { a : A } const c = 1 ;",
  out (codes "array") ∷ d 1 ∷ d 2 ∷ d 0 ∷ [],
) ∷ (
  codes "const_assert a == 1 ; const a = 1 ;",
  d 0 ∷ [],
) ∷ (
  codes "fn f ( ) { const a = 2 ; const_assert a == 2 ; var b : array ‹ i32 , a › ; }",
  d 1 ∷ out (codes "array") ∷ out (codes "i32") ∷ d 1 ∷ [],
) ∷ (
  codes
      "diagnostic ( off , derivative_uniformity ) ; const" ++ codes
      " derivative_uniformity = 1 ; @ diagnostic ( off , derivative_uniformity ) fn f ( ) { }",
  [],
) ∷ (
  codes "enable f16 ; requires foo ; const f16 = 1 ; const foo = f16 ;",
  d 0 ∷ [],
) ∷ (
  codes "fn f ( ) { let a = 1 ; { let a = a ; { let a = a ; g ( a ) ; } g ( a ) ; } g ( a ) ; }",
  d 1 ∷ d 2 ∷ out (codes "g") ∷ d 3 ∷ out (codes "g") ∷ d 2 ∷ out (codes "g") ∷ d 1 ∷ [],
) ∷ (
  codes "fn f ( ) { var x = 1 ; x += x ; x -- ; * ( & x ) = x ; }",
  d 1 ∷ d 1 ∷ d 1 ∷ d 1 ∷ d 1 ∷ [],
) ∷ (
  codes "var ‹ private › p : P ; struct P { p : p } alias p2 = p ;",
  out (codes "private") ∷ d 1 ∷ d 0 ∷ d 0 ∷ [],
) ∷ (
  codes "fn f ( ) { for ( ; ; ) { let a = 1 ; break ; } for ( a = 0 ; a < 1 ; a ++ ) { } }",
  out (codes "a") ∷ out (codes "a") ∷ out (codes "a") ∷ [],
) ∷ (
  codes "fn f ( a : i32 ) { switch a { case 1 , a : { } default : { } } }",
  out (codes "i32") ∷ d 1 ∷ d 1 ∷ [],
) ∷ (
  codes "@ const fn f ( a : f32 ) -> f32 { return a ; } @ must_use fn g ( ) -> f32 { return f ( 1 ) ; }",
  out (codes "f32") ∷ out (codes "f32") ∷ d 2 ∷ out (codes "f32") ∷ d 0 ∷ [],
) ∷ (
  codes "fn f ( ) { let v = vec2 ‹ f32 › ( 1 , 2 ) ; let w = v < v ; }",
  out (codes "vec2") ∷ out (codes "f32") ∷ d 1 ∷ d 1 ∷ [],
) ∷ (
  codes "const a = 1 ; const b = 2 ; fn f ( c : i32 ) -> bool { return a < c && b > ( c ) ; }",
  out (codes "i32") ∷ out (codes "bool") ∷ d 0 ∷ d 3 ∷ d 1 ∷ d 3 ∷ [],
) ∷ (
  codes
      "@ vertex fn v ( @ builtin ( vertex_index ) i : u32 , @ location ( 0 )" ++ codes
      " q : vec4f ) -> @ builtin ( position ) vec4f { return q ; }",
  out (codes "u32") ∷ out (codes "vec4f") ∷ out (codes "vec4f") ∷ d 2 ∷ [],
) ∷ []

-- the same, where declarations may be missing
abbrev pub alternatives : List Row
alternatives = (
  codes "@ if ( a ) fn max ( ) { } fn f ( ) { let y = max ( 1 ) ; }",
  (outside (codes "a") ∷ []) ∷ (declaration 0 ∷ outside (codes "max") ∷ []) ∷ [],
) ∷ (
  codes "fn f ( ) { @ if ( a ) let exp = 1 ; let y = exp ( 2 ) ; }",
  (outside (codes "a") ∷ []) ∷ (declaration 1 ∷ outside (codes "exp") ∷ []) ∷ [],
) ∷ (
  codes "fn f ( @ if ( a ) min : u32 ) { let y = min ; }",
  (outside (codes "a") ∷ []) ∷ (outside (codes "u32") ∷ [])
      ∷ (declaration 1 ∷ outside (codes "min") ∷ []) ∷ [],
) ∷ (
  codes "@ if ( a ) alias f16 = f32 ; const b : f16 = 1 ;",
  (outside (codes "a") ∷ []) ∷ (outside (codes "f32") ∷ [])
      ∷ (declaration 0 ∷ outside (codes "f16") ∷ []) ∷ [],
) ∷ (
  codes "@ if ( a ) const s = 2 ; @ else const s = 1 ; const t = s ;",
  (outside (codes "a") ∷ []) ∷ (declaration 1 ∷ declaration 0 ∷ []) ∷ [],
) ∷ (
  codes "@ if ( a ) const s = 3 ; @ elif ( b ) const s = 2 ; @ else const s = 1 ; const t = s ;",
  (outside (codes "a") ∷ []) ∷ (outside (codes "b") ∷ [])
      ∷ (declaration 2 ∷ declaration 1 ∷ declaration 0 ∷ []) ∷ [],
) ∷ (
  codes "@ if ( a ) const s = 3 ; @ elif ( b ) const t = 2 ; @ else const s = 1 ; const x = s ;",
  (outside (codes "a") ∷ []) ∷ (outside (codes "b") ∷ [])
      ∷ (declaration 2 ∷ declaration 0 ∷ outside (codes "s") ∷ []) ∷ [],
) ∷ (
  codes "@ if ( a ) const s = 3 ; @ elif ( b ) const_assert c ; @ else const s = 1 ; const x = s ;",
  (outside (codes "a") ∷ []) ∷ (outside (codes "b") ∷ []) ∷ (outside (codes "c") ∷ [])
      ∷ (declaration 1 ∷ declaration 0 ∷ outside (codes "s") ∷ []) ∷ [],
) ∷ (
  codes "@ if ( a ) const s = 2 ; @ else @ if ( b ) const s = 1 ; const t = s ;",
  (outside (codes "a") ∷ []) ∷ (outside (codes "b") ∷ [])
      ∷ (declaration 1 ∷ declaration 0 ∷ outside (codes "s") ∷ []) ∷ [],
) ∷ (
  codes "fn g ( ) { @ if ( a ) let exp = f ( 1 ) ; @ else let exp = exp ( 2 ) ; let y = exp ; }",
  (outside (codes "a") ∷ []) ∷ (outside (codes "f") ∷ [])
      ∷ (declaration 1 ∷ outside (codes "exp") ∷ []) ∷ (declaration 2 ∷ declaration 1 ∷ []) ∷ [],
) ∷ (
  codes "const x = 1 ; fn f ( ) { @ if ( a ) let x = 2 ; let y = x ; }",
  (outside (codes "a") ∷ []) ∷ (declaration 2 ∷ declaration 0 ∷ []) ∷ [],
) ∷ (
  codes "fn f ( ) { @ if ( a ) let s = 1 ; @ elif ( b ) { } @ else let s = 2 ; let t = s ; }",
  (outside (codes "a") ∷ []) ∷ (outside (codes "b") ∷ [])
      ∷ (declaration 2 ∷ declaration 1 ∷ outside (codes "s") ∷ []) ∷ [],
) ∷ (
  codes "fn f ( ) { @ if ( a ) let s = 1 ; @ elif ( b ) if c { } else { } @ else let s = 2 ; let t = s ; }",
  (outside (codes "a") ∷ []) ∷ (outside (codes "b") ∷ []) ∷ (outside (codes "c") ∷ [])
      ∷ (declaration 2 ∷ declaration 1 ∷ outside (codes "s") ∷ []) ∷ [],
) ∷ (
  codes "fn f ( ) { if a @ if ( b ) { } @ if ( a ) let s = 1 ; @ else let s = 2 ; let t = s ; }",
  (outside (codes "a") ∷ []) ∷ (outside (codes "b") ∷ []) ∷ (outside (codes "a") ∷ [])
      ∷ (declaration 2 ∷ declaration 1 ∷ []) ∷ [],
) ∷ (
  codes "fn f ( ) { for ( @ if ( a ) var i = 1 ; i < 1 ; @ if ( b ) i ++ ) { g ( i ) ; } }",
  (outside (codes "a") ∷ []) ∷ (declaration 1 ∷ outside (codes "i") ∷ [])
      ∷ (outside (codes "b") ∷ []) ∷ (declaration 1 ∷ outside (codes "i") ∷ [])
      ∷ (outside (codes "g") ∷ []) ∷ (declaration 1 ∷ outside (codes "i") ∷ []) ∷ [],
) ∷ (
  codes "fn f ( a : i32 ) @ if ( a ) { }",
  (outside (codes "i32") ∷ []) ∷ (outside (codes "a") ∷ []) ∷ [],
) ∷ (
  codes "fn f ( a : i32 ) -> @ size ( a ) i32 @ size ( a ) { }",
  (outside (codes "i32") ∷ []) ∷ (outside (codes "a") ∷ []) ∷ (outside (codes "i32") ∷ [])
      ∷ (declaration 1 ∷ []) ∷ [],
) ∷ []
