-- An empty list owns no memory, so it is lent as a part of the node, which stays as it was.
use mathlib.Core.Path.{◌≡◌, refl, sym, subst}
use Prim.Native.Nat.{ℕ, zero}
use native.Mathlib.Omega.{arith}
use mathlib.Core.List.{List, [], ◌∷◌, ◌++◌}
use lib.ListN.{length}
use lib.Dec.{lit<}
use seplogic.Ra.Ura.{Ura}
use mir.Syntax.{Fn, a_type, named}
use mir.MapTy.{inst_fn}
use mir.Val.{Val, vptr}
use base.Logic.{SProp, ent, sep, via, fst∗, snd∗}
use base.Fml.{GName, ftrue, flft}
use prog.Memory.{Memory}
use prog.Routine.{Routine}
use prog.Wp.{Calls, Loops, WpFn, Tables, spot_of}
use types.Logic.{Logic, sem}
use types.SemTy.{cells}
use types.Mut.{open_ref}
use types.Part.{agg}
use types.Kit.{‵, raw, ◌⊛◌, ◌$◌, ◌∵◌, !, qed, move, keep, drop, group, split, split3, join, fsplit, fsplit3, fjoin, suffices, frame, done, use1, later, some, await, pick}
use types.Run.{stop, addr, lit, from, returns, enter, and_then, no_more}
use types.ByLocal.{alloc_all, pass_all, free_all, look_at, get, sets, env}
use contract.Monad.{Fun, fact_use}
use contract.Running.{tables, tables_of}
use sound.WpLaws.{WpFn-mono}
use denote.Array.{Array}
use denote.Builtin.{RefMutOf}
use denote.Exit.{no}
use denote.Follow.{follows}
use denote.FollowSlice.{lends_Elements}
use denote.Laws.{Are, Ises, owns_show, showss}
use denote.Memory.{mem}
use denote.Param.{layouts, param}
use denote.RattleType.{RattleType, owns}
use denote.Ref.{MutBor}
use denote.Signature.{types_at, plain}
use denote.Slice.{MutSlice, slice_val}
use denote.Steps.{nothing}
use denote.Triple.Clauses.{Clauses, closing}
use denote.Triple.Entry.{on_entry, alive}
use denote.Triple.Spec.{Meets, triple_of}
use denote.Triple.Table.{entered}
use denote.Triple.Walked.{says, Stays, stay_dropped, walk_of, ends_at, walk_Meets, Goes-spent_ref}
use Rattle.wgsl_span.specs.contracts.Spanned.{the_row as spanned_row}
use Rattle.wgsl_tree_attribute.specs.contracts.attribute.Attribute.{the_row as attribute_row}
use Rattle.wgsl_tree_node.specs.contracts.attribute_list.no_attributes as F
use Rattle.wgsl_tree_node.specs.contracts.attribute_list.no_attributes.Key.{name as #self}
use Rattle.wgsl_tree_node.proofs.attribute_list.no_attributes.Statement as stated
use Rattle.wgsl_tree_node.proofs.attribute_list.no_attributes.Code as code

abbrev Item : RattleType
Item = spanned_row attribute_row

module _ (Y : RattleType) where
  abbrev function : Fn
  function = inst_fn (layouts (a_type ∷ []) (Y, tt)) code.function

  abbrev stayed : Stays (F.ended Y).signature.params (F.ended Y).kept
  stayed = (stay_dropped (RefMutOf (0 ∷ []) tt (plain (λ _. param 0 Y)) (λ _. tt)) no, tt)

module _ (Y : RattleType) {M : Type 1} {𝓤 : Ura M} (𝓛 : Logic 𝓤) (memory : Memory → SProp 𝓤)
    (run : Routine → Fun 𝓤) where
  open 𝓛 use {H}

  abbrev held : Clauses 𝓤 (F.ended Y)
  held = F.clauses Y 𝓛 memory run

  abbrev R : RattleType
  R = param 0 Y

  module _ (C : Calls 𝓤 H) (Λ : Loops 𝓤 H) (z : (walk_of 𝓛 (F.ended Y) (stayed Y) held).Ghost) where
    abbrev At : List Val → (walk_of 𝓛 (F.ended Y) (stayed Y) held).Ghost
    At us = ((z.0.0, z.0.1, z.0.2, z.0.3, (us, tt)), z.1)

    abbrev Post : List Val → Val → SProp 𝓤
    Post us = (walk_of 𝓛 (F.ended Y) (stayed Y) held).post (At us)

    abbrev Goes : List Val → Type 1
    Goes us = ent 𝓤 ((walk_of 𝓛 (F.ended Y) (stayed Y) held).pre (At us))
        (WpFn 𝓤 H C Λ (function Y) (us ++ []) (Post us))

    abbrev b : ℕ
    b = z.0.3.0.ref_ptr.0

    abbrev o : ℕ
    o = z.0.3.0.ref_ptr.1

    abbrev x : Y.Denot
    x = z.0.3.0.now

    abbrev Node : SProp 𝓤
    Node = sem 𝓛 ((mem R).own_at x b o)

    back : (b' : ℕ) (ws : List Item.Denot) → length ws ≡ 0
        → ent 𝓤 (sep 𝓤 (sem 𝓛 (cells (mem Item) ws b' zero)) Node) Node
    back b' ws e = qed 𝓛 (‵ (cells (mem Item) ws b' zero) ∷ raw Node ∷ []) ∵ drop ! $ done !

    walks : Goes (vptr b o ∷ [])
    walks =
        let κ = z.0.0.0 in let q = z.0.1.0 in let γ : GName = z.0.3.0.ghost_name in
        qed 𝓛 (((‵ (flft κ q) ⊛ ‵ (flft z.0.0.1.0 z.0.1.1.0) ⊛ ‵ ftrue) ⊛ ‵ (owns (types_at (F.ended
        Y).signature.params z.0.0) z.0.3 (vptr b o ∷ [], tt))) ∷ raw ((held z.0.0 z.0.3).requires z.1) ∷ []) ∵
        split ! $ split ! $ move ! (2 ∷ []) $ fsplit ! $ fsplit3 ! $ keep ! (1 ∷ 2 ∷ 4 ∷ 5 ∷ []) $
        enter ! C Λ (function Y) (vptr b o ∷ []) _
        $ alloc_all ! (λ l. pass_all ! refl ((tt, tt), tt) $ let En = env (function Y).locals l in
        let b' : ℕ = (spot_of 𝓤 H En 2).1 in let got : GName → MutBor (List Item.Denot) =
        λ δ. record { ref_ptr = (b', zero); ghost_name = δ; now = [] } in
        open_ref ! tt (mem R) $ nothing ! $ move ! (2 ∷ 3 ∷ 4 ∷ 0 ∷ 1 ∷ []) $ group ! 5 $
        use1 𝓛 (later (some (λ (δ : GName). ‵ ((MutSlice (named 0) κ Item).own_val (got δ)
        (slice_val (b', zero) 0 ∷ [])) ⊛ ‵ (flft κ q) ⊛ ‵ (follows R (Array Item 0) γ δ (λ _. x)))))
        (lends_Elements 𝓛 R Item (λ _. x) (named 0) κ q b o b' zero γ [] (omega arith, omega arith)
        Node (back b') (R.coded.code x) (R.coded.code x)) $ await ! tt $ pick ! (λ δ. split3 ! $
        sets ! (agg ! (no_more !)) refl (tt, tt) $
        sets ! (addr ! (from ! (stop !))) refl (tt, tt) $
        sets ! (agg ! (and_then ! (get ! refl) (and_then ! (lit ! tt) (no_more !)))) refl
        (tt, (tt, (record { fits = lit< tt }, tt))) $
        returns ! (look_at ! 0 refl) $ free_all ! refl $ suffices ! _ (ends_at 𝓛 (F.ended Y)
        (stayed Y) held (At (vptr b o ∷ [])) (slice_val (b', zero) 0) (got δ) (tt, tt) (tt, tt)) $
        nothing ! $ nothing ! $ fjoin ! $ move ! (2 ∷ 4 ∷ []) $ join ! $ move ! (1 ∷ 2 ∷ [])
        $ join ! $ move ! (1 ∷ 0 ∷ []) $ join ! $ frame ! $ says ! refl $ keep ! (0 ∷ []) $ done !))

    entry : (us : List Val) → (us ≡ vptr b o ∷ []) × (Unit {0} × Unit {0}) → Goes us
    entry us p = subst Goes (sym p.0) walks

  meets : (𝓣 : Tables 𝓤 H) → Meets 𝓛 (F.ended Y).signature (WpFn 𝓤 H 𝓣.C 𝓣.Λ (function Y)) (closing 𝓛 (F.ended Y) held)
  meets 𝓣 =
      walk_Meets 𝓛 (F.ended Y) (stayed Y) (Goes-spent_ref 𝓛 2 (0 ∷ []) tt (plain (λ _. R)), tt) held
      (WpFn 𝓤 H 𝓣.C 𝓣.Λ (function Y)) (WpFn-mono 𝓤 H 𝓛.laws 𝓣 (function Y))
      (λ z. let a = z.0.3 in let vss = z.0.4 in
      let Rs : List RattleType = types_at (F.ended Y).signature.params z.0.0 in
      fact_use 𝓤 (Are Rs (Ises Rs) a vss) (via 𝓤 (sem 𝓛 (owns Rs a vss)) (via 𝓤 (on_entry 𝓛
      (F.ended Y).signature z.0.0 z.0.1 a vss) (fst∗ 𝓤 (on_entry 𝓛 (F.ended Y).signature z.0.0 z.0.1
      a vss) ((held z.0.0 a).requires z.1)) (snd∗ 𝓤 (alive 𝓛 (F.ended Y).signature z.0.0 z.0.1)
      (sem 𝓛 (owns Rs a vss)))) (owns_show 𝓛 Rs (Ises Rs) (showss 𝓛 Rs) a vss)) (λ are.
      entry 𝓣.C 𝓣.Λ z vss.0 are.0))

pub no_attributes_spec : {M : Type 1} → stated.statement M
unfolding tables_of
no_attributes_spec 𝓤 𝓛 𝓜 𝓡 wired Y laws =
    let 𝓣 : Tables 𝓤 𝓛.H = tables_of 𝓤 𝓛.H 𝓜 (tables 𝓤 𝓛.H 𝓜 𝓡 𝓡.env) in
    entered 𝓤 𝓛.H
    (triple_of 𝓛 (F.ended Y).signature (closing 𝓛 (F.ended Y) (F.clauses Y 𝓛 𝓜.mem 𝓡.returns))) 𝓣.C
    𝓣.Λ (#self (layouts (a_type ∷ []) (Y, tt))) (function Y) (code.unfolded 𝓤 𝓛.H 𝓜 𝓡 wired (Y, tt))
    (meets Y 𝓛 𝓜.mem 𝓡.returns 𝓣)
