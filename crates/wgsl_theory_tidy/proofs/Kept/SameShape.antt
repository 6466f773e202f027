-- The kinds of the tokens of a source have the shape that lets another text have tokens of these
-- kinds.
use Rattle.std.proofs.Common.{◌≡◌, ℕ, zero, suc, List, [], ◌∷◌, take, refl, sym, ap, subst, ◌∙◌}
use Rattle.std.proofs.lemmas.List.{map-append}
use Rattle.grammar.specs.Tokens.{Token, first_tokens}
use Rattle.grammar.specs.Endings.{Ending.finished}
use Rattle.wgsl_model.specs.Tokens.TokenList.{IsTokenList}
use Rattle.wgsl_theory_reread.specs.CanonicalUnits.{without_place}
use Rattle.wgsl_theory_templates.proofs.Reaching.Reach.{Place, Place.outside, ahead}
use Rattle.wgsl_theory_templates.proofs.Reaching.Moves.{kinds}
use Rattle.wgsl_theory_templates.proofs.Lexed.Shapes.{shape_end, shape_opening, shape_closing, shape_greater, shape_short_circuit, shape_plain, shape_word, shape_template, NotReached, NoListReached, IsSourceShape, IsWrittenShape}
use Rattle.wgsl_theory_templates.proofs.Lexed.SourceShape.{source_shape}
use Rattle.wgsl_theory_tidy.proofs.Moved.Moved.{moved_list}

first_kinds : (n : ℕ) (ts : List Token) → kinds (first_tokens n ts) ≡ take n (kinds ts)
first_kinds zero ts = refl
first_kinds (suc n) [] = refl
first_kinds (suc n) (t ∷ ts) = ap (λ ks. without_place t ∷ ks) (first_kinds n ts)

-- whether tokens are a list of expressions does not depend on where they are
none_anywhere : (p : Place) (ts : List Token) → NotReached p ts → NoListReached p (kinds ts)
none_anywhere p [] n = tt
none_anywhere p (t ∷ ts) n = λ less reached us same list.
    let before = first_tokens (ahead 0 0 (kinds ts)) ts in
    let found = moved_list list.0 us before list.1 (first_kinds (ahead 0 0 (kinds ts)) ts ∙ sym same) in
    n less reached found.0 found.1

shaped : {p : Place} {depth : ℕ} {ts : List Token} → IsSourceShape p depth ts → IsWrittenShape p depth (kinds ts)
shaped shape_end = shape_end
shaped (shape_opening e s) = shape_opening e (shaped s)
shaped (shape_closing e d s) = shape_closing e d (shaped s)
shaped (shape_greater e m s) = shape_greater e m (shaped s)
shaped (shape_short_circuit e m s) = shape_short_circuit e m (shaped s)
shaped (shape_plain e s) = shape_plain e (shaped s)
shaped {p} (shape_word {ts = ts} e n s) = shape_word e (none_anywhere p ts n) (shaped s)
shaped {p} {depth} (shape_template t start end us ts e f g i l s) =
    subst (λ ks. IsWrittenShape p depth (without_place t ∷ (without_place start ∷ ks)))
    (sym (map-append without_place us (end ∷ ts)))
    (shape_template (without_place t) (without_place start) (without_place end) (kinds us)
    (kinds ts) e f g (shaped i) (λ qs r. moved_list l.0 us qs l.1 r) (shaped s))

pub same_shape : (source : List ℕ) (ts : List Token) → IsTokenList source ts finished
    → IsWrittenShape outside 0 (kinds ts)
same_shape source ts h = shaped (source_shape source ts h)
