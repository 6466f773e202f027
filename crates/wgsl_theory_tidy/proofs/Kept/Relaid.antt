-- The pieces of a laid-out text: the same pieces as they are written, each after as many line ends
-- as its gap has.
use Rattle.std.proofs.Common.{◌≡◌, Bool, false, cond, refl, ap, ap₂, List, [], ◌∷◌, map}
use Rattle.wgsl_model_tidy.specs.Pieces.{Piece}
use Rattle.wgsl_model_tidy.specs.Kept.{class_and_text}
use Rattle.wgsl_model_tidy.specs.Roles.{Role, begins_operand, role_of}
use Rattle.wgsl_model_tidy.specs.Layout.{Layout}
use Rattle.wgsl_model_tidy.specs.Open.{LayoutState, role_in}
use Rattle.wgsl_model_tidy.specs.Ahead.{is_comment, next_role, operand_follows}
use Rattle.wgsl_model_tidy.specs.LaidOut.{Gap, Spot, gap_before, piece_text, after_piece}
use Rattle.wgsl_theory_tidy.proofs.Kept.Gaps.{gap_ends}
use Rattle.wgsl_theory_tidy.proofs.Kept.ShownTexts.{text_kept}

-- the spot after the first of these pieces
abbrev pub after_first : Layout → Spot → Piece → List Piece → Spot
after_first layout spot p ps =
    let right = next_role spot.state (p ∷ ps) in
    after_piece layout spot (gap_before layout spot right p ps) right p

-- a piece after this gap, as it is read again
abbrev pub read_again : Layout → Spot → Gap → Piece → Piece
read_again layout spot gap p = record { class = p.class; text = piece_text layout spot gap p; line_ends = gap_ends gap }

-- the first of these pieces
abbrev pub first_again : Layout → Spot → Piece → List Piece → Piece
first_again layout spot p ps = read_again layout spot (gap_before layout spot (next_role spot.state (p ∷ ps)) p ps) p

-- the pieces of the text in which these are formatted after a spot
abbrev pub relaid : Layout → Spot → List Piece → List Piece
relaid layout spot [] = []
relaid layout spot (p ∷ ps) = first_again layout spot p ps ∷ relaid layout (after_first layout spot p ps) ps

-- they have the same classes and characters
pub relaid_spelled : (layout : Layout) (spot : Spot) (ps : List Piece)
    → map class_and_text (relaid layout spot ps) ≡ map class_and_text ps
relaid_spelled layout spot [] = refl
relaid_spelled layout spot (p ∷ ps) =
    ap₂ (λ t xs. (p.class, t) ∷ xs)
    (text_kept layout spot (gap_before layout spot (next_role spot.state (p ∷ ps)) p ps) p)
    (relaid_spelled layout (after_first layout spot p ps) ps)

-- so an operand begins with the first token as before
pub relaid_operand : (layout : Layout) (spot : Spot) (ps : List Piece)
    → operand_follows (relaid layout spot ps) ≡ operand_follows ps
relaid_operand layout spot [] = refl
relaid_operand layout spot (p ∷ ps) =
    ap (λ b. cond (is_comment p.class) b (begins_operand (role_of false p.class)))
    (relaid_operand layout (after_first layout spot p ps) ps)

-- and the first token does the same
pub relaid_next : (layout : Layout) (s : LayoutState) (spot : Spot) (ps : List Piece)
    → next_role s (relaid layout spot ps) ≡ next_role s ps
relaid_next layout s spot [] = refl
relaid_next layout s spot (p ∷ ps) =
    let after = after_first layout spot p ps in
    ap₂ (λ (r : Role) (b : Bool). cond (is_comment p.class) r (role_in s p.class b))
    (relaid_next layout s after ps) (relaid_operand layout after ps)
