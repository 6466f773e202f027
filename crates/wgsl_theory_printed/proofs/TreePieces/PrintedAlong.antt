-- A printed module whose pieces fit is UTF-8, and is read along the tokens that are written from
-- its tree.
use Rattle.std.proofs.Common.{◌≡◌, ℕ, refl, sym, ap, ap₂, subst, List, [], ◌∷◌, ◌++◌, ◌∙◌}
use Rattle.std.specs.Str.{IsUtf8, chars}
use lib.Utf8.{encode}
use Rattle.std.proofs.lemmas.Str.{IsUtf8-append, chars-append}
use Rattle.wgsl_model.specs.Trees.Units.{TranslationUnit}
use Rattle.wgsl_model.specs.Printed.Units.{print_unit}
use Rattle.wgsl_theory_reread.specs.CanonicalUnits.{canonical}
use Rattle.wgsl_theory_printed.proofs.Spelling.Pieces.{Piece, space, line_end, opens, closes, word, bytes_of, render, kinds, Fits}
use Rattle.wgsl_theory_templates.proofs.Lexed.LexedAlong.{Along}
use Rattle.wgsl_theory_printed.proofs.Spelling.Along.{along}
use Rattle.wgsl_theory_printed.proofs.TreePieces.PiecesOfUnits.{unit_pieces, unit_bytes, unit_kinds}

-- bytes that are a text with these characters
record Reads (bytes characters : List ℕ) : Type 0 where
  utf8 : IsUtf8 bytes
  characters_of : chars bytes ≡ characters

nil_reads : Reads [] []
unfolding chars
nil_reads = record { utf8 = ([], (refl, refl)); characters_of = refl }

space_reads : Reads (32 ∷ []) (32 ∷ [])
unfolding chars encode
space_reads = record { utf8 = (32 ∷ [], (refl, refl)); characters_of = refl }

line_end_reads : Reads (10 ∷ []) (10 ∷ [])
unfolding chars encode
line_end_reads = record { utf8 = (10 ∷ [], (refl, refl)); characters_of = refl }

opens_reads : Reads (60 ∷ []) (60 ∷ [])
unfolding chars encode
opens_reads = record { utf8 = (60 ∷ [], (refl, refl)); characters_of = refl }

closes_reads : Reads (62 ∷ []) (62 ∷ [])
unfolding chars encode
closes_reads = record { utf8 = (62 ∷ [], (refl, refl)); characters_of = refl }

Reads-append : (a b x y : List ℕ) → Reads a x → Reads b y → Reads (a ++ b) (x ++ y)
Reads-append a b x y h k = record {
  utf8 = IsUtf8-append a b h.utf8 k.utf8;
  characters_of = chars-append a b h.utf8 ∙ ap₂ (λ (u v : List ℕ). u ++ v) h.characters_of k.characters_of;
}

-- the bytes of pieces have their characters
reads : (ps : List Piece) → Fits ps → Reads (bytes_of ps) (render ps)
reads [] fits = nil_reads
reads (space ∷ ps) fits = Reads-append (32 ∷ []) (bytes_of ps) (32 ∷ []) (render ps) space_reads (reads ps fits)
reads (line_end ∷ ps) fits = Reads-append (10 ∷ []) (bytes_of ps) (10 ∷ []) (render ps) line_end_reads (reads ps fits)
reads (opens ∷ ps) fits = Reads-append (60 ∷ []) (bytes_of ps) (60 ∷ []) (render ps) opens_reads (reads ps fits.1)
reads (closes ∷ ps) fits = Reads-append (62 ∷ []) (bytes_of ps) (62 ∷ []) (render ps) closes_reads (reads ps fits)
reads (word w k ∷ ps) fits = Reads-append w (bytes_of ps) (chars w) (render ps)
    (record { utf8 = fits.0.utf8; characters_of = refl }) (reads ps fits.1)

-- the printed text is UTF-8
pub printed_utf8 : (u : TranslationUnit) → Fits (unit_pieces u) → IsUtf8 (print_unit u)
printed_utf8 u fits = subst IsUtf8 (unit_bytes u fits) all.utf8 where
  all : Reads (bytes_of (unit_pieces u)) (render (unit_pieces u))
  all = reads (unit_pieces u) fits

-- and has the characters of the pieces
printed_characters : (u : TranslationUnit) → Fits (unit_pieces u) → render (unit_pieces u) ≡ chars (print_unit u)
printed_characters u fits = sym all.characters_of ∙ ap chars (unit_bytes u fits) where
  all : Reads (bytes_of (unit_pieces u)) (render (unit_pieces u))
  all = reads (unit_pieces u) fits

-- its text is read along the tokens that are written from the tree
pub printed_along : (u : TranslationUnit) → Fits (unit_pieces u) → Along (canonical u) (chars (print_unit u))
printed_along u fits = subst (λ ks. Along ks (chars (print_unit u))) (unit_kinds u)
    (subst (Along (kinds (unit_pieces u))) (printed_characters u fits) (along (unit_pieces u) fits))
