-- What all lines say is what was read of them one by one.
use Rattle.std.proofs.Common.{◌≡◌, refl, sym, ◌∙◌, ℕ, Bool, true, false, List, [], ◌∷◌, map, Option, if◌then◌else◌}
use Rattle.std.specs.List.{fold, slice_split}
use Rattle.std.specs.Option.{unwrap_or}
use Rattle.std.specs.Str.{trim}
use Rattle.wgsl_editorconfig.specs.declared.reading.Properties.{Properties}
use Rattle.wgsl_editorconfig.specs.declared.reading.Place.{Place}
use Rattle.wgsl_editorconfig.specs.declared.reading.Place.TheVariants as place
use Rattle.wgsl_editorconfig.specs.declared.reading.Reading.{Reading}
use Rattle.wgsl_editorconfig.specs.Globs.{matches_wgsl}
use Rattle.wgsl_editorconfig.specs.Lines.{Property, Line, section, property, other, line_of, is_newline, without_mark}
use Rattle.wgsl_editorconfig.specs.Properties.{preamble, applying, says_root, says_style, says_size, says_tab_width, says_width, says_newlines, last_said, properties_of}
use Rattle.wgsl_editorconfig.specs.Reading.{nothing, after, read_all, properties}

-- the root that lines say, from a place on
root_from : Place → Option Bool → List Line → Option Bool
root_from place.Preamble before rest = last_said says_root before (preamble rest)
root_from place.Applies before rest = before
root_from place.Skipped before rest = before

-- whether the first lines are in a section for WGSL files
is_here : Place → Bool
is_here place.Preamble = false
is_here place.Applies = true
is_here place.Skipped = false

-- with this root, what was read and then these properties choose
with_all : Option Bool → Reading → List Property → Properties
with_all root so_far all = record {
  root = unwrap_or root false;
  choices = record {
    width = last_said says_width so_far.width all;
    style = last_said says_style so_far.style all;
    size = last_said says_size so_far.size all;
    tab_width = last_said says_tab_width so_far.tab_width all;
    newlines = last_said says_newlines so_far.newlines all;
  };
}

-- what was read before lines and what they say
with_rest : Reading → List Line → Properties
with_rest so_far rest = with_all (root_from so_far.place so_far.root rest) so_far (applying (is_here so_far.place) rest)

-- a reading in parts, at a place
at : Place → Reading → Reading
at where_now so_far = record so_far { place = where_now }

-- in a section
section_begins : (applies : Bool) (so_far : Reading) (rest : List Line)
    → with_all so_far.root so_far (applying applies rest)
    ≡ with_rest (at (if applies then place.Applies else place.Skipped) so_far) rest
unfolding with_rest with_all root_from is_here at
section_begins true so_far rest = refl
section_begins false so_far rest = refl

one_section : (here : Place) (so_far : Reading) (glob : List ℕ) (rest : List Line)
    → with_rest (at here so_far) (section glob ∷ rest) ≡ with_rest (after (at here so_far) (section glob)) rest
unfolding with_rest with_all root_from is_here at
one_section place.Preamble so_far glob rest = section_begins (matches_wgsl glob) so_far rest
one_section place.Applies so_far glob rest = section_begins (matches_wgsl glob) so_far rest
one_section place.Skipped so_far glob rest = section_begins (matches_wgsl glob) so_far rest

-- one line is read
one_line : (here : Place) (so_far : Reading) (line : Line) (rest : List Line)
    → with_rest (at here so_far) (line ∷ rest) ≡ with_rest (after (at here so_far) line) rest
unfolding with_rest with_all root_from is_here at
one_line here so_far (section glob) rest = one_section here so_far glob rest
one_line place.Preamble so_far (property it) rest = refl
one_line place.Applies so_far (property it) rest = refl
one_line place.Skipped so_far (property it) rest = refl
one_line place.Preamble so_far other rest = refl
one_line place.Applies so_far other rest = refl
one_line place.Skipped so_far other rest = refl

-- at the end nothing is left
no_lines : (here : Place) (so_far : Reading) → with_rest (at here so_far) [] ≡ properties (at here so_far)
unfolding with_rest with_all root_from is_here at
no_lines place.Preamble so_far = refl
no_lines place.Applies so_far = refl
no_lines place.Skipped so_far = refl

-- all lines are read
all_lines : (so_far : Reading) (parts : List (List ℕ))
    → with_rest so_far (map (λ line. line_of (trim line)) parts)
    ≡ properties (fold (λ it line. after it (line_of (trim line))) so_far parts)
unfolding at
all_lines so_far [] = no_lines so_far.place so_far
all_lines so_far (part ∷ parts) =
    one_line so_far.place so_far (line_of (trim part)) (map (λ line. line_of (trim line)) parts)
    ∙ all_lines (after so_far (line_of (trim part))) parts

pub properties_read : (text : List ℕ) → properties (read_all text) ≡ properties_of text
unfolding with_rest with_all root_from is_here
properties_read text = sym (all_lines nothing (slice_split is_newline (without_mark text)))
