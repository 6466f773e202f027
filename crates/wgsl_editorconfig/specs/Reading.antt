-- What the lines so far say.
use Rattle.std.specs.Prelude.{ℕ, false, List, None, if◌then◌else◌}
use Rattle.std.specs.List.{fold, slice_split}
use Rattle.std.specs.Option.{unwrap_or}
use Rattle.std.specs.Str.{trim}
use Rattle.wgsl_editorconfig.specs.declared.reading.Properties.{Properties}
use Rattle.wgsl_editorconfig.specs.declared.key.Key.{Key}
use Rattle.wgsl_editorconfig.specs.declared.reading.Place.{Place}
use Rattle.wgsl_editorconfig.specs.declared.reading.Place.TheVariants as place
use Rattle.wgsl_editorconfig.specs.declared.reading.Reading.{Reading}
use Rattle.wgsl_editorconfig.specs.Globs.{matches_wgsl}
use Rattle.wgsl_editorconfig.specs.Lines.{Line, section, property, other, line_of, is_newline, without_mark}
use Rattle.wgsl_editorconfig.specs.Properties.{says_root, says_style, says_size, says_tab_width, says_width, says_newlines}

-- before the first line
abbrev pub nothing : Reading
nothing = record {
  place = place.Preamble;
  root = None;
  style = None;
  size = None;
  tab_width = None;
  width = None;
  newlines = None;
}

-- after a property before the first section
abbrev pub with_root : Reading → Key → List ℕ → Reading
with_root so_far key value = record so_far { root = unwrap_or (says_root key value) so_far.root }

-- after a property of a section for WGSL files
abbrev pub with_choice : Reading → Key → List ℕ → Reading
with_choice so_far key value = record so_far {
  style = unwrap_or (says_style key value) so_far.style;
  size = unwrap_or (says_size key value) so_far.size;
  tab_width = unwrap_or (says_tab_width key value) so_far.tab_width;
  width = unwrap_or (says_width key value) so_far.width;
  newlines = unwrap_or (says_newlines key value) so_far.newlines;
}

-- after a property at a place
abbrev pub with_property_at : Place → Reading → Key → List ℕ → Reading
with_property_at place.Preamble so_far key value = with_root so_far key value
with_property_at place.Applies so_far key value = with_choice so_far key value
with_property_at place.Skipped so_far key value = so_far

abbrev pub with_property : Reading → Key → List ℕ → Reading
with_property so_far key value = with_property_at so_far.place so_far key value

-- where the lines of a section are
abbrev pub place_of : List ℕ → Place
place_of glob = if matches_wgsl glob then place.Applies else place.Skipped

-- after one more line
abbrev pub after : Reading → Line → Reading
after so_far (section glob) = record so_far { place = place_of glob }
after so_far (property it) = with_property so_far it.key it.value
after so_far other = so_far

-- after all lines of a text
abbrev pub read_all : List ℕ → Reading
read_all text = fold (λ so_far line. after so_far (line_of (trim line))) nothing
    (slice_split is_newline (without_mark text))

-- what all lines say
abbrev pub properties : Reading → Properties
properties so_far = record {
  root = unwrap_or so_far.root false;
  choices = record {
    width = so_far.width;
    style = so_far.style;
    size = so_far.size;
    tab_width = so_far.tab_width;
    newlines = so_far.newlines;
  };
}
