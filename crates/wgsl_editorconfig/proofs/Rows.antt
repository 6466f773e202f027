-- Worked files, computed.
use Rattle.std.proofs.Common.{◌≡◌, refl, true, false, ◌++◌, Some, codes}
use Rattle.std.specs.Str.{chars, trim_start, trim_end}
use Rattle.std.specs.Char.{encode_utf8}
use Rattle.wgsl_choices.specs.declared.Choices.{Choices}
use Rattle.wgsl_choices.specs.declared.IndentSize.TheVariants as indent
use Rattle.wgsl_choices.specs.declared.IndentStyle.TheVariants.{Spaces, Tab}
use Rattle.wgsl_choices.specs.declared.Newlines.TheVariants.{Lf, CrLf}
use Rattle.wgsl_choices.specs.Choices.{nothing}
use Rattle.wgsl_editorconfig.specs.declared.reading.Properties.{Properties}
use Rattle.wgsl_editorconfig.specs.Globs.{matches_wgsl}
use Rattle.wgsl_editorconfig.specs.Lines.{mark}
use Rattle.wgsl_editorconfig.specs.Properties.{properties_of}

-- what a file says that is no root
abbrev says : Choices → Properties
says choices = record { root = false; choices = choices }

pub an_empty_file : properties_of (codes "") ≡ says nothing
unfolding chars trim_start trim_end encode_utf8
an_empty_file = refl

pub a_root : properties_of (codes "root = true\n") ≡ record { root = true; choices = nothing }
unfolding chars trim_start trim_end encode_utf8
a_root = refl

pub no_root : properties_of (codes "root = false\n") ≡ says nothing
unfolding chars trim_start trim_end encode_utf8
no_root = refl

pub capitals : properties_of (codes "  Root=TRUE") ≡ record { root = true; choices = nothing }
unfolding chars trim_start trim_end encode_utf8
capitals = refl

pub a_root_with_a_mark : properties_of (mark ++ codes "root = true") ≡ record { root = true; choices = nothing }
unfolding chars trim_start trim_end encode_utf8
a_root_with_a_mark = refl

pub a_root_in_a_section : properties_of (codes "[*]\nroot = true\n") ≡ says nothing
unfolding chars trim_start trim_end encode_utf8
a_root_in_a_section = refl

pub a_root_taken_back : properties_of (codes "root = true\nroot = unset\n") ≡ says nothing
unfolding chars trim_start trim_end encode_utf8
a_root_taken_back = refl

pub a_root_that_is_not_understood : properties_of (codes "root = true\nroot = yes\n")
    ≡ record { root = true; choices = nothing }
unfolding chars trim_start trim_end encode_utf8
a_root_that_is_not_understood = refl

pub a_section : properties_of
    (codes "[*]\nindent_style = space\nindent_size = 2\nmax_line_length = 80\nend_of_line = lf\n")
    ≡ says (record nothing { width = Some 80; style = Some Spaces; size = Some (indent.Columns 2); newlines = Some Lf })
unfolding chars trim_start trim_end encode_utf8
a_section = refl

pub line_breaks_of_windows : properties_of (codes "[*.wgsl]\r\nEnd_Of_Line = CRLF\r\n")
    ≡ says (record nothing { newlines = Some CrLf })
unfolding chars trim_start trim_end encode_utf8
line_breaks_of_windows = refl

pub comments_and_empty_lines :
    properties_of (codes "# indent\n; of all\n\n[*]\n#indent_size = 2\n\tindent_style\t=\ttab\t")
    ≡ says (record nothing { style = Some Tab })
unfolding chars trim_start trim_end encode_utf8
comments_and_empty_lines = refl

pub before_the_first_section : properties_of (codes "indent_size = 2\n[*]\n") ≡ says nothing
unfolding chars trim_start trim_end encode_utf8
before_the_first_section = refl

pub another_section : properties_of (codes "[*.rs]\nindent_size = 2\n") ≡ says nothing
unfolding chars trim_start trim_end encode_utf8
another_section = refl

pub a_section_after_another :
    properties_of (codes "[*.rs]\nindent_size = 2\n[*.wgsl]\nindent_size = 3\n[*.md]\nindent_size = 4\n")
    ≡ says (record nothing { size = Some (indent.Columns 3) })
unfolding chars trim_start trim_end encode_utf8
a_section_after_another = refl

pub later_lines : properties_of
    (codes "[*]\nindent_size = 2\nindent_size = 8\n[*.wgsl]\nmax_line_length = 60\nindent_size = 4\n")
    ≡ says (record nothing { width = Some 60; size = Some (indent.Columns 4) })
unfolding chars trim_start trim_end encode_utf8
later_lines = refl

pub a_value_taken_back :
    properties_of (codes "[*]\nindent_size = 2\nindent_style = tab\n[*.wgsl]\nindent_size = unset\n")
    ≡ says (record nothing { style = Some Tab })
unfolding chars trim_start trim_end encode_utf8
a_value_taken_back = refl

pub values_out_of_range : properties_of (codes
    "[*]\nindent_size = 2\nindent_size = 0\nindent_size = 17\ntab_width = 16\ntab_width = 99\nmax_line_length = 9999\nmax_line_length = 10000\n")
    ≡ says (record nothing { width = Some 9999; size = Some (indent.Columns 2); tab_width = Some 16 })
unfolding chars trim_start trim_end encode_utf8
values_out_of_range = refl

pub values_that_are_not_understood : properties_of
    (codes "[*]\nindent_size = two\nindent_style = tabs\nend_of_line = cr\nmax_line_length =\n")
    ≡ says nothing
unfolding chars trim_start trim_end encode_utf8
values_that_are_not_understood = refl

pub no_limit : properties_of (codes "[*]\nmax_line_length = off\n") ≡ says (record nothing { width = Some 0 })
unfolding chars trim_start trim_end encode_utf8
no_limit = refl

pub as_many_as_a_tab : properties_of (codes "[*]\nindent_size = tab\ntab_width = 8\n")
    ≡ says (record nothing { size = Some indent.Tab; tab_width = Some 8 })
unfolding chars trim_start trim_end encode_utf8
as_many_as_a_tab = refl

pub as_many_as_an_unknown_tab : properties_of (codes "[*]\nindent_size = tab\n")
    ≡ says (record nothing { size = Some indent.Tab })
unfolding chars trim_start trim_end encode_utf8
as_many_as_an_unknown_tab = refl

pub unknown_lines : properties_of (codes "[*]\nindent_size 2\ncharset = utf-8\nindent_size: 2\n= 2\n") ≡ says nothing
unfolding chars trim_start trim_end encode_utf8
unknown_lines = refl

pub a_section_that_is_not_closed : properties_of (codes "[*\nindent_size = 2\n") ≡ says nothing
unfolding chars trim_start trim_end encode_utf8
a_section_that_is_not_closed = refl

pub any_name : matches_wgsl (codes "*") ≡ true
any_name = refl

pub any_path : matches_wgsl (codes "**") ≡ true
any_path = refl

pub the_ending : matches_wgsl (codes "*.wgsl") ≡ true
the_ending = refl

pub the_ending_of_a_path : matches_wgsl (codes "**.wgsl") ≡ true
the_ending_of_a_path = refl

pub a_list_of_endings : matches_wgsl (codes "*.{glsl,wgsl}") ≡ true
a_list_of_endings = refl

pub a_list_of_names : matches_wgsl (codes "{*.glsl,*.wgsl}") ≡ true
a_list_of_names = refl

pub one_in_a_list : matches_wgsl (codes "*.{wgsl}") ≡ true
one_in_a_list = refl

pub another_ending : matches_wgsl (codes "*.glsl") ≡ false
another_ending = refl

pub capitals_of_a_glob : matches_wgsl (codes "*.WGSL") ≡ false
capitals_of_a_glob = refl

pub one_file : matches_wgsl (codes "shader.wgsl") ≡ false
one_file = refl

pub one_folder : matches_wgsl (codes "shaders/*.wgsl") ≡ false
one_folder = refl

pub a_list_of_other_endings : matches_wgsl (codes "*.{glsl,hlsl}") ≡ false
a_list_of_other_endings = refl

pub a_blank_in_a_list : matches_wgsl (codes "*.{glsl, wgsl}") ≡ false
a_blank_in_a_list = refl

pub a_list_that_is_not_closed : matches_wgsl (codes "*.{glsl,wgsl") ≡ false
a_list_that_is_not_closed = refl

pub two_lists : matches_wgsl (codes "{a}b{,*.wgsl}") ≡ false
two_lists = refl

pub a_list_in_a_list : matches_wgsl (codes "{*.{glsl,hlsl},*.wgsl}") ≡ false
a_list_in_a_list = refl

pub no_glob : matches_wgsl (codes "") ≡ false
no_glob = refl
