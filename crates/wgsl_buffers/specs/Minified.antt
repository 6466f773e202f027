-- What the call that minifies a module promises.
use Rattle.std.specs.Prelude.{◌≡◌, ◌⊎◌, ◌≤◌, ◌<◌, ◌==◌, ℕ, List, ◌++◌, chars, length, take, if◌then◌else◌}
use Rattle.std.specs.Str.{IsUtf8}
use Rattle.std.specs.Str.Lines.{lines}
use Rattle.wgsl_model.specs.Program.{IsFaultOf}
use Rattle.wgsl_model_minify.specs.Renamed.{Which, no_names, local_names, all_names}
use Rattle.wgsl_name_map.specs.Maps.{map_form}
use Rattle.wgsl_minify.specs.Modules.{IsMinified}
use Rattle.wgsl_buffers.specs.declared.answer.Answer.{Answer}
use Rattle.wgsl_buffers.specs.Answers.{counted, Refuses}
use Rattle.wgsl_buffers.specs.Calls.{Reads}
use Rattle.wgsl_buffers.specs.Deep.{TellsDeeper}

-- which names get new ones: by 0 none, by 1 those that are declared in functions alone, else all
abbrev pub which_of : ℕ → Which
which_of n = if n == 0 then no_names else if n == 1 then local_names else all_names

-- a number of bytes, and where names start among them
abbrev pub with_names : ℕ → ℕ → Answer
with_names size start = record { size = size; start = start; end = size; kind = 0; expected = 0 }

-- the bytes are the minified text of a module and then the JSON of its names with their new names,
-- and the answer says where that starts and ends
pub record AreMinified (which : Which) (keep source bytes : List ℕ) (answer : Answer) : Type 0 where
  pub text : List ℕ
  pub table : List (List ℕ × List ℕ)
  pub valid : IsUtf8 text
  pub minified : IsMinified which (lines keep) (chars source) table (chars text)
  pub parts : bytes ≡ text ++ map_form table
  pub places : answer ≡ with_names (length bytes) (length text)

-- the minified text of a module and the JSON of its new names, or the fault that is named, or that it
-- nests deeper; 5 only for a number of no choice, and 6 for names to keep that are no text
pub record Minifies (depth names : ℕ) (keep text before buffer : List ℕ) (answer : Answer) (result : ℕ) : Type 0 where
  pub minified : result ≡ 0
      → (bytes : List ℕ) × AreMinified (which_of names) keep text bytes answer × (take (length bytes) buffer ≡ bytes)
  pub refused : result ≡ 1 → Refuses IsFaultOf text before buffer answer
  pub small : result ≡ 4 → (bytes : List ℕ) × AreMinified (which_of names) keep text bytes answer
      × (length before < length bytes) × (buffer ≡ before)
  pub unknown : result ≡ 5 → (2 < names) × (answer ≡ counted 0)
  pub known : 2 < names → (result ≡ 2) ⊎ (result ≡ 5)
  pub bad_keep : result ≡ 6 → ¬ (IsUtf8 keep) × (buffer ≡ before)
  pub kept : ¬ (IsUtf8 keep) → (result ≡ 2) ⊎ ((5 ≤ result) × (result ≤ 6))
  pub deeper : result ≡ 7 → TellsDeeper depth text before buffer answer
  pub status : result ≤ 7
  pub reads : Reads text answer result
