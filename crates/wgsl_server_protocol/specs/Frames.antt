-- Frames of the Language Server Protocol ("Base Protocol").
use Rattle.std.specs.Prelude.{◌++◌, ℕ, List, codes, length, decimal}

-- a message with its length before it
abbrev pub frame : List ℕ → List ℕ
frame body = codes "Content-Length: " ++ decimal (length body) ++ codes "\r\n\r\n" ++ body
