mod Hints
mod LawNodes
mod Indents
