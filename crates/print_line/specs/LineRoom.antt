-- The room that any line takes.
use Rattle.std.specs.Prelude.{ℕ}

-- room for any line: a number, five fields, the headings and counts of 16,383 legs, and a newline
abbrev pub line_room : ℕ
line_room = 131190
