-- A cutter of lines, byte by byte. This project's own.
use Rattle.std.specs.Prelude.{ℕ, nat_lt, List, [], ◌∷◌, ◌++◌, length, Option, Some, None, if◌then◌else◌}
use Rattle.floor_text.specs.Lines.{is_line_feed}
use Rattle.floor_text.specs.declared.limits.TheConstants.{KEPT}
use Rattle.floor_text.specs.declared.line_cutter.Cut.{Cut}
use Rattle.floor_text.specs.declared.line_cutter.Cut.TheVariants.{Line, TooLong}

-- what an answer of a cutter hands out: a line, a line that is too long, or none
abbrev pub lines_of_cut : Option Cut → List ℕ → List (Option (List ℕ))
lines_of_cut None line = []
lines_of_cut (Some Line) line = Some line ∷ []
lines_of_cut (Some TooLong) line = None ∷ []

-- what is begun after one more byte: nothing after a line feed; else the byte is added, unless enough are there
abbrev pub begun_after : List ℕ → ℕ → List ℕ
begun_after begun byte =
    if is_line_feed byte then [] else (if nat_lt (length begun) KEPT then begun ++ byte ∷ [] else begun)
