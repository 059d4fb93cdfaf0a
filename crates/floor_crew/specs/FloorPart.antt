-- What the floor tells of a tournament, among all lines. This project's own.
use Rattle.std.specs.Prelude.{Bool, true, false}
use Rattle.view_rules.specs.Spelling.{ViewLine, Floor, Table}

-- whether a line is the floor's, and none of a table
abbrev pub is_floor_line : ViewLine → Bool
is_floor_line (Floor line) = true
is_floor_line (Table table line) = false
