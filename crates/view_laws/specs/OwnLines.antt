-- Which lines everybody may be told. This project's own.
use Rattle.std.specs.Prelude.{Bool, true, false}
use Rattle.view_rules.specs.Spelling.{HoleLine, ViewLine, Table}

-- A line is for all where it does not tell somebody his own hole cards.
abbrev pub is_for_all : ViewLine → Bool
is_for_all (Table table (HoleLine cards)) = false
is_for_all _ = true
