-- The lines of players one by one. This project's own.
use Rattle.std.specs.Prelude.{ℕ, nat_le, nat_lt, ◌&&◌, List, [], ◌∷◌, map, if◌then◌else◌}
use Rattle.table_engine.specs.declared.start.HandStart.{HandStart}
use Rattle.table_engine.specs.declared.start.StartSeat.{StartSeat}
use Rattle.table_engine.specs.Hands.{HandTerms, is_live}
use Rattle.table_engine.specs.Results.{award}
use Rattle.view_rules.specs.Shown.{BoardStreet}
use Rattle.view_rules.specs.Seen.{opened, tabled, won_by}
use Rattle.view_rules.specs.Spelling.{TableLine, StreetLine, ShowLine, WinLine, Table, lines_text}

-- the text of lines of a table
abbrev pub table_text : ℕ → List TableLine → List ℕ
table_text table lines = lines_text (map (Table table) lines)

-- the line of a player's tabled hand, where he is live
abbrev pub shown_lines : HandTerms → StartSeat → List TableLine
shown_lines hand player = if is_live hand player then ShowLine (tabled hand.start player) ∷ [] else []

-- the line of what a player gets of a hand that is over, where he gets something
abbrev pub win_lines : HandTerms → StartSeat → List TableLine
win_lines hand player = if nat_lt 0 (award hand player) then WinLine (won_by hand player) ∷ [] else []

-- the line of a street that fewer than so many others follow, where it has begun since so many could still begin
abbrev pub street_lines : HandStart → BoardStreet → ℕ → ℕ → ℕ → List TableLine
street_lines start street few left_before left =
    if nat_le few left_before && nat_lt left few then StreetLine (opened start street) ∷ [] else []
