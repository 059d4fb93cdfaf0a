use Rattle.std.proofs.Common.{◌≡◌, ◌++◌, take}
use Rattle.std.specs.List.{flat_map}
use Rattle.view_rules.specs.Spelling.{SeatLine, Table, line_text}
use Rattle.player_view.proofs.opening.push_seats.Given as goal

abbrev pub invariant-loop-player : goal.invariant-loop-player
invariant-loop-player l = l.out.items ≡ l.initial.out.items
    ++ flat_map (λ player. line_text (Table l.table (SeatLine player))) (take l.player-index l.players)
