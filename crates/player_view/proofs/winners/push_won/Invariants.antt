use Rattle.std.proofs.Common.{◌≡◌, ◌++◌, take}
use Rattle.std.specs.List.{flat_map}
use Rattle.player_view.specs.Each.{table_text, win_lines}
use Rattle.player_view.proofs.winners.push_won.Given as goal

abbrev pub invariant-loop-player : goal.invariant-loop-player
invariant-loop-player l = l.out.items ≡ l.initial.out.items
    ++ flat_map (λ player. table_text l.table (win_lines l.hand player)) (take l.player-index l.players)
