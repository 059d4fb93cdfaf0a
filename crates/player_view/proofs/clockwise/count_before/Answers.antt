use Rattle.std.proofs.Common.{◌∙◌, ◌≡◌, length, ap, arith}
use Rattle.std.specs.Prelude.{Option, ℕ, nat_lt, not, unwrap_or}
use Rattle.std.specs.List.{position_or_len}
use Rattle.std.proofs.lemmas.List.Sums.{prefix_len-le-length}
use Rattle.table_engine.specs.declared.start.StartSeat.{StartSeat}
use Rattle.player_view.proofs.Halves.{count-before}
use Rattle.player_view.proofs.clockwise.count_before.Goals as goal

pub returns-clause-count : goal.returns-clause-count
returns-clause-count c =
    c.unwrap_or.ensures
    ∙ ap (λ (found : Option ℕ). unwrap_or found (length c.args.players.now)) c.first_behind.ensures
    ∙ count-before (λ (player : StartSeat). nat_lt c.args.seat player.seat) c.args.players.now

pub returns-clause-within : goal.returns-clause-within
returns-clause-within c =
    let count : c.unwrap_or.result
    ≡ position_or_len (λ (player : StartSeat). nat_lt c.args.seat player.seat) c.args.players.now =
    c.unwrap_or.ensures
    ∙ ap (λ (found : Option ℕ). unwrap_or found (length c.args.players.now)) c.first_behind.ensures
    ∙ count-before (λ (player : StartSeat). nat_lt c.args.seat player.seat) c.args.players.now in
    let within =
    prefix_len-le-length (λ (player : StartSeat). not (nat_lt c.args.seat player.seat)) c.args.players.now in
    omega arith
