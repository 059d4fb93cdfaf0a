use Rattle.std.proofs.Common.{rules, ◌≡◌, ◌∙◌, refl, sym, ap, ◌≤◌, arith}
use Rattle.std.specs.Prelude.{true}
use Rattle.button_blinds.specs.SeatSets.{has_seat}
use Rattle.seat_book.specs.Players.{player_at, taken_seats}
use Rattle.balance_rule.specs.Balance.{next_big_seat}
use Rattle.balance_rule.proofs.Movers.{taken-player, carried-is, sits-there, read-number}
use Rattle.balance_rule.proofs.balance.balance_order.Goals as goal

pub unwrap-player-requires : goal.unwrap-player-requires
unwrap-player-requires c =
    let big = c.next_big-big.result in
    let last : big ≤ 10 = omega (
      arith,
      c.next_big-big.ensures.last,
      c.seat_count-seats.ensures.seats,
      c.seat_count-seats.ensures.lawful.most_seats,
    ) in
    let taken : has_seat (taken_seats c.args.book.now.players c.args.from) big ≡ true =
    ap (λ set. has_seat set big) (sym c.occupied.ensures.taken) ∙ c.next_big-big.ensures.sits in
    let mover = taken-player c.args.book.now.players c.args.from big c.next_big-big.ensures.first last taken in
    rw (c.at.ensures.player, mover.1) refl

pub returns-clause-move_ : goal.returns-clause-move_
returns-clause-move_ c =
    let big = c.next_big-big.result in
    let last : big ≤ 10 = omega (
      arith,
      c.next_big-big.ensures.last,
      c.seat_count-seats.ensures.seats,
      c.seat_count-seats.ensures.lawful.most_seats,
    ) in
    let taken : has_seat (taken_seats c.args.book.now.players c.args.from) big ≡ true =
    ap (λ set. has_seat set big) (sym c.occupied.ensures.taken) ∙ c.next_big-big.ensures.sits in
    let mover = taken-player c.args.book.now.players c.args.from big c.next_big-big.ensures.first last taken in
    let number = read-number (λ seated. seated.name) (λ seated. seated.stack)
    (player_at c.args.book.now.players (record { table = c.args.from; seat = big })) c.at.result c.unwrap-player.result
    mover.0 c.at.ensures.player
    c.unwrap-player.ensures mover.1 in
    let is_big : big ≡ next_big_seat c.args.book.now c.args.from = rw (
      ← c.status.ensures.status,
      ← c.occupied.ensures.taken,
      ← c.seat_count-seats.ensures.seats,
    ) c.next_big-big.ensures.big in
    rw number (carried-is c.args.book.now c.args.from c.args.to big c.worst_seat.result mover.0 is_big mover.1
    c.worst_seat.ensures.worst)

pub returns-clause-sits : goal.returns-clause-sits
returns-clause-sits c =
    let big = c.next_big-big.result in
    let last : big ≤ 10 = omega (
      arith,
      c.next_big-big.ensures.last,
      c.seat_count-seats.ensures.seats,
      c.seat_count-seats.ensures.lawful.most_seats,
    ) in
    let taken : has_seat (taken_seats c.args.book.now.players c.args.from) big ≡ true =
    ap (λ set. has_seat set big) (sym c.occupied.ensures.taken) ∙ c.next_big-big.ensures.sits in
    let mover = taken-player c.args.book.now.players c.args.from big c.next_big-big.ensures.first last taken in
    let number = read-number (λ seated. seated.name) (λ seated. seated.stack)
    (player_at c.args.book.now.players (record { table = c.args.from; seat = big })) c.at.result c.unwrap-player.result
    mover.0 c.at.ensures.player
    c.unwrap-player.ensures mover.1 in
    rw number (sits-there c.args.book.now (record { table = c.args.from; seat = big }) mover.0
    c.seat_count-seats.ensures.lawful mover.1)

pub returns-then-here-fullest-clause-checked : goal.returns-then-here-fullest-clause-checked
returns-then-here-fullest-clause-checked c = search rules
