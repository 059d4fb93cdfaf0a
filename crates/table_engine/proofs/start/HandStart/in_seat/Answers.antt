use Rattle.std.proofs.Common.{◌≡◌, ◌<◌, ◌∙◌, ap, sym, length, Some}
use Rattle.std.specs.Prelude.{slice_index_or}
use Rattle.table_engine.proofs.BySeat.{player-at}
use Rattle.table_engine.proofs.start.HandStart.in_seat.Goals as goal

pub returns-then-seats-index : goal.returns-then-seats-index
returns-then-seats-index c =
    let start = c.args.self.now in
    let index = c.from-index.result in
    let one = c.index-seats-index.result in
    let his = c.index-seats-index-then-seats-index.result in
    let within : index < length start.seats = rw c.items-seats.ensures at c.if-index-seats.true in
    let sits : (slice_index_or start.seats index one).seat ≡ c.args.seat =
    rw c.items-seats.ensures at c.if-seats-index.true in
    let listed : his ≡ slice_index_or start.seats index his =
    rw c.items-seats.ensures at c.index-seats-index-then-seats-index.is in
    ap Some listed ∙ sym (player-at start index c.args.seat one his c.requires within sits)
