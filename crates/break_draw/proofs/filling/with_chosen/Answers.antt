use Rattle.std.proofs.Common.{◌≡◌, ◌==◌, cond, true, ap, ℕ, arith}
use Rattle.button_blinds.specs.SeatSets.{seat_count}
use Rattle.seat_book.proofs.TakenPlaces.{seat_count-one_more}
use Rattle.std.proofs.lemmas.Bool.{eq-eqb}
use Rattle.break_draw.proofs.filling.with_chosen.Goals as goal

pub returns-then-place-table-clause-few : goal.returns-then-place-table-clause-few
returns-then-place-table-clause-few c =
    let more = seat_count-one_more c.args.taken c.args.place.seat in
    let same = ap seat_count c.with.ensures.same in
    let here : (c.args.place.table == c.args.table) ≡ true =
    eq-eqb c.args.place.table c.args.table c.if-place-table.true in
    let one = ap (λ b. cond {A = ℕ} b 1 0) here in
    omega (arith, more, same, one)
