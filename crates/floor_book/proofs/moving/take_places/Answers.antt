use Rattle.std.proofs.Common.{◌≡◌, ◌∙◌, ◌<◌, ◌+◌, ap, sym, subst, length, get_or, drop, ◌∷◌, arith}
use Rattle.std.proofs.lemmas.Grind.{common_steps}
use Rattle.std.proofs.lemmas.List.{drop_more}
use Rattle.seat_book.specs.declared.place.Place.{Place}
use Rattle.seat_book.specs.Seatings.{Seating}
use Rattle.floor_book.specs.Moves.{AreFree}
use Rattle.floor_book.proofs.Moved.{free-rest, taking-tables}
use Rattle.floor_book.proofs.Taking.{taking-next, taking-over}
use Rattle.floor_book.proofs.moving.take_places.Goals as goal

pub loop-index-preserved : goal.loop-index-preserved
loop-index-preserved c =
    let names = c.args.names.now in
    let places = c.args.places.now in
    let index = c.loop-index.index in
    let name = c.index-names-index.result in
    let place : Place = get_or c.args.places.now c.loop-index.index (record { table = 0; seat = 0 }) in
    let named : c.loop-index.index < length c.args.names.now =
    omega (arith, c.loop-index-test.true, c.min-index-end.ensures) in
    let placed : c.loop-index.index < length c.args.places.now =
    omega (arith, c.loop-index-test.true, c.min-index-end.ensures) in
    let rest : drop c.loop-index.index c.args.places.now ≡ place ∷ drop (c.loop-index.index + 1) c.args.places.now =
    drop_more places index (record { table = 0; seat = 0 }) placed in
    let free : AreFree c.loop-index.seats (place ∷ drop (c.loop-index.index + 1) c.args.places.now) =
    subst (AreFree c.loop-index.seats) rest c.loop-index.invariant.free in
    record {
      all = taking-next c.args.table names places index name place c.loop-index.seats c.take_place.new.seats _ named
          placed c.index-names-index.is rest c.take_place.ensures.taken c.loop-index.invariant.all;
      free = subst (λ (after : Seating). AreFree after (drop (c.loop-index.index + 1) c.args.places.now))
          (sym c.take_place.ensures.taken)
          (free-rest c.loop-index.seats c.args.table name place (drop (c.loop-index.index + 1) c.args.places.now)
          c.loop-index.invariant.lawful free);
      lawful = c.take_place.ensures.lawful;
      tables = ap (λ (seating : Seating). seating.table_count) c.take_place.ensures.taken
          ∙ (taking-tables c.loop-index.seats c.args.table name place ∙ c.loop-index.invariant.tables);
    }

pub returns-clause-taken : goal.returns-clause-taken
returns-clause-taken c =
    sym (taking-over c.args.table c.args.names.now c.args.places.now c.loop-index.index c.loop-index.seats
    (omega (arith, c.loop-index-test.false, c.min-index-end.ensures))) ∙ c.loop-index.invariant.all

pub take_place-requires-clause-free : goal.take_place-requires-clause-free
take_place-requires-clause-free c = grind (arith, common_steps)

pub take_place-requires-clause-within : goal.take_place-requires-clause-within
take_place-requires-clause-within c = grind (arith, common_steps)
