use Rattle.std.proofs.Common.{◌∙◌, refl, Some, None, arith}
use Rattle.table_engine.specs.Hands.{players_by_seat}
use Rattle.table_engine.proofs.BySeat.{lawful-seats, map-slots}
use Rattle.table_engine.proofs.players.players_by_seat.Goals as goal

pub fill_slots-requires : goal.fill_slots-requires
fill_slots-requires c =
    (omega arith, (rw c.items.ensures (lawful-seats c.args.start.now c.requires), refl))

pub returns : goal.returns
returns c = rw c.items.ensures at c.fill_slots.ensures
    ∙ map-slots (λ player. Some player) None (λ slot. slot) refl (λ player. refl) (players_by_seat c.args.start.now)
