use Rattle.std.proofs.Common.{◌∙◌, refl, Some, None, arith}
use Rattle.table_engine.specs.Hands.{players_by_seat}
use Rattle.table_engine.specs.Tellings.{first_put}
use Rattle.table_engine.proofs.BySeat.{lawful-seats, map-slots}
use Rattle.table_engine.proofs.telling.first_puts.Goals as goal

pub fill_slots-requires : goal.fill_slots-requires
fill_slots-requires c =
    (omega arith, (rw c.items.ensures (lawful-seats c.args.start.now c.requires), refl))

pub returns : goal.returns
returns c = rw c.items.ensures at c.fill_slots.ensures
    ∙ map-slots (λ player. first_put c.args.start.now (Some player)) (first_put c.args.start.now None)
    (first_put c.args.start.now) refl (λ player. refl) (players_by_seat c.args.start.now)
