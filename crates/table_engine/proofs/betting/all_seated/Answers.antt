use Rattle.std.proofs.Common.{◌∙◌, refl, Some, None, arith}
use Rattle.std.specs.Prelude.{option_map}
use Rattle.table_engine.specs.Hands.{players_by_seat, seated}
use Rattle.table_engine.proofs.BySeat.{lawful-seats, map-slots}
use Rattle.table_engine.proofs.betting.all_seated.Goals as goal

pub fill_slots-requires : goal.fill_slots-requires
fill_slots-requires c =
    (omega arith, (rw c.items.ensures (lawful-seats c.args.start.now c.requires), refl))

pub returns : goal.returns
returns c = rw c.items.ensures at c.fill_slots.ensures
    ∙ map-slots (λ player. Some (seated c.args.start.now player)) None (option_map (seated c.args.start.now)) refl
    (λ player. refl) (players_by_seat c.args.start.now)
