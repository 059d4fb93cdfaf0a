use Rattle.std.proofs.Common.{◌≡◌, ◌∙◌, ◌-◌, ap, false, slice_set, sym, subst}
use Rattle.button_blinds.specs.SeatSets.{without_seat, AreSeatsOf}
use Rattle.button_blinds.proofs.SeatSetLaws.{AreSeatsOf-without_seat, without_seat-test}
use Rattle.button_blinds.proofs.seat_set.SeatSet.without.Goals as goal

pub returns-clause-table : goal.returns-clause-table
returns-clause-table c =
    λ seats before.
    let same : slice_set c.self.inside.is_in (c.args.seat - 1) false ≡ without_seat c.args.self c.args.seat =
    ap (λ set. slice_set set (c.args.seat - 1) false) c.self.view_is
    ∙ without_seat-test c.args.self c.args.seat c.requires.first in
    subst (AreSeatsOf seats) (sym same) (AreSeatsOf-without_seat c.args.self c.args.seat seats before)
