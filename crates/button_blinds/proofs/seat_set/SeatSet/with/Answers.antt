use Rattle.std.proofs.Common.{◌≡◌, ◌∙◌, ◌-◌, ap, true, slice_set, sym, subst}
use Rattle.button_blinds.specs.SeatSets.{with_seat, AreSeatsOf}
use Rattle.button_blinds.proofs.SeatSetLaws.{AreSeatsOf-with_seat, with_seat-test}
use Rattle.button_blinds.proofs.seat_set.SeatSet.with.Goals as goal

pub returns-clause-table : goal.returns-clause-table
returns-clause-table c =
    λ seats before within.
    let same : slice_set c.self.inside.is_in (c.args.seat - 1) true ≡ with_seat c.args.self c.args.seat =
    ap (λ set. slice_set set (c.args.seat - 1) true) c.self.view_is
    ∙ with_seat-test c.args.self c.args.seat c.requires.first in
    subst (AreSeatsOf seats) (sym same) (AreSeatsOf-with_seat c.args.self c.args.seat seats before within)
