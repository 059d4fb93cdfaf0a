use Rattle.std.proofs.Common.{◌∙◌, sym}
use Rattle.floor_view.proofs.AtPlaces.{rest-none, rest-read}
use Rattle.floor_view.proofs.stacks.rest_of.Goals as goal

pub returns-in-Some : goal.returns-in-Some
returns-in-Some c =
    c.stack_in.ensures
    ∙ rest-read c.args.seats.now.players c.args.player c.in-Some.place c.seat_count.ensures.lawful.ordered
    (sym c.in-Some.ensures.place)

pub returns-in-None : goal.returns-in-None
returns-in-None c = sym (rest-none c.args.seats.now.players c.args.player (sym c.in-None.ensures.place))
