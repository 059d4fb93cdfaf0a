use Rattle.std.proofs.Common.{◌∙◌, ap, arith}
use Rattle.place_list.specs.Places.{taken_back}
use Rattle.place_list.proofs.TakenBack.{distinct-taken}
use Rattle.place_list.proofs.place_list.PlaceList.take_back.Goals as goal

pub invariant_of-self : goal.invariant_of-self
invariant_of-self c = (
  omega (arith, c.take_out.ensures.room, c.self.invariant.0),
  omega (arith, c.take_out.ensures.fewer, c.self.invariant.1),
  rw (c.take_out.ensures.rows) (distinct-taken c.args.player c.self.inside.busts.items c.self.invariant.2),
)

pub returns : goal.returns
returns c = c.take_out.ensures.rows ∙ ap (taken_back c.args.player) c.self.view_is
