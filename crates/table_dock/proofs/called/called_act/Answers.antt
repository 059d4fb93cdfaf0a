use Rattle.std.proofs.Common.{◌≡◌, Some}
use Rattle.std.specs.Prelude.{option_map}
use Rattle.betting_round.specs.ActChecks.{facing_in}
use Rattle.table_engine.specs.Hands.{due_in_hand, due_name, street_of}
use Rattle.table_dock.proofs.CalledTimes.{called}
use Rattle.table_dock.proofs.called.called_act.Goals as goal

pub returns-clause-act : goal.returns-clause-act
returns-clause-act c =
    let hand = c.args.hand.now in
    let named : due_name hand ≡ Some c.in-Some.name = cc in
    let faces : option_map (facing_in (street_of hand)) (due_in_hand hand) ≡ Some c.in-Some-facing.facing = cc in
    called hand c.in-Some.name c.in-Some-facing.facing c.act_in_time.result named faces c.act_in_time.ensures
