use Rattle.std.proofs.Common.{◌≡◌, take}
use Rattle.player_view.proofs.teller.play_all.Given as goal

abbrev pub invariant-loop-act : goal.invariant-loop-act
invariant-loop-act l = l.hand ≡ record { start = l.fn.start; acts = take l.act-index l.acts }
