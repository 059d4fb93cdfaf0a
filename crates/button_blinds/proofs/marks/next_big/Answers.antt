use Rattle.button_blinds.proofs.WhoPlays.{next-sits, first-big-sits}
use Rattle.button_blinds.proofs.marks.next_big.Goals as goal

pub returns-in-None-clause-sits : goal.returns-in-None-clause-sits
returns-in-None-clause-sits c =
    rw c.first_marks.ensures.marks
    (first-big-sits c.args.occupied c.args.seats c.requires.table c.requires.players
    (rw c.first_marks.ensures.marks at c.first_marks.ensures.within.small.1))

pub returns-in-Some-clause-sits : goal.returns-in-Some-clause-sits
returns-in-Some-clause-sits c =
    rw c.next_occupied_after.ensures.next
    (next-sits c.args.occupied c.args.seats c.in-Some.old.big c.requires.table c.requires.players
    (c.requires.old c.in-Some.old c.in-Some.is).big.1)
