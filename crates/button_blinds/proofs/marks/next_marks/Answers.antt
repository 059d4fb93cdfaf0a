use Rattle.std.specs.Prelude.{None}
use Rattle.button_blinds.proofs.NextMarksLaws.{marks-fit, next-seat, heads-up-fit, moved-fit}
use Rattle.button_blinds.proofs.WhoPlays.{next-sits, first-big-sits}
use Rattle.button_blinds.proofs.marks.next_marks.Goals as goal

pub returns-in_default-clause-big_sits : goal.returns-in_default-clause-big_sits
returns-in_default-clause-big_sits c =
    rw c.first_marks.ensures.marks
    (first-big-sits c.args.occupied c.args.seats c.requires.table c.requires.players
    (rw c.first_marks.ensures.marks at c.first_marks.ensures.within.small.1))

pub returns-then-count-eq2-clause-big_sits : goal.returns-then-count-eq2-clause-big_sits
returns-then-count-eq2-clause-big_sits c =
    rw (c.heads_up_marks.ensures.marks, c.next_occupied_after-big.ensures.next)
    (next-sits c.args.occupied c.args.seats c.in-Some.old.big c.requires.table c.requires.players
    (c.requires.old c.in-Some.old c.in-Some.is).big.1)

pub returns-clause-big_sits : goal.returns-clause-big_sits
returns-clause-big_sits c =
    rw (c.moved_marks.ensures.big, c.next_occupied_after-big.ensures.next)
    (next-sits c.args.occupied c.args.seats c.in-Some.old.big c.requires.table c.requires.players
    (c.requires.old c.in-Some.old c.in-Some.is).big.1)

pub returns-in_default-clause-apart : goal.returns-in_default-clause-apart
returns-in_default-clause-apart c =
    rw c.first_marks.ensures.marks
    ((marks-fit None c.args.occupied c.args.seats c.requires.most c.requires.table c.requires.players
    (λ old is. absurd cc)).apart)

pub returns-then-count-eq2-clause-apart : goal.returns-then-count-eq2-clause-apart
returns-then-count-eq2-clause-apart c =
    let at = (c.requires.old c.in-Some.old c.in-Some.is).big.1 in
    let big = next-seat c.args.occupied c.args.seats c.in-Some.old.big c.requires.table c.requires.players at in
    let sits = next-sits c.args.occupied c.args.seats c.in-Some.old.big c.requires.table c.requires.players at in
    rw (c.heads_up_marks.ensures.marks, c.next_occupied_after-big.ensures.next)
    ((heads-up-fit c.args.occupied c.args.seats _ c.requires.table c.requires.players big sits).apart)

pub returns-clause-big_plays : goal.returns-clause-big_plays
returns-clause-big_plays c =
    rw (c.moved_marks.ensures.marks, c.next_occupied_after-big.ensures.next)
    ((moved-fit c.args.occupied c.in-Some.old c.args.seats c.requires.most c.requires.table c.requires.players
    (c.requires.old c.in-Some.old c.in-Some.is)).big_plays)

pub returns-clause-apart : goal.returns-clause-apart
returns-clause-apart c =
    rw (c.moved_marks.ensures.marks, c.next_occupied_after-big.ensures.next)
    ((moved-fit c.args.occupied c.in-Some.old c.args.seats c.requires.most c.requires.table c.requires.players
    (c.requires.old c.in-Some.old c.in-Some.is)).apart)
