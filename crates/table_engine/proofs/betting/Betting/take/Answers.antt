use Rattle.std.proofs.Common.{◌+◌, ap, refl, arith}
use Rattle.betting_round.specs.declared.facing.Facing.{Facing}
use Rattle.betting_round.specs.StreetActs.{SeatAct}
use Rattle.table_engine.proofs.Running.{at-act, ready-act, there-act}
use Rattle.table_engine.proofs.betting.Betting.take.Goals as goal

pub overflow_add-self : goal.overflow_add-self
overflow_add-self c =
    let few = c.requires.ready.few_wagers in
    let level = c.facing-before.ensures.few.level in
    let same = ap (λ (f : Facing). f.level) c.facing-before.ensures.facing in
    let one = c.wagers_of.ensures.most in
    omega arith

pub returns-clause-at : goal.returns-clause-at
returns-clause-at c = λ start streets at.
    let before = ap (λ (f : Facing). f.level) c.facing-before.ensures.facing in
    let after = ap (λ (f : Facing). f.level) c.facing-after.ensures.facing in
    at-act start streets c.args.self.now _ c.args.seat c.args.act at
    (c.take.ensures.after streets.last.start streets.last.acts at.right at.round) refl refl refl
    (ap (λ n. c.args.self.now.wagers + n) (rw (before, after) at c.wagers_of.ensures.count))

pub returns-clause-stand : goal.returns-clause-stand
returns-clause-stand c = λ start streets at.
    let entry : SeatAct = record { seat = c.args.seat; act = c.args.act } in
    ready-act start c.requires.allowed.limits streets c.args.self.now _ c.args.seat c.args.act at c.requires.ready
    c.requires.allowed.free (c.take.ensures.after streets.last.start streets.last.acts at.right at.round) refl refl
    (returns-clause-at c start streets at).wagers

pub returns-clause-there : goal.returns-clause-there
returns-clause-there c = λ start streets at.
    there-act start streets c.args.self.now _ c.args.seat c.args.act at
    (c.take.ensures.after streets.last.start streets.last.acts at.right at.round)
