-- Each player sits in his seat, and sixteen bits of chips each are few.
use Rattle.std.proofs.Common.{refl, arith}
use Rattle.rule_tests.proofs.street.street.Goals as goal

pub start-requires : goal.start-requires
start-requires c =
    rw (c.bettor.ensures.is, c.bettor-2.ensures.is, c.bettor-3.ensures.is, c.bettor-4.ensures.is, c.bettor-5.ensures.is)
    (rw (
      c.bettor-6.ensures.is,
      c.bettor-7.ensures.is,
      c.bettor-8.ensures.is,
      c.bettor-9.ensures.is,
      c.bettor-10.ensures.is,
    )
    (record {
      seated = (refl, (refl, (refl, (refl, (refl, (refl, (refl, (refl, (refl, (refl, tt))))))))));
      chips = omega (
        arith,
        c.bettor.ensures.few,
        c.bettor-2.ensures.few,
        c.bettor-3.ensures.few,
        c.bettor-4.ensures.few,
        c.bettor-5.ensures.few,
        c.bettor-6.ensures.few,
        c.bettor-7.ensures.few,
        c.bettor-8.ensures.few,
        c.bettor-9.ensures.few,
        c.bettor-10.ensures.few,
      );
      opening = omega arith;
      big = omega arith;
      unit = omega arith;
    }))
