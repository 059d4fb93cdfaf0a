use Rattle.std.proofs.Common.{◌≡◌, Option, None, length, ap, sym, subst, rules, arith}
use Rattle.std.specs.Prelude.{vec_len}
use Rattle.std.proofs.lemmas.List.{length-replicate}
use Rattle.session_desk.specs.declared.told.Watch.{Watch}
use Rattle.session_desk.specs.Desks.{sights}
use Rattle.session_desk.specs.Telling.{IsToldOf, Reach, first_reach, reach_of}
use Rattle.session_desk.proofs.Beginning.{told-first}
use Rattle.session_desk.proofs.session.Session.new.Goals as goal

pub invariant_of-result : goal.invariant_of-result
invariant_of-result c =
    let first : reach_of c.in-Ok.told ≡ first_reach (vec_len c.args.desk.tables) = search rules in
    let many = ap (λ (r : Reach). length r.watches) first in
    record {
      within = subst (λ (r : Reach). IsToldOf (sights c.args.desk) r) (sym first)
          (told-first (sights c.args.desk) (vec_len c.args.desk.tables));
      count = omega (
        arith,
        many,
        length-replicate {A = Option Watch}
            (vec_len c.args.desk.tables) None,
        c.in-Ok.told.watches.ok.0,
      );
    }
