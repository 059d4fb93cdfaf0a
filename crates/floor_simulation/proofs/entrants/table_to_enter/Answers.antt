use Rattle.std.proofs.Common.{◌≡◌, ◌∙◌, refl, sym, ap, ℕ, Option, arith}
use Rattle.std.specs.Prelude.{unwrap_or}
use Rattle.seat_book.specs.Counts.{count_at, table_numbers}
use Rattle.balance_rule.specs.Filling.{lowest_table}
use Rattle.simulation_rules.specs.Entrants.{table_to_enter}
use Rattle.floor_simulation.proofs.LowestTables.{lowest-next, lowest-stays}
use Rattle.floor_simulation.proofs.entrants.table_to_enter.Goals.{then-count, else-count}
use Rattle.floor_simulation.proofs.entrants.table_to_enter.Goals as goal

pub loop-below-init : goal.loop-below-init
loop-below-init c =
    let some = c.table_count-below-end.ensures.lawful.some_tables in
    record { lowest = refl; within = record { first = omega arith; last = omega (arith, some) } }

pub count-requires-in-loop-below : goal.count-requires-in-loop-below
count-requires-in-loop-below c = c.loop-below.invariant.within

pub loop-below-preserved : goal.loop-below-preserved
loop-below-preserved c =
    let count = count_at c.args.seats.now.players in
    let below = c.loop-below.below in
    let lowest = c.loop-below.lowest in
    let before = c.loop-below.invariant.lowest in
    let its = c.count.ensures.count in
    let least = c.count-in-loop-below.ensures.count in
    elim c.if-count.branch [
      | then-count w ↦ record {
        lowest = rw w.lowest-is (lowest-next count below lowest before
            (let fewer = w.if-count.true in omega (arith, its, least, fewer)));
        within = rw w.lowest-is (record {
          first = omega arith;
          last = let tables = c.table_count-below-end.ensures.tables in let less = c.loop-below-test.true in
              omega (arith, tables, less);
        });
      }
      | else-count w ↦ record {
        lowest = rw w.lowest-is (lowest-stays count below lowest before
            (let more = w.if-count.false in omega (arith, its, least, more)));
        within = rw w.lowest-is c.loop-below.invariant.within;
      }
    ]

pub returns-clause-table : goal.returns-clause-table
unfolding table_to_enter
returns-clause-table c =
    let seating = c.args.seats.now in
    let some = c.table_count-below-end.ensures.lawful.some_tables in
    let tables = c.table_count-below-end.ensures.tables in
    let within = c.loop-below.auto.below-end (omega (arith, some, tables)) in
    let all : c.loop-below.below ≡ seating.table_count = omega (arith, c.loop-below-test.false, within, tables) in
    sym (ap (λ (found : Option ℕ). unwrap_or found 1) (sym (ap (λ (n : ℕ). lowest_table (count_at seating.players)
    (table_numbers n)) all) ∙ c.loop-below.invariant.lowest))

pub returns-clause-within : goal.returns-clause-within
returns-clause-within c = c.loop-below.invariant.within
