-- A hand that is played has no more chips than there may be.
use Rattle.std.proofs.Common.{◌≡◌, refl, ap, ℕ, ◌+◌, ◌≤◌, length, arith}
use Rattle.std.specs.Prelude.{Option, Some, None, option_map}
use Rattle.std.proofs.lemmas.List.Sums.{get_or-le-sum_by}
use Rattle.std.proofs.lemmas.Nat.{mul-le}
use Rattle.rulebook.specs.Limits.{most_entries}
use Rattle.level_plan.specs.Limits.{greatest_amount}
use Rattle.table_engine.specs.declared.start.HandStart.{HandStart}
use Rattle.table_engine.specs.Starts.{chips_of}
use Rattle.tournament_rules.specs.Books.{BookState, start_at, starters_of}
use Rattle.tournament_rules.specs.Chips.{play_of}
use Rattle.tournament_rules.specs.States.{PlayState, acts_at, hand_at}
use Rattle.tournament_rules.specs.Valid.{IsValid}
use Rattle.tournament_rules.proofs.Entries.{right_has}
use Rattle.tournament_rules.proofs.Fitting.{table_range, table_started}
use Rattle.simulation_rules.specs.Effort.{effort_of_hand, most_chips}

few_in_play : (book : BookState) → IsValid book → play_of book ≤ most_chips
unfolding most_chips
few_in_play book valid =
    let has = right_has book.plan valid.plan.right in
    let sold = mul-le (length book.entries + book.reentries) book.plan.stack most_entries greatest_amount valid.entries.few
    has.most_stack in
    let few = valid.units.few in
    let last = valid.plan.last in
    let levels = has.level_count in
    let all = valid.chips in
    omega (arith, sold, few, last, levels, all)

-- The hand that starts so is played for no more chips than there may be.
pub few-chips : (book : BookState) (table : ℕ) (start : HandStart) → IsValid book
    → start_at book.started table ≡ Some start → chips_of start.seats ≤ most_chips
few-chips book table start valid is =
    let there = table_started book.plan book.seating book.started table start valid.tables is in
    let range = table_range 1 book.plan.tables table there in
    let room = valid.tables.room in
    let one = get_or-le-sum_by (λ (start : Option HandStart). chips_of (starters_of start)) book.started table None
    (omega (arith, range.1, room)) in
    let his = ap (λ (start : Option HandStart). chips_of (starters_of start)) is in
    let all = few_in_play book valid in
    omega (arith, one, his, all)

-- A hand takes no more steps than a chip each and 51.
pub hand-most : (play : PlayState) (table : ℕ) → IsValid play.book
    → effort_of_hand (hand_at play table) ≤ most_chips + 51
hand-most play table valid = by_start (start_at play.book.started table) refl
  where
    by_start : (start : Option HandStart) → start_at play.book.started table ≡ start
        → effort_of_hand (option_map (λ start. record { start = start; acts = acts_at play.acts table }) start)
        ≤ most_chips + 51
    by_start None is = omega arith
    by_start (Some start) is = let few = few-chips play.book table start valid is in omega (arith, few)
