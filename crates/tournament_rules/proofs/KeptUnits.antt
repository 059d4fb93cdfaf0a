-- What stays of units where no table's unit changes, and no pending race.
use Rattle.std.proofs.Common.{◌≡◌, ◌∙◌, refl, sym, ap, subst, ℕ, zero, suc, ◌%◌, ◌≤◌, true, false, ◌==◌, cond, List, [], ◌∷◌, length, get_or, arith}
use Rattle.std.specs.Prelude.{not, count_by, Option, None, is_some}
use Rattle.std.specs.List.{list_any}
use Rattle.std.specs.Option.{ForSome}
use Rattle.std.proofs.lemmas.Bool.{or_parts}
use Rattle.std.proofs.lemmas.List.Sums.{sum_by-set}
use Rattle.rulebook.proofs.Found.{none-by_test}
use Rattle.rulebook.proofs.Tests.{list_all-follows}
use Rattle.level_plan.specs.Items.{is_between}
use Rattle.level_plan.specs.Plans.{PlanTerms, unit_of_level}
use Rattle.seat_book.specs.declared.seated.Seated.{Seated}
use Rattle.seat_book.specs.declared.table_status.TableStatus.{TableStatus}
use Rattle.seat_book.specs.Tables.{fresh_status, status_at, with_status}
use Rattle.table_engine.specs.declared.start.HandStart.{HandStart}
use Rattle.tournament_rules.specs.Books.{start_at}
use Rattle.tournament_rules.specs.Units.{IsRaceTo, IsUnitOf, is_whole_at, AreWhole, AreDue, AreUnits, is_due}
use Rattle.tournament_rules.specs.Valid.{IsStartAt, AreStarted}
use Rattle.tournament_rules.proofs.Fitting.{each_status}

-- Each table has the unit that it had, and the race.
pub record KeepsUnits (before after : List TableStatus) : Type 0 where
  pub unit : (table : ℕ) → (status_at after table).unit ≡ (status_at before table).unit
  pub race : (table : ℕ) → (status_at after table).race ≡ (status_at before table).race
  pub due : count_by is_due after ≡ count_by is_due before

set-due : (tables : List TableStatus) (table : ℕ) (status : TableStatus) → table ≤ length tables
    → status.race ≡ (status_at tables table).race
    → count_by is_due (with_status tables table status) ≡ count_by is_due tables
set-due tables zero status last same = refl
set-due tables (suc below) status last same =
    let sum = sum_by-set (λ (s : TableStatus). cond {A = ℕ} (is_due s) 1 0) tables below status fresh_status
    (omega (arith, last)) in
    let alike = ap (λ (race : Option ℕ). cond {A = ℕ} (is_some race) 1 0) same in
    omega (arith, sum, alike)

-- It is so where one table stands otherwise, with the same unit and race.
pub keeps-set : (tables : List TableStatus) (table : ℕ) (status : TableStatus) → 1 ≤ table → table ≤ length tables
    → status.unit ≡ (status_at tables table).unit → status.race ≡ (status_at tables table).race
    → KeepsUnits tables (with_status tables table status)
keeps-set tables table status first last unit race = record {
  unit = λ other. each_status (λ number status. status.unit ≡ (status_at tables number).unit) tables table status first
      last unit other refl;
  race = λ other. each_status (λ number status. status.race ≡ (status_at tables number).race) tables table status first
      last race other refl;
  due = set-due tables table status last race;
}

unit_alike : (unit : ℕ) (before after : TableStatus) → after.unit ≡ before.unit → after.race ≡ before.race
    → IsUnitOf unit before → IsUnitOf unit after
unit_alike unit before after same race is = record {
  own = λ none. same ∙ is.own (sym race ∙ none);
  new = λ new at. is.new new (sym race ∙ at);
  from = λ new at. subst (λ (from : ℕ). IsRaceTo new from) (sym same) (is.from new (sym race ∙ at));
}

-- Stacks that are multiples of their tables' units are so where each table has the unit that it had.
pub whole_alike : (before after : List TableStatus) (players : List Seated)
    → ((table : ℕ) → (status_at after table).unit ≡ (status_at before table).unit) → AreWhole before players
    → AreWhole after players
whole_alike before after players same whole =
    list_all-follows (is_whole_at before) (is_whole_at after) players
    (λ player is. ap (λ (unit : ℕ). player.stack % unit == 0) (same player.place.table) ∙ is) whole

-- Units are lawful where each table has the unit and the race that it had.
pub units_kept : (plan : PlanTerms) (level added : ℕ) (before after : List TableStatus) (players later : List Seated)
    → AreUnits plan level added before players → KeepsUnits before after → AreWhole before later → AreDue before later
    → AreUnits plan level added after later
units_kept plan level added before after players later units keeps whole due = record {
  units = λ table listed. unit_alike (unit_of_level plan.blinds level) (status_at before table) (status_at after table)
      (keeps.unit table) (keeps.race table) (units.units table listed);
  whole = whole_alike before after later keeps.unit whole;
  due = λ table unit at. due table unit (sym (keeps.race table) ∙ at);
  few = let few = units.few in let same = keeps.due in omega (arith, few, same);
}

-- A start is lawful where its table has the unit that it had.
pub start_kept : (plan : PlanTerms) (before after : List TableStatus) (table : ℕ) (start : Option HandStart)
    → (status_at after table).unit ≡ (status_at before table).unit → ForSome start (IsStartAt plan before table)
    → ForSome start (IsStartAt plan after table)
start_kept plan before after table start same lawful = λ found is.
    let began = lawful found is in
    record { here = began.here; lawful = began.lawful; seats = began.seats; unit = began.unit ∙ sym same }

-- The starts are lawful where each table has the unit that it had.
pub starts_kept : (plan : PlanTerms) (before after : List TableStatus) (players : List Seated)
    (started : List (Option HandStart)) → AreStarted plan before players started
    → ((table : ℕ) → (status_at after table).unit ≡ (status_at before table).unit)
    → AreStarted plan after players started
starts_kept plan before after players started hands same = record {
  starts = λ table. start_kept plan before after table (start_at started table) (same table) (hands.starts table);
  lent = hands.lent;
}

-- Where no race is pending at any table, none is at this one.
pub none_due : (tables : List TableStatus) → list_any is_due tables ≡ false → (table : ℕ)
    → (status_at tables table).race ≡ None
none_due tables none zero = refl
none_due tables none (suc below) = by_list tables below none
  where
    by_list : (tables : List TableStatus) (below : ℕ) → list_any is_due tables ≡ false
        → (get_or tables below fresh_status).race ≡ None
    by_list [] below none = refl
    by_list (status ∷ tables) zero none =
        none-by_test status.race (ap not (or_parts (is_due status) (list_any is_due tables) none).0)
    by_list (status ∷ tables) (suc below) none =
        by_list tables below (or_parts (is_due status) (list_any is_due tables) none).1

-- Where no race is pending, each table has the level's unit.
pub one_unit : (plan : PlanTerms) (level added : ℕ) (tables : List TableStatus) (players : List Seated)
    → AreUnits plan level added tables players → list_any is_due tables ≡ false → (table : ℕ)
    → is_between 1 plan.tables table ≡ true → (status_at tables table).unit ≡ unit_of_level plan.blinds level
one_unit plan level added tables players units none table listed =
    (units.units table listed).own (none_due tables none table)
