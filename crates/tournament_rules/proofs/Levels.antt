-- A book is valid once the next level is current.
use Rattle.std.proofs.Common.{◌≡◌, ◌∙◌, refl, sym, ap, subst, ℕ, zero, suc, ◌+◌, ◌*◌, ◌%◌, ◌<◌, ◌≤◌, inl, inr, Bool, true, false, cond, ◌==◌, List, [], ◌∷◌, map, length, get_or, arith}
use Rattle.std.specs.Prelude.{nat_lt, if◌then◌else◌, Some, None}
use Rattle.std.specs.List.{list_all, list_any, enumerate_from}
use Rattle.std.specs.Option.{ForSome}
use Rattle.std.proofs.lemmas.Bool.{and_parts, and_from, not-true, cases_lt, leb-false, lt-ltb, ltb-true}
use Rattle.std.proofs.lemmas.Bool.Decides.{nat_tests}
use Rattle.std.proofs.lemmas.List.{get_or_past, get_or-map, length-map}
use Rattle.std.proofs.lemmas.List.FromFn.{length-enumerate_from, get_or-enumerate_from}
use Rattle.std.proofs.lemmas.List.Sums.{count_by-le-length}
use Rattle.rulebook.proofs.Checks.{none_holds}
use Rattle.rulebook.proofs.Tests.{count_by-cons}
use Rattle.level_plan.specs.Items.{is_next_unit}
use Rattle.level_plan.specs.Plans.{unit_of_level}
use Rattle.level_plan.proofs.Levels.{unit_of_level_above}
use Rattle.seat_book.specs.declared.seated.Seated.{Seated}
use Rattle.seat_book.specs.declared.table_status.TableStatus.{TableStatus}
use Rattle.seat_book.specs.Players.{sits_at}
use Rattle.seat_book.specs.Counts.{count_at, is_open}
use Rattle.seat_book.specs.Tables.{fresh_status, status_at, IsStatusOf}
use Rattle.seat_book.specs.Seatings.{Seating}
use Rattle.tournament_events.specs.declared.event.Event.TheVariants.{Level}
use Rattle.tournament_rules.specs.Books.{BookState}
use Rattle.tournament_rules.specs.Checks.{book_checks, book_refusal}
use Rattle.tournament_rules.specs.Effects.{leveled}
use Rattle.tournament_rules.specs.Racing.{announced_table, announced}
use Rattle.tournament_rules.specs.Units.{IsRaceTo, IsUnitOf, is_whole_at, AreWhole, is_due}
use Rattle.tournament_rules.specs.Valid.{IsValid, IsPlanned}
use Rattle.tournament_rules.proofs.Entries.{right_has}
use Rattle.tournament_rules.proofs.Fitting.{table_range, fitting_alike}
use Rattle.tournament_rules.proofs.KeptUnits.{start_kept, one_unit}
use Rattle.tournament_rules.proofs.Remaining.{somebody_plays}
use Rattle.tournament_rules.proofs.Units.{next_times, next_unit}

-- What is so of a level that is not refused.
pub record MayRise (book : BookState) : Type 0 where
  pub no_race : list_any is_due book.seating.tables ≡ false
  pub further : book.level < length book.plan.blinds

pub level_passed : (book : BookState) → book_refusal book Level ≡ None → MayRise book
unfolding book_refusal
level_passed book none =
    let all = none_holds (book_checks book Level) none in
    let going = and_parts _ _ all in
    let race = and_parts _ _ going.1 in
    let last = and_parts _ _ race.1 in
    record {
      no_race = not-true _ race.0;
      further = leb-false (length book.plan.blinds) book.level (not-true _ last.0);
    }

-- the tables of a seating once a level with this greater unit is current
abbrev pub raised_tables : ℕ → Seating → List TableStatus
raised_tables unit seating = (announced unit seating).tables

-- How each listed table stands then.
announced-at : (unit : ℕ) (seating : Seating) (table : ℕ) → 1 ≤ table → table ≤ length seating.tables
    → status_at (raised_tables unit seating) table
    ≡ announced_table unit (is_open seating.players table) (status_at seating.tables table)
announced-at unit seating zero first last = absurd (omega (arith, first))
announced-at unit seating (suc below) first last =
    let rows = enumerate_from 1 seating.tables in
    let within : below < length seating.tables = omega (arith, last) in
    let size = length-enumerate_from 1 seating.tables in
    let row = get_or-enumerate_from 1 seating.tables below (0, fresh_status) within in
    let same = get_or-map change rows below (0, fresh_status) fresh_status (omega (arith, size, within)) in
    let number : 1 + below ≡ suc below = omega arith in
    same ∙ (ap change row ∙ ap (λ (n : ℕ). change (n, get_or seating.tables below fresh_status)) number)
  where
    change : ℕ × TableStatus → TableStatus
    change row = announced_table unit (is_open seating.players row.0) row.1

-- All others stand as before.
raised_past : (unit : ℕ) (seating : Seating) (table : ℕ) → length seating.tables < table
    → status_at (raised_tables unit seating) table ≡ status_at seating.tables table
raised_past unit seating zero beyond = absurd (omega (arith, beyond))
raised_past unit seating (suc below) beyond =
    let rows = enumerate_from 1 seating.tables in
    let size = length-enumerate_from 1 seating.tables in
    let change : ℕ × TableStatus → TableStatus = λ row. announced_table unit (is_open seating.players row.0) row.1 in
    let all = length-map rows change in
    get_or_past (map change rows) below fresh_status (omega (arith, size, all, beyond))
    ∙ sym (get_or_past seating.tables below fresh_status (omega (arith, beyond)))

-- What is so of each table before, and of each listed one then, is so of each then.
pub each_raised : (P : TableStatus → Type 0) (unit : ℕ) (seating : Seating) (table : ℕ)
    → P (announced_table unit (is_open seating.players table) (status_at seating.tables table))
    → P (status_at seating.tables table) → P (status_at (raised_tables unit seating) table)
each_raised P unit seating zero here past = past
each_raised P unit seating (suc below) here past = elim (cases_lt below (length seating.tables)) [
  | inl within ↦
      subst P (sym (announced-at unit seating (suc below) (omega arith) (omega (arith, within)))) here
  | inr beyond ↦ subst P (sym (raised_past unit seating (suc below) (omega (arith, beyond)))) past
]

-- A table keeps its marks, and whether it plays.
key_raised : {K : Type 0} (key : TableStatus → K) (unit : ℕ) (seating : Seating) (table : ℕ)
    → ((opened : Bool) (status : TableStatus) → key (announced_table unit opened status) ≡ key status)
    → key (status_at (raised_tables unit seating) table) ≡ key (status_at seating.tables table)
key_raised {K = K} key unit seating table same =
    let before : K = key (status_at seating.tables table) in
    each_raised (λ status. key status ≡ before) unit seating table
    (same (is_open seating.players table) (status_at seating.tables table)) refl

-- An open table keeps its unit.
open-kept : (unit : ℕ) (seating : Seating) (table : ℕ) → 1 ≤ count_at seating.players table
    → (status_at (raised_tables unit seating) table).unit ≡ (status_at seating.tables table).unit
open-kept unit seating table some =
    each_raised (λ status. status.unit ≡ (status_at seating.tables table).unit) unit seating table
    (rw (lt-ltb 0 (count_at seating.players table) some) refl) refl

-- So each stack is a multiple of its table's unit.
whole-announced : (before after : List TableStatus) (all players : List Seated)
    → ((table : ℕ) → 1 ≤ count_at all table → (status_at after table).unit ≡ (status_at before table).unit)
    → ((table : ℕ) → count_at players table ≤ count_at all table) → AreWhole before players → AreWhole after players
whole-announced before after all [] kept within whole = refl
whole-announced before after all (player ∷ players) kept within whole =
    let test : ℕ → Bool = λ unit. player.stack % unit == 0 in
    let parts = and_parts (is_whole_at before player) (list_all (is_whole_at before) players) whole in
    let here = within player.place.table in
    let one = count_by-cons (sits_at player.place.table) player players in
    let his = itself player.place.table in
    let some : 1 ≤ count_at all player.place.table = omega (arith, here, one, his) in
    and_from _ _ (ap test (kept player.place.table some) ∙ parts.0)
    (whole-announced before after all players kept (λ table.
    let most = within table in
    let more = count_by-cons (sits_at table) player players in
    omega (arith, most, more)) parts.1)
  where
    itself : (table : ℕ) → cond {A = ℕ} (table == table) 1 0 ≡ 1
    itself table = grind (arith, nat_tests)

fresh_lawful : (seats unit : ℕ) (opened : Bool) (status : TableStatus) → 1 ≤ unit → IsStatusOf seats status
    → IsStatusOf seats (announced_table unit opened status)
fresh_lawful seats unit true status some is = record {
  marks = is.marks;
  unit = is.unit;
  race = λ new at. let same : unit ≡ new = cc in omega (arith, some, same);
}
fresh_lawful seats unit false status some is = record {
  marks = is.marks;
  unit = some;
  race = λ new at. absurd cc;
}

unit_raised : (before unit : ℕ) (opened : Bool) (status : TableStatus) → status.unit ≡ before
    → is_next_unit before unit ≡ true → before < unit → IsUnitOf unit (announced_table unit opened status)
unit_raised before unit true status own next greater = record {
  own = λ none. absurd cc;
  new = λ new at. let same : unit ≡ new = cc in sym same;
  from = λ new at.
      let same : unit ≡ new = cc in
      subst (λ (to : ℕ). IsRaceTo to status.unit) same
      (subst (λ (from : ℕ). IsRaceTo unit from) (sym own) (record { next = next; greater = greater }));
}
unit_raised before unit false status own next greater = record {
  own = λ none. refl;
  new = λ new at. absurd cc;
  from = λ new at. absurd cc;
}

due_raised : (unit count : ℕ) (opened : Bool) (status : TableStatus) → opened ≡ nat_lt 0 count
    → ForSome (announced_table unit opened status).race (λ new. 1 ≤ count)
due_raised unit count true status is = λ new at. ltb-true 0 count (sym is)
due_raised unit count false status is = λ new at. absurd cc

-- A book is valid once the next level is current.
pub valid_leveled : (book : BookState) → IsValid book → book_refusal book Level ≡ None → IsValid (leveled book)
valid_leveled book valid none = by_units (nat_lt before unit) refl
  where
    may : MayRise book
    may = level_passed book none

    before : ℕ
    before = unit_of_level book.plan.blinds book.level

    unit : ℕ
    unit = unit_of_level book.plan.blinds (book.level + 1)

    next : is_next_unit before unit ≡ true
    next = next_unit book.plan.blinds book.level (right_has book.plan valid.plan.right).levels valid.plan.first
        may.further

    planned : IsPlanned book.plan (book.level + 1)
    planned = record {
      right = valid.plan.right;
      first = omega arith;
      last = let further = may.further in omega (arith, further);
    }

    -- the book with this seating
    risen : Seating → BookState
    risen seating = record book { seating = seating; level = book.level + 1; accepted = book.accepted + 1 }

    same_unit : nat_lt before unit ≡ false → before ≡ unit
    same_unit no_more =
        let times = next_times before unit next in
        let some = unit_of_level_above book.plan.blinds (book.level + 1)
        (right_has book.plan valid.plan.right).levels in
        no_less before unit times.0 times.1 some no_more
      where
        no_less : (before unit times : ℕ) → unit ≡ before * times → 0 < unit → nat_lt before unit ≡ false
            → before ≡ unit
        no_less before unit zero is some no_more = absurd (omega (arith, is, some))
        no_less before unit (suc times) is some no_more = grind (arith, nat_tests)

    by_units : (greater : Bool) → nat_lt before unit ≡ greater
        → IsValid (risen (if greater then announced unit book.seating else book.seating))
    by_units false no_more = record {
      plan = planned;
      entries = valid.entries;
      tables = valid.tables;
      hands = valid.hands;
      busts = valid.busts;
      chips = valid.chips;
      units = record {
        units = λ table listed. subst (λ (unit : ℕ). IsUnitOf unit (status_at book.seating.tables table))
            (same_unit no_more) (valid.units.units table listed);
        whole = valid.units.whole;
        due = valid.units.due;
        few = let few = valid.units.few in omega (arith, few);
      };
      marked = valid.marked;
      counted = let counted = valid.counted in omega (arith, counted);
      raised = let raised = valid.raised in omega (arith, raised);
    }
    by_units true more =
        let seating = book.seating in
        let tables = seating.tables in
        let players = seating.players in
        let after = raised_tables unit seating in
        let some = unit_of_level_above book.plan.blinds (book.level + 1)
        (right_has book.plan valid.plan.right).levels in
        let greater = ltb-true before unit more in
        let size : length after ≡ length tables = length-map (enumerate_from 1 tables)
        (λ row. announced_table unit (is_open players row.0) row.1) ∙ length-enumerate_from 1 tables in
        record {
          plan = planned;
          entries = valid.entries;
          tables = fitting_alike book.plan seating book.started after seating.hands valid.tables size
              (λ table. each_raised (IsStatusOf seating.seat_count) unit seating table
              (fresh_lawful seating.seat_count unit (is_open players table) (status_at tables table) some
              (valid.tables.lawful.statuses table)) (valid.tables.lawful.statuses table))
              (λ table. key_raised (λ status. status.playing) unit seating table
              (λ opened status. plays opened status));
          hands = record {
            starts = λ table start is. start_kept book.plan tables after table (Some start)
                (open-kept unit seating table (somebody_plays book table start valid is))
                (λ found same. valid.hands.starts table found (is ∙ same)) start refl;
            lent = valid.hands.lent;
          };
          busts = valid.busts;
          chips = valid.chips;
          units = record {
            units = λ table listed.
                let range = table_range 1 book.plan.tables table listed in
                let count = valid.tables.tables in
                let all = valid.tables.lawful.tables in
                subst (IsUnitOf unit)
                (sym (announced-at unit seating table range.0 (omega (arith, range.1, count, all))))
                (unit_raised before unit (is_open players table) (status_at tables table)
                (one_unit book.plan book.level book.added tables players valid.units may.no_race table listed) next
                greater);
            whole = whole-announced tables after players players (open-kept unit seating) (λ table. omega arith)
                valid.units.whole;
            due = λ table. each_raised (λ status. ForSome status.race (λ new. 1 ≤ count_at players table)) unit seating
                table (due_raised unit (count_at players table) (is_open players table)
                (status_at tables table) refl) (valid.units.due table);
            few =
                let few = valid.units.few in
                let most = count_by-le-length is_due after in
                let count = valid.tables.lawful.tables in
                let limit = valid.tables.lawful.most_tables in
                omega (arith, few, most, size, count, limit);
          };
          marked = λ table marks is. valid.marked table marks
              (sym (key_raised (λ status. status.marks) unit seating table (λ opened status. marks_kept opened status))
              ∙ is);
          counted = let counted = valid.counted in omega (arith, counted);
          raised = let raised = valid.raised in omega (arith, raised);
        }
      where
        plays : (opened : Bool) (status : TableStatus) → (announced_table unit opened status).playing ≡ status.playing
        plays true status = refl
        plays false status = refl

        marks_kept : (opened : Bool) (status : TableStatus) → (announced_table unit opened status).marks ≡ status.marks
        marks_kept true status = refl
        marks_kept false status = refl
