-- A book is valid once hand-for-hand is switched, and once a round of it ended.
use Rattle.std.proofs.Common.{◌≡◌, refl, ℕ, zero, suc, ◌+◌, ◌≤◌, Bool, true, false, cond, List, [], ◌∷◌, map, get_or, arith}
use Rattle.std.specs.Prelude.{count_by}
use Rattle.std.specs.Option.{ForSome}
use Rattle.std.proofs.lemmas.List.{length-map}
use Rattle.std.proofs.lemmas.List.Sums.{sum_by-cons}
use Rattle.seat_book.specs.declared.table_status.TableStatus.{TableStatus}
use Rattle.seat_book.specs.Counts.{count_at}
use Rattle.seat_book.specs.Tables.{fresh_status, status_at, IsStatusOf}
use Rattle.hand_rounds.specs.Rounds.{begun_by, with_begun, begins_with}
use Rattle.tournament_rules.specs.Books.{BookState}
use Rattle.tournament_rules.specs.Effects.{with_hands, round_ended}
use Rattle.tournament_rules.specs.Units.{is_due}
use Rattle.tournament_rules.specs.Valid.{IsValid}
use Rattle.tournament_rules.proofs.Fitting.{fitting_alike}
use Rattle.tournament_rules.proofs.KeptUnits.{KeepsUnits, starts_kept, units_kept}
use Rattle.tournament_rules.proofs.Stayed.{past_later}

-- What is so of a table whether it has begun in the round or not is so of it when others have begun.
pub each_begun : (P : TableStatus → Type 0) (test : TableStatus → Bool) (tables : List TableStatus) (table : ℕ)
    → ((status : TableStatus) → P status → P (begun_by test status)) → P (status_at tables table)
    → P (status_at (map (begun_by test) tables) table)
each_begun P test tables zero keeps is = is
each_begun P test tables (suc below) keeps is = by_list tables below is
  where
    by_list : (tables : List TableStatus) (below : ℕ) → P (get_or tables below fresh_status)
        → P (get_or (map (begun_by test) tables) below fresh_status)
    by_list [] below is = is
    by_list (status ∷ tables) zero is = keeps status is
    by_list (status ∷ tables) (suc below) is = by_list tables below is

keeps-begun : (test : TableStatus → Bool) (tables : List TableStatus) → KeepsUnits tables (map (begun_by test) tables)
keeps-begun test tables = record {
  unit = λ table. each_begun (λ status. status.unit ≡ (status_at tables table).unit) test tables table
      (λ status is. is) refl;
  race = λ table. each_begun (λ status. status.race ≡ (status_at tables table).race) test tables table
      (λ status is. is) refl;
  due = by_list tables;
}
  where
    by_list : (tables : List TableStatus) → count_by is_due (map (begun_by test) tables) ≡ count_by is_due tables
    by_list [] = refl
    by_list (status ∷ tables) =
        let rest = by_list tables in
        let here = sum_by-cons (λ (s : TableStatus). cond {A = ℕ} (is_due s) 1 0) status tables in
        let there = sum_by-cons (λ (s : TableStatus). cond {A = ℕ} (is_due s) 1 0) (begun_by test status)
        (map (begun_by test) tables) in
        omega (arith, rest, here, there)

-- the book once just the tables that pass a test have begun in the round, with hand-for-hand on or off
abbrev switched_book : BookState → (TableStatus → Bool) → Bool → ℕ → BookState
switched_book book test hands group = record book {
  seating = record (with_begun test book.seating) { hands = hands };
  group = group;
  accepted = book.accepted + 1;
}

-- A book is valid once other tables have begun in the round, and the group of those who go out next is no earlier.
valid_switched : (book : BookState) (test : TableStatus → Bool) (hands : Bool) (group : ℕ) → IsValid book
    → book.group ≤ group → group ≤ book.group + 1 → IsValid (switched_book book test hands group)
valid_switched book test hands group valid least most =
    let tables = book.seating.tables in
    let players = book.seating.players in
    let after = map (begun_by test) tables in
    let keeps = keeps-begun test tables in
    record {
      plan = valid.plan;
      entries = valid.entries;
      tables = fitting_alike book.plan book.seating book.started after hands valid.tables
          (length-map tables (begun_by test))
          (λ table. each_begun (IsStatusOf book.seating.seat_count) test tables table
          (λ status is. record { marks = is.marks; unit = is.unit; race = is.race })
          (valid.tables.lawful.statuses table))
          (λ table. each_begun (λ status. status.playing ≡ (status_at tables table).playing) test tables table
          (λ status is. is) refl);
      hands = starts_kept book.plan tables after players book.started valid.hands keeps.unit;
      busts = record {
        groups = valid.busts.groups;
        past = past_later book.busts book.group group least valid.busts.past;
      };
      chips = valid.chips;
      units = units_kept book.plan book.level book.added tables after players players valid.units keeps
          valid.units.whole valid.units.due;
      marked = λ table. each_begun (λ status. ForSome status.marks (λ marks. 1 ≤ count_at players table)) test tables
          table (λ status is. is) (valid.marked table);
      counted = let counted = valid.counted in omega (arith, counted);
      raised = let raised = valid.raised in omega (arith, raised, most);
    }

-- A book is valid once hand-for-hand is switched.
pub valid_with_hands : (book : BookState) (on : Bool) → IsValid book → IsValid (with_hands book on)
valid_with_hands book true valid =
    valid_switched book (begins_with true) true book.group valid (omega arith) (omega arith)
valid_with_hands book false valid =
    valid_switched book (begins_with false) false (book.group + 1) valid (omega arith) (omega arith)

-- A book is valid once a round ended.
pub valid_round_ended : (book : BookState) → IsValid book → IsValid (round_ended book)
valid_round_ended book valid =
    valid_switched book (begins_with false) book.seating.hands (book.group + 1) valid (omega arith) (omega arith)
