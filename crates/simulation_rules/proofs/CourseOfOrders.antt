-- A simulated tournament stays under way when a table breaks and when two tables are balanced.
use Rattle.std.proofs.Common.{◌≡◌, ◌∙◌, refl, ap, ℕ, ◌≤◌, List, length}
use Rattle.std.specs.Prelude.{None}
use Rattle.std.specs.List.{list_any}
use Rattle.seat_book.specs.declared.place.Place.{Place}
use Rattle.seat_book.specs.declared.table_status.TableStatus.{TableStatus}
use Rattle.seat_book.specs.Tables.{status_at}
use Rattle.seat_book.specs.Seatings.{Seating}
use Rattle.balance_rule.specs.Balance.{balance_move}
use Rattle.tournament_events.specs.declared.event.Event.TheVariants.{Balance, Break}
use Rattle.tournament_rules.specs.Books.{BookState}
use Rattle.tournament_rules.specs.Checks.{book_refusal}
use Rattle.tournament_rules.specs.Effects.{balanced, broken, forgotten, with_table}
use Rattle.tournament_rules.specs.Moving.{after_all}
use Rattle.tournament_rules.specs.Units.{is_due}
use Rattle.tournament_rules.specs.Valid.{IsValid}
use Rattle.tournament_rules.proofs.Balances.{valid_balanced}
use Rattle.tournament_rules.proofs.Breaks.{valid_broken}
use Rattle.simulation_rules.specs.declared.place.SimPlace.{SimPlace}
use Rattle.simulation_rules.specs.Course.{IsUnderWay}
use Rattle.simulation_rules.specs.Entrants.{entrants}
use Rattle.simulation_rules.proofs.CourseOfBooks.{alike_under_way, same_over}
use Rattle.simulation_rules.proofs.CourseOfTables.{key-after_all, key-moved, key-with_status, pending-with_status}

-- After two tables were balanced.
pub balanced_on : (book : BookState) (place : SimPlace) (from to : ℕ) → IsValid book → IsUnderWay book place
    → entrants book.plan ≤ length book.entries → book_refusal book (Balance from to) ≡ None
    → IsUnderWay (balanced book from to) place
balanced_on book place from to valid under full free =
    alike_under_way book (balanced book from to) place (record {
      plan = refl;
      entries = refl;
      begun = refl;
      playing = λ table. ap (λ (tables : List TableStatus). (status_at tables table).playing) same_tables;
      hands = key-moved (λ seating. seating.hands) (λ seating players. refl) book.seating
          (balance_move book.seating from to);
      over = same_over book (balanced book from to) valid (valid_balanced book from to valid free) refl refl;
    }) full (λ done. ap (list_any is_due) same_tables ∙ under.races done) under
  where
    same_tables : (balanced book from to).seating.tables ≡ book.seating.tables
    same_tables = key-moved (λ seating. seating.tables) (λ seating players. refl) book.seating
        (balance_move book.seating from to)

-- After a table broke.
pub broken_on : (book : BookState) (place : SimPlace) (table : ℕ) (places : List Place) (names : List (List ℕ))
    → IsValid book → IsUnderWay book place → entrants book.plan ≤ length book.entries
    → book_refusal book (Break table places names) ≡ None → IsUnderWay (broken book table places names) place
broken_on book place table places names valid under full free =
    alike_under_way book (broken book table places names) place (record {
      plan = refl;
      entries = refl;
      begun = refl;
      playing = λ other. ap (λ (tables : List TableStatus). (status_at tables other).playing) same_tables
          ∙ key-with_status (λ status. status.playing) forgotten (λ status. refl) book.seating.tables table other;
      hands = key-after_all (λ seating. seating.hands) (λ seating players. refl) table names places bare;
      over = same_over book (broken book table places names) valid
          (valid_broken book table places names valid free) refl refl;
    }) full (λ done. ap (list_any is_due) same_tables
    ∙ (pending-with_status forgotten (λ status. refl) book.seating.tables table ∙ under.races done)) under
  where
    bare : Seating
    bare = with_table book.seating table forgotten

    same_tables : (after_all table names places bare).tables ≡ bare.tables
    same_tables = key-after_all (λ seating. seating.tables) (λ seating players. refl) table names places bare
