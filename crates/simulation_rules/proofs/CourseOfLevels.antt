-- A simulated tournament stays under way when the next level comes and when a race is made.
use Rattle.std.proofs.Common.{◌≡◌, refl, ℕ, ◌+◌, ◌≤◌, Bool, true, false, length}
use Rattle.std.specs.Prelude.{nat_lt, if◌then◌else◌, None}
use Rattle.std.proofs.lemmas.Bool.{both_ways}
use Rattle.card_set.specs.declared.card.CardRow.{CardRow}
use Rattle.level_plan.specs.Plans.{unit_of_level}
use Rattle.seat_book.specs.declared.table_status.TableStatus.{TableStatus}
use Rattle.seat_book.specs.Counts.{is_open}
use Rattle.seat_book.specs.Tables.{status_at}
use Rattle.tournament_events.specs.declared.event.Event.TheVariants.{Race}
use Rattle.tournament_rules.specs.Books.{BookState}
use Rattle.tournament_rules.specs.Checks.{book_refusal}
use Rattle.tournament_rules.specs.Effects.{leveled, raced}
use Rattle.tournament_rules.specs.Racing.{announced, announced_table, raced_off}
use Rattle.tournament_rules.specs.Valid.{IsValid}
use Rattle.tournament_rules.proofs.Levels.{each_raised}
use Rattle.tournament_rules.proofs.Races.{valid_raced}
use Rattle.simulation_rules.specs.declared.place.SimPlace.{SimPlace}
use Rattle.simulation_rules.specs.Course.{IsUnderWay}
use Rattle.simulation_rules.specs.Entrants.{entrants}
use Rattle.simulation_rules.proofs.CourseOfBooks.{AreAlike, alike_under_way, same_over}
use Rattle.simulation_rules.proofs.CourseOfTables.{key-with_status}

alike_leveled : (book : BookState) → AreAlike book (leveled book)
alike_leveled book = by_units (nat_lt (unit_of_level book.plan.blinds book.level) unit)
  where
    unit : ℕ
    unit = unit_of_level book.plan.blinds (book.level + 1)

    plays : (opened : Bool) (status : TableStatus) → (announced_table unit opened status).playing ≡ status.playing
    plays true status = refl
    plays false status = refl

    by_units : (greater : Bool) → AreAlike book (record book {
      seating = if greater then announced unit book.seating else book.seating;
      level = book.level + 1;
      accepted = book.accepted + 1;
    })
    by_units false = record {
      plan = refl;
      entries = refl;
      begun = refl;
      playing = λ table. refl;
      hands = refl;
      over = refl;
    }
    by_units true = record {
      plan = refl;
      entries = refl;
      begun = refl;
      playing = λ table. each_raised
          (λ status. status.playing ≡ (status_at book.seating.tables table).playing) unit book.seating table
          (plays (is_open book.seating.players table) (status_at book.seating.tables table)) refl;
      hands = refl;
      over = refl;
    }

-- After the next level came behind the tables of a round.
pub leveled_on : (book : BookState) (place : SimPlace) → IsUnderWay book place
    → entrants book.plan ≤ length book.entries → place.done ≡ true → IsUnderWay (leveled book) place
leveled_on book place under full done =
    alike_under_way book (leveled book) place (alike_leveled book) full
    (λ turns. absurd (both_ways place.done turns done)) under

-- After a race was made behind the tables of a round.
pub raced_on : (book : BookState) (place : SimPlace) (table : ℕ) (row : CardRow) → IsValid book
    → IsUnderWay book place → entrants book.plan ≤ length book.entries → place.done ≡ true
    → book_refusal book (Race table row) ≡ None → IsUnderWay (raced book table row.cards) place
raced_on book place table row valid under full done free =
    alike_under_way book (raced book table row.cards) place (record {
      plan = refl;
      entries = refl;
      begun = refl;
      playing = λ other. key-with_status (λ status. status.playing) raced_off (λ status. refl) book.seating.tables table
          other;
      hands = refl;
      over = same_over book (raced book table row.cards) valid (valid_raced book table row valid free) refl refl;
    }) full (λ turns. absurd (both_ways place.done turns done)) under
