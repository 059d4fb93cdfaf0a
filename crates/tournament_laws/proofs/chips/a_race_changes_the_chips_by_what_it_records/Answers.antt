use Rattle.std.proofs.Common.{◌≡◌, refl, ◌+◌}
use Rattle.tournament_rules.specs.Chips.{rest_in, rest_at}
use Rattle.tournament_rules.specs.Racing.{race_at}
use Rattle.tournament_rules.specs.States.{first_state, run}
use Rattle.tournament_rules.proofs.Steps.{valid_events}
use Rattle.tournament_laws.proofs.RaceChips.{after_race, race-table, race-all}
use Rattle.tournament_laws.proofs.chips.a_race_changes_the_chips_by_what_it_records.Goals as goal

pub returns-clause-table : goal.returns-clause-table
returns-clause-table c = λ before table row earlier is taken.
    after_race (λ later. rest_at later table + (race_at earlier.book.seating table row.cards).removed
    ≡ rest_at earlier.book table + (race_at earlier.book.seating table row.cards).added)
    (run first_state before) table row
    earlier is taken (race-table earlier.book table row ((valid_events before).play earlier is).book)

pub returns-clause-all : goal.returns-clause-all
returns-clause-all c = λ before table row earlier is taken.
    after_race (λ later. rest_in later + (race_at earlier.book.seating table row.cards).removed
    ≡ rest_in earlier.book + (race_at earlier.book.seating table row.cards).added) (run first_state before) table row
    earlier is taken (race-all earlier.book table row ((valid_events before).play earlier is).book)

pub returns-clause-removed : goal.returns-clause-removed
returns-clause-removed c = λ before table row earlier is taken.
    after_race (λ later. later.removed ≡ earlier.book.removed + (race_at earlier.book.seating table row.cards).removed)
    (run first_state before) table row earlier is taken (λ may. refl)

pub returns-clause-added : goal.returns-clause-added
returns-clause-added c = λ before table row earlier is taken.
    after_race (λ later. later.added ≡ earlier.book.added + (race_at earlier.book.seating table row.cards).added)
    (run first_state before) table row earlier is taken (λ may. refl)
