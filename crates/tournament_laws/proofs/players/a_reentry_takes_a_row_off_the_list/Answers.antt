use Rattle.std.proofs.Common.{◌≡◌, refl, ◌+◌, length}
use Rattle.std.specs.Prelude.{if◌then◌else◌}
use Rattle.tournament_events.specs.declared.event.Event.TheVariants.{Reenter}
use Rattle.place_list.specs.Places.{is_ahead, place_of, taken_back}
use Rattle.tournament_rules.specs.Books.{number_in}
use Rattle.tournament_rules.specs.States.{first_state, run}
use Rattle.tournament_rules.proofs.Entries.{one_out}
use Rattle.tournament_rules.proofs.MoveLaws.{after_accepted, not_refused}
use Rattle.tournament_rules.proofs.Passed.{passed-parts}
use Rattle.tournament_rules.proofs.Plays.{play_keeps}
use Rattle.tournament_rules.proofs.Steps.{valid_events}
use Rattle.tournament_laws.proofs.LaterEntries.{one_more_back, places_back}
use Rattle.tournament_laws.proofs.players.a_reentry_takes_a_row_off_the_list.Goals as goal

pub returns-clause-row : goal.returns-clause-row
returns-clause-row c = λ before name table seat earlier is taken.
    one_out earlier.book name table seat ((valid_events before).play earlier is).book
    (passed-parts earlier (Reenter name table seat)
    (not_refused (run first_state before) earlier (Reenter name table seat) is taken)).0

pub returns-clause-busts : goal.returns-clause-busts
returns-clause-busts c = λ before name table seat earlier is taken.
    after_accepted (λ later. later.book.busts ≡ taken_back (number_in earlier.book name) earlier.book.busts)
    (run first_state before) (Reenter name table seat) earlier is taken (λ none. refl)

pub returns-clause-players : goal.returns-clause-players
returns-clause-players c = λ before name table seat earlier is taken.
    let valid = (valid_events before).play earlier is in
    after_accepted (λ later. length later.book.seating.players ≡ length earlier.book.seating.players + 1)
    (run first_state before) (Reenter name table seat) earlier is taken
    (λ none. one_more_back earlier.book name table seat
    (play_keeps earlier (Reenter name table seat) valid none).book valid.book)

pub returns-clause-entries : goal.returns-clause-entries
returns-clause-entries c = λ before name table seat earlier is taken.
    after_accepted (λ later. later.book.entries ≡ earlier.book.entries)
    (run first_state before) (Reenter name table seat) earlier is taken (λ none. refl)

pub returns-clause-places : goal.returns-clause-places
returns-clause-places c = λ before name table seat gone bust earlier is taken there his.
    after_accepted (λ later. place_of (length later.book.entries) later.book.busts bust
    + (if is_ahead gone bust then 1 else 0) ≡ place_of (length earlier.book.entries) earlier.book.busts bust + 1)
    (run first_state before) (Reenter name table seat) earlier is taken
    (λ none. places_back earlier.book name table seat gone bust ((valid_events before).play earlier is).book there his)
