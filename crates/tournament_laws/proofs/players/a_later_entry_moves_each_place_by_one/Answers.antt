use Rattle.std.proofs.Common.{◌≡◌, refl, ◌+◌, length}
use Rattle.std.specs.List.{All}
use Rattle.tournament_events.specs.declared.event.Event.TheVariants.{Enter}
use Rattle.place_list.specs.Places.{place_of}
use Rattle.tournament_rules.specs.States.{first_state, run}
use Rattle.tournament_rules.proofs.Plays.{play_keeps}
use Rattle.tournament_rules.proofs.Steps.{valid_events}
use Rattle.tournament_laws.proofs.LaterEntries.{one_more_in, one_lower}
use Rattle.tournament_rules.proofs.MoveLaws.{after_accepted}
use Rattle.tournament_laws.proofs.players.a_later_entry_moves_each_place_by_one.Goals as goal

pub returns-clause-players : goal.returns-clause-players
returns-clause-players c = λ before name table seat earlier is taken.
    let valid = (valid_events before).play earlier is in
    after_accepted (λ later. length later.book.seating.players ≡ length earlier.book.seating.players + 1)
    (run first_state before) (Enter name table seat) earlier is taken
    (λ none. one_more_in earlier.book name table seat
    (play_keeps earlier (Enter name table seat) valid none).book valid.book)

pub returns-clause-busts : goal.returns-clause-busts
returns-clause-busts c = λ before name table seat earlier is taken.
    after_accepted (λ later. later.book.busts ≡ earlier.book.busts)
    (run first_state before) (Enter name table seat) earlier is taken (λ none. refl)

pub returns-clause-places : goal.returns-clause-places
returns-clause-places c = λ before name table seat earlier is taken.
    after_accepted (λ later. All (λ bust. place_of (length later.book.entries) later.book.busts bust
    ≡ place_of (length earlier.book.entries) earlier.book.busts bust + 1) later.book.busts)
    (run first_state before) (Enter name table seat) earlier is taken
    (λ none. one_lower earlier.book name table seat ((valid_events before).play earlier is).book)
