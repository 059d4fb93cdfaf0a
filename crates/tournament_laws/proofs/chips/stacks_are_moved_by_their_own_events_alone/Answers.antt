use Rattle.std.proofs.Common.{◌≡◌, ◌≢◌, false, length}
use Rattle.tournament_events.specs.declared.event.Event.TheVariants.{Enter, Reenter, Begin, Settle}
use Rattle.tournament_rules.specs.Books.{number_in, start_at, starters_of}
use Rattle.tournament_rules.specs.Dealing.{next_start}
use Rattle.tournament_rules.specs.Players.{is_among}
use Rattle.tournament_laws.specs.Stacks.{moves_chips}
use Rattle.tournament_laws.proofs.Stacks.{stack-kept, stack-entered, stack-reentered, stack-begun, stack-settled, left_in_state}
use Rattle.tournament_laws.proofs.chips.stacks_are_moved_by_their_own_events_alone.Goals as goal

pub returns-clause-others : goal.returns-clause-others
returns-clause-others c = λ before event number kind.
    left_in_state before event number (λ play. moves_chips event ≡ false)
    (λ play valid none kind. stack-kept number play event valid none kind) (λ play is. kind)

pub returns-clause-entry : goal.returns-clause-entry
returns-clause-entry c = λ before name table seat number other.
    left_in_state before (Enter name table seat) number (λ play. number ≢ length play.book.entries)
    (λ play valid none other. stack-entered number play name table seat valid none other) other

pub returns-clause-reentry : goal.returns-clause-reentry
returns-clause-reentry c = λ before name table seat number other.
    left_in_state before (Reenter name table seat) number (λ play. number ≢ number_in play.book name)
    (λ play valid none other. stack-reentered number play name table seat valid none other) other

pub returns-clause-begin : goal.returns-clause-begin
returns-clause-begin c = λ before table number row other.
    left_in_state before (Begin table row) number
    (λ play. is_among number (next_start play.book table row.cards).seats ≡ false)
    (λ play valid none other. stack-begun number play table row valid none other) other

pub returns-clause-settle : goal.returns-clause-settle
returns-clause-settle c = λ before table number other.
    left_in_state before (Settle table) number
    (λ play. is_among number (starters_of (start_at play.book.started table)) ≡ false)
    (λ play valid none other. stack-settled number play table valid none other) other
