-- What is taken is taken while the tournament goes on.
use Rattle.std.proofs.Common.{◌≡◌, false}
use Rattle.std.specs.Prelude.{None}
use Rattle.std.proofs.lemmas.Bool.{and_parts, not-true}
use Rattle.rulebook.proofs.Checks.{none_holds}
use Rattle.tournament_events.specs.declared.event.Event.{Event}
use Rattle.tournament_events.specs.declared.event.Event.TheVariants.{Plan, Go}
use Rattle.tournament_rules.specs.Books.{BookState}
use Rattle.tournament_rules.specs.Checks.{book_checks, book_refusal}
use Rattle.tournament_rules.proofs.Passed.{plan_late, go_late}

-- A book that takes an event is not stopped: that it goes on is asked before anything else.
pub goes_on : (book : BookState) (event : Event) → book_refusal book event ≡ None → book.stopped ≡ false
unfolding book_refusal
goes_on book (Plan line) none = absurd (plan_late book line none)
goes_on book Go none = absurd (go_late book none)
goes_on book event none = not-true book.stopped (and_parts _ _ (none_holds (book_checks book event) none)).0
