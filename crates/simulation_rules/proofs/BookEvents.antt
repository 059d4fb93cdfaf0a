-- Events that are about no hand: the book alone refuses them.
use Rattle.std.proofs.Common.{◌≡◌, ◌∙◌, ℕ, ◌≤◌, true, None, arith}
use Rattle.std.specs.Prelude.{option_and_then}
use Rattle.std.specs.Option.{option_or}
use Rattle.std.proofs.lemmas.Bool.Decides.{nat_tests}
use Rattle.level_plan.specs.Items.{is_between}
use Rattle.tournament_events.specs.declared.event.Event.{Event}
use Rattle.tournament_rules.specs.Apart.{hand_refusal}
use Rattle.tournament_rules.specs.Checks.{book_refusal}
use Rattle.tournament_rules.specs.States.{PlayState, hand_at, hand_table, refusal_of}
use Rattle.tournament_rules.proofs.Passed.{refusal-parts}

-- An event that is about no hand is accepted where the book does not refuse it.
pub free_by_book : (play : PlayState) (event : Event) → hand_table event ≡ None
    → book_refusal play.book event ≡ None → refusal_of play event ≡ None
free_by_book play event none free =
    refusal-parts play event
    ∙ (λ i. option_or (free i) (option_and_then (hand_refusal event) (option_and_then (hand_at play) (none i))))

-- A number is between two where it is no lower than the one and no higher than the other.
pub between : (low high number : ℕ) → low ≤ number → number ≤ high → is_between low high number ≡ true
between low high number first last = grind (arith, nat_tests)
