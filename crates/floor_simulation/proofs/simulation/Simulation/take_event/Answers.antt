use Rattle.std.proofs.Common.{◌≡◌, refl, ℕ, ◌+◌, Bool, false, cond, arith}
use Rattle.tournament_events.specs.declared.event.Event.{Event}
use Rattle.tournament_events.specs.declared.event.Event.TheVariants.{Settle}
use Rattle.simulation_rules.specs.Runs.{is_settle}
use Rattle.floor_simulation.proofs.simulation.Simulation.take_event.Goals as goal

none_settles : (event : Event) → ((table : ℕ) → event ≡ Settle table → ⊥) → is_settle event ≡ false
none_settles (Settle table) never = absurd (never table refl)
none_settles event never = refl

no_more : (hands : ℕ) (settles : Bool) → settles ≡ false → hands ≡ hands + (0 + cond settles 1 0)
no_more hands settles is = rw is (omega arith)

pub overflow_add-self : goal.overflow_add-self
overflow_add-self c =
    let few = c.requires.few in let counted = c.requires.counted in omega (arith, few, counted)

pub returns-in-Settle-clause-hands : goal.returns-in-Settle-clause-hands
returns-in-Settle-clause-hands c = rw c.in-Settle.is (omega arith)

pub returns-in_default-clause-hands : goal.returns-in_default-clause-hands
returns-in_default-clause-hands c =
    no_more c.args.self.now.hands (is_settle c.args.event.now)
    (none_settles c.args.event.now c.in_default.not-Settle)
