use Rattle.std.proofs.Common.{◌≡◌, ◌∙◌, refl, sym, ap}
use Rattle.std.specs.Prelude.{Option, Some, None, is_some}
use Rattle.std.specs.Option.{option_copied}
use denote.Bor.{Bor}
use Rattle.table_engine.specs.declared.hand.Hand.{Hand}
use Rattle.tournament_rules.specs.States.{State}
use Rattle.floor_core.proofs.PlayedAt.{hand_played}
use Rattle.floor_core.proofs.tournament.Tournament.hand.Goals as goal

pub returns-in-Some-clause-none : goal.returns-in-Some-clause-none
returns-in-Some-clause-none c =
    let is : c.args.self.now.play ≡ Some c.in-Some.play = ap (λ (state : State). state.play) (sym c.self.view_is)
    ∙ c.in-Some.is in
    rw is (some_there c.hand.result ∙ (ap is_some c.hand.ensures.hand
    ∙ hand_played c.in-Some.play c.args.table c.hand.ensures.lawful))
  where
    some_there : (found : Option (Bor Hand)) → is_some found ≡ is_some (option_copied found)
    some_there None = refl
    some_there (Some hand) = refl
