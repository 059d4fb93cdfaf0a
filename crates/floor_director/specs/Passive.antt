-- What a player may do who neither bets nor raises. This project's own words for what the checks of an act say.
use Rattle.std.specs.Prelude.{◌≡◌, ℕ, not, ◌==◌, nat_lt, true, List}
use Rattle.betting_round.specs.declared.act.Act.TheVariants.{Fold, Check, Call}
use Rattle.betting_round.specs.declared.facing.Facing.{Facing}
use Rattle.table_engine.specs.Hands.{HandTerms}
use Rattle.floor_director.specs.SimulatedActs.{is_lawful_act}

-- A player who faces this may call where he has put in another amount than the bet level, check where he has put in no
-- less, and fold.
pub record MayGoOn (hand : HandTerms) (name : List ℕ) (facing : Facing) : Type 0 where
  pub call : is_lawful_act hand name Call ≡ not (facing.put == facing.level)
  pub check : is_lawful_act hand name Check ≡ not (nat_lt facing.put facing.level)
  pub fold : is_lawful_act hand name Fold ≡ true
