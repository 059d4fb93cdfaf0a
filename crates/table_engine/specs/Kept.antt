-- What holds of a hand's running fields at every moment.
use Rattle.std.specs.Prelude.{◌≡◌, ℕ, List, length, map}
use Rattle.std.specs.Option.{is_some}
use Rattle.pot_layers.specs.Tallies.{Tally}
use Rattle.table_engine.specs.declared.betting.Betting.{Betting}
use Rattle.table_engine.specs.Starts.{IsLawfulStart}
use Rattle.table_engine.specs.Hands.{HandTerms, dead_chips, players_by_seat, streets_of}
use Rattle.table_engine.specs.Plays.{IsLawfulPlay}
use Rattle.table_engine.specs.Results.{puts_in_hand}
use Rattle.table_engine.specs.Running.{IsAt, IsReady}

pub record IsHandKept (hand : HandTerms) (betting : Betting) (tally : Tally) (stacks : List ℕ) : Type 0 where
  -- the betting stands for the streets of the hand
  pub at : IsAt hand.start (streets_of hand) betting
  pub ready : IsReady betting
  -- a player sits in a seat of the street exactly where one was dealt in
  pub there : map is_some betting.round.players ≡ map is_some (players_by_seat hand.start)
  -- the tally has been told what was put in, who has folded, and the antes
  pub told : tally ≡ record { puts = puts_in_hand hand; dead = dead_chips hand.start }
  -- there is room for a stack of each player
  pub room : length stacks ≡ length hand.start.seats
  -- the start is lawful, and the acts are a lawful play of it
  pub lawful : IsLawfulStart hand.start
  pub played : IsLawfulPlay hand
