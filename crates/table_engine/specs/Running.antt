-- The running fields of a hand: which streets its betting stands for.
use Rattle.std.specs.Prelude.{◌≡◌, ◌+◌, ◌<◌, ◌≤◌, ◌^◌, sum_by}
use Rattle.betting_round.specs.StreetActs.{AreSeated, IsStreetStart, chips_on, next_bettors}
use Rattle.limit_betting.specs.Wagers.{wagers}
use Rattle.table_engine.specs.declared.betting.Betting.{Betting}
use Rattle.table_engine.specs.declared.start.HandStart.{HandStart}
use Rattle.table_engine.specs.Hands.{Streets, dead_chips, put_on, street_now}

-- The betting stands for these streets of a hand that started so.
pub record IsAt (start : HandStart) (streets : Streets) (betting : Betting) : Type 0 where
  -- the round is the last street
  pub round : betting.round ≡ street_now streets
  -- what was put in on the streets before, the antes included
  pub before : betting.before ≡ dead_chips start + sum_by put_on streets.before
  -- as many streets may still begin
  pub left : betting.left ≡ streets.left
  -- the bet of the street, and its wagers so far
  pub bet : betting.bet ≡ streets.last.start.big
  pub wagers : betting.wagers ≡ wagers streets.last.start streets.last.acts
  -- the last street began as a street may
  pub right : IsStreetStart streets.last.start

-- The next street may begin from here: each player sits in the seat of his index in the list, and the chips of the hand
-- and the wagers are far from the end of their type.
pub record IsReady (betting : Betting) : Type 0 where
  pub seated : AreSeated 1 (next_bettors betting.round)
  pub chips : betting.before + chips_on betting.round < 2 ^ 60
  -- there is a bet, and no more wagers than chips of the bet level
  pub some_bet : 0 < betting.bet
  pub few_bet : betting.bet < 2 ^ 60
  pub few_wagers : betting.wagers ≤ betting.round.level
