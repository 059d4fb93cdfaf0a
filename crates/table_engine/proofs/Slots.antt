-- Who sits in a seat of a street.
use Rattle.std.proofs.Common.{◌≡◌, ℕ, ◌-◌, ◌≤◌, Bool, true, false, cond, Some, None, refl, ap, arith}
use Rattle.std.specs.Prelude.{Option, ◌==◌, option_map}
use Rattle.betting_round.specs.declared.bettor.Bettor.{Bettor}
use Rattle.betting_round.specs.declared.bettor.Player.{Player}
use Rattle.betting_round.specs.declared.street.Street.{Street}
use Rattle.betting_round.specs.StreetActs.{chips_of, chips_on}
use Rattle.betting_round.specs.WhoIsDue.{player_at, player_in}
use Rattle.betting_round.proofs.Steps.{sum_at}

-- What a player has behind is no more than the chips of the street.
pub behind-few : (street : Street) (seat : ℕ) (bettor : Bettor)
    → option_map (λ player. player.bettor) (player_in street.players seat) ≡ Some bettor
    → bettor.behind ≤ chips_on street
behind-few street seat bettor there = by_none (seat == 0) there
  where
    by_slot : (slot : Option Player) → player_at street.players seat ≡ slot
        → option_map (λ (player : Player). player.bettor) slot ≡ Some bettor → bettor.behind ≤ chips_on street
    by_slot None is found = absurd cc
    by_slot (Some player) is found =
        let few = sum_at (seat - 1) (λ (p : Player). chips_of p.bettor) player street.players is in
        let same : player.bettor ≡ bettor = cc in
        let behind : player.bettor.behind ≡ bettor.behind = ap (λ (b : Bettor). b.behind) same in
        omega arith

    by_none : (none : Bool) → option_map (λ (player : Player). player.bettor)
        (cond none None (player_at street.players seat)) ≡ Some bettor → bettor.behind ≤ chips_on street
    by_none true found = absurd cc
    by_none false found = by_slot (player_at street.players seat) refl found
