-- The standings of a tournament: each player who is out with his place and his prize, and the winner where it is over.
use Rattle.std.specs.Prelude.{ℕ, ◌==◌, ◌&&◌, ◌||◌, nat_lt, Bool, if◌then◌else◌, List, [], ◌∷◌, ◌++◌, map, Option, None, Some}
use Rattle.place_list.specs.declared.bust.Bust.{Bust}
use Rattle.place_list.specs.declared.standing.Standing.{Standing}
use Rattle.place_list.specs.Places.{place_of, tied, tied_before}
use Rattle.place_list.specs.Prizes.{prizes_of, prizes_together, equal_share}

-- The prize of a player who is out: his share of the prizes of the places that he and those who tie with him have.
abbrev pub prize_of : ℕ → List ℕ → List Bust → Bust → ℕ
prize_of entries prizes busts bust = equal_share
    (prizes_together prizes (place_of entries busts bust) (tied busts bust)) (tied busts bust) (tied_before busts bust)

-- His standing.
abbrev pub standing_of : ℕ → List ℕ → List Bust → Bust → Standing
standing_of entries prizes busts bust = record {
  player = bust.player;
  place = place_of entries busts bust;
  prize = prize_of entries prizes busts bust;
}

-- One standing comes before another by place, and of the same place by entry.
abbrev pub comes_before : Standing → Standing → Bool
comes_before one other = nat_lt one.place other.place || (one.place == other.place && nat_lt one.player other.player)

-- A standing goes into an ordered list before the first that it comes before.
unfoldable pub put_in_order : Standing → List Standing → List Standing
put_in_order standing [] = standing ∷ []
put_in_order standing (other ∷ others) =
    if comes_before standing other then standing ∷ other ∷ others else other ∷ put_in_order standing others

-- Standings by place, and then by entry.
unfoldable pub ordered : List Standing → List Standing
ordered [] = []
ordered (standing ∷ standings) = put_in_order standing (ordered standings)

-- The last player has the first place and its prize.
abbrev pub winner_of : List ℕ → Option ℕ → List Standing
winner_of prizes None = []
winner_of prizes (Some player) = record { player = player; place = 1; prize = prizes_together prizes 1 1 } ∷ []

-- The standings where these prizes are paid.
abbrev pub standings_with : ℕ → List ℕ → Option ℕ → List Bust → List Standing
standings_with entries prizes last busts =
    winner_of prizes last ++ ordered (map (standing_of entries prizes busts) busts)

-- The standings: where the tournament is over the last player comes first, and then those who are out, by place and
-- then by entry. So many entered, and the shares are of this pool.
unfoldable pub standings_of : ℕ → Option ℕ → ℕ → List ℕ → List Bust → List Standing
standings_of entries last pool shares busts = standings_with entries (prizes_of entries pool shares) last busts
