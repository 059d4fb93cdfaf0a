-- The places of the players who are out. The Poker TDA Rules and Robert's Rules of Poker: who goes broke later is
-- placed higher, and of players who go broke in one hand the one who began it with more chips. This project's own:
-- equal stacks share a place.
use Rattle.std.specs.Prelude.{ℕ, ◌+◌, ◌-◌, ◌==◌, ◌&&◌, ◌||◌, not, nat_lt, Bool, List, length, filter, count_by}
use Rattle.place_list.specs.declared.bust.Bust.{Bust}

-- Whether a row is that of the player of this number.
abbrev pub is_bust_of : ℕ → Bust → Bool
is_bust_of number bust = bust.player == number

-- The players who are out once one of them is no more: his row leaves the list.
abbrev pub taken_back : ℕ → List Bust → List Bust
taken_back number busts = filter (λ bust. not (is_bust_of number bust)) busts

-- Another player who is out is ahead: he is in a later group, or in the same group with a greater stack at the start
-- of his last hand.
abbrev pub is_ahead : Bust → Bust → Bool
is_ahead other bust = nat_lt bust.group other.group || (other.group == bust.group && nat_lt bust.stack other.stack)

-- Two players who are out tie: they are in the same group with equal stacks.
abbrev pub ties : Bust → Bust → Bool
ties other bust = other.group == bust.group && other.stack == bust.stack

-- How many of the players who entered are in.
abbrev pub still_in : ℕ → List Bust → ℕ
still_in entries busts = entries - length busts

-- A place is 1 plus the number of players who are in, and of those who are out and ahead.
abbrev pub place_of : ℕ → List Bust → Bust → ℕ
place_of entries busts bust = 1 + still_in entries busts + count_by (λ other. is_ahead other bust) busts

-- How many players share a player's place, himself among them.
abbrev pub tied : List Bust → Bust → ℕ
tied busts bust = count_by (λ other. ties other bust) busts

-- How many of them entered before him.
abbrev pub tied_before : List Bust → Bust → ℕ
tied_before busts bust = count_by (λ other. ties other bust && nat_lt other.player bust.player) busts
