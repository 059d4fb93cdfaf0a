-- The pots of a hand: what all players have put in, cut by heights. The Poker TDA Rules and Robert's Rules of Poker:
-- who is all-in can win, from each player, no more than he has put in himself; what is above goes into side pots, each
-- kept apart.
use Rattle.std.specs.Prelude.{ℕ, zero, suc, ◌+◌, max, Bool, true, false, not, ◌&&◌, ◌||◌, if◌then◌else◌, nat_le, List, [], ◌∷◌, map, reverse, fold, count_by}
use Rattle.std.specs.List.{list_all, list_any}
use Rattle.pot_layers.specs.declared.put.Put.{Put}
use Rattle.pot_layers.specs.declared.pot_list.Pot.{Pot}

-- A height of one chip is paid by each player who has put in at least so much.
abbrev pub has_paid : ℕ → Put → Bool
has_paid height put = nat_le height put.amount

-- Of those who paid a height, the live ones are eligible.
abbrev pub is_eligible : ℕ → Put → Bool
is_eligible height put = put.live && has_paid height put

-- How many payments a height has.
abbrev pub payments : List Put → ℕ → ℕ
payments puts height = count_by (has_paid height) puts

-- The live payers of a height, as a set of seats: index 0 is seat 1.
abbrev pub live_payers : List Put → ℕ → List Bool
live_payers puts height = map (is_eligible height) puts

-- The greatest amount that a player has put in.
abbrev pub greatest_put : List Put → ℕ
greatest_put puts = fold (λ greatest put. max greatest put.amount) 0 puts

-- Two sets have the same seats.
abbrev pub are_same_seats : List Bool → List Bool → Bool
are_same_seats [] [] = true
are_same_seats [] (_ ∷ _) = false
are_same_seats (_ ∷ _) [] = false
are_same_seats (one ∷ more) (other ∷ others) = (if one then other else not other) && are_same_seats more others

-- No seat is in the set.
abbrev pub is_nobody : List Bool → Bool
is_nobody set = list_all (λ is_in. not is_in) set

-- One height is laid on the pots below it, of which the highest comes first: heights with the same live payers form one
-- pot, and a height without a live payer joins the pot below.
abbrev pub lay : List Pot → ℕ → List Bool → List Pot
lay [] paid payers = record { amount = paid; eligible = payers } ∷ []
lay (top ∷ below) paid payers =
    if are_same_seats top.eligible payers || is_nobody payers
    then record { amount = top.amount + paid; eligible = top.eligible } ∷ below
    else record { amount = paid; eligible = payers } ∷ top ∷ below

-- The pots of the heights from 1 to this one, laid one by one, the highest pot first.
unfoldable pub pots_to : List Put → ℕ → List Pot
pots_to puts zero = []
pots_to puts (suc height) = lay (pots_to puts height) (payments puts (suc height)) (live_payers puts (suc height))

-- The pots of all heights from 1 to the greatest amount put in, the main pot first.
unfoldable pub height_pots : List Put → List Pot
height_pots puts = reverse (pots_to puts (greatest_put puts))

-- Dead chips, which no player put in for himself, go to the main pot.
abbrev pub with_dead : ℕ → List Pot → List Pot
with_dead dead [] = []
with_dead dead (main ∷ more) = record main { amount = main.amount + dead } ∷ more

-- The pots of a hand: those of all heights, with its dead chips in the main pot.
unfoldable pub layers : List Put → ℕ → List Pot
layers puts dead = with_dead dead (height_pots puts)

-- A live player has put in chips.
abbrev pub is_contested : List Put → Bool
is_contested puts = list_any (is_eligible 1) puts
