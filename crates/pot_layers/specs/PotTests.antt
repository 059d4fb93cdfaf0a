-- What is asked of pots that are to be awarded, and what comes back.
use Rattle.std.specs.Prelude.{◌≡◌, ℕ, zero, suc, ◌%◌, ◌≤◌, ◌==◌, Bool, true, not, ◌&&◌, ◌||◌, nat_le, List, [], ◌∷◌, ◌++◌, map, sum_by}
use Rattle.std.specs.List.{list_all}
use Rattle.button_blinds.specs.SeatSets.{no_seats, with_seat}
use Rattle.pot_layers.specs.declared.put.Put.{Put}
use Rattle.pot_layers.specs.declared.pot_list.Pot.{Pot}
use Rattle.pot_layers.specs.Layers.{is_nobody}

-- All that is in the pots.
abbrev pub total_of : List Pot → ℕ
total_of pots = sum_by (λ pot. pot.amount) pots

-- The seats of the live players.
abbrev pub live_seats : List Put → List Bool
live_seats puts = map (λ put. put.live) puts

-- Every seat of a set is in another.
abbrev pub are_all_in : List Bool → List Bool → Bool
are_all_in [] others = true
are_all_in (one ∷ more) [] = not one && are_all_in more []
are_all_in (one ∷ more) (other ∷ others) = (not one || other) && are_all_in more others

-- Only these may win a pot.
abbrev pub are_for : List Bool → List Pot → Bool
are_for seats pots = list_all (λ pot. are_all_in pot.eligible seats) pots

-- Each pot can be won by somebody.
abbrev pub have_somebody : List Pot → Bool
have_somebody pots = list_all (λ pot. not (is_nobody pot.eligible)) pots

-- Each pot is a multiple of the unit.
abbrev pub are_whole_pots : ℕ → List Pot → Bool
are_whole_pots unit pots = list_all (λ pot. pot.amount % unit == 0) pots

-- Each amount put in is a multiple of the unit.
abbrev pub are_whole_puts : ℕ → List Put → Bool
are_whole_puts unit puts = list_all (λ put. put.amount % unit == 0) puts

-- A live player at an index has put in so much.
abbrev pub has_put : List Put → ℕ → ℕ → Bool
has_put [] index amount = not true
has_put (put ∷ more) zero amount = put.live && put.amount == amount
has_put (put ∷ more) (suc index) amount = has_put more index amount

-- Every other player than the one at an index has put in at most this height.
abbrev pub are_others_within : List Put → ℕ → ℕ → Bool
are_others_within [] index height = true
are_others_within (put ∷ more) zero height = list_all (λ other. nat_le other.amount height) more
are_others_within (put ∷ more) (suc index) height = nat_le put.amount height && are_others_within more index height

-- The highest pot is for the player at an index alone, and holds at least so much.
pub record IsOwnPot (pots : List Pot) (index amount : ℕ) : Type 0 where
  pub below : List Pot
  pub pot : Pot
  pub highest : pots ≡ below ++ pot ∷ []
  pub own : pot.eligible ≡ with_seat no_seats (suc index)
  pub holds : amount ≤ pot.amount
