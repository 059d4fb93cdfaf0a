-- What is summed over slots, of which some are empty, and over the players in them.
use Rattle.std.proofs.Common.{◌≡◌, refl, subst, ℕ, zero, suc, ◌<◌, List, [], ◌∷◌, length, get_or, Option, Some, None, arith, sum_by}
use Rattle.std.specs.Option.{option_map_or}
use Rattle.std.specs.List.{All}
use Rattle.std.proofs.lemmas.List.Elements.{All-head, All-tail}
use Rattle.std.proofs.lemmas.List.Sums.{sum_by-cons}
use Rattle.seat_book.specs.declared.seated.Seated.{Seated}
use Rattle.seat_book.specs.Players.{players_in}

-- the stack in a slot, and 0 where it is empty
abbrev pub stack_in : Option Seated → ℕ
stack_in slot = option_map_or (λ player. player.stack) slot 0

-- The stacks of the players in slots are those in the slots.
pub stacks_in-slots : (slots : List (Option Seated)) → sum_by (λ player. player.stack) (players_in slots)
    ≡ sum_by stack_in slots
stacks_in-slots [] = refl
stacks_in-slots (None ∷ slots) = rw (sum_by-cons stack_in None slots, stacks_in-slots slots) (omega arith)
stacks_in-slots (Some player ∷ slots) = rw (
  sum_by-cons stack_in (Some player) slots,
  sum_by-cons
      (λ player. player.stack) player (players_in slots),
  stacks_in-slots slots,
)

-- What holds of all players in slots holds of the player in one of them.
pub held : (P : Seated → Type 0) (slots : List (Option Seated)) (i : ℕ) (fallback : Option Seated) (player : Seated)
    → All P (players_in slots) → i < length slots → get_or slots i fallback ≡ Some player → P player
held P [] i fallback player all within is = absurd (omega arith)
held P (None ∷ slots) zero fallback player all within is = absurd cc
held P (Some other ∷ slots) zero fallback player all within is = let same : other
    ≡ player = cc in subst P same (All-head P other (players_in slots) all)
held P (None ∷ slots) (suc i) fallback player all within is = held P slots i fallback player all (omega arith) is
held P (Some other ∷ slots) (suc i) fallback player all within is =
    held P slots i fallback player (All-tail P other (players_in slots) all) (omega arith) is
