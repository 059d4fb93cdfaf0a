-- How many at the head of a list tie with a player.
use Rattle.std.specs.Prelude.{ℕ, List, length}
use Rattle.std.specs.List.{take_while}
use Rattle.place_list.specs.declared.bust.Bust.{Bust}
use Rattle.place_list.specs.Places.{ties}

-- How many at the head of a list tie with this player.
abbrev pub tied_at_head : Bust → List Bust → ℕ
tied_at_head bust busts = length (take_while (λ other. ties other bust) busts)
