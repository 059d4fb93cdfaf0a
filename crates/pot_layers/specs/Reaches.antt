-- How far each player's chips reach, and who is nearest above a height.
use Rattle.std.specs.Prelude.{◌≡◌, ◌+◌, ◌-◌, min, length, ℕ, Bool, not, ◌&&◌, ◌||◌, if◌then◌else◌, nat_le, nat_lt, List, map, Option, Some, None}
use Rattle.pot_layers.specs.declared.put.Put.{Put}
use Rattle.pot_layers.specs.declared.reach.Reach.{Reach}
use Rattle.pot_layers.specs.Tallies.{total_to}

-- The puts of a list of players.
abbrev pub puts_of : List Reach → List Put
puts_of reaches = map (λ reach. reach.put) reaches

-- A player's reach is his put, and what all have put in up to its height.
abbrev pub reach_of : List Put → Put → Reach
reach_of puts put = record { put = put; total = total_to puts put.amount }

-- He is live and has put in more than this height.
abbrev pub is_above : ℕ → Reach → Bool
is_above below reach = reach.put.live && nat_lt below reach.put.amount

-- The nearest player above a height so far, once one more is looked at.
abbrev pub nearer : ℕ → Option Reach → Reach → Option Reach
nearer below None reach = if is_above below reach then Some reach else None
nearer below (Some best) reach =
    if not (is_above below reach) || nat_le best.put.amount reach.put.amount then Some best else Some reach

-- Each player's total is what all have put in up to his height.
pub record AreRight (reaches : List Reach) : Type 0 where
  pub seats : length reaches ≡ 10
  pub each : reaches ≡ map (reach_of (puts_of reaches)) (puts_of reaches)

-- A player's total once it is raised by what lies within his height of the chips between two heights.
abbrev pub grown : ℕ → ℕ → Reach → Reach
grown before after reach =
    record reach { total = reach.total + (min after reach.put.amount - min before reach.put.amount) }
