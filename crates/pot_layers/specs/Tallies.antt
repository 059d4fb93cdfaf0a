-- What a tally has been told: by seat, what was put in and who has folded; and how many chips are dead.
use Rattle.std.specs.Prelude.{ℕ, zero, suc, ◌+◌, min, true, false, List, [], ◌∷◌, replicate, sum_by}
use Rattle.pot_layers.specs.declared.put.Put.{Put}

-- The puts by seat, where index 0 is seat 1, and the dead chips, which no player put in for himself.
pub record Tally : Type 0 where
  pub puts : List Put
  pub dead : ℕ

-- Nobody has put in a chip, nobody has folded, and no chip is dead.
abbrev pub nothing_put : Tally
nothing_put = record { puts = replicate 10 (record { amount = 0; live = true }); dead = 0 }

-- The puts once the player at this index has put in so much more.
abbrev pub put_in_at : List Put → ℕ → ℕ → List Put
put_in_at [] index amount = []
put_in_at (put ∷ more) zero amount = record put { amount = put.amount + amount } ∷ more
put_in_at (put ∷ more) (suc index) amount = put ∷ put_in_at more index amount

-- The puts once the player at this index has folded.
abbrev pub folded_at : List Put → ℕ → List Put
folded_at [] index = []
folded_at (put ∷ more) zero = record put { live = false } ∷ more
folded_at (put ∷ more) (suc index) = put ∷ folded_at more index

-- All that was put in.
abbrev pub total_put : List Put → ℕ
total_put puts = sum_by (λ put. put.amount) puts

-- All chips of a tally, the dead ones too.
abbrev pub total_told : Tally → ℕ
total_told tally = total_put tally.puts + tally.dead

-- All that was put in up to a height: of each player no more than the height.
abbrev pub total_to : List Put → ℕ → ℕ
total_to puts height = sum_by (λ put. min put.amount height) puts
