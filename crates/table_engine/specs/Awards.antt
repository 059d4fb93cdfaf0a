-- What the players of a hand get, as a hand works it out.
use Rattle.std.specs.Prelude.{ℕ, ◌+◌, ◌-◌, Bool, Option, slice_index_or, sum, if◌then◌else◌}
use Rattle.std.specs.Option.{option_map_or}
use Rattle.betting_round.specs.declared.bettor.Player.{Player}
use Rattle.table_engine.specs.declared.awards.Awards.{Awards}
use Rattle.table_engine.specs.declared.awards.Awards.TheVariants.{Sole, BySeat}
use Rattle.table_engine.specs.Hands.{HandTerms}
use Rattle.table_engine.specs.Results.{is_won_by_folds, pot, showdown_awards}

-- What the player in a seat gets.
abbrev pub award_in : Awards → ℕ → Bool → ℕ
award_in (Sole pot) seat live = if live then pot else 0
award_in (BySeat awards) seat live = slice_index_or awards (seat - 1) 0

-- No player gets more than this.
abbrev pub most_awarded : Awards → ℕ
most_awarded (Sole pot) = pot
most_awarded (BySeat awards) = sum awards

-- What the players of a hand get.
abbrev pub awards_in_hand : HandTerms → Awards
awards_in_hand hand = if is_won_by_folds hand then Sole (pot hand) else BySeat (showdown_awards hand)

-- What a player of the street, if one is there, has after a hand.
abbrev pub stack_after : Awards → ℕ → Option Player → ℕ
stack_after awards seat slot =
    option_map_or (λ (player : Player). player.bettor.behind + award_in awards seat player.bettor.live) slot 0
