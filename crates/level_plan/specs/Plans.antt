-- A whole plan. This project's own.
use Rattle.std.specs.Prelude.{ℕ, ◌-◌, ◌%◌, Bool, ◌==◌, ◌&&◌, nat_le, List, length, slice_get}
use Rattle.std.specs.Option.{option_map_or}
use Rattle.card_set.specs.declared.game.Game.{Game}
use Rattle.rulebook.specs.Limits.{most_seats, most_tables}
use Rattle.level_plan.specs.Limits.{fewest_seats, greatest_amount, most_levels, most_wagers}
use Rattle.level_plan.specs.declared.plan.Blind.{Blind}
use Rattle.level_plan.specs.Items.{is_between, are_levels, are_shares}

-- What a plan says.
pub record PlanTerms : Type 0 where
  pub game : Game
  pub tables : ℕ
  pub seats : ℕ
  pub stack : ℕ
  pub buyin : ℕ
  pub late : ℕ
  pub blinds : List Blind
  pub shares : List ℕ
  pub cap : ℕ

-- What stands for a level that a plan has not.
abbrev pub no_level : Blind
no_level = record { small = 0; big = 0; unit = 1; ante = 0 }

-- The unit of a level, where the first level is level 1.
abbrev pub unit_of_level : List Blind → ℕ → ℕ
unit_of_level blinds level = option_map_or (λ blind. blind.unit) (slice_get blinds (level - 1)) 1

-- Each item is lawful, `late` is one of the levels, of which there are at most 40, and the stack is a multiple of that
-- level's unit. Where there is no fixed limit the cap is 0.
abbrev pub is_right : PlanTerms → Bool
is_right plan =
    is_between 1 most_tables plan.tables
    && (is_between fewest_seats most_seats plan.seats
    && (is_between 1 greatest_amount plan.stack
    && (nat_le plan.buyin greatest_amount
    && (is_between 1 (length plan.blinds) plan.late
    && (nat_le (length plan.blinds) most_levels
    && (are_levels plan.blinds
    && (are_shares plan.shares
    && (nat_le plan.cap most_wagers
    && plan.stack % unit_of_level plan.blinds plan.late == 0))))))))
