-- What one stage tells of all that a stage tells.
use Rattle.std.proofs.Common.{◌≡◌, refl, true, false}
use Rattle.std.specs.Prelude.{Some, None}
use Rattle.table_engine.specs.Hands.{HandTerms}
use Rattle.table_worker.specs.declared.stage.Stage.{Stage}
use Rattle.table_worker.specs.declared.stage.Stage.TheVariants.{Free, Asking, Carrying, Lying, Ended}
use Rattle.table_worker.specs.Stages.{does_ask, does_lie, hand_carried, is_done}

-- A hand lies at the table, and is not to be brought there.
pub record IsAtTable (stage : Stage) : Type 0 where
  pub none : hand_carried stage ≡ None
  pub idle : does_ask stage ≡ false
  pub going : is_done stage ≡ false

pub at-table : (stage : Stage) → does_lie stage ≡ true → IsAtTable stage
at-table Lying lies = record { none = refl; idle = refl; going = refl }
at-table Free lies = absurd cc
at-table Asking lies = absurd cc
at-table (Carrying hand) lies = absurd cc
at-table Ended lies = absurd cc

-- An order is asked for, and no hand is out.
pub record IsBetween (stage : Stage) : Type 0 where
  pub none : hand_carried stage ≡ None
  pub away : does_lie stage ≡ false
  pub going : is_done stage ≡ false

pub between : (stage : Stage) → does_ask stage ≡ true → IsBetween stage
between Asking asks = record { none = refl; away = refl; going = refl }
between Free asks = absurd cc
between Lying asks = absurd cc
between (Carrying hand) asks = absurd cc
between Ended asks = absurd cc

-- A hand is to be brought to the table, and does not lie there.
pub record IsOnItsWay (stage : Stage) : Type 0 where
  pub away : does_lie stage ≡ false
  pub idle : does_ask stage ≡ false
  pub going : is_done stage ≡ false

pub on_its_way : (stage : Stage) (hand : HandTerms) → hand_carried stage ≡ Some hand → IsOnItsWay stage
on_its_way (Carrying there) hand is = record { away = refl; idle = refl; going = refl }
on_its_way Free hand is = absurd cc
on_its_way Asking hand is = absurd cc
on_its_way Lying hand is = absurd cc
on_its_way Ended hand is = absurd cc

-- A worker that is done has no hand.
pub record HasNone (stage : Stage) : Type 0 where
  pub none : hand_carried stage ≡ None
  pub away : does_lie stage ≡ false
  pub idle : does_ask stage ≡ false

pub has_none : (stage : Stage) → is_done stage ≡ true → HasNone stage
has_none Ended done = record { none = refl; away = refl; idle = refl }
has_none Free done = absurd cc
has_none Asking done = absurd cc
has_none Lying done = absurd cc
has_none (Carrying hand) done = absurd cc
