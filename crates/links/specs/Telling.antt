-- What the outside tells. This project's own.
use Rattle.std.specs.Prelude.{ℕ, Bool, false, List, []}

-- a link: the bytes that it gave, those that were put, how often it gave Idle, and whether it gave End
pub record Telling : Type 0 where
  pub given : List ℕ
  pub put : List ℕ
  pub idles : ℕ
  pub ended : Bool

-- nothing came and nothing went
abbrev pub untouched : Telling
untouched = record { given = []; put = []; idles = 0; ended = false }

-- a door: how often it was knocked, which links it gave, and how they came back
pub record DoorTelling (L : Type 0) : Type 0 where
  pub knocks : ℕ
  pub given : List L
  pub back : List L

-- a hall: which doors it gave, and how they came back
pub record HallTelling (D : Type 0) : Type 0 where
  pub given : List D
  pub back : List D
