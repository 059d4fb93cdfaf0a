-- What the calls of a link, a door and a hall do to what is told. This project's own.
use Rattle.std.specs.Prelude.{◌≡◌, ℕ, ◌+◌, ◌<◌, ◌≤◌, true, List, [], ◌∷◌, ◌++◌, length, take, Option, Some, None, IfSome, Result, Ok, Err, MatchResult}
use Rattle.floor_text.specs.declared.outside.Failed.{Failed}
use Rattle.floor_text.specs.Memory.{count_up}
use Rattle.links.specs.declared.link.Taken.{Taken}
use Rattle.links.specs.declared.link.Taken.TheVariants.{Bytes, End, Idle}
use Rattle.links.specs.Telling.{Telling, DoorTelling, HallTelling}

-- what came fits into the buffer, and it is a byte at least where there is room
abbrev pub FitsBuffer : Taken → ℕ → Type 0
FitsBuffer (Bytes n) room = (n ≤ room) × (0 < room → 0 < n)
FitsBuffer End room = Unit {0}
FitsBuffer Idle room = Unit {0}

-- no byte came
abbrev pub BringsNoByte : Taken → Type 0
BringsNoByte (Bytes n) = n ≡ 0
BringsNoByte End = Unit {0}
BringsNoByte Idle = Unit {0}

-- what is told after a take that left this buffer: the bytes in front of it were given, or End or Idle
abbrev pub after_take : Result Taken Failed → List ℕ → Telling → Telling
after_take (Ok (Bytes n)) buffer t = record t { given = t.given ++ take n buffer }
after_take (Ok End) buffer t = record t { ended = true }
after_take (Ok Idle) buffer t = record t { idles = count_up t.idles }
after_take (Err failed) buffer t = t

-- what is told after these bytes were put
abbrev pub with_put : Telling → List ℕ → Telling
with_put t bytes = record t { put = t.put ++ bytes }

-- all of the bytes were put, or where it failed a front of them
abbrev pub Puts : Telling → List ℕ → Option Telling → Result (Unit {0}) Failed → Type 0
Puts before bytes after result =
    MatchResult result (λ _. after ≡ Some (with_put before bytes))
    (λ _. (n : ℕ) × (after ≡ Some (with_put before (take n bytes))))

module _ {L : Type 0} where
  -- what a knock does to what a door tells: it is counted, and the link that came was given
  abbrev pub after_knock : Result (Option L) Failed → DoorTelling L → DoorTelling L
  after_knock (Ok (Some link)) t = record t { knocks = count_up t.knocks; given = t.given ++ link ∷ [] }
  after_knock (Ok None) t = record t { knocks = count_up t.knocks }
  after_knock (Err failed) t = record t { knocks = count_up t.knocks }

  -- a link that was given is not back yet, where the door tells
  abbrev pub IsLinkOut : Option (DoorTelling L) → Type 0
  IsLinkOut told = IfSome told (λ t. length t.back < length t.given)

  -- a link came back
  abbrev pub with_back : L → DoorTelling L → DoorTelling L
  with_back link t = record t { back = t.back ++ link ∷ [] }

module _ {D : Type 0} where
  -- these doors were given
  abbrev pub with_given : List D → HallTelling D → HallTelling D
  with_given doors t = record t { given = t.given ++ doors }

  -- so many of the doors that were given are not back yet, where the hall tells
  abbrev pub AreDoorsOut : ℕ → Option (HallTelling D) → Type 0
  AreDoorsOut count told = IfSome told (λ t. length t.back + count ≤ length t.given)

  -- these doors came back
  abbrev pub with_all_back : List D → HallTelling D → HallTelling D
  with_all_back doors t = record t { back = t.back ++ doors }
