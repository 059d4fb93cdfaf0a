-- What a run over lines has told in its midst, and where it fails. This project's own.
use Rattle.std.specs.Prelude.{◌≡◌, ℕ, ◌+◌, ◌≤◌, true, false, List, [], ◌++◌, length, take, drop, map, Option, Some, IfSome, IsSomeAnd}
use Rattle.floor_text.specs.Lines.{lines_of_bytes}
use Rattle.floor_text.specs.Reading.{Reading}
use Rattle.tournament_rules.specs.States.{State, first_state}
use Rattle.replay_rules.specs.Replay.{item_of_cut, state_after_items}
use Rattle.command_lines.specs.declared.fault.Fault.{Fault}
use Rattle.command_lines.specs.declared.fault.Fault.TheVariants as faults
use Rattle.line_tellers.specs.Limits.{input_limit}
use Rattle.line_tellers.specs.Told.{Telling, ended_told, lines_told, stream_told}

-- what was told is told still, and is the same
abbrev pub Keeps : Option (List ℕ) → Option (List ℕ) → Type 0
Keeps old new = IfSome old (λ text. new ≡ Some text)

-- A run over some bytes, with a text written before it, in its midst: it told of the lines that it handled, and is in
-- the state behind them. Whatever would come behind the bytes taken, the lines of both are those handled, those pending
-- and those of what is held with the same behind it. Once the source has come to its end nothing is held, and the lines
-- of the bytes taken are those handled and those pending.
pub record IsTelling (telling : Telling) (bytes before : List ℕ) (state : State) (left written : Option (List ℕ))
    (pending : List (Option (List ℕ))) (reader : Reading) : Type 0 where
  pub handled : List (Option (List ℕ))
  pub within : reader.taken ≤ length bytes
  pub rest : left ≡ Some (drop reader.taken bytes)
  pub told : written ≡ Some (before ++ lines_told telling handled)
  pub behind : state ≡ state_after_items first_state (map item_of_cut handled)
  pub lines : reader.ended ≡ false → (more : List ℕ) → lines_of_bytes (take reader.taken bytes ++ more)
      ≡ handled ++ (pending ++ lines_of_bytes (reader.held ++ more))
  pub all : reader.ended ≡ true → lines_of_bytes (take reader.taken bytes) ≡ handled ++ pending
  pub none_held : reader.ended ≡ true → reader.held ≡ []

-- The first n bytes that a source had were taken, and a text was put behind what was written before. P says of which
-- bytes a text is told.
abbrev pub HasTold : (List ℕ → List ℕ → Type 0) → List ℕ → List ℕ → Option (List ℕ) → Option (List ℕ) → Type 0
HasTold P bytes before left written =
    (n : ℕ) × (text : List ℕ) × (left ≡ Some (drop n bytes)) × (written ≡ Some (before ++ text)) × P (take n bytes) text

-- the same of a source and a sink that tell their bytes
abbrev pub TakesAndPuts : (List ℕ → List ℕ → Type 0) → Option (List ℕ) → Option (List ℕ) → Option (List ℕ)
    → Option (List ℕ) → Type 0
TakesAndPuts P first left before written =
    IfSome first (λ bytes. IfSome before (λ text. HasTold P bytes text left written))

-- What was told of the bytes taken, where a run over lines ended by a fault. Where the source failed: just all lines
-- that a line feed ends. Where it has too many bytes: those that one ends within the limit. Where memory ran out: the
-- lines of a front, each of them whole. Where the sink failed: a front of all that is told of the bytes.
abbrev pub IsToldOf : Fault → Telling → List ℕ → List ℕ → Type 0
IsToldOf faults.Usage telling taken text = Unit {0}
IsToldOf faults.Read telling taken text = text ≡ ended_told telling taken
IsToldOf faults.Write telling taken text = (n : ℕ) × (text ≡ take n (stream_told telling taken))
IsToldOf faults.NoMemory telling taken text = (n : ℕ) × (text ≡ lines_told telling (take n (lines_of_bytes taken)))
IsToldOf (faults.Plan item) telling taken text = Unit {0}
IsToldOf faults.Hall telling taken text = Unit {0}
IsToldOf faults.InputTooLong telling taken text = text ≡ ended_told telling (take input_limit taken)

-- the bytes that a source gave since it had some left are as many as were counted
abbrev pub Counts : Option (List ℕ) → Option (List ℕ) → ℕ → Type 0
Counts first left taken = IfSome first (λ bytes. IsSomeAnd left (λ rest. taken + length rest ≡ length bytes))

-- a reader that took bytes of a source counted them, and where the source ended nothing is left, and no more was taken
-- than the limit allows
pub record IsCounted (first left : Option (List ℕ)) (reader : Reading) : Type 0 where
  pub counts : Counts first left reader.taken
  pub end : reader.ended ≡ true → IfSome first (λ _. left ≡ Some [])
  pub within : reader.ended ≡ true → reader.taken ≤ reader.limit
