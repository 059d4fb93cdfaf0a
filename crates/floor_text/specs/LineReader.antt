-- A reader of lines, block by block. This project's own.
use Rattle.std.specs.Prelude.{◌≡◌, ℕ, ◌+◌, ◌-◌, ◌≤◌, List, [], ◌∷◌, ◌++◌, length, take, drop, Option, Some, None, Result, Ok, Err}
use Rattle.floor_text.specs.Lines.{lines_of_bytes}
use Rattle.floor_text.specs.Reading.{Reading}
use Rattle.floor_text.specs.declared.line_reader.Next.{Next}
use Rattle.floor_text.specs.declared.line_reader.Next.TheVariants.{Line, TooLong, End}
use Rattle.floor_text.specs.declared.line_reader.ReadEnd.{ReadEnd}

-- what an answer of a reader hands out: a line, a line that is too long, or none
abbrev pub lines_of_next : Result Next ReadEnd → List ℕ → List (Option (List ℕ))
lines_of_next (Ok Line) line = Some line ∷ []
lines_of_next (Ok TooLong) line = None ∷ []
lines_of_next (Ok End) line = []
lines_of_next (Err fault) line = []

-- a call that handed out some lines, of a source that had some bytes left before it
pub record Reads (old new : Reading) (bytes : List ℕ) (left : Option (List ℕ)) (handed : List (Option (List ℕ)))
    : Type 0 where
  -- the bytes taken in the call are the source's first, as many as the count of taken bytes rose by
  pub later : old.taken ≤ new.taken
  pub within : new.taken ≤ old.taken + length bytes
  pub rest : left ≡ Some (drop (new.taken - old.taken) bytes)
  -- the lines of all that was there are those handed out, and those of what is still there
  pub lines : lines_of_bytes (old.held ++ bytes)
      ≡ handed ++ lines_of_bytes (new.held ++ drop (new.taken - old.taken) bytes)

-- a call that did not come to the end of the source: it is right whatever comes behind the bytes that it took
pub record GoesOn (old new : Reading) (bytes : List ℕ) (left : Option (List ℕ)) (handed : List (Option (List ℕ)))
    : Type 0 where
  -- the bytes taken in the call are the source's first, as many as the count of taken bytes rose by
  pub later : old.taken ≤ new.taken
  pub within : new.taken ≤ old.taken + length bytes
  pub rest : left ≡ Some (drop (new.taken - old.taken) bytes)
  -- the lines of what was held and taken are those handed out, and those of what is held, with the same bytes behind
  pub lines : (more : List ℕ) → lines_of_bytes (old.held ++ (take (new.taken - old.taken) bytes ++ more))
      ≡ handed ++ lines_of_bytes (new.held ++ more)
