-- The lines of a stream of bytes. This project's own.
use Rattle.std.specs.Prelude.{◌≡◌, ℕ, Bool, false, ◌==◌, nat_le, List, [], ◌∷◌, length, map, Option, Some, None, if◌then◌else◌}
use Rattle.std.specs.List.{list_any, slice_split}
use Rattle.floor_text.specs.Limits.{longest_line}

-- a line ends at a line feed
abbrev pub is_line_feed : ℕ → Bool
is_line_feed byte = byte == 10

-- no line feed is among the bytes
abbrev pub HasNoFeed : List ℕ → Type 0
HasNoFeed bytes = list_any is_line_feed bytes ≡ false

-- a line as it is handed out: its bytes where they are at most 400, and nothing where it is longer
abbrev pub cut_line : List ℕ → Option (List ℕ)
cut_line bytes = if nat_le (length bytes) longest_line then Some bytes else None

-- the parts of a stream but for the last one, where that is empty: what follows the last line feed is a line only
-- where a byte follows
abbrev pub without_empty_last : List (List ℕ) → List (List ℕ)
without_empty_last [] = []
without_empty_last ([] ∷ []) = []
without_empty_last ((byte ∷ bytes) ∷ []) = (byte ∷ bytes) ∷ []
without_empty_last (part ∷ next ∷ parts) = part ∷ without_empty_last (next ∷ parts)

-- the lines of a stream: its bytes are cut at the line feeds, and a last line without one counts where it has a byte
unfoldable pub lines_of_bytes : List ℕ → List (Option (List ℕ))
lines_of_bytes bytes = map cut_line (without_empty_last (slice_split is_line_feed bytes))

-- all but the last of a list
abbrev pub all_but_last : {X : Type 0} → List X → List X
all_but_last [] = []
all_but_last (x ∷ []) = []
all_but_last (x ∷ next ∷ xs) = x ∷ all_but_last (next ∷ xs)

-- the lines of a stream that a line feed ends: what follows the last line feed is none of them
unfoldable pub ended_lines : List ℕ → List (Option (List ℕ))
ended_lines bytes = map cut_line (all_but_last (slice_split is_line_feed bytes))
