-- The lines that were put on a link. This project's own.
use Rattle.std.specs.Prelude.{◌≡◌, ℕ, ◌≤◌, Bool, ◌==◌, List, ◌++◌, length, drop}
use Rattle.std.specs.List.{list_any, slice_split, starts_with}
use Rattle.floor_text.specs.Lines.{is_line_feed, all_but_last}

-- the bytes begin with those of `front`
abbrev pub begins_with : List ℕ → List ℕ → Bool
begins_with front bytes = starts_with (λ a b. a == b) bytes front

-- the whole lines among the bytes: they are cut at the line feeds, and what follows the last one is no line yet
abbrev pub whole_lines : List ℕ → List (List ℕ)
whole_lines bytes = all_but_last (slice_split is_line_feed bytes)

-- a line that begins with `front` is among the bytes
unfoldable pub has_line : List ℕ → List ℕ → Bool
has_line front bytes = list_any (begins_with front) (whole_lines bytes)

-- The first n of the bytes were searched: whatever comes behind, the line is there where it is behind those n.
pub record IsSearched (front put : List ℕ) (n : ℕ) : Type 0 where
  pub within : n ≤ length put
  pub behind : (more : List ℕ) → has_line front (put ++ more) ≡ has_line front (drop n put ++ more)
