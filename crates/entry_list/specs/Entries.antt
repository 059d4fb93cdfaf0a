-- The names of those who entered, in order. This project's own.
use Rattle.std.specs.Prelude.{◌≡◌, ◌≤◌, ℕ, Bool, true, false, nat_le, List, length, Option, position}
use Rattle.std.specs.List.{list_any}
use Rattle.std.specs.Str.{bytes_eq}
use Rattle.rulebook.specs.Pairs.{are_distinct}
use Rattle.rulebook.specs.Limits.{most_entries}
use Rattle.entry_list.specs.declared.entries.EntryFault.{EntryFault}
use Rattle.entry_list.specs.declared.entries.EntryFault.TheVariants.{Known, Full, NoMemory}

-- Whether a name is in the list.
abbrev pub is_known : List (List ℕ) → List ℕ → Bool
is_known entries name = list_any (bytes_eq name) entries

-- Whether the list has no room: there are 640 names.
abbrev pub is_full : List (List ℕ) → Bool
is_full entries = nat_le most_entries (length entries)

-- The number of a name: its index in the list.
abbrev pub number_of : List (List ℕ) → List ℕ → Option ℕ
number_of entries name = position (bytes_eq name) entries

-- Why a name was not added: it is there; else there are 640 names; and memory runs out only where neither holds.
abbrev pub IsEntryFault : List (List ℕ) → List ℕ → EntryFault → Type 0
IsEntryFault entries name Known = is_known entries name ≡ true
IsEntryFault entries name Full = (is_known entries name ≡ false) × (is_full entries ≡ true)
IsEntryFault entries name NoMemory = (is_known entries name ≡ false) × (is_full entries ≡ false)

-- What holds of an entry list at every moment: there are at most 640 names, and none comes twice.
pub record IsEntries (entries : List (List ℕ)) : Type 0 where
  pub few : length entries ≤ most_entries
  pub distinct : are_distinct bytes_eq entries ≡ true
