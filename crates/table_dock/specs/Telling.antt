-- What is told of a table's history. This project's own.
use Rattle.std.specs.Prelude.{◌≡◌, ◌<◌, ◌≤◌, ◌++◌, ℕ, List, length, take, drop, Result, Ok, Err, IfOk, IfErr}
use Rattle.view_rules.specs.declared.entries.TableEntry.{TableEntry}
use Rattle.view_rules.specs.Entries.{TableTold}
use Rattle.view_rules.specs.Spelling.{lines_text}
use Rattle.dock_rules.specs.Pieces.{piece_end}
use Rattle.dock_rules.specs.Tables.{entries_lines, lying_hand, told_through}
use Rattle.table_dock.specs.declared.end.Untold.{Untold}

-- The entries of a history from one number up to, and without, another.
abbrev pub entries_between : ℕ → ℕ → List TableEntry → List TableEntry
entries_between first last history = drop first (take last history)

-- The entries from one number up to another were told: just their lines were written, and who tells stands there.
pub record AreTold (history : List TableEntry) (first last : ℕ) (before after : TableTold) (had has : List ℕ)
    : Type 0 where
  pub in_order : first ≤ last
  pub within : last ≤ length history
  pub lines : has ≡ had ++ lines_text (entries_lines before (entries_between first last history))
  pub teller : after ≡ told_through before (entries_between first last history)
  pub hand : after.hand ≡ lying_hand (take last history)
  pub same_table : after.table ≡ before.table

-- up to which number entries were told
abbrev pub number_told : Result ℕ Untold → ℕ
number_told (Ok count) = count
number_told (Err untold) = untold.told

-- The entries of a piece, which has so many at most, were told up to the number that is answered: all of them, unless
-- memory ran out.
pub record IsPieceRead (history : List TableEntry) (first most : ℕ) (before after : TableTold) (had has : List ℕ)
    (answer : Result ℕ Untold) : Type 0 where
  pub told : AreTold history first (number_told answer) before after had has
  pub all : IfOk answer (λ last. last ≡ piece_end first most (length history))
  pub cut : IfErr answer (λ untold. untold.told < length history)

-- The entries from one number on were told up to the number that is answered: all of them, unless memory ran out.
pub record IsRead (history : List TableEntry) (first : ℕ) (before after : TableTold) (had has : List ℕ)
    (answer : Result ℕ Untold) : Type 0 where
  pub told : AreTold history first (number_told answer) before after had has
  pub all : IfOk answer (λ count. count ≡ length history)
  pub cut : IfErr answer (λ untold. untold.told < length history)
