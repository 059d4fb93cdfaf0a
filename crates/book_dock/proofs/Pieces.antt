-- A piece of the journal that is all that is left of it.
use Rattle.std.proofs.Common.{◌≡◌, ◌∙◌, ◌<◌, ◌≤◌, ℕ, ap, List, ◌++◌, Result, Ok, Err, length, drop, take, arith}
use Rattle.std.specs.Prelude.{◌^◌, IfOk, OnOk}
use Rattle.std.proofs.lemmas.List.{take_all}
use Rattle.view_rules.specs.declared.entries.JournalEntry.{JournalEntry}
use Rattle.dock_rules.specs.Pieces.{piece_end}
use Rattle.dock_rules.specs.Points.{journal_text}

-- A piece that may have as many entries as a journal ever has goes up to the end.
piece-whole : (first most count : ℕ) → first ≤ count → count < 2 ^ 60 → 2 ^ 60 ≤ most
    → piece_end first most count ≡ count
piece-whole first most count within few long = omega arith

-- So all lines from a number on were written.
pub read-whole : {E : Type 0} (told : Result ℕ E) (first most : ℕ) (at : List JournalEntry) (had has : List ℕ)
    → first ≤ length at → length at < 2 ^ 60 → 2 ^ 60 ≤ most
    → IfOk told (λ last. last ≡ piece_end first most (length at))
    → IfOk told (λ last. has ≡ had ++ journal_text (drop first (take last at)))
    → IfOk told (λ count. count ≡ length at) × OnOk told (has ≡ had ++ journal_text (drop first at))
read-whole (Err fault) first most at had has within few long last text = (tt, tt)
read-whole (Ok count) first most at had has within few long last text =
    let whole : count ≡ length at = last ∙ piece-whole first most (length at) within few long in (
      whole,
      text
          ∙ ap (λ (entries : List JournalEntry). had ++ journal_text (drop first entries))
          (ap (λ (n : ℕ). take n at) whole ∙ take_all (length at) at (omega arith)),
    )
