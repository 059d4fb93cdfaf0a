-- Lines that are written one after another are cut into the same lines.
use Rattle.std.proofs.Common.{◌≡◌, ◌∙◌, refl, ap, ℕ, ◌≤◌, true, List, [], ◌∷◌, ◌++◌, map, length, append_assoc, leb, arith}
use Rattle.std.specs.Prelude.{Some}
use Rattle.std.specs.List.{flat_map, AllByRecursion}
use Rattle.std.proofs.lemmas.Bool.Decides.{nat_tests}
use Rattle.floor_text.specs.Limits.{longest_line}
use Rattle.floor_text.specs.Lines.{HasNoFeed, cut_line, lines_of_bytes}
use Rattle.floor_text.proofs.CutLines.{lines_of_bytes-line}

-- A line that is read as it is written: it has no line feed, and at most 400 bytes.
pub record IsLine (line : List ℕ) : Type 0 where
  pub no_feed : HasNoFeed line
  pub short : length line ≤ longest_line

-- A line with its line feed.
abbrev pub with_feed : List ℕ → List ℕ
with_feed line = line ++ 10 ∷ []

short_cut : (line : List ℕ) → IsLine line → cut_line line ≡ Some line
short_cut line is =
    let short : leb (length line) longest_line ≡ true = grind (arith, nat_tests, is.short) in rw short refl

-- Lines and what follows them are cut into these lines and those of what follows.
pub lines_again : (lines : List (List ℕ)) (rest : List ℕ) → AllByRecursion IsLine lines
    → lines_of_bytes (flat_map with_feed lines ++ rest) ≡ map (λ line. Some line) lines ++ lines_of_bytes rest
lines_again [] rest are = refl
lines_again (line ∷ lines) rest are =
    let later = lines_again lines rest are.1 in
    let whole = append_assoc (line ++ 10 ∷ []) (flat_map with_feed lines) rest
    ∙ append_assoc line (10 ∷ []) (flat_map with_feed lines ++ rest) in
    ap lines_of_bytes whole
    ∙ (lines_of_bytes-line line (flat_map with_feed lines ++ rest) are.0.no_feed
    ∙ (λ i. short_cut line are.0 i ∷ later i))
