-- The entries of a history between two numbers, as they are told one by one.
use Rattle.std.proofs.Common.{◌≡◌, ◌∙◌, ℕ, suc, ◌+◌, ◌<◌, ◌≤◌, List, [], ◌∷◌, ◌++◌, get_or, length, take, drop, ap, sym, append_assoc, drop-cons, length-take, arith}
use Rattle.std.proofs.lemmas.List.{drop-append-le, take-append-drop, take_more}
use Rattle.std.proofs.lemmas.List.Sums.{fold-append}
use Rattle.std.proofs.lemmas.Grind.{flat_map-append}
use Rattle.view_rules.specs.declared.entries.TableEntry.{TableEntry}
use Rattle.view_rules.specs.Entries.{MayCome, TableTold, entry_lines, hand_told, told_after}
use Rattle.view_rules.specs.Spelling.{line_text, lines_text}
use Rattle.dock_rules.specs.Tables.{IsLegalTableHistory, entries_lines, lying_hand, told_through}
use Rattle.dock_rules.proofs.Tables.{legal-next, lines-push, lying-push}
use Rattle.table_dock.specs.Telling.{AreTold, entries_between}

-- One more entry stands between a number and the next.
between-more : (first last : ℕ) (history : List TableEntry) (entry : TableEntry) → first ≤ last → last < length history
    → get_or history last entry ≡ entry
    → entries_between first (last + 1) history ≡ entries_between first last history ++ entry ∷ []
between-more first last history entry in_order within is =
    let long : first ≤ length (take last history) = omega (arith, length-take {A = TableEntry}) in
    ap (drop first) (take_more history last entry within)
    ∙ (drop-append-le first (take last history) (get_or history last entry ∷ []) long
    ∙ ap (λ (found : TableEntry). drop first (take last history) ++ found ∷ []) is)

-- The next entry of a legal history may come where the entries before it were told.
pub next-may_come : (history : List TableEntry) (last : ℕ) (entry : TableEntry) → last < length history
    → get_or history last entry ≡ entry → IsLegalTableHistory history
    → MayCome (lying_hand (take last history)) entry
next-may_come history last entry within is legal =
    let behind : drop last history ≡ entry ∷ drop (suc last) history =
    drop-cons history last entry within ∙ ap (λ (found : TableEntry). found ∷ drop (suc last) history) is in
    legal-next history (take last history) entry (drop (suc last) history)
    (sym (take-append-drop last history)
    ∙ ap (λ (rest : List TableEntry). take last history ++ rest) behind) legal

-- With one more entry told, its lines are written behind the others.
pub told-more : (history : List TableEntry) (first last : ℕ) (entry : TableEntry) (before told after : TableTold)
    (had has more : List ℕ) → last < length history → get_or history last entry ≡ entry
    → AreTold history first last before told had has
    → more ≡ has ++ lines_text (entry_lines told entry) → after ≡ told_after told entry
    → AreTold history first (last + 1) before after had more
told-more history first last entry before told after had has more within is so_far written stands =
    let entries = entries_between first last history in
    let longer = between-more first last history entry so_far.in_order within is in
    let at : told_through before entries ≡ told = sym so_far.teller in
    record {
      in_order = let low = so_far.in_order in omega arith;
      within = omega arith;
      lines =
          written
          ∙ (ap (λ (text : List ℕ). text ++ lines_text (entry_lines told entry)) so_far.lines
          ∙ (append_assoc had (lines_text (entries_lines before entries)) (lines_text (entry_lines told entry))
          ∙ ap (λ (text : List ℕ). had ++ text)
          (sym (flat_map-append line_text (entries_lines before entries) (entry_lines told entry))
          ∙ (ap (λ (found : TableTold). lines_text (entries_lines before entries ++ entry_lines found entry)) (sym at)
          ∙ (ap lines_text (sym (lines-push before entries entry))
          ∙ ap (λ (all : List TableEntry). lines_text (entries_lines before all)) (sym longer))))));
      teller =
          stands
          ∙ (ap (λ (found : TableTold). told_after found entry) (sym at)
          ∙ (sym (fold-append told_after before entries (entry ∷ []))
          ∙ ap (λ (all : List TableEntry). told_through before all) (sym longer)));
      hand =
          ap (λ (found : TableTold). found.hand) stands
          ∙ (ap (λ hand. hand_told hand entry) so_far.hand
          ∙ (sym (lying-push (take last history) entry)
          ∙ ap lying_hand
          (sym (take_more history last entry within
          ∙ ap (λ (found : TableEntry). take last history ++ found ∷ []) is))));
      same_table = ap (λ (found : TableTold). found.table) stands ∙ so_far.same_table;
    }
