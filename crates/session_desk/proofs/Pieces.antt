-- What is told piece by piece.
use Rattle.std.proofs.Common.{◌≡◌, ◌∙◌, refl, sym, ap, ℕ, ◌≤◌, Bool, true, false, List, [], ◌++◌, length, drop, take, append-nil, append_assoc, length-take, arith}
use Rattle.std.proofs.Math.ListN.{drop_of_length-le}
use Rattle.std.proofs.lemmas.Grind.{flat_map-append}
use Rattle.std.proofs.lemmas.List.{drop-append-le}
use Rattle.std.proofs.lemmas.List.Sums.{fold-append}
use mathlib.Core.List.{IsPrefix}
use Rattle.view_rules.specs.declared.entries.JournalEntry.{JournalEntry}
use Rattle.view_rules.specs.declared.entries.TableEntry.{TableEntry}
use Rattle.view_rules.specs.Entries.{TableTold, journal_lines, told_after}
use Rattle.view_rules.specs.Spelling.{line_text, lines_text}
use Rattle.dock_rules.specs.Points.{journal_text}
use Rattle.dock_rules.specs.Tables.{entries_lines, told_through}
use Rattle.table_dock.specs.Telling.{entries_between}
use Rattle.session_desk.specs.declared.told.Watch.{Watch}
use Rattle.session_desk.specs.Telling.{HasToldFloor, HasToldTable, Reach}
use Rattle.session_desk.proofs.Fronts.{front-kept, front-on}
use Rattle.session_desk.proofs.SoFar.{lines-both}

module _ {A : Type 0} where
  -- Nothing is between a number and itself.
  between-none : (items : List A) (n : ℕ) → drop n (take n items) ≡ []
  between-none items n = drop_of_length-le (take n items) (omega (arith, length-take {A = A}))

  -- What is between a number and a later one, and then up to another, where the list has grown meanwhile.
  between-both : (old new : List A) (first mid last : ℕ) → IsPrefix old new → mid ≤ length old → first ≤ mid
      → mid ≤ last → drop first (take mid old) ++ drop mid (take last new) ≡ drop first (take last new)
  between-both old new first mid last longer within below above =
      let front : take mid old ≡ take mid new = front-kept old new mid longer within in
      let long : first ≤ length (take mid old) = omega (arith, length-take {A = A}) in
      sym (drop-append-le first (take mid old) (drop mid (take last new)) long)
      ∙ (ap (λ (front : List A). drop first (front ++ drop mid (take last new))) front
      ∙ ap (drop first) (front-on new mid last above))

-- Nothing of the journal was told yet.
pub floor-none : (journal : List JournalEntry) (reach : Reach) (had : List ℕ) → reach.journal ≤ length journal
    → HasToldFloor journal reach reach true had had
floor-none journal reach had within = record {
  in_order = omega arith;
  within = within;
  all = λ none. absurd (cc none);
  speaker = refl;
  watches = refl;
  text = sym (ap (λ (entries : List JournalEntry). had ++ journal_text entries) (between-none journal reach.journal)
      ∙ append-nil had);
}

-- One piece of the journal was told, and then another.
pub floor-both : (old new : List JournalEntry) (before mid after : Reach) (left more still : Bool)
    (had has then_has : List ℕ) → IsPrefix old new → (still ≡ false → more ≡ false)
    → HasToldFloor old before mid left had has → HasToldFloor new mid after more has then_has
    → HasToldFloor new before after still had then_has
floor-both old new before mid after left more still had has then_has longer stays one two =
    let some : List JournalEntry = drop before.journal (take mid.journal old) in
    let others : List JournalEntry = drop mid.journal (take after.journal new) in
    record {
      in_order = let a = one.in_order in let b = two.in_order in omega (arith, a, b);
      within = two.within;
      all = λ none. two.all (stays none);
      speaker = two.speaker ∙ one.speaker;
      watches = two.watches ∙ one.watches;
      text =
          two.text
          ∙ (ap (λ (front : List ℕ). front ++ journal_text others) one.text
          ∙ (append_assoc had (journal_text some) (journal_text others)
          ∙ ap (λ (rest : List ℕ). had ++ rest)
          (sym (flat_map-append (λ (entry : JournalEntry). lines_text (journal_lines entry)) some others)
          ∙ ap journal_text
          (between-both old new before.journal mid.journal after.journal longer one.within one.in_order
          two.in_order))));
    }

-- Nothing of a table was told yet.
pub table-none : (history : List TableEntry) (watch : Watch) (had : List ℕ) → watch.told ≤ length history
    → HasToldTable history watch watch true had had
table-none history watch had within =
    let none : entries_between watch.told watch.told history ≡ [] = between-none history watch.told in
    record {
      in_order = omega arith;
      within = within;
      teller = sym (ap (told_through watch.teller) none);
      all = λ none. absurd (cc none);
      text = sym (ap (λ (entries : List TableEntry). had ++ lines_text (entries_lines watch.teller entries)) none
          ∙ append-nil had);
    }

-- One piece of a table's history was told, and then another.
pub table-both : (old new : List TableEntry) (before mid after : Watch) (left more still : Bool)
    (had has then_has : List ℕ) → IsPrefix old new → (still ≡ false → more ≡ false)
    → HasToldTable old before mid left had has → HasToldTable new mid after more has then_has
    → HasToldTable new before after still had then_has
table-both old new before mid after left more still had has then_has longer stays one two =
    let some : List TableEntry = entries_between before.told mid.told old in
    let others : List TableEntry = entries_between mid.told after.told new in
    let all : some ++ others ≡ entries_between before.told after.told new =
    between-both old new before.told mid.told after.told longer one.within one.in_order two.in_order in
    record {
      in_order = let a = one.in_order in let b = two.in_order in omega (arith, a, b);
      within = two.within;
      teller =
          two.teller
          ∙ (ap (λ (teller : TableTold). told_through teller others) one.teller
          ∙ (sym (fold-append told_after before.teller some others) ∙ ap (told_through before.teller) all));
      all = λ none. two.all (stays none);
      text =
          two.text
          ∙ (ap (λ (front : List ℕ). front ++ lines_text (entries_lines mid.teller others)) one.text
          ∙ (append_assoc had (lines_text (entries_lines before.teller some))
          (lines_text (entries_lines mid.teller others))
          ∙ ap (λ (rest : List ℕ). had ++ rest)
          (sym (flat_map-append line_text (entries_lines before.teller some) (entries_lines mid.teller others))
          ∙ ap lines_text
          (ap (λ (teller : TableTold). entries_lines before.teller some ++ entries_lines teller others) one.teller
          ∙ (sym (lines-both before.teller some others) ∙ ap (entries_lines before.teller) all)))));
    }
