use Rattle.std.proofs.Common.{◌≡◌, ◌∙◌, ◌+◌, ◌-◌, ◌++◌, ℕ, List, ap, drop, sym, take, arith}
use Rattle.std.proofs.lemmas.Grind.{common_steps}
use Rattle.std.proofs.lemmas.List.{drop-take}
use Rattle.view_rules.specs.declared.entries.JournalEntry.{JournalEntry}
use Rattle.dock_rules.specs.Points.{journal_text}
use Rattle.book_dock.proofs.hold.BookHold.read_lines.Goals as goal

pub returns-clause-ok : goal.returns-clause-ok
returns-clause-ok c =
    let from : ℕ = c.args.from in
    let size : ℕ = c.min.result in
    let all : List JournalEntry = c.deref.result.now in
    let text : List JournalEntry → List ℕ = λ entries. c.args.out.now.items ++ journal_text entries in
    let written : c.push_entries-written.new.out.items ≡ text (take (from + size - from) (drop from all)) =
    grind (arith, common_steps) in
    let long : from + size - from ≡ size = omega arith in
    written
    ∙ (ap (λ (n : ℕ). text (take n (drop from all))) long
    ∙ (ap text (sym (drop-take from size all))
    ∙ ap (λ (entries : List JournalEntry). text (drop from (take (from + size) entries))) c.deref.ensures.value))
