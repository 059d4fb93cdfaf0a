use Rattle.std.proofs.Common.{◌≡◌, ◌∙◌}
use Rattle.std.proofs.lemmas.Result.{IfOk-weaker}
use Rattle.tournament_rules.specs.Report.{book_report, report_of}
use Rattle.dock_rules.specs.Journals.{tale_of}
use Rattle.book_dock.proofs.Booked.{report-is}
use Rattle.book_dock.proofs.hold.BookHold.report.Goals as goal

pub returns : goal.returns
returns c =
    let hold = c.args.self.now in
    IfOk-weaker c.report.result (λ report. report ≡ book_report hold.book)
    (λ report. report ≡ report_of (tale_of hold.journal.items).state)
    (λ report is. is ∙ report-is hold.journal.items hold.seed hold.book hold.kept) c.report.ensures
