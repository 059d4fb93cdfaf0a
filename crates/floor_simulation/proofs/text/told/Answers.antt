use Rattle.std.proofs.Common.{ap, length, List}
use Rattle.tournament_events.specs.declared.report.ReportSeat.{ReportSeat}
use Rattle.floor_simulation.proofs.TextTold.{told-so}
use Rattle.floor_simulation.proofs.text.told.Goals as goal

pub returns : goal.returns
returns c =
    told-so c.args.number c.args.played.now.hands c.accepted.result _ c.args.played.now.tournament
    c.in_ok-report.report c.push_lines.new.out.items c.write_report.new.out.items
    (rw c.new-text.ensures.items at c.in_ok-push_lines.ensures.ok) c.in_ok-write_report.ensures.ok
    c.in_ok-report.ensures c.accepted.ensures (ap (λ (seats : List ReportSeat). length seats) c.items.ensures)
