use Rattle.std.proofs.Common.{rules}
use Rattle.floor_events.proofs.report_writer.ReportSeatReportLine.push_report_line.Goals as goal

pub returns-clause-ok : goal.returns-clause-ok
returns-clause-ok c = search rules
