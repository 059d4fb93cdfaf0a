use Rattle.line_tellers.specs.Told.{lines_seen}
use Rattle.line_tellers.proofs.ViewTold.{stream_seen}
use Rattle.line_tellers.proofs.Running.{on_ok_from, text_is}
use Rattle.view_rules.specs.Views.{view_text}
use Rattle.line_tellers.proofs.views.view.Goals as goal

pub returns-clause-text : goal.returns-clause-text
returns-clause-text g c =
    on_ok_from c.tell_lines.result
    (text_is (lines_seen c.args.name) (view_text c.args.name) (stream_seen c.args.name)
    (g.I.Source.left c.args.input.now) (g.O.Sink.written c.args.out.now) (g.O.Sink.written c.tell_lines.new.out))
    c.tell_lines.ensures.text
