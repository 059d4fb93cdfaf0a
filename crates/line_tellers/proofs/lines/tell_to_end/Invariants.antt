use Rattle.std.proofs.Common.{◌+◌, length}
use Rattle.std.specs.Prelude.{Ok}
use Rattle.floor_text.specs.LineReader.{lines_of_next}
use Rattle.floor_text.specs.Reading.{bytes_ahead}
use Rattle.line_tellers.proofs.Running.{IsRunning}
use Rattle.line_tellers.proofs.lines.tell_to_end.Given as goal

abbrev pub invariant-lines : goal.invariant-lines
invariant-lines g l = IsRunning
    (g.T.LineTeller.telling l.fn.teller) (g.T.LineTeller.telling l.teller)
    (g.I.Source.left l.fn.input) (g.I.Source.left l.input)
    (g.O.Sink.written l.fn.out) (g.O.Sink.written l.out) l.line l.reader
    (g.I.Source.faults l.fn.input) (g.I.Source.faults l.input)
    (g.O.Sink.faults l.fn.out) (g.O.Sink.faults l.out) l.tournament

abbrev pub decreases-lines : goal.decreases-lines
decreases-lines g l = bytes_ahead l.reader + length (lines_of_next (Ok l.line) l.reader.line)
