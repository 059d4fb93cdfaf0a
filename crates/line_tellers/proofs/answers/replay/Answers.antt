use Rattle.line_tellers.specs.Told.{answers_told}
use Rattle.line_tellers.proofs.AnswersTold.{stream_answered}
use Rattle.line_tellers.proofs.Running.{on_ok_from, text_is}
use Rattle.replay_rules.specs.Replay.{replay_text}
use Rattle.line_tellers.proofs.answers.replay.Goals as goal

pub returns-clause-text : goal.returns-clause-text
returns-clause-text g c =
    on_ok_from c.tell_lines.result
    (text_is answers_told replay_text stream_answered (g.I.Source.left c.args.input.now)
    (g.O.Sink.written c.args.out.now) (g.O.Sink.written c.tell_lines.new.out))
    c.tell_lines.ensures.text
