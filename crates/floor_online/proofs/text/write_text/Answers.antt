use Rattle.replay_rules.specs.Replay.{tournament_text}
use Rattle.dock_rules.specs.Journals.{expand}
use Rattle.book_dock.specs.Ends.{journal_of}
use Rattle.command_lines.specs.declared.fault.Fault.TheVariants.{Write}
use Rattle.floor_online.proofs.Putting.{put_closed}
use Rattle.floor_online.proofs.text.write_text.Goals as goal

pub returns-clause-bytes : goal.returns-clause-bytes
returns-clause-bytes g c =
    put_closed (g.O.Sink.written c.args.out.now) (g.O.Sink.written c.put_all-ran.new.out)
    (g.O.Sink.written c.let_go.new.out) (tournament_text (expand (journal_of c.args.end.now))) c.put_all-ran.result
    c.let_go.result Write _ c.let_go.ensures.kept c.let_go.ensures.ran c.put_all-ran.ensures.bytes
