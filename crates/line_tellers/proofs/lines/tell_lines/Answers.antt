use Rattle.std.proofs.Common.{rules}
use Rattle.command_lines.specs.declared.fault.Fault.TheVariants as faults
use Rattle.line_tellers.proofs.Running.{untold, on_err}
use Rattle.line_tellers.proofs.lines.tell_lines.Goals as goal

pub returns-in_err-reader : goal.returns-in_err-reader
returns-in_err-reader g c =
    record {
      end = search rules;
      text = search rules;
      within = search rules;
      let_go = search rules;
      told = on_err c.from_residual.result faults.NoMemory _ c.from_residual.ensures.1
          (untold (g.T.LineTeller.telling c.args.teller.now) (g.I.Source.left c.args.input.now)
          (g.O.Sink.written c.args.out.now));
      read_let_go = search rules;
      too_long = search rules;
      read = search rules;
      out_later = search rules;
      write = search rules;
      words = search rules;
      hall = search rules;
      plan = search rules;
    }

pub returns-in_err-tournament : goal.returns-in_err-tournament
returns-in_err-tournament g c =
    record {
      end = search rules;
      text = search rules;
      within = search rules;
      let_go = search rules;
      told = on_err c.from_residual-in_err-tournament.result faults.NoMemory _
          c.from_residual-in_err-tournament.ensures.1
          (untold (g.T.LineTeller.telling c.args.teller.now) (g.I.Source.left c.args.input.now)
          (g.O.Sink.written c.args.out.now));
      read_let_go = search rules;
      too_long = search rules;
      read = search rules;
      out_later = search rules;
      write = search rules;
      words = search rules;
      hall = search rules;
      plan = search rules;
    }

pub returns : goal.returns
returns g c = c.tell_to_end.ensures
