use Rattle.std.proofs.Common.{◌≡◌, ◌<◌, ◌∙◌, sym, ap, inl, rules}
use denote.Enum.Bare.{differs_false}
use Rattle.std.specs.Prelude.{Ok}
use Rattle.floor_text.specs.Reading.{Reading}
use Rattle.floor_text.specs.contracts.line_reader.Next.{the_type}
use Rattle.floor_text.specs.declared.line_reader.Next.TheVariants.{End}
use Rattle.command_lines.specs.Endings.{LetsGo}
use Rattle.line_tellers.proofs.Running.{begins_so, both_from, starts, counts_first, within_at_end, gives_more, ends_well, ends_in_fault, on_ok, on_err, no_reading}
use Rattle.line_tellers.proofs.lines.tell_to_end.Goals as goal

pub lines-init : goal.lines-init
lines-init g c =
    starts (g.T.LineTeller.telling c.args.teller.now) c.args.tournament.now c.args.reader.now
    c.next_line.new.reader c.in_ok-line.line
    (g.I.Source.left c.args.input.now) (g.I.Source.left c.next_line.new.input) (g.O.Sink.written c.args.out.now)
    (g.I.Source.faults c.args.input.now) (g.I.Source.faults c.next_line.new.input)
    (g.O.Sink.faults c.args.out.now)
    c.requires.fresh c.requires.first
    (λ bytes before. c.in_ok-line.ensures.told (g.T.LineTeller.telling c.args.teller.now) bytes before
    c.args.tournament.now (g.O.Sink.written c.args.out.now))
    c.in_ok-line.ensures.ahead c.next_line.ensures.counts c.next_line.ensures.limit
    (λ is. c.in_ok-line.ensures.end (ap Ok is)) c.next_line.ensures.input_later

pub returns-in_err-line : goal.returns-in_err-line
returns-in_err-line g c =
    record {
      end = search rules;
      text = search rules;
      within = search rules;
      let_go = search rules;
      told = on_err c.from_residual.result c.in_err-line.field-0.0 _ c.from_residual.ensures.1
          (begins_so (g.T.LineTeller.telling c.args.teller.now) c.args.tournament.now c.args.reader.now
          (g.I.Source.left c.args.input.now) (g.O.Sink.written c.args.out.now)
          c.requires.fresh c.requires.first
          (λ bytes before. c.in_err-line.ensures.told (g.T.LineTeller.telling c.args.teller.now) bytes before
          c.args.tournament.now (g.O.Sink.written c.args.out.now)));
      read_let_go = search rules;
      too_long = λ too_long.
          let more : c.next_line.new.reader.limit < c.next_line.new.reader.taken = search rules in
          gives_more (g.I.Source.left c.args.input.now) (g.I.Source.left c.next_line.new.input) c.next_line.new.reader
          (c.next_line.ensures.counts (g.I.Source.left c.args.input.now)
          (counts_first (g.I.Source.left c.args.input.now) c.args.reader.now c.requires.fresh))
          (c.next_line.ensures.limit ∙ ap (λ (reading : Reading). reading.limit) c.requires.fresh) more;
      read = search rules;
      out_later = search rules;
      write = search rules;
      words = search rules;
      hall = search rules;
      plan = search rules;
    }

pub lines-preserved : goal.lines-preserved
lines-preserved g c =
    let held = c.lines.invariant in
    record {
      tells = both_from (g.I.Source.left c.args.input.now) (g.O.Sink.written c.args.out.now)
          (rw held.same at c.in_ok-line-2.ensures.told) held.tells;
      same = c.in_ok-line-2.ensures.same ∙ held.same;
      valid = c.in_ok-line-2.ensures.valid;
      counted = c.tell_next.ensures.counts (g.I.Source.left c.args.input.now) held.counted;
      at_limit = c.tell_next.ensures.limit ∙ held.at_limit;
      input_later = search rules;
      out_later = search rules;
      few = search rules;
      end = λ is. c.in_ok-line-2.ensures.end (ap Ok is);
    }

pub returns-in_err-line-2 : goal.returns-in_err-line-2
returns-in_err-line-2 g c =
    record {
      end = search rules;
      text = search rules;
      within = search rules;
      let_go = search rules;
      told = on_err c.from_residual-in_err-line-2.result c.in_err-line-2.field-0.0 _
          c.from_residual-in_err-line-2.ensures.1
          (both_from (g.I.Source.left c.args.input.now) (g.O.Sink.written c.args.out.now)
          (rw c.lines.invariant.same at c.in_err-line-2.ensures.told) c.lines.invariant.tells);
      read_let_go = on_err c.from_residual-in_err-line-2.result c.in_err-line-2.field-0.0 _
          c.from_residual-in_err-line-2.ensures.1 (λ reading. inl (c.in_err-line-2.ensures.let_go reading));
      too_long = λ too_long.
          let more : c.tell_next.new.reader.limit < c.tell_next.new.reader.taken = search rules in
          gives_more (g.I.Source.left c.args.input.now) (g.I.Source.left c.tell_next.new.input) c.tell_next.new.reader
          (c.tell_next.ensures.counts (g.I.Source.left c.args.input.now) c.lines.invariant.counted)
          (c.tell_next.ensures.limit ∙ c.lines.invariant.at_limit) more;
      read = search rules;
      out_later = search rules;
      write = search rules;
      words = search rules;
      hall = search rules;
      plan = search rules;
    }

pub returns : goal.returns
returns g c =
    let done : c.lines.line ≡ End = differs_false the_type (search rules) _ _ (sym c.ne.ensures ∙ c.lines-test.false) in
    let ended = c.lines.invariant.end done in
    let tells = rw done at c.lines.invariant.tells in
    record {
      end = on_ok c.tell_end.result (c.lines.invariant.counted.end ended);
      text = ends_well (g.T.LineTeller.telling c.args.teller.now) (g.I.Source.left c.args.input.now)
          (g.I.Source.left c.lines.input) (g.O.Sink.written c.args.out.now) (g.O.Sink.written c.lines.out)
          (g.O.Sink.written c.tell_end.new.out) c.lines.tournament c.lines.reader c.tell_end.result ended
          (c.lines.invariant.counted.end ended) tells (rw c.lines.invariant.same at c.tell_end.ensures.bytes);
      within = on_ok c.tell_end.result
          (within_at_end (g.I.Source.left c.args.input.now) (g.I.Source.left c.lines.input) c.lines.reader
          c.lines.invariant.counted ended c.lines.invariant.at_limit);
      let_go = c.tell_end.ensures.let_go;
      told = ends_in_fault (g.T.LineTeller.telling c.args.teller.now) (g.I.Source.left c.args.input.now)
          (g.I.Source.left c.lines.input) (g.O.Sink.written c.args.out.now) (g.O.Sink.written c.lines.out)
          (g.O.Sink.written c.tell_end.new.out) c.lines.tournament c.lines.reader c.tell_end.result ended tells
          (rw c.lines.invariant.same at c.tell_end.ensures.bytes)
          (λ memory. ap g.O.Sink.written (c.tell_end.ensures.memory memory)) c.tell_end.ensures.others;
      read_let_go = no_reading c.tell_end.result (LetsGo g.O.Sink.held c.args.out.now c.tell_end.new.out)
          c.tell_end.ensures.others;
      too_long = search rules;
      read = search rules;
      out_later = search rules;
      write = search rules;
      words = search rules;
      hall = search rules;
      plan = search rules;
    }
