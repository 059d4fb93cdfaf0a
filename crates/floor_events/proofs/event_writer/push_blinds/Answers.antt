-- What is written of a level is its text, by computing.
use Rattle.std.proofs.Common.{◌≡◌, false}
use Rattle.std.specs.Prelude.{◌==◌}
use Rattle.std.proofs.lemmas.Bool.{ne_eqb}
use Rattle.floor_events.specs.Spelling.{event_text}
use Rattle.floor_events.proofs.event_writer.push_blinds.Goals as goal

pub returns-then-blind-eq0-clause-ok : goal.returns-then-blind-eq0-clause-ok
unfolding event_text
returns-then-blind-eq0-clause-ok c = rw c.if-blind-eq0.true c.push_words.ensures.ok

pub returns-clause-ok : goal.returns-clause-ok
unfolding event_text
returns-clause-ok c =
    let some : (c.args.blind.ante == 0) ≡ false = ne_eqb c.args.blind.ante 0 c.if-blind-eq0.false in
    rw some c.push_words-2.ensures.ok
