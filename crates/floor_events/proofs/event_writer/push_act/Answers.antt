use Rattle.floor_events.proofs.EventLaws.{act_text}
use Rattle.floor_events.proofs.event_writer.push_act.Goals as goal

pub returns-in-None-clause-ok : goal.returns-in-None-clause-ok
returns-in-None-clause-ok c =
    rw (act_text, c.act_word-amount.ensures, c.in-None.is, ← c.bytes.ensures.same) c.push_words.ensures.ok

pub returns-in-Some-clause-ok : goal.returns-in-Some-clause-ok
returns-in-Some-clause-ok c =
    rw (act_text, c.act_word-amount.ensures, c.in-Some.is, ← c.bytes.ensures.same) c.push_words-in-Some.ensures.ok
