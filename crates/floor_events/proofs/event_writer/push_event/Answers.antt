-- What is written of each event is its text, by computing.
use Rattle.floor_events.specs.Spelling.{event_text}
use Rattle.floor_events.proofs.event_writer.push_event.Goals as goal

pub returns-in-Plan-clause-ok : goal.returns-in-Plan-clause-ok
returns-in-Plan-clause-ok c = rw c.in-Plan.is c.push_plan_line.ensures.ok

pub returns-in-Act-clause-ok : goal.returns-in-Act-clause-ok
returns-in-Act-clause-ok c = rw c.in-Act.is c.push_act.ensures.ok

pub returns-in-Go-clause-ok : goal.returns-in-Go-clause-ok
returns-in-Go-clause-ok c = rw c.in-Go.is (unfold event_text in c.push_words.ensures.ok)

pub returns-in-Begin-clause-ok : goal.returns-in-Begin-clause-ok
returns-in-Begin-clause-ok c = rw c.in-Begin.is (unfold event_text in c.push_words-in-Begin.ensures.ok)

pub returns-in-Time-clause-ok : goal.returns-in-Time-clause-ok
returns-in-Time-clause-ok c = rw c.in-Time.is (unfold event_text in c.push_words-in-Time.ensures.ok)

pub returns-in-Settle-clause-ok : goal.returns-in-Settle-clause-ok
returns-in-Settle-clause-ok c = rw c.in-Settle.is (unfold event_text in c.push_words-in-Settle.ensures.ok)

pub returns-in-Balance-clause-ok : goal.returns-in-Balance-clause-ok
returns-in-Balance-clause-ok c = rw c.in-Balance.is (unfold event_text in c.push_words-in-Balance.ensures.ok)

pub returns-in-Level-clause-ok : goal.returns-in-Level-clause-ok
returns-in-Level-clause-ok c = rw c.in-Level.is (unfold event_text in c.push_words-in-Level.ensures.ok)

pub returns-in-Race-clause-ok : goal.returns-in-Race-clause-ok
returns-in-Race-clause-ok c = rw c.in-Race.is (unfold event_text in c.push_words-in-Race.ensures.ok)

pub returns-in-Round-clause-ok : goal.returns-in-Round-clause-ok
returns-in-Round-clause-ok c = rw c.in-Round.is (unfold event_text in c.push_words-in-Round.ensures.ok)

pub returns-in-Stop-clause-ok : goal.returns-in-Stop-clause-ok
returns-in-Stop-clause-ok c = rw c.in-Stop.is (unfold event_text in c.push_words-in-Stop.ensures.ok)

pub returns-in-Enter-clause-ok : goal.returns-in-Enter-clause-ok
returns-in-Enter-clause-ok c =
    rw c.in-Enter.is (unfold event_text in rw (← c.bytes.ensures.same) c.push_words-in-Enter.ensures.ok)

pub returns-in-Reenter-clause-ok : goal.returns-in-Reenter-clause-ok
returns-in-Reenter-clause-ok c = rw c.in-Reenter.is
    (unfold event_text in rw (← c.bytes-in-Reenter.ensures.same) c.push_words-in-Reenter.ensures.ok)

pub returns-in-Break-clause-ok : goal.returns-in-Break-clause-ok
returns-in-Break-clause-ok c = rw c.in-Break.is
    (unfold event_text in rw (← c.items.ensures, ← c.items-in-Break.ensures) c.push_words-in-Break.ensures.ok)

pub returns-in-Hands-clause-ok : goal.returns-in-Hands-clause-ok
returns-in-Hands-clause-ok c =
    rw c.in-Hands.is (unfold event_text in rw (← c.switch_word.ensures) c.push_words-in-Hands.ensures.ok)
