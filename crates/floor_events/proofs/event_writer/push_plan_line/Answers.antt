-- What is written of each line of a plan is its text, by computing.
use Rattle.floor_events.specs.Spelling.{event_text}
use Rattle.floor_events.proofs.event_writer.push_plan_line.Goals as goal

pub returns-in-Game-clause-ok : goal.returns-in-Game-clause-ok
returns-in-Game-clause-ok c = rw c.in-Game.is (unfold event_text in rw (← c.game_word.ensures) c.push_words.ensures.ok)

pub returns-in-Tables-clause-ok : goal.returns-in-Tables-clause-ok
returns-in-Tables-clause-ok c = rw c.in-Tables.is (unfold event_text in c.push_words-in-Tables.ensures.ok)

pub returns-in-Seats-clause-ok : goal.returns-in-Seats-clause-ok
returns-in-Seats-clause-ok c = rw c.in-Seats.is (unfold event_text in c.push_words-in-Seats.ensures.ok)

pub returns-in-Stack-clause-ok : goal.returns-in-Stack-clause-ok
returns-in-Stack-clause-ok c = rw c.in-Stack.is (unfold event_text in c.push_words-in-Stack.ensures.ok)

pub returns-in-Buyin-clause-ok : goal.returns-in-Buyin-clause-ok
returns-in-Buyin-clause-ok c = rw c.in-Buyin.is (unfold event_text in c.push_words-in-Buyin.ensures.ok)

pub returns-in-Late-clause-ok : goal.returns-in-Late-clause-ok
returns-in-Late-clause-ok c = rw c.in-Late.is (unfold event_text in c.push_words-in-Late.ensures.ok)

pub returns-in-Blinds-clause-ok : goal.returns-in-Blinds-clause-ok
returns-in-Blinds-clause-ok c = rw c.in-Blinds.is c.push_blinds.ensures.ok

pub returns-in-Shares-clause-ok : goal.returns-in-Shares-clause-ok
returns-in-Shares-clause-ok c = rw c.in-Shares.is (rw (← c.items.ensures) c.push_shares.ensures.ok)

pub returns-in-Limit-clause-ok : goal.returns-in-Limit-clause-ok
returns-in-Limit-clause-ok c = rw c.in-Limit.is (unfold event_text in c.push_words-in-Limit.ensures.ok)
