-- How a hand is played. The Poker TDA Rules: a player acts in turn.
use Rattle.std.specs.Prelude.{◌≡◌, Bool, true, is_none, ◌&&◌, List, [], ◌∷◌, ◌++◌}
use Rattle.table_engine.specs.declared.start.HandStart.{HandStart}
use Rattle.table_engine.specs.declared.record.ActOf.{ActOf}
use Rattle.table_engine.specs.declared.record.HandRecord.{HandRecord}
use Rattle.table_engine.specs.Hands.{HandTerms, is_over}
use Rattle.table_engine.specs.Acts.{refusal_of_act, time_act}
use Rattle.table_engine.specs.Results.{stacks_after_hand}

-- After the acts before them, each of these acts is refused by no check on the acts that are before it.
abbrev pub are_lawful_after : HandStart → List ActOf → List ActOf → Bool
are_lawful_after start before [] = true
are_lawful_after start before (act ∷ acts) =
    is_none (refusal_of_act (record { start = start; acts = before }) act.name act.act)
    && are_lawful_after start (before ++ act ∷ []) acts

-- After the acts before them, each of these acts that came by a called time is the one that a called time makes.
abbrev pub AreTimedAfter : HandStart → List ActOf → List ActOf → Type 0
AreTimedAfter start before [] = Unit {0}
AreTimedAfter start before (act ∷ acts) =
    (act.by_time ≡ true → act ≡ time_act (record { start = start; acts = before }))
    × AreTimedAfter start (before ++ act ∷ []) acts

-- A hand is a lawful play of its start where each act is refused by no check on those before it, and each that came by
-- a called time is the one that a called time makes there.
pub record IsLawfulPlay (hand : HandTerms) : Type 0 where
  pub acts : are_lawful_after hand.start [] hand.acts ≡ true
  pub timed : AreTimedAfter hand.start [] hand.acts

-- The hand of which a record is.
abbrev pub recorded_hand : HandRecord → HandTerms
recorded_hand done = record { start = done.start; acts = done.acts }

-- A record is a complete play of its start where its acts are a lawful play that is over, and its stacks are those that
-- this play comes to.
pub record IsCompletePlay (done : HandRecord) : Type 0 where
  pub play : IsLawfulPlay (recorded_hand done)
  pub over : is_over (recorded_hand done) ≡ true
  pub stacks : done.stacks ≡ stacks_after_hand (recorded_hand done)
