-- What a turn of a session takes, says and comes to. This project's own.
use Rattle.std.specs.Prelude.{◌≡◌, ◌+◌, ◌<◌, ℕ, Bool, true, false, not, ◌&&◌, ◌||◌, List, [], ◌∷◌, ◌++◌, length, take, Option, Some, None, IfSome, is_some, if◌then◌else◌}
use Rattle.std.specs.Option.{option_map_or}
use Rattle.floor_text.specs.Lines.{lines_of_bytes}
use Rattle.floor_text.specs.Memory.{count_up}
use Rattle.plan_files.specs.Words.{WordTerms}
use Rattle.links.specs.Telling.{Telling}
use Rattle.links.specs.Links.{with_put}
use Rattle.history_lock.specs.Passes.{seen}
use Rattle.dock_rules.specs.Journals.{tale_of}
use Rattle.session_lines.specs.declared.hello.Speaker.{Speaker}
use Rattle.session_lines.specs.declared.meaning.Meaning.{Meaning}
use Rattle.session_lines.specs.declared.meaning.Meaning.TheVariants.{Asks, Hello}
use Rattle.session_lines.specs.declared.reply.Reply.{Reply}
use Rattle.session_lines.specs.Meanings.{meaning_of}
use Rattle.session_desk.specs.declared.desk.Desk.{Desk}
use Rattle.session_desk.specs.declared.session.Session.{Session}
use Rattle.session_desk.specs.declared.session.SessionEnd.{SessionEnd}
use Rattle.session_desk.specs.declared.session.SessionEnd.TheVariants as ends
use Rattle.session_desk.specs.declared.session.Step.{Step}
use Rattle.session_desk.specs.declared.session.Step.TheVariants.{Took, Replied, Idled, Over}
use Rattle.session_desk.specs.Answers.{IsRightAnswer}
use Rattle.session_desk.specs.Asking.{HasAnswered}
use Rattle.session_desk.specs.Desks.{HasDeskMoved, Numbers, Sights, nothing, numbers_of, sights}
use Rattle.session_desk.specs.Exchanges.{Answered, Exchange, exchange_text, line_answered}
use Rattle.session_desk.specs.Inboxes.{is_line_held, waiting}
use Rattle.session_desk.specs.Standings.{Standing, count_of, is_asked_at, is_memory, is_quit, meaning_said}
use Rattle.session_desk.specs.Telling.{AreNews, HasToldKnown, Reach, reach_after, reach_of, standing_of, watch_of}

-- What a turn took from the link: nothing where a line was held or the link had ended, some bytes, its Idle, its end,
-- or its failure.
pub data Taking : Type 0 where
  took_nothing : Taking
  took_bytes : List ℕ → Taking
  took_idle : Taking
  took_end : Taking
  failed : Taking

-- the bytes that were taken
abbrev pub bytes_taken : Taking → List ℕ
bytes_taken (took_bytes bytes) = bytes
bytes_taken taking = []

-- what a link tells after it was taken from
abbrev pub told_taking : Taking → Telling → Telling
told_taking (took_bytes bytes) told = record told { given = told.given ++ bytes }
told_taking took_idle told = record told { idles = count_up told.idles }
told_taking took_end told = record told { ended = true }
told_taking taking told = told

-- A turn takes once from the link where no whole line is held and the link has not ended, and else nothing. The bytes
-- are one at least.
abbrev pub MayTake : Bool → Bool → Taking → Type 0
MayTake false false took_nothing = ⊥
MayTake false false (took_bytes bytes) = 0 < length bytes
MayTake false false taking = Unit {0}
MayTake held ended took_nothing = Unit {0}
MayTake held ended taking = ⊥

-- whether somebody says something: whether it is no Idle
abbrev pub is_answer : Option Exchange → Bool
is_answer said = option_map_or (λ (e : Exchange). is_some e.answered) said false

-- What a turn says by what it took. A held line is answered; the end is answered where bytes are left that no line feed
-- ends; an Idle tells the news alone; and nothing is said else.
abbrev pub MaySay : Bool → List ℕ → Taking → Option Exchange → Type 0
MaySay true left took_nothing said = is_answer said ≡ true
MaySay false left took_nothing said = said ≡ None
MaySay held left took_idle said = (is_some said ≡ true) × (is_answer said ≡ false)
MaySay held [] took_end said = said ≡ None
MaySay held (byte ∷ bytes) took_end said = is_answer said ≡ true
MaySay held left taking said = said ≡ None

-- whether the end was taken
abbrev pub is_end : Taking → Bool
is_end took_end = true
is_end taking = false

-- the lines that were handled
abbrev pub lines_said : Option Exchange → List (Option (List ℕ))
lines_said said = option_map_or (λ (e : Exchange). line_answered e.answered) said []

-- The line that was handled is the first of the bytes that waited and were taken, whatever comes behind them. At the
-- end nothing comes behind them, and none waits any more.
abbrev pub AreHandled : Taking → List ℕ → List (Option (List ℕ)) → List ℕ → Type 0
AreHandled took_end before lines after = (lines_of_bytes before ≡ lines) × (after ≡ [])
AreHandled taking before lines after =
    (rest : List ℕ) → lines_of_bytes (before ++ (bytes_taken taking ++ rest)) ≡ lines ++ lines_of_bytes (after ++ rest)

-- What a turn comes to, by what it took and said, whether its put was cut, and whether the journal that was seen ends
-- with the stop.
module _ (words : WordTerms) (speaker : Option Speaker) (stopped cut : Bool) where
  abbrev pub step_whole : Taking → Exchange → Step
  step_whole took_idle said = if stopped then Over ends.Closed else Idled
  step_whole taking said = if is_quit (meaning_said words speaker said.answered) then Over ends.Quit else Replied

  abbrev pub step_of : Taking → Option Exchange → Step
  step_of taking (Some said) = if cut then Over ends.LinkWrite else step_whole taking said
  step_of (took_bytes bytes) None = Took
  step_of failed None = Over ends.LinkRead
  step_of taking None = Over ends.Ended

-- All that was said was put, or where the put was cut a front of it.
abbrev pub IsPut : Bool → List ℕ → List ℕ → Type 0
IsPut false said put = put ≡ said
IsPut true said put = (size : ℕ) × (put ≡ take size said)

-- the text of what was said
abbrev pub text_said : ℕ → Option Exchange → List ℕ
text_said count said = option_map_or (exchange_text count) said []

-- What a link that tells tells after a turn.
pub record HasTold (count : ℕ) (taking : Taking) (said : Option Exchange) (cut : Bool) (before after : Telling)
    : Type 0 where
  pub put : List ℕ
  pub is_put : IsPut cut (text_said count said) put
  pub told : after ≡ with_put (told_taking taking before) put

-- how many holds of the pass of the book an exchange takes at least: one where news are told or the link gave Idle
abbrev pub book_looks : Standing → Option Answered → ℕ
book_looks standing None = 1
book_looks standing (Some answered) = count_of (is_some standing.speaker)

-- how many holds of the pass of a table: one where the table is watched, and one where an act or a called time is asked
-- for there, unless memory ran out for it
abbrev pub table_looks : WordTerms → ℕ → Standing → Option Answered → ℕ → ℕ
table_looks words count standing None table = count_of (standing.watched table)
table_looks words count standing (Some answered) table =
    count_of (standing.watched table)
    + count_of (is_asked_at count table (meaning_of words standing.speaker answered.line)
    && not (is_memory answered.reply))

-- the reply of an exchange is right, and brings what it has to; an Idle brings nothing
abbrev pub IsRight : WordTerms → ℕ → Numbers → Option Speaker → Sights → Sights → Exchange → Type 0
IsRight words count numbers speaker before after said =
    IsRightAnswer count numbers before after (meaning_said words speaker said.answered) said.answered said.brought

-- An exchange: the line is answered as it has to be, and then the news are told; from the next line on holds what the
-- line changes.
pub record IsExchange (words : WordTerms) (count : ℕ) (before after : Session) (said : Exchange) : Type 0 where
  pub at : said.at ≡ sights after.desk
  pub right : IsRight words count (numbers_of before.desk) before.told.speaker (sights before.desk)
      (sights after.desk) said
  pub moved : HasDeskMoved (book_looks (standing_of (reach_of before.told)) said.answered)
      (table_looks words count (standing_of (reach_of before.told)) said.answered) said.brought before.desk after.desk
  pub middle : Reach
  pub news : AreNews before.told.speaker (sights after.desk) (reach_of before.told) middle said.news said.behind
  pub changed : reach_of after.told
      ≡ reach_after count (meaning_said words before.told.speaker said.answered) middle

-- A meaning may come of whoever speaks: only a stranger says hello, and he asks for nothing.
abbrev pub MayMean : Option Speaker → Meaning → Type 0
MayMean None (Asks request) = ⊥
MayMean (Some speaker) (Hello other) = ⊥
MayMean speaker meaning = Unit {0}

-- A desk did what a line means and told the news then; from then on holds what the line changes of the client.
pub record HasResponded (count : ℕ) (before after : Desk) (first last : Reach) (meaning : Meaning) (reply : Reply)
    (behind : Bool) (had has : List ℕ) : Type 0 where
  pub mid : Desk
  pub middle : Reach
  pub answered : HasAnswered count before mid meaning reply
  pub moved : HasDeskMoved (count_of (is_some first.speaker)) (λ table. count_of (is_some (watch_of first table)))
      nothing mid after
  pub known : HasToldKnown count (sights after) first middle behind had has
  pub changed : last ≡ reach_after count (Some meaning) middle

-- What a link that tells tells after an exchange was put, or a front of it.
pub record HasPut (count : ℕ) (said : Exchange) (cut : Bool) (before after : Telling) : Type 0 where
  pub put : List ℕ
  pub is_put : IsPut cut (exchange_text count said) put
  pub told : after ≡ with_put before put

-- An exchange with these lines, one or none, was said and put, by what was taken before it: what it came to.
pub record HasSaid (words : WordTerms) (count : ℕ) (lines : List (Option (List ℕ))) (taking : Taking)
    (first last : Option Telling) (before after : Session) (step : Step) : Type 0 where
  pub said : Exchange
  pub cut : Bool
  pub lines_are : line_answered said.answered ≡ lines
  pub exchange : IsExchange words count before after said
  pub told : IfSome first (λ t. (u : Telling) × (last ≡ Some u) × HasPut count said cut t u)
  pub step_is : step ≡ step_of words before.told.speaker (tale_of (seen after.desk.book)).ended cut taking (Some said)

-- Nothing was said: the desk and the client stand as they did.
pub record IsQuiet (before after : Session) : Type 0 where
  pub desk : after.desk ≡ before.desk
  pub told : reach_of after.told ≡ reach_of before.told

-- what was said in a turn, if anything was
abbrev pub IsSaidIn : WordTerms → ℕ → Session → Session → Option Exchange → Type 0
IsSaidIn words count before after None = IsQuiet before after
IsSaidIn words count before after (Some said) = IsExchange words count before after said

-- A turn of a session: what it took from the link, what it said then, and whether the put of that was cut. Its step
-- follows.
pub record IsTurn {L : Type 0} (told_by : L → Option Telling) (words : WordTerms) (count : ℕ) (first last : L)
    (before after : Session) (step : Step) : Type 0 where
  pub taking : Taking
  pub said : Option Exchange
  pub cut : Bool
  pub take : MayTake (is_line_held (waiting before.inbox)) before.inbox.ended taking
  pub say : MaySay (is_line_held (waiting before.inbox)) (waiting before.inbox) taking said
  pub handled : AreHandled taking (waiting before.inbox) (lines_said said) (waiting after.inbox)
  pub ended : after.inbox.ended ≡ (before.inbox.ended || is_end taking)
  pub is_said : IsSaidIn words count before after said
  pub told : IfSome (told_by first)
      (λ t. (u : Telling) × (told_by last ≡ Some u) × HasTold count taking said cut t u)
  pub step_is : step ≡ step_of words before.told.speaker (tale_of (seen after.desk.book)).ended cut taking said

-- why a session is over after a step, if it is
abbrev pub end_after : Step → Option SessionEnd
end_after (Over end) = Some end
end_after step = None

-- whether a step says that the link failed
abbrev pub is_fault : Step → Bool
is_fault (Over ends.LinkRead) = true
is_fault (Over ends.LinkWrite) = true
is_fault step = false
