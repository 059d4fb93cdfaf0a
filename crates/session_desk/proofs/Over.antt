-- How a turn ends a session.
use Rattle.std.proofs.Common.{◌≡◌, ◌∙◌, inl, inr, refl, sym, ap, subst, ℕ, ◌≤◌, Bool, true, false, List, [], ◌++◌, Option, Some, None, length, append-nil, arith}
use Rattle.std.specs.Prelude.{◌||◌, is_none, if◌then◌else◌}
use Rattle.std.proofs.Math.Bool.{or-false}
use Rattle.std.proofs.lemmas.Option.{IfSome_then, same_Some}
use Rattle.floor_text.specs.Outside.{Rose}
use Rattle.plan_files.specs.Words.{WordTerms}
use Rattle.links.specs.Telling.{Telling}
use Rattle.dock_rules.specs.Journals.{tale_of}
use Rattle.history_lock.specs.Passes.{seen}
use Rattle.session_lines.specs.declared.hello.Speaker.{Speaker}
use Rattle.session_desk.specs.declared.desk.Desk.{Desk}
use Rattle.session_desk.specs.declared.session.Session.{Session}
use Rattle.session_desk.specs.declared.session.SessionEnd.{SessionEnd}
use Rattle.session_desk.specs.declared.session.SessionEnd.TheVariants as ends
use Rattle.session_desk.specs.declared.session.Step.{Step}
use Rattle.session_desk.specs.declared.session.Step.TheVariants.{Idled, Over, Replied}
use Rattle.session_desk.specs.Desks.{AreLater, Sights, sights}
use Rattle.session_desk.specs.Exchanges.{Answered, Exchange, line_answered}
use Rattle.session_desk.specs.Inboxes.{is_line_held, waiting}
use Rattle.session_desk.specs.Standings.{Standing, is_quit, meaning_said}
use Rattle.session_desk.specs.Talks.{AreGoing, AreLinesOf, EndsBy, IsPutAll, IsServed, is_by_fault, is_cut, lines_in, lines_taken, text_in}
use Rattle.session_desk.specs.Turns.{IsExchange, IsPut, IsSaidIn, IsTurn, MaySay, MayTake, Taking, bytes_taken, end_after, failed, is_end, is_fault, lines_said, step_of, text_said, took_bytes, took_end, took_idle, took_nothing}
use Rattle.session_desk.proofs.DeskMoves.{later-self}
use Rattle.session_desk.proofs.Heard.{AreHeard, heard-all, heard-first}
use Rattle.session_desk.proofs.Spoken.{lines-then, log_then, may-be-idle, put-none, put-whole, told_behind}
use Rattle.session_desk.proofs.TakenTurns.{or-true}
use Rattle.session_desk.proofs.UnderWay.{HasTurned, IsUnderWay, turned}

-- What a turn did that ended a session so: it took the end, or nothing behind it; it met the link's failure; an Idle
-- found the tournament stopped; a line was a quit; or a put was cut.
abbrev IsOver : WordTerms → Option Speaker → Bool → Bool → Taking → Bool → Option Exchange → SessionEnd → Type 0
IsOver words speaker stopped ended taking cut said ends.Ended = (said ≡ None) × ((ended || is_end taking) ≡ true)
IsOver words speaker stopped ended taking cut said ends.LinkRead = (said ≡ None) × (taking ≡ failed)
IsOver words speaker stopped ended taking cut said ends.Closed =
    (one : Exchange) × (said ≡ Some one) × (cut ≡ false) × (taking ≡ took_idle) × (is_none one.answered ≡ true)
    × (stopped ≡ true)
IsOver words speaker stopped ended taking cut said ends.Quit =
    (one : Exchange) × (said ≡ Some one) × (cut ≡ false)
    × (is_quit (meaning_said words speaker one.answered) ≡ true)
IsOver words speaker stopped ended taking cut said ends.LinkWrite =
    (one : Exchange) × (said ≡ Some one) × (cut ≡ true)
IsOver words speaker stopped ended taking cut said ends.NoMemory = ⊥

-- an Idle ends a session where the tournament was stopped
closed-by : (stopped : Bool) (end : SessionEnd)
    → end_after (if stopped then Over ends.Closed else Idled) ≡ Some end → (ends.Closed ≡ end) × (stopped ≡ true)
closed-by true end is = (same_Some ends.Closed end is, refl)
closed-by false end is = absurd (cc (is))

-- and a line where it is a quit
quit-by : (quits : Bool) (end : SessionEnd) → end_after (if quits then Over ends.Quit else Replied) ≡ Some end
    → (ends.Quit ≡ end) × (quits ≡ true)
quit-by true end is = (same_Some ends.Quit end is, refl)
quit-by false end is = absurd (cc (is))

-- where nothing was taken nor said, the link had ended
had-ended : (held ended : Bool) (left : List ℕ) → MayTake held ended took_nothing
    → MaySay held left took_nothing None → (ended || false) ≡ true
had-ended true ended left take say = absurd (cc (say))
had-ended false true left take say = refl
had-ended false false left take say = absurd take

-- somebody said something where the link gave Idle
not-said : (held : Bool) (left : List ℕ) → MaySay held left took_idle None → ⊥
not-said true left say = cc (say.0)
not-said false left say = cc (say.0)

module _ (words : WordTerms) (speaker : Option Speaker) (stopped held ended : Bool) (left : List ℕ)
    (end : SessionEnd) where
  -- nothing was said
  over-silent : (taking : Taking) (cut : Bool) → MayTake held ended taking → MaySay held left taking None
      → end_after (step_of words speaker stopped cut taking None) ≡ Some end
      → IsOver words speaker stopped ended taking cut None end
  over-silent took_nothing cut take say is =
      subst (IsOver words speaker stopped ended took_nothing cut None) (same_Some ends.Ended end is)
      (refl, had-ended held ended left take say)
  over-silent (took_bytes bytes) cut take say is = absurd (cc (is))
  over-silent took_idle cut take say is = absurd (not-said held left say)
  over-silent took_end cut take say is =
      subst (IsOver words speaker stopped ended took_end cut None) (same_Some ends.Ended end is) (refl, or-true ended)
  over-silent failed cut take say is =
      subst (IsOver words speaker stopped ended failed cut None) (same_Some ends.LinkRead end is) (refl, refl)

  -- something was said
  over-line : (taking : Taking) (one : Exchange) (quits : Bool)
      → is_quit (meaning_said words speaker one.answered) ≡ quits
      → end_after (if quits then Over ends.Quit else Replied) ≡ Some end
      → IsOver words speaker stopped ended taking false (Some one) end
  over-line taking one quits is over =
      let by = quit-by quits end over in
      subst (IsOver words speaker stopped ended taking false (Some one)) by.0 (one, refl, refl, is ∙ by.1)

  over-said : (taking : Taking) (cut : Bool) (one : Exchange) → MaySay held left taking (Some one)
      → end_after (step_of words speaker stopped cut taking (Some one)) ≡ Some end
      → IsOver words speaker stopped ended taking cut (Some one) end
  over-said taking true one say is =
      subst (IsOver words speaker stopped ended taking true (Some one)) (same_Some ends.LinkWrite end is)
      (one, refl, refl)
  over-said took_idle false one say is =
      let by = closed-by stopped end is in
      subst (IsOver words speaker stopped ended took_idle false (Some one)) by.0
      (one, refl, refl, refl, may-be-idle held left took_idle (Some one) say, by.1)
  over-said taking false one say is =
      over-line taking one (is_quit (meaning_said words speaker one.answered)) refl is

  -- A turn that ends a session does so in one of these ways.
  is-over : (taking : Taking) (cut : Bool) (said : Option Exchange) → MayTake held ended taking
      → MaySay held left taking said → end_after (step_of words speaker stopped cut taking said) ≡ Some end
      → IsOver words speaker stopped ended taking cut said end
  is-over taking cut None take say is = over-silent taking cut take say is
  is-over taking cut (Some one) take say is = over-said taking cut one say is

-- no line is held where the link is taken from
open-failed : (held ended : Bool) → MayTake held ended failed → held ≡ false
open-failed false ended take = refl
open-failed true ended take = absurd take

open-idle : (held ended : Bool) → MayTake held ended took_idle → held ≡ false
open-idle false ended take = refl
open-idle true ended take = absurd take

-- an Idle answers no line
no-line-answered : (answered : Option Answered) → is_none answered ≡ true → line_answered answered ≡ []
no-line-answered None none = refl
no-line-answered (Some answered) none = absurd (cc (none))

-- a session that is over by a fault had a step that is
fault-over : (end : SessionEnd) → is_by_fault end ≡ true → is_fault (Over end) ≡ true
fault-over ends.LinkRead is = refl
fault-over end is = is

step-over : (step : Step) (end : SessionEnd) → end_after step ≡ Some end → step ≡ Over end
step-over (Over other) end is = ap (λ (e : SessionEnd). Over e) (same_Some other end is)
step-over step end is = absurd (cc (is))

-- A count that rose since a later moment rose.
pub rose-since : (first now last : ℕ) → first ≤ now → Rose now last → Rose first last
rose-since first now last later (inl rose) = inl (omega (arith, later, rose))
rose-since first now last later (inr full) = inr full

-- A turn that ends a session under way.
module _ {L : Type 0} (told_by : L → Option Telling) (faults : L → ℕ) (words : WordTerms) (count : ℕ)
    (first now last : L) (start : Desk) (before after : Session) (step : Step) (end : SessionEnd)
    (way : IsUnderWay told_by words count first now start before)
    (turn : IsTurn told_by words count now last before after step)
    (counted : count ≡ length after.told.watches.items) (over : end_after step ≡ Some end) where
  -- what was said and taken since the start
  abbrev log : List Exchange
  log = log_then way.log turn.said

  abbrev bytes : List ℕ
  bytes = way.bytes ++ bytes_taken turn.taking

  abbrev stopped : Bool
  stopped = (tale_of (seen after.desk.book)).ended

  abbrev IsSo : SessionEnd → Type 0
  IsSo = IsOver words before.told.speaker stopped before.inbox.ended turn.taking turn.cut turn.said

  behind : HasTurned told_by words count first last start way.log bytes turn.said turn.cut after
  behind = turned told_by words count first now last start before after step way turn counted

  so : IsSo end
  so =
      is-over words before.told.speaker stopped (is_line_held (waiting before.inbox)) before.inbox.ended
      (waiting before.inbox) end turn.taking turn.cut turn.said turn.take turn.say
      (ap end_after (sym turn.step_is) ∙ over)

  -- how the session ends
  going-still : turn.said ≡ None → AreGoing words count log
  going-still silent =
      subst (λ (said : Option Exchange). AreGoing words count (log_then way.log said)) (sym silent) way.going

  stop-seen : (one : Exchange) → turn.said ≡ Some one → stopped ≡ true → (tale_of one.at.journal).ended ≡ true
  stop-seen one is stop =
      let exchange : IsExchange words count before after one =
      subst (IsSaidIn words count before after) is turn.is_said in
      ap (λ (s : Sights). (tale_of s.journal).ended) exchange.at ∙ stop

  ends-so : (by : SessionEnd) → IsSo by → EndsBy words count by log
  ends-so ends.Ended is = going-still is.0
  ends-so ends.LinkRead is = going-still is.0
  ends-so ends.Closed is = record {
    before = way.log;
    last = is.0;
    log_is = ap (log_then way.log) is.1;
    going = way.going;
    is = (is.4, stop-seen is.0 is.1 is.5);
  }
  ends-so ends.Quit is = record {
    before = way.log;
    last = is.0;
    log_is = ap (log_then way.log) is.1;
    going = way.going;
    is =
        ap (λ (s : Standing). is_quit (meaning_said words s.speaker is.0.answered)) (sym way.talk.stands) ∙ is.3;
  }
  ends-so ends.LinkWrite is = record {
    before = way.log;
    last = is.0;
    log_is = ap (log_then way.log) is.1;
    going = way.going;
    is = tt;
  }
  ends-so ends.NoMemory is = absurd is

  -- which lines were handled
  all-lines : is_line_held (waiting before.inbox) ≡ false → bytes_taken turn.taking ≡ [] → is_end turn.taking ≡ false
      → lines_said turn.said ≡ [] → lines_in log ≡ lines_taken after.inbox.ended bytes
  all-lines none no_bytes no_end no_lines =
      sym (lines-then way.log turn.said)
      ∙ (ap (λ (l : List (Option (List ℕ))). lines_in way.log ++ l) no_lines
      ∙ (append-nil (lines_in way.log)
      ∙ (heard-all before.inbox.ended way.bytes (waiting before.inbox) (lines_in way.log) none way.heard
      ∙ (λ i. lines_taken
      (sym (turn.ended ∙ (ap (λ (b : Bool). before.inbox.ended || b) no_end ∙ or-false before.inbox.ended)) i)
      (sym (ap (λ (l : List ℕ). way.bytes ++ l) no_bytes ∙ append-nil way.bytes) i)))))

  lines-so : (by : SessionEnd) → IsSo by → AreLinesOf after.inbox.ended by bytes (lines_in log)
  lines-so ends.Ended is =
      let at_end : after.inbox.ended ≡ true = turn.ended ∙ is.1 in
      let heard : AreHeard true bytes (lines_in log) (waiting after.inbox) =
      subst (λ (b : Bool). AreHeard b bytes (lines_in log) (waiting after.inbox)) at_end behind.heard in
      sym heard.0 ∙ ap (λ (b : Bool). lines_taken b bytes) (sym at_end)
  lines-so ends.LinkRead is =
      all-lines
      (open-failed (is_line_held (waiting before.inbox)) before.inbox.ended
      (subst (MayTake (is_line_held (waiting before.inbox)) before.inbox.ended) is.1 turn.take))
      (ap bytes_taken is.1) (ap is_end is.1) (ap lines_said is.0)
  lines-so ends.Closed is =
      all-lines
      (open-idle (is_line_held (waiting before.inbox)) before.inbox.ended
      (subst (MayTake (is_line_held (waiting before.inbox)) before.inbox.ended) is.3 turn.take))
      (ap bytes_taken is.3) (ap is_end is.3) (ap lines_said is.1 ∙ no-line-answered is.0.answered is.4)
  lines-so ends.Quit is = heard-first after.inbox.ended bytes (waiting after.inbox) (lines_in log) behind.heard
  lines-so ends.LinkWrite is = heard-first after.inbox.ended bytes (waiting after.inbox) (lines_in log) behind.heard
  lines-so ends.NoMemory is = absurd is

  -- what was put
  put-silent : (more : List ℕ) → turn.said ≡ None → IsPut turn.cut (text_said count turn.said) more
      → text_in count way.log ++ more ≡ text_in count log
  put-silent more silent put =
      put-whole count way.log turn.said more
      (put-none count turn.cut more
      (subst (λ (said : Option Exchange). IsPut turn.cut (text_said count said) more) silent put)
      ∙ ap (text_said count) (sym silent))

  put-uncut : (more : List ℕ) → turn.cut ≡ false → IsPut turn.cut (text_said count turn.said) more
      → text_in count way.log ++ more ≡ text_in count log
  put-uncut more uncut put =
      put-whole count way.log turn.said more
      (subst (λ (b : Bool). IsPut b (text_said count turn.said) more) uncut put)

  put-so : (by : SessionEnd) (more : List ℕ) → IsSo by → IsPut turn.cut (text_said count turn.said) more
      → IsPutAll count (is_cut by) log (text_in count way.log ++ more)
  put-so ends.Ended more is put = put-silent more is.0 put
  put-so ends.LinkRead more is put = put-silent more is.0 put
  put-so ends.Closed more is put = put-uncut more is.2 put
  put-so ends.Quit more is put = put-uncut more is.2 put
  put-so ends.LinkWrite more is put = (
    way.log,
    is.0,
    more,
    ap (log_then way.log) is.1,
    subst (λ (x : Bool × Option Exchange). IsPut x.0 (text_said count x.1) more) (λ i. (is.2 i, is.1 i)) put,
    refl,
  )
  put-so ends.NoMemory more is put = absurd is

  -- What the session was.
  pub served : faults first ≤ faults now → (is_fault step ≡ true → Rose (faults now) (faults last))
      → IsServed told_by faults words count end first last start after.desk
  served later cause = record {
    log = log;
    served = record {
      later = later-self (sights start);
      moments = behind.talk.moments;
      earlier =
          subst (λ (s : Sights). AreLater s (sights after.desk)) (sym behind.talk.seen)
          (later-self (sights after.desk));
      ends_by = ends-so end so;
      spoken =
          IfSome_then (told_by first) behind.told
          (λ t found. (
            told_behind bytes (text_in count way.log ++ found.0) log after.inbox.ended t,
            found.2,
            record {
              ended = after.inbox.ended;
              gave_end = refl;
              at_end = λ is. let at = subst IsSo is so in turn.ended ∙ at.1;
              bytes = bytes;
              given = refl;
              lines = lines-so end so;
              bytes_put = text_in count way.log ++ found.0;
              put = refl;
              said = put-so end found.0 so found.1;
              idles = refl;
            },
          ));
      untouched = λ is. absurd (subst IsSo is so);
      cause = λ is.
          rose-since (faults first) (faults now) (faults last) later
          (cause (ap is_fault (step-over step end over) ∙ fault-over end is));
    };
    seen = behind.talk.seen;
    moved = behind.talk.moved;
  }
