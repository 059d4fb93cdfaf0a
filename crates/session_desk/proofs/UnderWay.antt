-- A session under way, and a turn of it.
use Rattle.std.proofs.Common.{◌≡◌, ◌∙◌, refl, sym, ap, subst, ℕ, Bool, true, false, List, [], ◌++◌, Option, Some, None, length}
use Rattle.std.specs.Prelude.{IfSome, is_none, if◌then◌else◌}
use Rattle.std.proofs.lemmas.Option.{IfSome_then}
use Rattle.plan_files.specs.Words.{WordTerms}
use Rattle.links.specs.Telling.{Telling}
use Rattle.session_lines.specs.declared.hello.Speaker.{Speaker}
use Rattle.session_desk.specs.declared.desk.Desk.{Desk}
use Rattle.session_desk.specs.declared.session.Session.{Session}
use Rattle.session_desk.specs.declared.session.SessionEnd.TheVariants as ends
use Rattle.session_desk.specs.declared.session.Step.{Step}
use Rattle.session_desk.specs.declared.session.Step.TheVariants.{Over, Replied}
use Rattle.session_desk.specs.Exchanges.{Answered, Exchange, exchange_text}
use Rattle.session_desk.specs.Inboxes.{is_line_held, waiting}
use Rattle.session_desk.specs.Standings.{Standing, first_standing, is_quit, meaning_said}
use Rattle.session_desk.specs.Talks.{AreGoing, lines_in, text_in}
use Rattle.session_desk.specs.Telling.{first_reach, reach_of}
use Rattle.session_desk.specs.Turns.{HasTold, IsPut, IsSaidIn, IsTurn, MaySay, Taking, bytes_taken, end_after, lines_said, step_of, text_said, took_idle}
use Rattle.session_desk.proofs.Heard.{AreHeard, heard-on}
use Rattle.session_desk.proofs.Longer.{going-more}
use Rattle.session_desk.proofs.Rows.{if-some}
use Rattle.session_desk.proofs.Spoken.{lines-then, log_then, may-be-idle, put-none, put-whole, told-none, told-then, told_behind}
use Rattle.session_desk.proofs.Talking.{IsTalk, talk-more, talk-none, talk-quiet}

-- A session under way: what was said since its start, none of it its end, what was handled of the bytes that were
-- taken, and what its link tells then.
pub record IsUnderWay {L : Type 0} (told_by : L → Option Telling) (words : WordTerms) (count : ℕ) (first now : L)
    (start : Desk) (session : Session) : Type 0 where
  pub log : List Exchange
  pub bytes : List ℕ
  pub talk : IsTalk words count start log session.desk (reach_of session.told)
  pub going : AreGoing words count log
  pub heard : AreHeard session.inbox.ended bytes (lines_in log) (waiting session.inbox)
  pub told : IfSome (told_by first)
      (λ t. told_by now ≡ Some (told_behind bytes (text_in count log) log session.inbox.ended t))

-- A session that begins.
pub begins : {L : Type 0} (told_by : L → Option Telling) (words : WordTerms) (count tables : ℕ) (first : L)
    (session : Session) → reach_of session.told ≡ first_reach tables → waiting session.inbox ≡ []
    → session.inbox.ended ≡ false → IsUnderWay told_by words count first first session.desk session
begins told_by words count tables first session told none going = record {
  log = [];
  bytes = [];
  talk =
      subst (IsTalk words count session.desk [] session.desk) (sym told)
      (talk-none words count tables session.desk);
  going = tt;
  heard = subst (λ (x : Bool × List ℕ). AreHeard x.0 [] [] x.1) (λ i. (sym going i, sym none i)) (λ rest. refl);
  told =
      if-some (told_by first) (λ t. told_by first ≡ Some (told_behind [] [] [] session.inbox.ended t))
      (λ t is.
      is
      ∙ ap (λ (u : Telling). Some u) (told-none t ∙ ap (λ (b : Bool). told_behind [] [] [] b t) (sym going)));
}

-- What a turn leaves: what was said with what it said, what was handled, and what was put of that.
pub record HasTurned {L : Type 0} (told_by : L → Option Telling) (words : WordTerms) (count : ℕ) (first last : L)
    (start : Desk) (log : List Exchange) (bytes : List ℕ) (said : Option Exchange) (cut : Bool) (session : Session)
    : Type 0 where
  pub talk : IsTalk words count start (log_then log said) session.desk (reach_of session.told)
  pub heard : AreHeard session.inbox.ended bytes (lines_in (log_then log said)) (waiting session.inbox)
  pub told : IfSome (told_by first) (λ t. (more : List ℕ) × IsPut cut (text_said count said) more
      × (told_by last
      ≡ Some (told_behind bytes (text_in count log ++ more) (log_then log said) session.inbox.ended t)))

-- an Idle is no quit
idle-stays : (words : WordTerms) (speaker : Option Speaker) (answered : Option Answered) → is_none answered ≡ true
    → is_quit (meaning_said words speaker answered) ≡ false
idle-stays words speaker None none = refl
idle-stays words speaker (Some answered) none = absurd (cc (none))

-- and a line that is followed by another turn is none
line-stays : (quits : Bool) → end_after (if quits then Over ends.Quit else Replied) ≡ None → quits ≡ false
line-stays true stays = absurd (cc (stays))
line-stays false stays = refl

-- nothing was said, or it was put whole and is no quit
abbrev IsGoingOn : WordTerms → Option Speaker → Bool → Option Exchange → Type 0
IsGoingOn words speaker cut None = Unit {0}
IsGoingOn words speaker cut (Some said) =
    (cut ≡ false) × (is_quit (meaning_said words speaker said.answered) ≡ false)

going-on : (words : WordTerms) (speaker : Option Speaker) (stopped held : Bool) (left : List ℕ) (taking : Taking)
    (cut : Bool) (said : Option Exchange) → MaySay held left taking said
    → end_after (step_of words speaker stopped cut taking said) ≡ None → IsGoingOn words speaker cut said
going-on words speaker stopped held left taking cut None may stays = tt
going-on words speaker stopped held left taking true (Some said) may stays = absurd (cc (stays))
going-on words speaker stopped held left took_idle false (Some said) may stays =
    (refl, idle-stays words speaker said.answered (may-be-idle held left took_idle (Some said) may))
going-on words speaker stopped held left taking false (Some said) may stays =
    (refl, line-stays (is_quit (meaning_said words speaker said.answered)) stays)

-- A turn of a session under way.
module _ {L : Type 0} (told_by : L → Option Telling) (words : WordTerms) (count : ℕ) (first now last : L)
    (start : Desk) (before after : Session) (step : Step)
    (way : IsUnderWay told_by words count first now start before)
    (turn : IsTurn told_by words count now last before after step)
    (counted : count ≡ length after.told.watches.items) where
  -- the bytes that were taken since the start
  abbrev bytes : List ℕ
  bytes = way.bytes ++ bytes_taken turn.taking

  -- what was said since the start
  talk-then : (said : Option Exchange) → IsSaidIn words count before after said
      → IsTalk words count start (log_then way.log said) after.desk (reach_of after.told)
  talk-then None quiet = talk-quiet words count start way.log before after way.talk quiet
  talk-then (Some said) one = talk-more words count start way.log said before after way.talk one counted

  -- what the link tells
  abbrev IsTold : Telling → Type 0
  IsTold t = (u : Telling) × (told_by last ≡ Some u) × HasTold count turn.taking turn.said turn.cut t u

  told-turn : (t : Telling)
      → told_by now ≡ Some (told_behind way.bytes (text_in count way.log) way.log before.inbox.ended t)
      → (more : List ℕ) × IsPut turn.cut (text_said count turn.said) more
      × (told_by last ≡ Some (told_behind bytes (text_in count way.log ++ more) (log_then way.log turn.said)
      after.inbox.ended t))
  told-turn t is =
      let found : IsTold (told_behind way.bytes (text_in count way.log) way.log before.inbox.ended t) =
      subst (λ (o : Option Telling). IfSome o IsTold) is turn.told in
      let put : List ℕ = found.2.put in (
        put,
        found.2.is_put,
        found.1
            ∙ ap (λ (u : Telling). Some u)
            (found.2.told
            ∙ (told-then (is_line_held (waiting before.inbox)) (waiting before.inbox) way.bytes
            (text_in count way.log) put way.log before.inbox.ended turn.taking turn.said t turn.say
            ∙ ap (λ (b : Bool). told_behind bytes (text_in count way.log ++ put) (log_then way.log turn.said) b t)
            (sym turn.ended))),
      )

  -- What it leaves.
  pub turned : HasTurned told_by words count first last start way.log bytes turn.said turn.cut after
  turned = record {
    talk = talk-then turn.said turn.is_said;
    heard =
        subst (λ (x : Bool × List (Option (List ℕ))). AreHeard x.0 bytes x.1 (waiting after.inbox))
        (λ i. (sym turn.ended i, lines-then way.log turn.said i))
        (heard-on (is_line_held (waiting before.inbox)) before.inbox.ended turn.taking way.bytes
        (waiting before.inbox) (waiting after.inbox) (lines_in way.log) (lines_said turn.said) turn.take way.heard
        turn.handled);
    told = IfSome_then (told_by first) way.told told-turn;
  }

  -- none of the exchanges ends the session
  going-then : (said : Option Exchange) → IsGoingOn words before.told.speaker turn.cut said
      → AreGoing words count (log_then way.log said)
  going-then None going = way.going
  going-then (Some said) going =
      going-more words count first_standing way.log said way.going
      (ap (λ (s : Standing). is_quit (meaning_said words s.speaker said.answered)) (sym way.talk.stands) ∙ going.1)

  -- and all that was said was put
  whole-then : (said : Option Exchange) (more : List ℕ) → IsGoingOn words before.told.speaker turn.cut said
      → IsPut turn.cut (text_said count said) more → more ≡ text_said count said
  whole-then None more going put = put-none count turn.cut more put
  whole-then (Some said) more going put =
      subst (λ (b : Bool). IsPut b (exchange_text count said) more) going.0 put

  -- The session goes on where its step does not end it.
  pub goes-on : end_after step ≡ None → IsUnderWay told_by words count first last start after
  goes-on stays =
      let going : IsGoingOn words before.told.speaker turn.cut turn.said =
      going-on words before.told.speaker _ (is_line_held (waiting before.inbox)) (waiting before.inbox) turn.taking
      turn.cut turn.said turn.say (ap end_after (sym turn.step_is) ∙ stays) in
      record {
        log = log_then way.log turn.said;
        bytes = bytes;
        talk = turned.talk;
        going = going-then turn.said going;
        heard = turned.heard;
        told =
            IfSome_then (told_by first) turned.told
            (λ t found.
            found.2
            ∙ ap (λ (put : List ℕ). Some (told_behind bytes put (log_then way.log turn.said) after.inbox.ended t))
            (put-whole count way.log turn.said found.0 (whole-then turn.said found.0 going found.1)));
      }
