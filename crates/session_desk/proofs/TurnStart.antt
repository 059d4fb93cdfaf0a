-- A turn begins as a line is looked for among the bytes that wait.
use Rattle.std.proofs.Common.{◌≡◌, ◌∙◌, refl, sym, ap, subst, ℕ, ◌<◌, Bool, true, false, List, [], ◌∷◌, ◌++◌, Option, Some, None, length, append-nil, arith}
use Rattle.std.specs.Prelude.{◌||◌, option_map}
use Rattle.std.specs.List.{list_any}
use Rattle.floor_text.specs.Lines.{HasNoFeed, is_line_feed, lines_of_bytes}
use Rattle.floor_text.proofs.CutLines.{lines_of_bytes-last, lines_of_bytes-nil}
use Rattle.plan_files.specs.Words.{WordTerms}
use Rattle.links.specs.Telling.{Telling}
use Rattle.history_lock.specs.Passes.{seen}
use Rattle.dock_rules.specs.Journals.{tale_of}
use Rattle.session_lines.specs.declared.hello.Speaker.{Speaker}
use Rattle.session_desk.specs.declared.session.Session.{Session}
use Rattle.session_desk.specs.declared.session.Step.{Step}
use Rattle.session_desk.specs.Exchanges.{Exchange, line_answered}
use Rattle.session_desk.specs.Inboxes.{is_line_held, waiting}
use Rattle.session_desk.specs.Telling.{reach_of}
use Rattle.session_desk.specs.Turns.{AreHandled, HasSaid, IsSaidIn, IsTurn, MaySay, MayTake, Taking, failed, is_end, is_answer, step_of, took_bytes, took_end, took_idle, took_nothing}
use Rattle.session_desk.proofs.TakenTurns.{said-told}

-- Where no line feed is begun and nothing is unread, no line is held.
pub none-held : (begun unread : List ℕ) → HasNoFeed begun → unread ≡ [] → is_line_held (begun ++ unread) ≡ false
none-held begun unread none empty =
    ap (λ (rest : List ℕ). list_any is_line_feed (begun ++ rest)) empty
    ∙ (ap (list_any is_line_feed) (append-nil begun) ∙ none)

-- bytes without a line that are the lines of no byte are none
empty-alike : (bytes : List ℕ) → HasNoFeed bytes → lines_of_bytes [] ≡ lines_of_bytes bytes → bytes ≡ []
empty-alike [] none same = refl
empty-alike (byte ∷ bytes) none same =
    let some : 0 < length (byte ∷ bytes) = omega arith in
    let one = lines_of_bytes-last (byte ∷ bytes) none some in
    let never = sym lines_of_bytes-nil ∙ (same ∙ one) in absurd (cc (never))

-- What may be said goes by whether bytes are left, and not by which.
say-from : (one other : List ℕ) (taking : Taking) (said : Option Exchange) → HasNoFeed one → HasNoFeed other
    → lines_of_bytes one ≡ lines_of_bytes other → MaySay false other taking said → MaySay false one taking said
say-from [] [] taking said none none_then same say = say
say-from [] (byte ∷ bytes) taking said none none_then same say =
    absurd (let never = empty-alike (byte ∷ bytes) none_then same in cc (never))
say-from (byte ∷ bytes) [] taking said none none_then same say =
    absurd (let never = empty-alike (byte ∷ bytes) none (sym same) in cc (never))
say-from (byte ∷ bytes) (other ∷ others) took_nothing said none none_then same say = say
say-from (byte ∷ bytes) (other ∷ others) (took_bytes taken) said none none_then same say = say
say-from (byte ∷ bytes) (other ∷ others) took_idle said none none_then same say = say
say-from (byte ∷ bytes) (other ∷ others) took_end said none none_then same say = say
say-from (byte ∷ bytes) (other ∷ others) failed said none none_then same say = say

-- The lines of bytes that go on alike are handled alike.
handled-from : (one other after : List ℕ) (taking : Taking) (lines : List (Option (List ℕ)))
    → ((rest : List ℕ) → lines_of_bytes (one ++ rest) ≡ lines_of_bytes (other ++ rest))
    → AreHandled taking other lines after → AreHandled taking one lines after
handled-from one other after took_nothing lines same handled = λ rest. same rest ∙ handled rest
handled-from one other after (took_bytes bytes) lines same handled = λ rest. same (bytes ++ rest) ∙ handled rest
handled-from one other after took_idle lines same handled = λ rest. same rest ∙ handled rest
handled-from one other after took_end lines same handled = (
  ap lines_of_bytes (sym (append-nil one)) ∙ (same [] ∙ (ap lines_of_bytes (append-nil other)
      ∙ handled.0)),
  handled.1,
)
handled-from one other after failed lines same handled = λ rest. same rest ∙ handled rest

-- What was said from a session on was said from one with the same desk and client.
said-from : (words : WordTerms) (count : ℕ) (before mid after : Session) (said : Option Exchange)
    → mid.desk ≡ before.desk → mid.told ≡ before.told → IsSaidIn words count mid after said
    → IsSaidIn words count before after said
said-from words count before mid after None desk told quiet =
    record { desk = quiet.desk ∙ desk; told = quiet.told ∙ ap reach_of told }
said-from words count before mid after (Some said) desk told exchange = record {
  at = exchange.at;
  right = rw (← desk, ← told) exchange.right;
  moved = rw (← desk, ← told) exchange.moved;
  middle = exchange.middle;
  news = rw (← told) exchange.news;
  changed = rw (← told) exchange.changed;
}

-- A turn that begins behind the looking for a line, which found none, begins before it.
pub turn-from : {L : Type 0} (told_by : L → Option Telling) (words : WordTerms) (count : ℕ) (first last : L)
    (before mid after : Session) (step : Step) → mid.desk ≡ before.desk → mid.told ≡ before.told
    → mid.inbox.ended ≡ before.inbox.ended → is_line_held (waiting before.inbox) ≡ false
    → is_line_held (waiting mid.inbox) ≡ false
    → ((rest : List ℕ) → lines_of_bytes (waiting before.inbox ++ rest) ≡ lines_of_bytes (waiting mid.inbox ++ rest))
    → IsTurn told_by words count first last mid after step → IsTurn told_by words count first last before after step
turn-from told_by words count first last before mid after step desk told ended held held_then same turn =
    let lines : lines_of_bytes (waiting before.inbox) ≡ lines_of_bytes (waiting mid.inbox) =
    ap lines_of_bytes (sym (append-nil (waiting before.inbox)))
    ∙ (same [] ∙ ap lines_of_bytes (append-nil (waiting mid.inbox))) in
    record {
      taking = turn.taking;
      said = turn.said;
      cut = turn.cut;
      take = subst (λ (b : Bool × Bool). MayTake b.0 b.1 turn.taking) (λ i. (
        (held_then
            ∙ sym held) i,
        ended i,
      )) turn.take;
      say = subst (λ (b : Bool). MaySay b (waiting before.inbox) turn.taking turn.said) (sym held)
          (say-from (waiting before.inbox) (waiting mid.inbox) turn.taking turn.said held held_then lines
          (subst (λ (b : Bool). MaySay b (waiting mid.inbox) turn.taking turn.said) held_then turn.say));
      handled = handled-from (waiting before.inbox) (waiting mid.inbox) (waiting after.inbox) turn.taking _ same
          turn.handled;
      ended = turn.ended ∙ ap (λ (e : Bool). e || is_end turn.taking) ended;
      is_said = said-from words count before mid after turn.said desk told turn.is_said;
      told = turn.told;
      step_is =
          turn.step_is
          ∙ ap (λ (speaker : Option Speaker).
          step_of words speaker (tale_of (seen after.desk.book)).ended turn.cut turn.taking turn.said)
          (ap (λ client. client.speaker) told);
    }

-- what a link tells is what it tells
with-itself : (told : Option Telling) → told ≡ option_map (λ t. t) told
with-itself None = refl
with-itself (Some t) = refl

-- a test beside one that does not hold
or-false : (so : Bool) → so ≡ (so || false)
or-false true = refl
or-false false = refl

-- an exchange with a line is an answer
line-is-answer : (said : Exchange) (line : Option (List ℕ)) → line_answered said.answered ≡ line ∷ []
    → (left : List ℕ) → MaySay true left took_nothing (Some said)
line-is-answer said line is left = by_answer said.answered is left
  where
    by_answer : (answered : Option _) → line_answered answered ≡ line ∷ [] → (left : List ℕ)
        → is_answer (Some record said { answered = answered }) ≡ true
    by_answer None none left = absurd (cc (none))
    by_answer (Some one) some left = refl

-- nothing is taken where a line is held
nothing-taken : (ended : Bool) → MayTake true ended took_nothing
nothing-taken true = tt
nothing-taken false = tt

-- A line that was held was handled.
pub line-turn : {L : Type 0} (told_by : L → Option Telling) (words : WordTerms) (count : ℕ) (first last : L)
    (line : Option (List ℕ)) (before after : Session) (step : Step) → is_line_held (waiting before.inbox) ≡ true
    → ((rest : List ℕ) → lines_of_bytes (waiting before.inbox ++ rest)
    ≡ line ∷ lines_of_bytes (waiting after.inbox ++ rest))
    → after.inbox.ended ≡ before.inbox.ended
    → HasSaid words count (line ∷ []) took_nothing (told_by first) (told_by last) before after step
    → IsTurn told_by words count first last before after step
line-turn told_by words count first last line before after step held lines ended said = record {
  taking = took_nothing;
  said = Some said.said;
  cut = said.cut;
  take = rw held (nothing-taken before.inbox.ended);
  say = rw held (line-is-answer said.said line said.lines_are (waiting before.inbox));
  handled = λ rest.
      lines rest
      ∙ ap (λ (handled : List (Option (List ℕ))). handled ++ lines_of_bytes (waiting after.inbox ++ rest))
      (sym said.lines_are);
  ended = ended ∙ or-false before.inbox.ended;
  is_said = said.exchange;
  told = said-told count words (line ∷ []) took_nothing took_nothing (λ t. t) (told_by first) (told_by first)
      (told_by last) before after step said (λ t. refl) (with-itself (told_by first));
  step_is = said.step_is;
}
