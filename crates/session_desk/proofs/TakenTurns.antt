-- What was taken from a link is handled in a turn.
use Rattle.std.proofs.Common.{◌≡◌, ◌∙◌, refl, sym, ap, subst, ℕ, ◌<◌, Bool, true, false, List, [], ◌∷◌, ◌++◌, Option, Some, None, length, append-nil, append_assoc, arith}
use Rattle.std.specs.Prelude.{◌||◌, IfSome, is_some, nat_lt, option_map}
use Rattle.std.proofs.lemmas.Bool.Decides.{nat_tests}
use Rattle.std.proofs.lemmas.Option.{same_Some}
use Rattle.floor_text.specs.declared.line_cutter.Cut.{Cut}
use Rattle.floor_text.specs.declared.line_cutter.Cut.TheVariants.{Line, TooLong}
use Rattle.floor_text.specs.LineCutter.{lines_of_cut}
use Rattle.floor_text.specs.Lines.{lines_of_bytes}
use Rattle.plan_files.specs.Words.{WordTerms}
use Rattle.links.specs.Telling.{Telling}
use Rattle.links.specs.Links.{with_put}
use Rattle.session_desk.specs.declared.session.Session.{Session}
use Rattle.session_desk.specs.declared.session.SessionEnd.TheVariants as ends
use Rattle.session_desk.specs.declared.session.Step.{Step}
use Rattle.session_desk.specs.declared.session.Step.TheVariants.{Over, Took}
use Rattle.session_desk.specs.Exchanges.{Answered, Exchange, line_answered}
use Rattle.session_desk.specs.Inboxes.{is_line_held, line_of_cut, waiting}
use Rattle.session_desk.specs.Telling.{reach_of}
use Rattle.session_desk.specs.Turns.{HasPut, HasSaid, HasTold, IsTurn, MaySay, Taking, bytes_taken, took_bytes, took_end, took_idle, took_nothing, told_taking}

-- nothing was put
with-none : (t : Telling) → t ≡ with_put t []
with-none t = ap (λ (put : List ℕ). let u : Telling = record t { put = put } in u) (sym (append-nil t.put))

-- what a link tells that was taken from, where nothing was said
quiet-told : (count : ℕ) (taking : Taking) (after : Telling → Telling) (first last : Option Telling)
    → ((t : Telling) → after t ≡ told_taking taking t) → last ≡ option_map after first
    → IfSome first (λ t. (u : Telling) × (last ≡ Some u) × HasTold count taking None false t u)
quiet-told count taking after None last same told = tt
quiet-told count taking after (Some t) last same told =
    (after t, told, record { put = []; is_put = refl; told = same t ∙ with-none (told_taking taking t) })

-- what is so of what a link tells, at a value of it
at-some : (mid : Option Telling) (t : Telling) (last : Option Telling) (count : ℕ) (said : Exchange) (cut : Bool)
    → mid ≡ Some t → IfSome mid (λ x. (u : Telling) × (last ≡ Some u) × HasPut count said cut x u)
    → (u : Telling) × (last ≡ Some u) × HasPut count said cut t u
at-some None t last count said cut is told = absurd (cc (is))
at-some (Some x) t last count said cut is told =
    subst (λ (y : Telling). (u : Telling) × (last ≡ Some u) × HasPut count said cut y u) (same_Some x t is) told

-- What it tells then where something was said.
pub said-told : (count : ℕ) (words : WordTerms) (lines : List (Option (List ℕ))) (taking told_with : Taking)
    (after : Telling → Telling) (first mid last : Option Telling) (before then_ : Session) (step : Step)
    (said : HasSaid words count lines told_with mid last before then_ step)
    → ((t : Telling) → after t ≡ told_taking taking t) → mid ≡ option_map after first
    → IfSome first (λ t. (u : Telling) × (last ≡ Some u) × HasTold count taking (Some said.said) said.cut t u)
said-told count words lines taking told_with after None mid last before then_ step said same told = tt
said-told count words lines taking told_with after (Some t) mid last before then_ step said same told =
    let found = at-some mid (after t) last count said.said said.cut told said.told in
    let put = found.2 in (
      found.0,
      found.1,
      record {
        put = put.put;
        is_put = put.is_put;
        told = put.told ∙ ap (λ (x : Telling). with_put x put.put) (same t);
      },
    )

-- The same bytes wait, and those that were taken.
handled-more : (begun unread after : List ℕ) (taking : Taking) → unread ≡ [] → bytes_taken taking ≡ after
    → (rest : List ℕ) → lines_of_bytes ((begun ++ unread) ++ (bytes_taken taking ++ rest))
    ≡ lines_of_bytes ((begun ++ after) ++ rest)
handled-more begun unread after taking none is rest =
    ap lines_of_bytes
    (ap (λ (l : List ℕ). (begun ++ l) ++ (bytes_taken taking ++ rest)) none
    ∙ (ap (λ (l : List ℕ). l ++ (bytes_taken taking ++ rest)) (append-nil begun)
    ∙ (ap (λ (l : List ℕ). begun ++ (l ++ rest)) is ∙ sym (append_assoc begun after rest))))

-- nothing is said where bytes were taken
may-say-bytes : (held : Bool) (left bytes : List ℕ) → MaySay held left (took_bytes bytes) None
may-say-bytes true [] bytes = refl
may-say-bytes true (byte ∷ left) bytes = refl
may-say-bytes false [] bytes = refl
may-say-bytes false (byte ∷ left) bytes = refl

-- no line is answered where none is
none-answered : (answered : Option Answered) → line_answered answered ≡ [] → answered ≡ None
none-answered None is = refl
none-answered (Some one) is = absurd (cc (is))

-- the news alone are told where the link was idle
may-say-idle : (held : Bool) (left : List ℕ) (said : Exchange) → said.answered ≡ None
    → MaySay held left took_idle (Some said)
may-say-idle true [] said none = (refl, ap is_some none)
may-say-idle true (byte ∷ left) said none = (refl, ap is_some none)
may-say-idle false [] said none = (refl, ap is_some none)
may-say-idle false (byte ∷ left) said none = (refl, ap is_some none)

-- Bytes were taken, and nothing was said.
pub bytes-turn : {L : Type 0} (told_by : L → Option Telling) (words : WordTerms) (count : ℕ) (first last : L)
    (before after : Session) (bytes : List ℕ) (gave : Telling → Telling) → before.inbox.ended ≡ false
    → is_line_held (waiting before.inbox) ≡ false → before.inbox.unread ≡ [] → 0 < length bytes
    → after.inbox.begun ≡ before.inbox.begun → after.inbox.unread ≡ bytes → after.inbox.ended ≡ false
    → ((t : Telling) → gave t ≡ told_taking (took_bytes bytes) t)
    → told_by last ≡ option_map gave (told_by first) → after.desk ≡ before.desk
    → reach_of after.told ≡ reach_of before.told → IsTurn told_by words count first last before after Took
bytes-turn told_by words count first last before after bytes gave going none unread some begun now going_on same told
    desk
    reach = record {
      taking = took_bytes bytes;
      said = None;
      cut = false;
      take = rw (none, going) some;
      say = may-say-bytes (is_line_held (waiting before.inbox)) (waiting before.inbox) bytes;
      handled = λ rest.
          handled-more before.inbox.begun before.inbox.unread bytes (took_bytes bytes) unread refl rest
          ∙ ap (λ (l : List ℕ). lines_of_bytes (l ++ rest)) (λ i. sym begun i ++ sym now i);
      ended = going_on ∙ sym (ap (λ (e : Bool). e || false) going);
      is_said = record { desk = desk; told = reach };
      told = quiet-told count (took_bytes bytes) gave (told_by first) (told_by last) same told;
      step_is = refl;
    }

-- The link was idle, and the news were told.
pub idle-turn : {L : Type 0} (told_by : L → Option Telling) (words : WordTerms) (count : ℕ) (first last : L)
    (mid : Option Telling) (before after : Session) (step : Step) (gave : Telling → Telling)
    → before.inbox.ended ≡ false → is_line_held (waiting before.inbox) ≡ false → before.inbox.unread ≡ []
    → after.inbox.begun ≡ before.inbox.begun → after.inbox.unread ≡ [] → after.inbox.ended ≡ false
    → ((t : Telling) → gave t ≡ told_taking took_idle t) → mid ≡ option_map gave (told_by first)
    → HasSaid words count [] took_idle mid (told_by last) before after step
    → IsTurn told_by words count first last before after step
idle-turn told_by words count first last mid before after step gave going none unread begun now going_on same told
    said = record {
      taking = took_idle;
      said = Some said.said;
      cut = said.cut;
      take = rw (none, going) tt;
      say = may-say-idle (is_line_held (waiting before.inbox)) (waiting before.inbox) said.said
          (none-answered said.said.answered said.lines_are);
      handled = λ rest.
          handled-more before.inbox.begun before.inbox.unread [] took_idle unread refl rest
          ∙ (ap (λ (l : List ℕ). lines_of_bytes (l ++ rest)) (λ i. sym begun i ++ sym now i)
          ∙ ap (λ (lines : List (Option (List ℕ))). lines ++ lines_of_bytes (waiting after.inbox ++ rest))
          (sym said.lines_are));
      ended = going_on ∙ sym (ap (λ (e : Bool). e || false) going);
      is_said = said.exchange;
      told = said-told count words [] took_idle took_idle gave (told_by first) mid (told_by last) before after step said
          same told;
      step_is = said.step_is;
    }

-- A test beside one that holds.
pub or-true : (so : Bool) → (so || true) ≡ true
or-true true = refl
or-true false = refl

-- nothing is said at the end where no byte waits
may-say-end : (held : Bool) (left : List ℕ) → left ≡ [] → MaySay held left took_end None
may-say-end true [] none = refl
may-say-end false [] none = refl
may-say-end held (byte ∷ left) none = absurd (cc (none))

-- an exchange with a line is an answer
one-answered : (answered : Option Answered) (line : Option (List ℕ)) → line_answered answered ≡ line ∷ []
    → is_some answered ≡ true
one-answered None line is = absurd (cc (is))
one-answered (Some one) line is = refl

-- and a line is answered where one does
may-say-last : (held : Bool) (left : List ℕ) (said : Exchange) (line : Option (List ℕ)) → 0 < length left
    → line_answered said.answered ≡ line ∷ [] → MaySay held left took_end (Some said)
may-say-last held [] said line some is = absurd (omega (arith, some))
may-say-last true (byte ∷ left) said line some is = one-answered said.answered line is
may-say-last false (byte ∷ left) said line some is = one-answered said.answered line is

-- The link ended, and no line was left.
pub end-turn : {L : Type 0} (told_by : L → Option Telling) (words : WordTerms) (count : ℕ) (first last : L)
    (before after : Session) (gave : Telling → Telling) → before.inbox.ended ≡ false
    → is_line_held (waiting before.inbox) ≡ false → waiting before.inbox ≡ []
    → lines_of_bytes (waiting before.inbox) ≡ [] → waiting after.inbox ≡ [] → after.inbox.ended ≡ true
    → ((t : Telling) → gave t ≡ told_taking took_end t) → told_by last ≡ option_map gave (told_by first)
    → after.desk ≡ before.desk → reach_of after.told ≡ reach_of before.told
    → IsTurn told_by words count first last before after (Over ends.Ended)
end-turn told_by words count first last before after gave going none empty lines now ended same told desk reach =
    record {
      taking = took_end;
      said = None;
      cut = false;
      take = rw (none, going) tt;
      say = may-say-end (is_line_held (waiting before.inbox)) (waiting before.inbox) empty;
      handled = (lines, now);
      ended = ended ∙ sym (or-true before.inbox.ended);
      is_said = record { desk = desk; told = reach };
      told = quiet-told count took_end gave (told_by first) (told_by last) same told;
      step_is = refl;
    }

-- The link ended, and the last line was handled.
pub last-turn : {L : Type 0} (told_by : L → Option Telling) (words : WordTerms) (count : ℕ) (first last : L)
    (mid : Option Telling) (line : Option (List ℕ)) (before after : Session) (step : Step)
    (gave : Telling → Telling) → before.inbox.ended ≡ false → is_line_held (waiting before.inbox) ≡ false
    → 0 < length (waiting before.inbox) → lines_of_bytes (waiting before.inbox) ≡ line ∷ []
    → waiting after.inbox ≡ [] → after.inbox.ended ≡ true → ((t : Telling) → gave t ≡ told_taking took_end t)
    → mid ≡ option_map gave (told_by first)
    → HasSaid words count (line ∷ []) took_nothing mid (told_by last) before after step
    → IsTurn told_by words count first last before after step
last-turn told_by words count first last mid line before after step gave going none some lines now ended same told
    said = record {
      taking = took_end;
      said = Some said.said;
      cut = said.cut;
      take = rw (none, going) tt;
      say = may-say-last (is_line_held (waiting before.inbox))
          (waiting before.inbox) said.said line some said.lines_are;
      handled = (lines ∙ sym said.lines_are, now);
      ended = ended ∙ sym (or-true before.inbox.ended);
      is_said = said.exchange;
      told = said-told count words (line ∷ []) took_end took_nothing gave (told_by first) mid
          (told_by last) before after
          step said same told;
      step_is = said.step_is;
    }

-- What was said from a session on was said from one with the same desk and client.
pub same-said : (words : WordTerms) (count : ℕ) (lines : List (Option (List ℕ))) (taking : Taking)
    (first last : Option Telling) (before mid after : Session) (step : Step) → mid.desk ≡ before.desk
    → mid.told ≡ before.told → HasSaid words count lines taking first last mid after step
    → HasSaid words count lines taking first last before after step
same-said words count lines taking first last before mid after step desk told said = record {
  said = said.said;
  cut = said.cut;
  lines_are = said.lines_are;
  exchange = record {
    at = said.exchange.at;
    right = rw (← desk, ← told) said.exchange.right;
    moved = rw (← desk, ← told) said.exchange.moved;
    middle = said.exchange.middle;
    news = rw (← told) said.exchange.news;
    changed = rw (← told) said.exchange.changed;
  };
  told = said.told;
  step_is = rw (← told) said.step_is;
}

-- A cut hands out its line.
pub one-line : (cut : Cut) (line : List ℕ) → lines_of_cut (Some cut) line ≡ line_of_cut cut line ∷ []
one-line Line line = refl
one-line TooLong line = refl

-- What waits is what waited, where nothing is unread before and after.
pub same-waiting : (begun unread begun_then unread_then : List ℕ) → begun_then ≡ begun → unread ≡ []
    → unread_then ≡ [] → begun ++ unread ≡ begun_then ++ unread_then
same-waiting begun unread begun_then unread_then same none none_then = λ i. sym same i ++ (none ∙ sym none_then) i

-- where it is not so that a byte waits, none does
pub none-waits : (bytes : List ℕ) → false ≡ nat_lt 0 (length bytes) → bytes ≡ []
none-waits [] is = refl
none-waits (byte ∷ bytes) is = absurd (grind (arith, nat_tests))

pub some-waits : (bytes : List ℕ) → true ≡ nat_lt 0 (length bytes) → 0 < length bytes
some-waits bytes is = grind (arith, nat_tests)
