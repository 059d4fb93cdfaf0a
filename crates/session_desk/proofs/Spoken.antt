-- What the link of a session tells.
use Rattle.std.proofs.Common.{◌≡◌, ◌∙◌, refl, sym, ap, ℕ, Bool, true, false, List, [], ◌∷◌, ◌++◌, Option, Some, None, append-nil, append_assoc}
use Rattle.std.specs.Prelude.{◌||◌, not, is_none, is_some, if◌then◌else◌}
use Rattle.std.specs.List.{fold}
use Rattle.std.proofs.Math.Bool.{or-false, or_assoc}
use Rattle.std.proofs.Math.Seq.{take-nil}
use Rattle.std.proofs.lemmas.List.Sums.{fold-append}
use Rattle.floor_text.specs.Memory.{count_up}
use Rattle.links.specs.Telling.{Telling}
use Rattle.links.specs.Links.{with_put}
use Rattle.session_desk.specs.Exchanges.{Exchange, exchange_text, line_answered}
use Rattle.session_desk.specs.Talks.{idles_after, lines_in, text_in}
use Rattle.session_desk.specs.Turns.{IsPut, MaySay, Taking, bytes_taken, is_answer, is_end, lines_said, text_said, told_taking, took_bytes, took_end, took_idle, took_nothing}
use Rattle.session_desk.proofs.Longer.{flat-more}
use Rattle.session_desk.proofs.TakenTurns.{or-true}

-- The exchanges behind a turn, which may say one.
abbrev pub log_then : List Exchange → Option Exchange → List Exchange
log_then log None = log
log_then log (Some said) = log ++ said ∷ []

-- What a link tells behind some exchanges: it gave these bytes, these were put, it gave an Idle for each exchange
-- without a line, and it may have ended.
abbrev pub told_behind : List ℕ → List ℕ → List Exchange → Bool → Telling → Telling
told_behind bytes put log ended t = record {
  given = t.given ++ bytes;
  put = t.put ++ put;
  idles = fold idles_after t.idles log;
  ended = t.ended || ended;
}

-- Behind none it tells what it told.
pub told-none : (t : Telling) → t ≡ told_behind [] [] [] false t
told-none t = λ i. record {
  given = sym (append-nil t.given) i;
  put = sym (append-nil t.put) i;
  idles = t.idles;
  ended = sym (or-false t.ended) i;
}

-- Whether an Idle was taken.
abbrev pub is_idle : Taking → Bool
is_idle took_idle = true
is_idle taking = false

-- so many Idles, and one more where one was taken
abbrev idles_more : ℕ → Bool → ℕ
idles_more idles idle = if idle then count_up idles else idles

-- whatever was taken, as one record
taken-told : (taking : Taking) (t : Telling) → told_taking taking t
    ≡ record {
      given = t.given ++ bytes_taken taking;
      put = t.put;
      idles = idles_more t.idles (is_idle taking);
      ended = t.ended || is_end taking;
    }
taken-told (took_bytes bytes) t = λ i. record {
  given = t.given ++ bytes;
  put = t.put;
  idles = t.idles;
  ended = sym (or-false t.ended) i;
}
taken-told took_idle t = λ i. record {
  given = sym (append-nil t.given) i;
  put = t.put;
  idles = count_up t.idles;
  ended = sym (or-false t.ended) i;
}
taken-told took_end t = λ i. record {
  given = sym (append-nil t.given) i;
  put = t.put;
  idles = t.idles;
  ended = sym (or-true t.ended) i;
}
taken-told taking t = λ i. record {
  given = sym (append-nil t.given) i;
  put = t.put;
  idles = t.idles;
  ended = sym (or-false t.ended) i;
}

-- An Idle was taken where nobody is answered, and else nothing is said or a line is answered.
abbrev pub IsIdleSaid : Bool → Option Exchange → Type 0
IsIdleSaid idle None = idle ≡ false
IsIdleSaid idle (Some said) = is_none said.answered ≡ idle

answer-said : (said : Option Exchange) → is_answer said ≡ true → IsIdleSaid false said
answer-said None is = absurd (cc (is))
answer-said (Some said) is = ap not is

none-said : (said : Option Exchange) → said ≡ None → IsIdleSaid false said
none-said None is = refl
none-said (Some said) is = absurd (cc (is))

idle-said : (said : Option Exchange) → (is_some said ≡ true) × (is_answer said ≡ false) → IsIdleSaid true said
idle-said None is = absurd (cc (is.0))
idle-said (Some said) is = ap not is.1

-- It is so of what a turn may say.
pub may-be-idle : (held : Bool) (left : List ℕ) (taking : Taking) (said : Option Exchange)
    → MaySay held left taking said → IsIdleSaid (is_idle taking) said
may-be-idle true left took_nothing said may = answer-said said may
may-be-idle false left took_nothing said may = none-said said may
may-be-idle true left took_idle said may = idle-said said may
may-be-idle false left took_idle said may = idle-said said may
may-be-idle true [] took_end said may = none-said said may
may-be-idle false [] took_end said may = none-said said may
may-be-idle true (byte ∷ left) took_end said may = answer-said said may
may-be-idle false (byte ∷ left) took_end said may = answer-said said may
may-be-idle true left taking said may = none-said said may
may-be-idle false left taking said may = none-said said may

-- the Idles behind a turn
idles-then : (idle : Bool) (idles : ℕ) (log : List Exchange) (said : Option Exchange) → IsIdleSaid idle said
    → idles_more (fold idles_after idles log) idle ≡ fold idles_after idles (log_then log said)
idles-then idle idles log None is = ap (idles_more (fold idles_after idles log)) is
idles-then idle idles log (Some said) is =
    ap (idles_more (fold idles_after idles log)) (sym is) ∙ sym (fold-append idles_after idles log (said ∷ []))

-- What the link tells after a turn: the bytes that were taken, and what was put of what was said.
pub told-then : (held : Bool) (left bytes put more : List ℕ) (log : List Exchange) (ended : Bool) (taking : Taking)
    (said : Option Exchange) (t : Telling) → MaySay held left taking said
    → with_put (told_taking taking (told_behind bytes put log ended t)) more
    ≡ told_behind (bytes ++ bytes_taken taking) (put ++ more) (log_then log said) (ended || is_end taking) t
told-then held left bytes put more log ended taking said t may =
    ap (λ (u : Telling). with_put u more) (taken-told taking (told_behind bytes put log ended t))
    ∙ (λ i. record {
      given = append_assoc t.given bytes (bytes_taken taking) i;
      put = append_assoc t.put put more i;
      idles = idles-then (is_idle taking) t.idles log said (may-be-idle held left taking said may) i;
      ended = or_assoc t.ended ended (is_end taking) i;
    })

-- The lines that were handled with those of a turn.
pub lines-then : (log : List Exchange) (said : Option Exchange)
    → lines_in log ++ lines_said said ≡ lines_in (log_then log said)
lines-then log None = append-nil (lines_in log)
lines-then log (Some said) = sym (flat-more (λ (e : Exchange). line_answered e.answered) log said)

-- All that was said was put, where the last put was not cut.
pub put-whole : (count : ℕ) (log : List Exchange) (said : Option Exchange) (more : List ℕ)
    → more ≡ text_said count said → text_in count log ++ more ≡ text_in count (log_then log said)
put-whole count log None more is =
    ap (λ (l : List ℕ). text_in count log ++ l) is ∙ append-nil (text_in count log)
put-whole count log (Some said) more is =
    ap (λ (l : List ℕ). text_in count log ++ l) is ∙ sym (flat-more (exchange_text count) log said)

-- Nothing is put where nothing is said.
pub put-none : (count : ℕ) (cut : Bool) (more : List ℕ) → IsPut cut (text_said count None) more
    → more ≡ text_said count None
put-none count false more is = is
put-none count true more is = is.1 ∙ take-nil is.0
