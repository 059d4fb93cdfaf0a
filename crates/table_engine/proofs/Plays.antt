-- Lawful plays of a start.
use Rattle.std.proofs.Common.{◌≡◌, ◌∙◌, refl, sym, ap, subst, true, List, [], ◌∷◌, ◌++◌, None, append_assoc, append-nil}
use Rattle.std.specs.Prelude.{is_none}
use Rattle.std.proofs.lemmas.Bool.{and_parts, and_from}
use Rattle.rulebook.proofs.Found.{none-by_test}
use Rattle.table_engine.specs.declared.start.HandStart.{HandStart}
use Rattle.table_engine.specs.declared.record.ActOf.{ActOf}
use Rattle.table_engine.specs.Hands.{HandTerms}
use Rattle.table_engine.specs.Acts.{refusal_of_act, time_act}
use Rattle.table_engine.specs.Plays.{AreTimedAfter, are_lawful_after, IsLawfulPlay}

-- After any acts, others are lawful with one more where they are and the one more is refused by no check.
lawful_after-more : (start : HandStart) (before acts : List ActOf) (act : ActOf)
    → are_lawful_after start before acts ≡ true → refusal_of_act
    (record { start = start; acts = before ++ acts }) act.name act.act ≡ None
    → are_lawful_after start before (acts ++ act ∷ []) ≡ true
lawful_after-more start before [] act lawful free =
    let here : refusal_of_act (record { start = start; acts = before }) act.name act.act ≡ None =
    rw append-nil at free in
    rw here
lawful_after-more start before (first ∷ acts) act lawful free =
    let parts = and_parts (is_none (refusal_of_act (record { start = start; acts = before }) first.name first.act))
    (are_lawful_after start (before ++ first ∷ []) acts) lawful in
    let joined : (before ++ first ∷ []) ++ acts ≡ before ++ first ∷ acts = append_assoc before (first ∷ []) acts in
    and_from _ _ parts.0 (lawful_after-more start (before ++ first ∷ []) acts act parts.1 (rw joined free))

-- After any acts, others are as called with one more where they are and the one more is.
timed_after-more : (start : HandStart) (before acts : List ActOf) (act : ActOf) → AreTimedAfter start before acts
    → (act.by_time ≡ true → act ≡ time_act (record { start = start; acts = before ++ acts }))
    → AreTimedAfter start before (acts ++ act ∷ [])
timed_after-more start before [] act timed called = (rw append-nil at called, tt)
timed_after-more start before (first ∷ acts) act timed called =
    let joined : (before ++ first ∷ []) ++ acts ≡ before ++ first ∷ acts = append_assoc before (first ∷ []) acts in
    (timed.0, timed_after-more start (before ++ first ∷ []) acts act timed.1 (rw joined called))

-- Before any act a hand is a lawful play.
pub lawful_play-none : (start : HandStart) → IsLawfulPlay (record { start = start; acts = [] })
lawful_play-none start = record { acts = refl; timed = tt }

-- A lawful play is one with one more act that is refused by no check, and that is the one of a called time where it
-- came by one.
pub lawful_play-more : (hand : HandTerms) (act : ActOf) → IsLawfulPlay hand
    → refusal_of_act hand act.name act.act ≡ None → (act.by_time ≡ true → act ≡ time_act hand)
    → IsLawfulPlay (record hand { acts = hand.acts ++ act ∷ [] })
lawful_play-more hand act play free called = record {
  acts = lawful_after-more hand.start [] hand.acts act play.acts free;
  timed = timed_after-more hand.start [] hand.acts act play.timed called;
}

-- Of acts that are lawful after others, each is refused by no check on all before it.
lawful_after-each : (start : HandStart) (before front : List ActOf) (act : ActOf) (back : List ActOf)
    → are_lawful_after start before (front ++ act ∷ back) ≡ true
    → refusal_of_act (record { start = start; acts = before ++ front }) act.name act.act ≡ None
lawful_after-each start before [] act back lawful =
    let parts = and_parts (is_none (refusal_of_act (record { start = start; acts = before }) act.name act.act))
    (are_lawful_after start (before ++ act ∷ []) back) lawful in
    rw append-nil (none-by_test (refusal_of_act (record { start = start; acts = before }) act.name act.act) parts.0)
lawful_after-each start before (first ∷ front) act back lawful =
    let parts = and_parts (is_none (refusal_of_act (record { start = start; acts = before }) first.name first.act))
    (are_lawful_after start (before ++ first ∷ []) (front ++ act ∷ back)) lawful in
    let joined : (before ++ first ∷ []) ++ front ≡ before ++ first ∷ front = append_assoc before (first ∷ []) front in
    rw joined at (lawful_after-each start (before ++ first ∷ []) front act back parts.1)

-- Each act of a lawful play is refused by no check on those before it.
pub lawful_play-each : (hand : HandTerms) (front : List ActOf) (act : ActOf) (back : List ActOf) → IsLawfulPlay hand
    → hand.acts ≡ front ++ act ∷ back
    → refusal_of_act (record hand { acts = front }) act.name act.act ≡ None
lawful_play-each hand front act back play is = lawful_after-each hand.start [] front act back
    (ap (are_lawful_after hand.start []) (sym is) ∙ play.acts)

-- Of acts that are as called after others, each that came by a called time is the one that it makes there.
timed_after-each : (start : HandStart) (before front : List ActOf) (act : ActOf) (back : List ActOf)
    → AreTimedAfter start before (front ++ act ∷ back) → act.by_time ≡ true
    → act ≡ time_act (record { start = start; acts = before ++ front })
timed_after-each start before [] act back timed by_time = rw append-nil (timed.0 by_time)
timed_after-each start before (first ∷ front) act back timed by_time =
    let joined : (before ++ first ∷ []) ++ front ≡ before ++ first ∷ front = append_assoc before (first ∷ []) front in
    rw joined at (timed_after-each start (before ++ first ∷ []) front act back timed.1 by_time)

-- Each act of a lawful play that came by a called time is the one that it makes there.
pub lawful_play-timed : (hand : HandTerms) (front : List ActOf) (act : ActOf) (back : List ActOf) → IsLawfulPlay hand
    → hand.acts ≡ front ++ act ∷ back → act.by_time ≡ true → act ≡ time_act (record hand { acts = front })
lawful_play-timed hand front act back play is by_time = timed_after-each hand.start [] front act back
    (subst (λ (acts : List ActOf). AreTimedAfter hand.start [] acts) is play.timed) by_time
