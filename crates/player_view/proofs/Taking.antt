-- Acts of a lawful play.
use Rattle.std.proofs.Common.{◌≡◌, ◌∙◌, ℕ, ◌+◌, ◌<◌, true, List, [], ◌∷◌, ◌++◌, length, get_or, take, drop, Some, None, refl, sym, ap}
use Rattle.std.specs.Prelude.{IfErr, Option, Result, Ok, Err, is_none}
use Rattle.std.proofs.lemmas.Bool.{and_from, and_parts}
use Rattle.std.proofs.lemmas.List.{drop_more, take-append-drop}
use Rattle.betting_round.specs.declared.act.Act.{Act}
use Rattle.betting_round.proofs.Turns.{accepted-due}
use Rattle.floor_text.specs.declared.refusal.Refusal.{Refusal}
use Rattle.floor_text.specs.declared.refusal.Refusal.TheVariants.{NotDealt}
use Rattle.table_engine.specs.declared.record.ActFault.{ActFault}
use Rattle.table_engine.specs.declared.record.ActFault.TheVariants as faults
use Rattle.table_engine.specs.declared.record.ActOf.{ActOf}
use Rattle.table_engine.specs.declared.start.HandStart.{HandStart}
use Rattle.table_engine.specs.Acts.{IsAnswer, limits_on, refusal_in_seat, refusal_of_act, refusal_of_time}
use Rattle.table_engine.specs.Hands.{HandTerms, seat_of_name, street_of, streets_of}
use Rattle.table_engine.specs.Plays.{AreTimedAfter, IsLawfulPlay, are_lawful_after}
use Rattle.table_engine.proofs.DueNames.{time-free}
use Rattle.table_engine.proofs.Plays.{lawful_play-each, lawful_play-timed}
use Rattle.table_engine.proofs.Refusals.{refused-in_seat, refused-without_seat}
use Rattle.view_rules.specs.Entries.{IsLawfulAct, with_act}

-- Where some act is not refused, a called time is not.
pub act-time : (hand : HandTerms) (name : List ℕ) (act : Act) → refusal_of_act hand name act ≡ None
    → refusal_of_time hand ≡ None
act-time hand name act free = by_seat (seat_of_name hand.start name) refl
  where
    by_seat : (found : Option ℕ) → seat_of_name hand.start name ≡ found → refusal_of_time hand ≡ None
    by_seat None is =
        let refused = refused-without_seat hand name act is in
        let never : None ≡ Some NotDealt = sym free ∙ refused in
        absurd cc
    by_seat (Some seat) is =
        let accepted : refusal_in_seat hand act seat ≡ None = sym (refused-in_seat hand name act seat is) ∙ free in
        time-free hand seat (accepted-due (limits_on hand.start (streets_of hand)) (street_of hand) seat act accepted)

-- Where nothing refuses an act, it fails for want of memory alone.
pub only-memory : {T : Type 0} {refusal : Option Refusal} (result : Result T ActFault) → refusal ≡ None
    → IsAnswer refusal result → IfErr result (λ fault. fault ≡ faults.NoMemory)
only-memory (Ok done) free answer = tt
only-memory (Err (faults.No reason)) free answer =
    let never : None ≡ Some reason = sym free ∙ answer in absurd cc
only-memory (Err faults.NoMemory) free answer = refl

front-lawful : (start : HandStart) (before acts : List ActOf) (act : ActOf)
    → are_lawful_after start before (acts ++ act ∷ []) ≡ true → are_lawful_after start before acts ≡ true
front-lawful start before [] act lawful = refl
front-lawful start before (first ∷ acts) act lawful =
    let parts = and_parts (is_none (refusal_of_act (record { start = start; acts = before }) first.name first.act))
    (are_lawful_after start (before ++ first ∷ []) (acts ++ act ∷ [])) lawful in
    and_from _ _ parts.0 (front-lawful start (before ++ first ∷ []) acts act parts.1)

front-timed : (start : HandStart) (before acts : List ActOf) (act : ActOf)
    → AreTimedAfter start before (acts ++ act ∷ []) → AreTimedAfter start before acts
front-timed start before [] act timed = tt
front-timed start before (first ∷ acts) act timed =
    (timed.0, front-timed start (before ++ first ∷ []) acts act timed.1)

-- A lawful play is one without its last act.
pub front-play : (hand : HandTerms) (act : ActOf) → IsLawfulPlay (with_act act hand) → IsLawfulPlay hand
front-play hand act play = record {
  acts = front-lawful hand.start [] hand.acts act play.acts;
  timed = front-timed hand.start [] hand.acts act play.timed;
}

-- Each act of a lawful play may come after those before it.
pub lawful-each : (hand : HandTerms) (index : ℕ) (act : ActOf) → IsLawfulPlay hand → index < length hand.acts
    → act ≡ get_or hand.acts index act → IsLawfulAct (record { start = hand.start; acts = take index hand.acts }) act
lawful-each hand index act play within is =
    let split : hand.acts ≡ take index hand.acts ++ act ∷ drop (index + 1) hand.acts =
    sym (take-append-drop index hand.acts)
    ∙ ap (λ rest. take index hand.acts ++ rest)
    (drop_more hand.acts index act within ∙ ap (λ (first : ActOf). first ∷ drop (index + 1) hand.acts) (sym is)) in
    record {
      free = lawful_play-each hand (take index hand.acts) act (drop (index + 1) hand.acts) play split;
      timed = λ by_time.
          lawful_play-timed hand (take index hand.acts) act (drop (index + 1) hand.acts) play split by_time;
    }
