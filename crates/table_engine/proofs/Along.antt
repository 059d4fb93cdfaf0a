-- What is kept along every lawful play of a lawful start.
use Rattle.std.proofs.Common.{◌≡◌, ◌∙◌, ℕ, zero, suc, ◌+◌, ◌≤◌, true, List, [], ◌∷◌, ◌++◌, length, Some, None, sym, subst, inl, inr, refl, append_assoc, append-nil, arith}
use Rattle.std.specs.Prelude.{Option, is_none}
use Rattle.std.proofs.lemmas.Bool.{and_parts, cases_Bool}
use Rattle.floor_text.specs.declared.refusal.Refusal.TheVariants.{NotDealt}
use Rattle.rulebook.proofs.Found.{none-by_test}
use Rattle.betting_round.specs.declared.act.Act.{Act}
use Rattle.betting_round.specs.ActChecks.{act_refusal}
use Rattle.table_engine.specs.declared.record.ActOf.{ActOf}
use Rattle.table_engine.specs.declared.start.HandStart.{HandStart}
use Rattle.table_engine.specs.Acts.{limits_on, refusal_in_seat, refusal_of_act}
use Rattle.table_engine.specs.Hands.{HandTerms, Streets, dealt_on, first_streets, has_ended, seat_of_name, street_now, streets_of, with_act, with_next_street}
use Rattle.table_engine.specs.Plays.{AreTimedAfter, IsLawfulPlay, are_lawful_after}
use Rattle.table_engine.specs.Starts.{IsLawfulStart}
use Rattle.table_engine.proofs.Plays.{lawful_play-more, lawful_play-none}
use Rattle.table_engine.proofs.Refusals.{refused-in_seat, refused-without_seat}
use Rattle.table_engine.proofs.Sound.{IsSound, sound-act, sound-first, sound-next, sound-play}
use Rattle.table_engine.proofs.Running.{streets-more, streets-none}

-- What holds before any act is kept where a street that has ended is followed by the next, and by each act that is not
-- refused.
pub record IsKeptAlong (start : HandStart) (P : Streets → Type 0) : Type 0 where
  pub first : P (first_streets start)
  pub next : (streets : Streets) (acts : ℕ) → IsSound start streets acts → has_ended (street_now streets) ≡ true
      → P streets → P (with_next_street start streets)
  pub act : (streets : Streets) (acts seat : ℕ) (act : Act) → IsSound start streets acts
      → act_refusal (limits_on start streets) (street_now streets) seat act ≡ None
      → P streets → P (with_act streets (record { seat = seat; act = act }))

-- It is kept once every street has begun that may.
along-dealt : (start : HandStart) (P : Streets → Type 0) (left : ℕ) (streets : Streets) (acts : ℕ)
    → IsLawfulStart start → IsKeptAlong start P
    → IsSound start streets acts → left ≤ streets.left → P streets → P (dealt_on start left streets)
along-dealt start P zero streets acts lawful kept sound within holds = holds
along-dealt start P (suc left) streets acts lawful kept sound within holds =
    elim (cases_Bool (has_ended (street_now streets))) [
      | inl ended ↦
          rw ended
          (along-dealt start P left (with_next_street start streets) acts lawful kept
          (sound-next start streets acts lawful sound (omega arith)) (omega arith)
          (kept.next streets acts sound ended holds))
      | inr open_ ↦ rw open_ holds
    ]

-- It is kept by one act more.
along-more : (start : HandStart) (P : Streets → Type 0) (before : List ActOf) (act : ActOf) (slot : Option ℕ)
    → IsLawfulStart start → IsKeptAlong start P
    → IsLawfulPlay (record { start = start; acts = before }) → P (streets_of (record { start = start; acts = before }))
    → refusal_of_act (record { start = start; acts = before }) act.name act.act ≡ None
    → seat_of_name start act.name ≡ slot
    → P (streets_of (record { start = start; acts = before ++ act ∷ [] }))
along-more start P before act None lawful kept play holds free found =
    let refused = refused-without_seat (record { start = start; acts = before }) act.name act.act found in
    let never : None ≡ Some NotDealt = sym free ∙ refused in absurd cc
along-more start P before act (Some seat) lawful kept play holds free found =
    let hand : HandTerms = record { start = start; acts = before } in
    let sound = sound-play hand lawful play in
    let accepted : refusal_in_seat hand act.act seat ≡ None = sym (refused-in_seat hand act.name act.act seat found)
    ∙ free in
    let acted = sound-act start (streets_of hand) (length before) seat act.act sound accepted in
    let after = with_act (streets_of hand) (record { seat = seat; act = act.act }) in
    subst (λ (streets : Streets). P streets) (sym (streets-more start before act seat found))
    (along-dealt start P after.left after (length before + 1) lawful kept acted (omega arith)
    (kept.act (streets_of hand) (length before) seat act.act sound accepted holds))

-- It is kept by acts that are lawful.
along-acts : (start : HandStart) (P : Streets → Type 0) (before acts : List ActOf) → IsLawfulStart start
    → IsKeptAlong start P
    → IsLawfulPlay (record { start = start; acts = before }) → P (streets_of (record { start = start; acts = before }))
    → are_lawful_after start before acts ≡ true → AreTimedAfter start before acts
    → P (streets_of (record { start = start; acts = before ++ acts }))
along-acts start P before [] lawful kept play holds free timed =
    subst (λ (all : List ActOf). P (streets_of (record { start = start; acts = all }))) (sym (append-nil before)) holds
along-acts start P before (act ∷ acts) lawful kept play holds free timed =
    let hand : HandTerms = record { start = start; acts = before } in
    let parts = and_parts (is_none (refusal_of_act hand act.name act.act))
    (are_lawful_after start (before ++ act ∷ []) acts) free in
    let accepted = none-by_test (refusal_of_act hand act.name act.act) parts.0 in
    let more = along-more start P before act (seat_of_name start act.name) lawful kept play holds accepted refl in
    let joined : (before ++ act ∷ []) ++ acts ≡ before ++ act ∷ acts = append_assoc before (act ∷ []) acts in
    subst (λ (all : List ActOf). P (streets_of (record { start = start; acts = all }))) joined
    (along-acts start P (before ++ act ∷ []) acts lawful kept (lawful_play-more hand act play accepted timed.0) more
    parts.1 timed.1)

-- It holds of the streets of every lawful play.
pub kept-play : (hand : HandTerms) (P : Streets → Type 0) → IsLawfulStart hand.start → IsLawfulPlay hand
    → IsKeptAlong hand.start P → P (streets_of hand)
kept-play hand P lawful play kept =
    let start = hand.start in
    along-acts start P [] hand.acts lawful kept (lawful_play-none start)
    (subst (λ (streets : Streets). P streets) (sym (streets-none start))
    (along-dealt start P 3 (first_streets start) 0 lawful kept (sound-first start lawful) (omega arith) kept.first))
    play.acts play.timed
