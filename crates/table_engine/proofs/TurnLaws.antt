-- Who is due in a lawful play, how its bet level moves, and how long it lasts.
use Rattle.std.proofs.Common.{◌≡◌, ◌∙◌, ℕ, zero, suc, ◌+◌, ◌≤◌, ◌<◌, true, false, List, [], ◌∷◌, ◌++◌, length, Some, None, refl, ap, sym, inl, inr, arith}
use Rattle.std.specs.Prelude.{Option, IsSome, nat_lt, option_and_then}
use Rattle.std.proofs.lemmas.Bool.{and_parts, cases_Bool}
use Rattle.std.proofs.lemmas.Bool.Decides.{nat_tests}
use Rattle.floor_text.specs.declared.refusal.Refusal.TheVariants.{NotDealt}
use Rattle.rulebook.proofs.Found.{some-by_test}
use Rattle.betting_round.specs.declared.act.Act.TheVariants.{Fold}
use Rattle.betting_round.specs.declared.street.Street.{Street}
use Rattle.betting_round.specs.StreetActs.{SeatAct, street_after}
use Rattle.betting_round.specs.WhoIsDue.{can_act, player_at, player_in}
use Rattle.betting_round.proofs.Turns.{accepted-due, due-can_act, due-may_fold, level-grows}
use Rattle.table_engine.specs.declared.record.ActOf.{ActOf}
use Rattle.table_engine.specs.declared.start.HandStart.{HandStart}
use Rattle.table_engine.specs.declared.start.StartSeat.{StartSeat}
use Rattle.table_engine.specs.Starts.{IsLawfulStart, chips_of}
use Rattle.table_engine.specs.Hands.{HandTerms, Streets, behind, dealt_on, due_in_hand, due_name, has_ended, is_over, name_in_seat, player_of, seat_of_name, street_now, street_of, streets_of, with_act, with_next_street}
use Rattle.table_engine.specs.Acts.{act_in_time, hand_after_time, limits_on, refusal_of_act, refusal_of_time}
use Rattle.table_engine.specs.Plays.{IsLawfulPlay}
use Rattle.table_engine.proofs.BySeat.{found-within, player_in-there}
use Rattle.table_engine.proofs.Chips.{stands}
use Rattle.table_engine.proofs.DueNames.{due_name-none, due-named, seat-of_named, time-allowed, time_act-is}
use Rattle.table_engine.proofs.Plays.{lawful_play-each, lawful_play-more, lawful_play-timed}
use Rattle.table_engine.proofs.Refusals.{refused-in_seat, refused-without_seat}
use Rattle.table_engine.proofs.Sound.{sound-play}
use Rattle.table_engine.proofs.Running.{streets-more}

-- Somebody is due as long as the hand is not over.
pub due-somebody : (hand : HandTerms) → IsLawfulStart hand.start → IsLawfulPlay hand → is_over hand ≡ false
    → IsSome (due_name hand)
due-somebody hand lawful play open_ =
    let none = due_name-none hand (sound-play hand lawful play).there in
    some-by_test (due_name hand) (none ∙ open_)

-- Who is due has a name and a seat, by which he is found.
pub record IsDue (hand : HandTerms) (name : List ℕ) (seat : ℕ) : Type 0 where
  pub due : due_in_hand hand ≡ Some seat
  pub named : name_in_seat hand.start seat ≡ Some name
  pub found : seat_of_name hand.start name ≡ Some seat

pub due-is : (hand : HandTerms) (name : List ℕ) → IsLawfulStart hand.start → due_name hand ≡ Some name
    → (seat : ℕ) × IsDue hand name seat
due-is hand name lawful called = by_seat (due_in_hand hand) refl called
  where
    by_seat : (due : Option ℕ) → due_in_hand hand ≡ due → option_and_then (name_in_seat hand.start) due ≡ Some name
        → (seat : ℕ) × IsDue hand name seat
    by_seat None is called = absurd cc
    by_seat (Some seat) is called = (
      seat,
      record {
        due = is;
        named = called;
        found =
            seat-of_named hand.start seat name lawful.names called;
      },
    )

-- The player who is due has chips behind.
pub due-behind : (hand : HandTerms) (seat : ℕ) (player : StartSeat) → IsLawfulStart hand.start → IsLawfulPlay hand
    → due_in_hand hand ≡ Some seat
    → player_of hand.start seat ≡ Some player → 0 < behind hand player
due-behind hand seat player lawful play due found =
    let sound = sound-play hand lawful play in
    let within = found-within hand.start seat player lawful found in
    let again : player_of hand.start player.seat ≡ Some player = ap (player_of hand.start) within.0 ∙ found in
    let his = stands hand player lawful sound again in
    let at : player_at (street_of hand).players seat ≡ Some his.0 =
    sym (player_in-there (street_of hand).players seat within.1)
    ∙ ap (λ (n : ℕ). player_in (street_of hand).players n) (sym within.0) ∙ his.1.there in
    let can : can_act his.0 ≡ true = rw at at (due-can_act (street_of hand) seat due) in
    let more = (and_parts his.0.bettor.live (nat_lt 0 his.0.bettor.behind) can).1 in
    let some : 0 < his.0.bettor.behind = grind (arith, nat_tests) in
    rw his.1.behind some

-- The player who is due may fold.
pub due-can_fold : (hand : HandTerms) (name : List ℕ) → IsLawfulStart hand.start → due_name hand ≡ Some name
    → refusal_of_act hand name Fold ≡ None
due-can_fold hand name lawful called =
    let is = due-is hand name lawful called in
    refused-in_seat hand name Fold is.0 is.1.found ∙ due-may_fold (limits_on hand.start (streets_of hand))
    (street_of hand) is.0 is.1.due

-- A called time that is not refused is of a player who is due.
time-due : (hand : HandTerms) → refusal_of_time hand ≡ None → (seat : ℕ) × (due_in_hand hand ≡ Some seat)
time-due hand free = by_seat (due_in_hand hand) refl free
  where
    by_seat : (due : Option ℕ) → due_in_hand hand ≡ due → refusal_of_time hand ≡ None
        → (seat : ℕ) × (due_in_hand hand ≡ Some seat)
    by_seat None is free = let held = rw is at free in absurd cc
    by_seat (Some seat) is free = (seat, is)

-- A lawful play is one with the act of a called time that is not refused.
pub lawful_play-time : (hand : HandTerms) → IsLawfulStart hand.start → IsLawfulPlay hand → refusal_of_time hand ≡ None
    → IsLawfulPlay (hand_after_time hand)
lawful_play-time hand lawful play free =
    let due = time-due hand free in
    let seat = due.0 in
    by_name seat due.1 (name_in_seat hand.start seat) refl
  where
    by_name : (seat : ℕ) → due_in_hand hand ≡ Some seat → (name : Option (List ℕ)) → name_in_seat hand.start seat ≡ name
        → IsLawfulPlay (hand_after_time hand)
    by_name seat due None named = absurd (due-named hand seat (sound-play hand lawful play).there due named)
    by_name seat due (Some name) named =
        let act : ActOf = record { name = name; act = act_in_time hand seat; by_time = true } in
        let found = seat-of_named hand.start seat name lawful.names named in
        let allowed : refusal_of_act hand name (act_in_time hand seat) ≡ None =
        refused-in_seat hand name (act_in_time hand seat) seat found ∙ time-allowed hand seat due in
        let is = time_act-is hand seat name due named in
        rw is (lawful_play-more hand act play allowed (λ by_time. sym is))

-- Where an act is not refused, time may be called.
act-due : (hand : HandTerms) (act : ActOf) → refusal_of_act hand act.name act.act ≡ None → refusal_of_time hand ≡ None
act-due hand act free = by_seat (seat_of_name hand.start act.name) refl
  where
    by_seat : (slot : Option ℕ) → seat_of_name hand.start act.name ≡ slot → refusal_of_time hand ≡ None
    by_seat None found =
        let never : None ≡ Some NotDealt = sym free ∙ refused-without_seat hand act.name act.act found in absurd cc
    by_seat (Some seat) found =
        let accepted = sym (refused-in_seat hand act.name act.act seat found) ∙ free in
        rw (accepted-due (limits_on hand.start (streets_of hand)) (street_of hand) seat act.act accepted)

-- Where an act of a lawful play came by a called time, to call time there is not refused.
pub time-free_again : (hand : HandTerms) (front : List ActOf) (act : ActOf) (back : List ActOf) → IsLawfulPlay hand
    → hand.acts ≡ front ++ act ∷ back → act.by_time ≡ true → refusal_of_time (record hand { acts = front }) ≡ None
time-free_again hand front act back play is by_time =
    act-due (record hand { acts = front }) act (lawful_play-each hand front act back play is)

-- It makes the hand with that act.
pub time-again : (hand : HandTerms) (front : List ActOf) (act : ActOf) (back : List ActOf) → IsLawfulPlay hand
    → hand.acts ≡ front ++ act ∷ back → act.by_time ≡ true
    → hand_after_time (record hand { acts = front }) ≡ record hand { acts = front ++ act ∷ [] }
time-again hand front act back play is by_time =
    ap (λ (called : ActOf). record hand { acts = front ++ called ∷ [] })
    (sym (lawful_play-timed hand front act back play is by_time))

-- The streets that are left once every street has begun that may.
dealt-left : (start : HandStart) (left : ℕ) (streets : Streets) → (dealt_on start left streets).left ≤ streets.left
dealt-left start zero streets = omega arith
dealt-left start (suc left) streets =
    elim (cases_Bool (has_ended (street_now streets))) [
      | inl ended ↦ let later = dealt-left start left (with_next_street start streets) in rw ended (omega arith)
      | inr open_ ↦ rw open_ (omega arith)
    ]

-- Where no street has begun the streets are as they were.
dealt-none : (start : HandStart) (left : ℕ) (streets : Streets) → left ≤ streets.left
    → (dealt_on start left streets).left ≡ streets.left
    → dealt_on start left streets ≡ streets
dealt-none start zero streets within same = refl
dealt-none start (suc left) streets within same =
    elim (cases_Bool (has_ended (street_now streets))) [
      | inl ended ↦
          let later = dealt-left start left (with_next_street start streets) in
          let all : (dealt_on start left (with_next_street start streets)).left ≡ streets.left = rw ended at same in
          absurd (omega arith)
      | inr open_ ↦ rw open_
    ]

-- The bet level never falls on a street: where an act that is not refused leaves the hand on the same street, it is no
-- lower.
pub level-on_street : (hand : HandTerms) (act : ActOf) → refusal_of_act hand act.name act.act ≡ None
    → (streets_of (record hand { acts = hand.acts ++ act ∷ [] })).left ≡ (streets_of hand).left
    → (street_of hand).level ≤ (street_of (record hand { acts = hand.acts ++ act ∷ [] })).level
unfolding street_after
level-on_street hand act free same = by_seat (seat_of_name hand.start act.name) refl
  where
    by_seat : (slot : Option ℕ) → seat_of_name hand.start act.name ≡ slot
        → (street_of hand).level ≤ (street_of (record hand { acts = hand.acts ++ act ∷ [] })).level
    by_seat None found =
        let never : None ≡ Some NotDealt = sym free ∙ refused-without_seat hand act.name act.act found in absurd cc
    by_seat (Some seat) found =
        let streets = streets_of hand in
        let entry : SeatAct = record { seat = seat; act = act.act } in
        let more = streets-more hand.start hand.acts act seat found in
        let left : (dealt_on hand.start streets.left (with_act streets entry)).left ≡ streets.left =
        ap (λ (s : Streets). s.left) (sym more) ∙ same in
        let none = dealt-none hand.start streets.left (with_act streets entry) (omega arith) left in
        let grows = level-grows streets.last.start entry streets.last.acts in
        let is : street_of (record hand { acts = hand.acts ++ act ∷ [] }) ≡ street_now (with_act streets entry) =
        ap street_now (more ∙ none) in
        let levels = ap (λ (s : Street). s.level) is in
        omega arith

-- A hand cannot go on for ever.
pub length-bound : (hand : HandTerms) → IsLawfulStart hand.start → IsLawfulPlay hand
    → length hand.acts ≤ chips_of hand.start.seats + 50
length-bound hand lawful play = let short = (sound-play hand lawful play).short in omega arith
