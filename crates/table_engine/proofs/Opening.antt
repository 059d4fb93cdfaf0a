-- Before the flop, as long as nobody has met the big blind by an act: who has posted is due last, and who folds has put
-- in what he posted.
use Rattle.std.proofs.Common.{◌≡◌, ◌≢◌, ◌∙◌, ℕ, ◌+◌, ◌-◌, ◌≤◌, ◌<◌, Bool, true, false, List, length, map, Some, None, refl, ap, sym, subst, inl, inr, arith}
use Rattle.std.specs.Prelude.{Option, ◌==◌, ◌&&◌, ◌⊎◌, find, min, nat_le, nat_lt, not, slice_set, unwrap_or}
use Rattle.std.specs.List.{list_any}
use Rattle.std.specs.Option.{is_some, option_map_or}
use Rattle.std.proofs.lemmas.Bool.{and_from, and_left, and_parts, cases_eq, cases_lt, eq-eqb, eqb-true, leb-true, lt-ltb, ltb-false, ltb-true, ne_eqb, not-true}
use Rattle.std.proofs.lemmas.Bool.Decides.{nat_tests}
use Rattle.level_plan.specs.Items.{is_between}
use Rattle.rulebook.specs.Seats.{clockwise_after, next_occupied_after}
use Rattle.rulebook.specs.Checks.{first_that_holds}
use Rattle.rulebook.proofs.Checks.{none_holds}
use Rattle.rulebook.proofs.Found.{some-found}
use Rattle.rulebook.proofs.Passing.{none-find, not-any}
use Rattle.rulebook.proofs.Tests.{find-all}
use Rattle.button_blinds.proofs.Distances.{IsSeat, found-nearest, most_steps, steps_to}
use Rattle.betting_round.specs.declared.act.Act.{Act}
use Rattle.betting_round.specs.declared.act.Act.TheVariants.{Fold, Check, Call, AllIn, Bet, Raise}
use Rattle.betting_round.specs.declared.bettor.Player.{Player}
use Rattle.betting_round.specs.declared.street.Street.{Street}
use Rattle.betting_round.specs.Acts.{is_fold}
use Rattle.betting_round.specs.ActChecks.{act_checks}
use Rattle.betting_round.specs.Limits.{Limits}
use Rattle.betting_round.specs.Running.{amount_of, moved, placed}
use Rattle.betting_round.specs.StreetActs.{fresh}
use Rattle.betting_round.specs.WhoIsDue.{can_act, due_seat, may_be_due}
use Rattle.betting_round.proofs.Acted.{Acts, facing_of}
use Rattle.betting_round.proofs.Steps.{street_start_is}
use Rattle.table_engine.specs.declared.start.HandStart.{HandStart}
use Rattle.table_engine.specs.declared.start.StartSeat.{StartSeat}
use Rattle.table_engine.specs.Covers.{is_big_next}
use Rattle.table_engine.specs.Hands.{first_street, first_streets, player_of, players_by_seat, posted, seated, street_now}
use Rattle.table_engine.specs.Starts.{IsLawfulStart}
use Rattle.table_engine.proofs.BySeat.{found-within, there-at}
use Rattle.table_engine.proofs.DueSeats.{due-beside, due-nearest}
use Rattle.table_engine.proofs.Running.{lawful-small}
use Rattle.table_engine.proofs.Sitting.{Sits, sits-after, sits-dealt, sits-kept, sits-same, sits-within}
use Rattle.table_engine.proofs.Sound.{level-first, posted-most, slot-first, sound-first, ten-slots}

-- What the player in a seat posted, if one was dealt in there.
abbrev pub posted_at : HandStart → ℕ → ℕ
posted_at start seat = option_map_or (posted start) (player_of start seat) 0

-- Nobody is dealt in between the small mark and the big one, or of each seat what was posted there is no more than what
-- was posted at the big mark, or no more than what it is spared.
abbrev pub IsSpared : HandStart → (ℕ → ℕ) → Type 0
IsSpared start spared = (is_big_next start ≡ true)
    ⊎ ((seat : ℕ) → (posted_at start seat ≤ posted_at start start.marks.big) ⊎ (posted_at start seat ≤ spared seat))

-- Somebody who is live and all-in has put in so much.
pub record IsFirm (slots : List (Option Player)) (amount : ℕ) : Type 0 where
  pub seat : ℕ
  pub now : Player
  pub sits : Sits slots seat now
  pub live : now.bettor.live ≡ true
  pub all_in : now.bettor.behind ≡ 0
  pub enough : amount ≤ now.bettor.put

-- What was posted at a seat is no more than what the player in the big mark's seat has put in, than what the seat is
-- spared, or than what somebody has put in who is all-in.
abbrev pub IsHeld : HandStart → (ℕ → ℕ) → List (Option Player) → Player → ℕ → Type 0
IsHeld start spared slots big seat =
    (posted_at start seat ≤ big.bettor.put)
    ⊎ ((posted_at start seat ≤ spared seat) ⊎ IsFirm slots (posted_at start seat))

-- Nobody has met the big blind by an act yet.
pub record IsOpening (start : HandStart) (spared : ℕ → ℕ) (street : Street) : Type 0 where
  pub level : street.level ≡ start.blind.big
  pub after : IsSeat 10 street.after
  -- the player in the big mark's seat is live and has not acted; he posted the big blind, or all that he had
  pub big : Player
  pub sits : Sits street.players start.marks.big big
  pub live : big.bettor.live ≡ true
  pub acted : big.acted ≡ false
  pub full : 0 < big.bettor.behind → big.bettor.put ≡ start.blind.big
  -- who has not acted or is not live has put in what he posted
  pub blinds : (seat : ℕ) (now : Player) → Sits street.players seat now → (now.acted && now.bettor.live) ≡ false
      → now.bettor.put ≡ posted_at start seat
  -- who can act has not acted, and comes before the player in the big mark's seat
  pub waits : (seat : ℕ) (now : Player) → Sits street.players seat now → can_act now ≡ true → now.acted ≡ false
  pub order : (seat : ℕ) (now : Player) → Sits street.players seat now → can_act now ≡ true
      → seat ≢ start.marks.big
      → steps_to 10 street.after seat < steps_to 10 street.after start.marks.big
  pub folded : (seat : ℕ) (now : Player) → Sits street.players seat now → now.bettor.live ≡ false
      → IsHeld start spared street.players big seat

-- What was posted at the seat of who is dealt in there.
pub posted-found : (start : HandStart) (seat : ℕ) (player : StartSeat) → player_of start seat ≡ Some player
    → posted_at start seat ≡ posted start player
posted-found start seat player found = ap (λ (slot : Option StartSeat). option_map_or (posted start) slot 0) found

-- Somebody is dealt in at the big mark.
big-dealt : (start : HandStart) → IsLawfulStart start
    → (player : StartSeat) × (player_of start start.marks.big ≡ Some player)
big-dealt start lawful =
    some-found (player_of start start.marks.big)
    (λ none.
    let test : StartSeat → Bool = λ player. player.seat == start.marks.big in
    let nobody = not-true (list_any test start.seats) (not-any test start.seats ∙ none-find test start.seats none) in
    let never : true ≡ false = sym lawful.big ∙ nobody in
    cc)

-- All round the table there are more steps than to any other seat.
round : (big seat : ℕ) → 1 ≤ big → big ≤ 10 → 1 ≤ seat → seat ≤ 10 → seat ≢ big
    → steps_to 10 big seat < steps_to 10 big big
round big seat low high first last apart = grind (arith, nat_tests)

-- Before any act nobody has met the big blind.
pub opening-first : (start : HandStart) (spared : ℕ → ℕ) → IsLawfulStart start
    → IsOpening start spared (street_now (first_streets start))
opening-first start spared lawful =
    let street = street_now (first_streets start) in
    let after : street.after ≡ start.marks.big =
    ap (λ (s : Street). s.after) (street_start_is (first_street start)) in
    let mark = lawful.marks.big in
    let seats = lawful.most_seats in
    let low = mark.0 in
    let within = mark.1 in
    let high : start.marks.big ≤ 10 = omega (arith, seats, within) in
    let dealt = big-dealt start lawful in
    let there = there-at start street.players start.marks.big dealt.0 lawful (sound-first start lawful).there dealt.1 in
    let slot = slot-first start start.marks.big there.0 low there.1 in
    let is = slot.2 in
    record {
      level = level-first start lawful;
      after = subst (IsSeat 10) (sym after) (low, high);
      big = there.0;
      sits = record { low = low; there = there.1 };
      live = ap (λ (p : Player). p.bettor.live) is;
      acted = ap (λ (p : Player). p.acted) is;
      full = λ more. full-first start slot.0 there.0 lawful slot.1 is more;
      blinds = λ seat now sits still.
          (let his = slot-first start seat now sits.low sits.there in
          ap (λ (p : Player). p.bettor.put) his.2 ∙ sym (posted-found start seat his.0 his.1));
      waits = λ seat now sits can.
          (let his = slot-first start seat now sits.low sits.there in ap (λ (p : Player). p.acted) his.2);
      order = λ seat now sits can apart.
          (let his = slot-first start seat now sits.low sits.there in
          let ten = found-within start seat his.0 lawful his.1 in
          rw after (round start.marks.big seat low high ten.1 ten.2 apart));
      folded = λ seat now sits gone.
          (let his = slot-first start seat now sits.low sits.there in
          let never : true ≡ false = sym (ap (λ (p : Player). p.bettor.live) his.2) ∙ gone in
          absurd cc);
    }
  where
    full-first : (start : HandStart) (player : StartSeat) (now : Player) → IsLawfulStart start
        → player_of start start.marks.big ≡ Some player → now ≡ fresh (seated start player)
        → 0 < now.bettor.behind → now.bettor.put ≡ start.blind.big
    full-first start player now lawful found is more =
        let seat = (found-within start start.marks.big player lawful found).0 in
        let there = eq-eqb player.seat start.marks.big seat in
        let least : posted start player ≡ min player.stack start.blind.big = rw there refl in
        let put = ap (λ (p : Player). p.bettor.put) is in
        let behind = ap (λ (p : Player). p.bettor.behind) is in
        omega (arith, least, put, behind, more)

-- A firm player stays where another acts.
firm-kept : (slots : List (Option Player)) (seat : ℕ) (now item : Player) (amount : ℕ) → Sits slots seat now
    → 0 < now.bettor.behind → IsFirm slots amount → IsFirm (slice_set slots (seat - 1) (Some item)) amount
firm-kept slots seat now item amount sits more firm =
    let apart : firm.seat ≢ seat = λ same.
    (let him = sits-same slots seat firm.seat now firm.now sits firm.sits same in
    let behind : firm.now.bettor.behind ≡ now.bettor.behind = ap (λ (p : Player). p.bettor.behind) him in
    let none = firm.all_in in
    omega (arith, more, behind, none)) in
    record {
      seat = firm.seat;
      now = firm.now;
      sits = sits-kept slots seat firm.seat item firm.now sits.low apart firm.sits;
      live = firm.live;
      all_in = firm.all_in;
      enough = firm.enough;
    }

held-kept : (start : HandStart) (spared : ℕ → ℕ) (slots : List (Option Player)) (big : Player) (other seat : ℕ)
    (now item : Player) → Sits slots seat now → 0 < now.bettor.behind → IsHeld start spared slots big other
    → IsHeld start spared (slice_set slots (seat - 1) (Some item)) big other
held-kept start spared slots big other seat now item sits more held =
    elim held [
      | inl less ↦ inl less
      | inr else_ ↦
          elim else_ [
            | inl let_off ↦ inr (inl let_off)
            | inr firm ↦ inr (inr (firm-kept slots seat now item (posted_at start other) sits more firm))
          ]
    ]

-- Who can act and has not acted may be due.
may-wait : (level : ℕ) (now : Player) → can_act now ≡ true → now.acted ≡ false → may_be_due level now ≡ true
may-wait level now can waits = rw (can, waits) refl

-- The player in the big mark's seat is not due as long as nobody has met the big blind by an act.
pub big-waits : (start : HandStart) (spared : ℕ → ℕ) (limits : Limits) (street : Street) (seat : ℕ) (act : Act)
    (now : Player) → IsOpening start spared street → Acts limits street seat act now → due_seat street ≡ Some seat
    → length street.players ≡ 10
    → ((other : ℕ) (found : Player) → Sits street.players other found → found.bettor.put ≤ street.level)
    → seat ≢ start.marks.big
big-waits start spared limits street seat act now opening acted due ten met same =
    let sits : Sits street.players seat now = record { low = acted.low; there = acted.sits } in
    let beside = due-beside street seat now due sits in
    let other = beside.other in
    let found = beside.found in
    elim beside.does [
      | inl can ↦
          let apart : other ≢ start.marks.big = λ is. beside.apart (is ∙ sym same) in
          let waits = opening.waits other found beside.sits can in
          let before = opening.order other found beside.sits can apart in
          let within = sits-within street.players other found beside.sits in
          let nearest = due-nearest street seat other found due opening.after beside.sits (omega (arith, within, ten))
          (may-wait street.level found can waits) in
          let steps = ap (steps_to 10 street.after) same in
          omega (arith, before, nearest, steps)
      | inr more ↦
          let him = sits-same street.players start.marks.big seat opening.big now opening.sits sits same in
          let behind : now.bettor.behind ≡ opening.big.bettor.behind = ap (λ (p : Player). p.bettor.behind) him in
          let put : now.bettor.put ≡ opening.big.bettor.put = ap (λ (p : Player). p.bettor.put) him in
          let some = acted.more in
          let full = opening.full (omega (arith, some, behind)) in
          let level = opening.level in
          let most = met other found beside.sits in
          let above = more.1 in
          omega (arith, full, level, most, above, put)
    ]

-- Where one of two seats is no nearer than who acts, he is as many steps nearer to both from there.
order-on : (after seat other big : ℕ) → 1 ≤ after → after ≤ 10 → 1 ≤ seat → seat ≤ 10 → 1 ≤ other → other ≤ 10
    → 1 ≤ big → big ≤ 10 → other ≢ seat → seat ≢ big
    → steps_to 10 after seat ≤ steps_to 10 after other → steps_to 10 after other < steps_to 10 after big
    → steps_to 10 seat other < steps_to 10 seat big
order-on after seat other big low high first last one ten some most apart differ nearest before =
    grind (arith, nat_tests)

-- Nobody has met the big blind by an act after one that does not.
pub opening-act : (start : HandStart) (spared : ℕ → ℕ) (limits : Limits) (street : Street) (seat : ℕ) (act : Act)
    (now : Player) (put_in : ℕ) → (opening : IsOpening start spared street) → Acts limits street seat act now
    → due_seat street ≡ Some seat → length street.players ≡ 10
    → ((other : ℕ) (found : Player) → Sits street.players other found → found.bettor.put ≤ street.level)
    → now.bettor.put + put_in ≤ street.level → can_act (moved put_in now act) ≡ false
    → ((moved put_in now act).bettor.live ≡ false → now.bettor.put + put_in ≡ posted_at start seat)
    → ((moved put_in now act).bettor.live ≡ false → IsHeld start spared street.players opening.big seat)
    → IsOpening start spared (placed street seat now act put_in)
opening-act start spared limits street seat act now put_in opening acted due ten met short cannot gone held =
    let slots = street.players in
    let after = moved put_in now act in
    let low = acted.low in
    let mine : Sits slots seat now = record { low = low; there = acted.sits } in
    let high = sits-within slots seat now mine in
    let last = sits-within slots start.marks.big opening.big opening.sits in
    let differ = big-waits start spared limits street seat act now opening acted due ten met in
    let differs : start.marks.big ≢ seat = λ same. differ (sym same) in
    let level = opening.level in
    record {
      level = omega (arith, level, short);
      after = (low, omega (arith, high, ten));
      big = opening.big;
      sits = sits-kept slots seat start.marks.big after opening.big low differs opening.sits;
      live = opening.live;
      acted = opening.acted;
      full = opening.full;
      blinds = λ other found is still.
          elim (sits-after slots seat other now after found mine is) [
            | inl here ↦
                let stays : (found.acted && found.bettor.live) ≡ after.bettor.live =
                ap (λ (p : Player). p.acted && p.bettor.live) here.1 in
                let put : found.bettor.put ≡ now.bettor.put + put_in = ap (λ (p : Player). p.bettor.put) here.1 in
                put ∙ gone (sym stays ∙ still) ∙ ap (posted_at start) (sym here.0)
            | inr elsewhere ↦ opening.blinds other found elsewhere.1 still
          ];
      waits = λ other found is can.
          elim (sits-after slots seat other now after found mine is) [
            | inl here ↦ let never : true ≡ false = sym can ∙ ap can_act here.1 ∙ cannot in absurd cc
            | inr elsewhere ↦ opening.waits other found elsewhere.1 can
          ];
      order = λ other found is can apart.
          elim (sits-after slots seat other now after found mine is) [
            | inl here ↦ let never : true ≡ false = sym can ∙ ap can_act here.1 ∙ cannot in absurd cc
            | inr elsewhere ↦
                let there = elsewhere.1 in
                let before = opening.order other found there can apart in
                let within = sits-within slots other found there in
                let most : other ≤ 10 = omega (arith, within, ten) in
                let nearest = due-nearest street seat other found due opening.after there most
                (may-wait street.level found can (opening.waits other found there can)) in
                order-on street.after seat other start.marks.big opening.after.0 opening.after.1 low
                (omega (arith, high, ten)) there.low most opening.sits.low (omega (arith, last, ten)) elsewhere.0
                differ nearest before
          ];
      folded = λ other found is out.
          elim (sits-after slots seat other now after found mine is) [
            | inl here ↦
                let still : after.bettor.live ≡ false = sym (ap (λ (p : Player). p.bettor.live) here.1) ∙ out in
                subst (λ (n : ℕ). IsHeld start spared (slice_set slots (seat - 1) (Some after)) opening.big n)
                (sym here.0)
                (held-kept start spared slots opening.big seat seat now after mine acted.more (held still))
            | inr elsewhere ↦
                held-kept start spared slots opening.big other seat now after mine acted.more
                (opening.folded other found elsewhere.1 out)
          ];
    }

-- A seat of the table that is nearer than another by ten seats is nearer by as many as the table has.
nearer : (seats small seat big : ℕ) → seats ≤ 10 → 1 ≤ small → small ≤ seats → 1 ≤ seat → seat ≤ seats → 1 ≤ big
    → big ≤ seats → steps_to 10 small seat < steps_to 10 small big
    → steps_to seats small seat < steps_to seats small big
nearer seats small seat big few low high first last one most less = grind (arith, nat_tests)

-- Where the big mark is next after the small one, nobody is dealt in between the two.
none-between : (start : HandStart) (seat : ℕ) (player : StartSeat) → IsLawfulStart start → is_big_next start ≡ true
    → player_of start seat ≡ Some player
    → steps_to 10 start.marks.small seat < steps_to 10 start.marks.small start.marks.big → ⊥
none-between start seat player lawful next found less =
    let occupied : ℕ → Bool = λ s. is_some (player_of start s) in
    let seats = start.seat_count in
    let small = start.marks.small in
    let big = start.marks.big in
    let ten = found-within start seat player lawful found in
    let sits = ten.0 in
    let within = find-all (λ (other : StartSeat). other.seat == seat)
    (λ (other : StartSeat). is_between 1 seats other.seat) start.seats player found lawful.within in
    let parts = and_parts (nat_le 1 player.seat) (nat_le player.seat seats) within in
    let last = leb-true player.seat seats parts.1 in
    let high : seat ≤ seats = omega (arith, last, sits) in
    let first = by_found (find occupied (clockwise_after seats small)) refl
    (eqb-true (next_occupied_after seats occupied small) big next) lawful.small in
    let sat : occupied seat ≡ true = ap is_some found in
    let at = lawful.marks.small in
    let end = lawful.marks.big in
    let nearest = found-nearest occupied seats seats small big seat at end (ten.1, high) first sat
    (most_steps seats small seat at.0 at.1 ten.1 high) in
    let before = nearer seats small seat big lawful.most_seats at.0 at.1 ten.1 high end.0 end.1 less in
    omega (arith, nearest, before)
  where
    by_found : (found : Option ℕ) {small big : ℕ} → found ≡ found → unwrap_or found small ≡ big → small ≢ big
        → found ≡ Some big
    by_found None same is apart = absurd (apart is)
    by_found (Some first) same is apart = ap Some is

-- What a player who is in neither mark's seat posted.
pub none-posted : (start : HandStart) (seat : ℕ) → IsLawfulStart start → seat ≢ start.marks.big
    → seat ≢ start.marks.small → posted_at start seat ≡ 0
none-posted start seat lawful big small = by_slot (player_of start seat) refl
  where
    by_slot : (slot : Option StartSeat) → player_of start seat ≡ slot
        → option_map_or (posted start) slot 0 ≡ 0
    by_slot None is = refl
    by_slot (Some player) is =
        let sits = (found-within start seat player lawful is).0 in
        let not_big = ne_eqb player.seat start.marks.big (λ same. big (sym sits ∙ same)) in
        let not_small = ne_eqb player.seat start.marks.small (λ same. small (sym sits ∙ same)) in
        rw (not_big, not_small) (omega arith)

-- A player posts at most the big blind.
few-posted : (start : HandStart) (seat : ℕ) → IsLawfulStart start → posted_at start seat ≤ start.blind.big
few-posted start seat lawful = by_slot (player_of start seat)
  where
    by_slot : (slot : Option StartSeat) → option_map_or (posted start) slot 0 ≤ start.blind.big
    by_slot None = omega arith
    by_slot (Some player) = posted-most start player (lawful-small start lawful)

-- Where who is due sits in the small mark's seat, nobody is dealt in between the two marks and another can act, the
-- other is the player in the big mark's seat: he has put in no less than was posted at the small mark.
able-held : (start : HandStart) (spared : ℕ → ℕ) (street : Street) (seat : ℕ)
    (other : ℕ) (found : Player) → IsLawfulStart start → is_big_next start ≡ true → seat ≡ start.marks.small
    → (opening : IsOpening start spared street) → due_seat street ≡ Some seat → 1 ≤ seat → seat ≤ 10
    → map is_some street.players ≡ map is_some (players_by_seat start)
    → other ≢ seat → Sits street.players other found → can_act found ≡ true
    → posted_at start seat ≤ opening.big.bettor.put
able-held start spared street seat other found lawful next small opening due low high there apart sits can =
    let ten = ten-slots start street.players there in
    let few = few-posted start seat lawful in
    elim (cases_eq other start.marks.big) [
      | inl same ↦
          let him = sits-same street.players start.marks.big other opening.big found opening.sits sits same in
          let more = ltb-true 0 found.bettor.behind
          (and_parts found.bettor.live (nat_lt 0 found.bettor.behind) can).1 in
          let behind : found.bettor.behind ≡ opening.big.bettor.behind = ap (λ (p : Player). p.bettor.behind) him in
          let full = opening.full (omega (arith, more, behind)) in
          omega (arith, few, full)
      | inr differ ↦
          let dealt = sits-dealt start street.players other found there sits in
          let before = opening.order other found sits can differ in
          let within = sits-within street.players other found sits in
          let most : other ≤ 10 = omega (arith, within, ten) in
          let last = sits-within street.players start.marks.big opening.big opening.sits in
          let nearest = due-nearest street seat other found due opening.after sits most
          (may-wait street.level found can (opening.waits other found sits can)) in
          let marks : seat ≢ start.marks.big = λ same. lawful.small (sym small ∙ same) in
          let between = order-on street.after seat other start.marks.big opening.after.0 opening.after.1 low high
          sits.low most opening.sits.low (omega (arith, last, ten)) apart marks nearest before in
          absurd (none-between start other dealt.0 lawful next dealt.1
          (subst (λ (n : ℕ). steps_to 10 n other < steps_to 10 n start.marks.big) small between))
    ]

-- What was posted at the small mark is held where nobody is dealt in between the two marks.
small-held : (start : HandStart) (spared : ℕ → ℕ) (limits : Limits) (street : Street) (seat : ℕ) (act : Act)
    (now : Player) → IsLawfulStart start → is_big_next start ≡ true → seat ≡ start.marks.small
    → (opening : IsOpening start spared street) → Acts limits street seat act now → due_seat street ≡ Some seat
    → map is_some street.players ≡ map is_some (players_by_seat start)
    → IsHeld start spared street.players opening.big seat
small-held start spared limits street seat act now lawful next small opening acted due there =
    let low = acted.low in
    let mine : Sits street.players seat now = record { low = low; there = acted.sits } in
    let within = sits-within street.players seat now mine in
    let ten = ten-slots start street.players there in
    let high : seat ≤ 10 = omega (arith, within, ten) in
    let can = and_from now.bettor.live (nat_lt 0 now.bettor.behind) acted.live
    (lt-ltb 0 now.bettor.behind acted.more) in
    let blind = opening.blinds seat now mine
    (and_left now.acted now.bettor.live (opening.waits seat now mine can)) in
    let beside = due-beside street seat now due mine in
    let found = beside.found in
    let able = able-held start spared street seat beside.other found lawful next small opening due low high there
    beside.apart beside.sits in
    elim beside.does [
      | inl free ↦ inl (able free)
      | inr more ↦
          elim (cases_lt 0 found.bettor.behind) [
            | inl some ↦
                inl (able (and_from found.bettor.live (nat_lt 0 found.bettor.behind) more.0
                (lt-ltb 0 found.bettor.behind some)))
            | inr none ↦
                let above = more.1 in
                inr (inr (record {
                  seat = beside.other;
                  now = found;
                  sits = beside.sits;
                  live = more.0;
                  all_in = omega (arith, none);
                  enough = omega (arith, above, blind);
                }))
          ]
    ]

-- What who folds posted is held.
pub fold-held : (start : HandStart) (spared : ℕ → ℕ) (limits : Limits) (street : Street) (seat : ℕ) (act : Act)
    (now : Player) → IsLawfulStart start → IsSpared start spared → (opening : IsOpening start spared street)
    → Acts limits street seat act now → due_seat street ≡ Some seat → seat ≢ start.marks.big
    → map is_some street.players ≡ map is_some (players_by_seat start)
    → IsHeld start spared street.players opening.big seat
fold-held start spared limits street seat act now lawful is_spared opening acted due differ there =
    elim is_spared [
      | inl next ↦
          elim (cases_eq seat start.marks.small) [
            | inl small ↦
                small-held start spared limits street seat act now lawful next small opening acted due there
            | inr neither ↦
                let none = none-posted start seat lawful differ neither in inl (omega (arith, none))
          ]
      | inr each ↦
          elim (each seat) [
            | inl less ↦
                let blind : opening.big.bettor.put ≡ posted_at start start.marks.big =
                opening.blinds start.marks.big opening.big opening.sits
                (and_left opening.big.acted opening.big.bettor.live opening.acted) in
                inl (omega (arith, less, blind))
            | inr let_off ↦ inr (inl let_off)
          ]
    ]

-- A raise that is no less than the least, or is above the bet level, is no less than the bet level.
large : (n least level : ℕ) (all : Bool) → not (nat_lt n least && not (all && nat_lt level n)) ≡ true → level ≤ least
    → level ≤ n
large n least level all passes above = grind (arith, nat_tests)

-- A raise that is not refused is not too small.
raise-large : (limits : Limits) (street : Street) (n : ℕ) (now : Player)
    → first_that_holds (act_checks limits street.unit (facing_of street now) (Raise n)) ≡ None
    → not (nat_lt n (limits.least (facing_of street now))
    && not (n == now.bettor.put + now.bettor.behind && nat_lt street.level n))
    ≡ true
raise-large limits street n now none =
    let all = none_holds (act_checks limits street.unit (facing_of street now) (Raise n)) none in
    (and_parts _ _ (and_parts _ _ all).1).0

-- Who acts and does not fold meets the bet level, or puts in all that he has.
pub acts-meet : (limits : Limits) (street : Street) (seat : ℕ) (act : Act) (now : Player)
    → Acts limits street seat act now → limits.least (facing_of street now) ≡ street.level + street.full
    → is_fold act ≡ false
    → (street.level ≤ now.bettor.put + amount_of street.level now act)
    ⊎ (amount_of street.level now act ≡ now.bettor.behind)
acts-meet limits street seat Fold now acts least stays = absurd cc
acts-meet limits street seat Check now acts least stays =
    let all = none_holds (act_checks limits street.unit (facing_of street now) Check) acts.checked in
    let met = ltb-false now.bettor.put street.level
    (not-true (nat_lt now.bettor.put street.level) (and_parts _ _ all).0) in
    inl (omega (arith, met))
acts-meet limits street seat Call now acts least stays =
    elim (cases_lt now.bettor.behind (street.level - now.bettor.put)) [
      | inl short ↦ inr (omega arith)
      | inr enough ↦ inl (omega arith)
    ]
acts-meet limits street seat AllIn now acts least stays = inr refl
acts-meet limits street seat (Bet n) now acts least stays =
    let all = none_holds (act_checks limits street.unit (facing_of street now) (Bet n)) acts.checked in
    let none = ltb-false 0 street.level (not-true (nat_lt 0 street.level) (and_parts _ _ all).0) in
    inl (omega (arith, none))
acts-meet limits street seat (Raise n) now acts least stays =
    let above = large n (limits.least (facing_of street now)) street.level (n == now.bettor.put + now.bettor.behind)
    (raise-large limits street n now acts.checked) (omega (arith, least)) in
    inl (omega (arith, above))
