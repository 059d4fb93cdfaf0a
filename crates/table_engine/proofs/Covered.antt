-- Some live player has put in during the hand at least as much as each player.
use Rattle.std.proofs.Common.{◌≡◌, ◌≢◌, ◌∙◌, ℕ, ◌+◌, ◌-◌, ◌≤◌, ◌<◌, Bool, true, false, cond, List, [], ◌∷◌, length, map, Some, None, refl, ap, sym, subst, inl, inr, arith}
use Rattle.std.specs.Prelude.{Option, ◌==◌, ◌&&◌, ◌||◌, ◌⊎◌, nat_le, nat_lt, not, option_map, sum_by}
use Rattle.std.specs.Option.{is_some, option_map_or}
use Rattle.std.proofs.lemmas.Bool.{and_from, and_left, and_parts, and_right, cases_Bool, cases_eq, cases_lt, false_from_ne_true, le-leb, le-ltb, leb-false, leb-true, lt-ltb, ltb-false, ltb-true, not-false, or_parts}
use Rattle.std.proofs.lemmas.List.Sums.{sum_by-cons}
use Rattle.card_set.proofs.Steps.{map_found}
use Rattle.rulebook.proofs.Tests.{find-any}
use Rattle.betting_round.specs.declared.act.Act.{Act}
use Rattle.betting_round.specs.declared.bettor.Player.{Player}
use Rattle.betting_round.specs.declared.street.Street.{Street}
use Rattle.betting_round.specs.Acts.{is_fold}
use Rattle.betting_round.specs.ActChecks.{act_refusal}
use Rattle.betting_round.specs.Limits.{Limits}
use Rattle.betting_round.specs.Running.{amount_of, moved, placed}
use Rattle.betting_round.specs.StreetActs.{SeatAct, at_next_street, fresh}
use Rattle.betting_round.specs.WhoIsDue.{can_act, due_seat, may_be_due, player_at, player_in}
use Rattle.betting_round.proofs.Acted.{Acts, facing_of, who-acts}
use Rattle.betting_round.proofs.Turns.{accepted-due}
use Rattle.table_engine.specs.declared.start.HandStart.{HandStart}
use Rattle.table_engine.specs.declared.start.StartSeat.{StartSeat}
use Rattle.table_engine.specs.Acts.{limits_on}
use Rattle.table_engine.specs.Covers.{is_big_next, is_covered}
use Rattle.table_engine.specs.Hands.{HandTerms, StreetPlayed, Streets, first_streets, has_ended, is_live, player_of, players_by_seat, posted, put_from, put_in_hand, street_now, street_of, streets_of, with_act, with_next_street}
use Rattle.table_engine.specs.Plays.{IsLawfulPlay}
use Rattle.table_engine.specs.Starts.{IsLawfulStart}
use Rattle.table_engine.proofs.Along.{kept-play}
use Rattle.table_engine.proofs.BySeat.{found-within, player_in-there, there-at}
use Rattle.table_engine.proofs.DueSeats.{due-beside, ended-met}
use Rattle.table_engine.proofs.Opening.{IsOpening, IsSpared, acts-meet, big-waits, fold-held, none-posted, opening-act, opening-first, posted-found, posted_at}
use Rattle.table_engine.proofs.Sitting.{Sits, greatest-live, most-at, sits-after, sits-dealt, sits-index, sits-kept, sits-put, sits-same, sits-within}
use Rattle.table_engine.proofs.Sound.{IsSound, fold-none, least-on, level-next, placed-is, put_from-there, slot-next, sound-play, ten-slots}
use Rattle.table_engine.proofs.Starts.{player_of-seat}

-- What the player in a seat has put in on earlier streets.
abbrev put_before : List StreetPlayed → ℕ → ℕ
put_before earlier seat = sum_by (put_from seat) earlier

-- Nobody put in more than this on earlier streets, unless it is what he is spared and nothing since; and who is live
-- and has put something in on this street, or has chips behind, put in just as much on them.
record IsEven (earlier : List StreetPlayed) (spared : ℕ → ℕ) (most : ℕ) (slots : List (Option Player)) : Type 0 where
  even : (seat : ℕ) (now : Player) → Sits slots seat now → now.bettor.live ≡ true
      → 0 < now.bettor.put + now.bettor.behind → put_before earlier seat ≡ most
  within : (seat : ℕ) (now : Player) → Sits slots seat now
      → (put_before earlier seat ≤ most) ⊎ ((now.bettor.put ≡ 0) × (put_before earlier seat ≤ spared seat))

-- A live player has met the bet level by an act, and put in the most on earlier streets.
record IsMet (earlier : List StreetPlayed) (most : ℕ) (street : Street) : Type 0 where
  seat : ℕ
  now : Player
  sits : Sits street.players seat now
  live : now.bettor.live ≡ true
  acted : now.acted ≡ true
  put : now.bettor.put ≡ street.level
  even : put_before earlier seat ≡ most

-- Nobody has bet on this street, and a live player put in the most on earlier ones.
record IsQuiet (earlier : List StreetPlayed) (most : ℕ) (street : Street) : Type 0 where
  none : street.level ≡ 0
  seat : ℕ
  now : Player
  sits : Sits street.players seat now
  live : now.bettor.live ≡ true
  even : put_before earlier seat ≡ most

-- This is the first street, and nobody has met the big blind by an act.
record IsFirst (start : HandStart) (spared : ℕ → ℕ) (earlier : List StreetPlayed) (most : ℕ) (street : Street) : Type 0
  where
    before : earlier ≡ []
    none : most ≡ 0
    opening : IsOpening start spared street

-- Who has put in the most is who has met the bet level by an act, or somebody where nobody has bet. Before the flop it
-- may be that nobody has met the big blind yet.
abbrev IsTop : HandStart → (ℕ → ℕ) → List StreetPlayed → ℕ → Street → Type 0
IsTop start spared earlier most street =
    IsMet earlier most street ⊎ (IsQuiet earlier most street ⊎ IsFirst start spared earlier most street)

-- At each moment a live player has put in the most on earlier streets, and on this one too once somebody has bet.
record IsLed (start : HandStart) (spared : ℕ → ℕ) (streets : Streets) : Type 0 where
  most : ℕ
  even : IsEven streets.before spared most (street_now streets).players
  top : IsTop start spared streets.before most (street_now streets)

-- Before any act.
led-first : (start : HandStart) (spared : ℕ → ℕ) → IsLawfulStart start → IsLed start spared (first_streets start)
led-first start spared lawful = record {
  most = 0;
  even = record { even = λ seat now sits live some. refl; within = λ seat now sits. inl (omega arith) };
  top = inr (inr (record { before = refl; none = refl; opening = opening-first start spared lawful }));
}

-- What each has put in on earlier streets an act leaves as it is.
even-act : (earlier : List StreetPlayed) (spared : ℕ → ℕ) (most : ℕ) (limits : Limits) (street : Street) (seat : ℕ)
    (act : Act) (now : Player) (put_in : ℕ) → Acts limits street seat act now
    → IsEven earlier spared most street.players
    → IsEven earlier spared most (placed street seat now act put_in).players
even-act earlier spared most limits street seat act now put_in acted was =
    let slots = street.players in
    let after = moved put_in now act in
    let mine : Sits slots seat now = record { low = acted.low; there = acted.sits } in
    let more = acted.more in
    let his = was.even seat now mine acted.live (omega (arith, more)) in
    record {
      even = λ other found sits live some.
          elim (sits-after slots seat other now after found mine sits) [
            | inl here ↦ ap (put_before earlier) here.0 ∙ his
            | inr elsewhere ↦ was.even other found elsewhere.1 live some
          ];
      within = λ other found sits.
          elim (sits-after slots seat other now after found mine sits) [
            | inl here ↦ let same = ap (put_before earlier) here.0 ∙ his in inl (omega (arith, same))
            | inr elsewhere ↦ was.within other found elsewhere.1
          ];
    }

-- Who meets the bet level by his act has met it.
met-now : (earlier : List StreetPlayed) (spared : ℕ → ℕ) (most : ℕ) (limits : Limits) (street : Street) (seat : ℕ)
    (act : Act) (now : Player) (put_in : ℕ) → Acts limits street seat act now
    → IsEven earlier spared most street.players → is_fold act ≡ false → street.level ≤ now.bettor.put + put_in
    → IsMet earlier most (placed street seat now act put_in)
met-now earlier spared most limits street seat act now put_in acted was stays meets =
    let after = moved put_in now act in
    let mine : Sits street.players seat now = record { low = acted.low; there = acted.sits } in
    let more = acted.more in
    record {
      seat = seat;
      now = after;
      sits = sits-put street.players seat now after mine;
      live = and_from now.bettor.live (not (is_fold act)) acted.live (ap not stays);
      acted = refl;
      put = omega (arith, meets);
      even = was.even seat now mine acted.live (omega (arith, more));
    }

-- Who has acted and met the bet level is not due.
not-turn : (acted : Bool) (put level : ℕ) → acted ≡ true → put ≡ level → (not acted || nat_lt put level) ≡ true → ⊥
not-turn true put level done meets turn =
    let less = ltb-true put level turn in omega (arith, meets, less)
not-turn false put level done meets turn = cc

-- Where the bet level was met it is met after each act.
met-act : (earlier : List StreetPlayed) (spared : ℕ → ℕ) (most : ℕ) (limits : Limits) (street : Street) (seat : ℕ)
    (act : Act) (now : Player) (put_in : ℕ) → Acts limits street seat act now
    → IsEven earlier spared most street.players → (is_fold act ≡ true → put_in ≡ 0) → now.bettor.put ≤ street.level
    → IsMet earlier most street
    → IsMet earlier most (placed street seat now act put_in)
met-act earlier spared most limits street seat act now put_in acted even nothing_in low met =
    let after = moved put_in now act in
    let mine : Sits street.players seat now = record { low = acted.low; there = acted.sits } in
    elim (cases_lt street.level (now.bettor.put + put_in)) [
      | inl above ↦
          let stays : is_fold act ≡ false = false_from_ne_true (is_fold act)
          (λ folds. let none = nothing_in folds in omega (arith, none, above, low)) in
          met-now earlier spared most limits street seat act now put_in acted even stays (omega (arith, above))
      | inr below ↦
          let put = met.put in
          let apart : met.seat ≢ seat = λ same.
          (let him = sits-same street.players seat met.seat now met.now mine met.sits same in
          not-turn now.acted now.bettor.put street.level (sym (ap (λ (p : Player). p.acted) him) ∙ met.acted)
          (sym (ap (λ (p : Player). p.bettor.put) him) ∙ put) acted.turn) in
          record {
            seat = met.seat;
            now = met.now;
            sits = sits-kept street.players seat met.seat after met.now acted.low apart met.sits;
            live = met.live;
            acted = met.acted;
            put = omega (arith, put, below);
            even = met.even;
          }
    ]

-- Where nobody had bet, and somebody folds.
quiet-fold : (earlier : List StreetPlayed) (spared : ℕ → ℕ) (most : ℕ) (limits : Limits) (street : Street) (seat : ℕ)
    (act : Act) (now : Player) (put_in : ℕ) → Acts limits street seat act now → due_seat street ≡ Some seat
    → IsEven earlier spared most street.players → put_in ≡ 0
    → ((other : ℕ) (found : Player) → Sits street.players other found → found.bettor.put ≤ street.level)
    → IsQuiet earlier most street
    → IsQuiet earlier most (placed street seat now act put_in)
quiet-fold earlier spared most limits street seat act now put_in acted due even nothing_in low quiet =
    let after = moved put_in now act in
    let mine : Sits street.players seat now = record { low = acted.low; there = acted.sits } in
    let beside = due-beside street seat now due mine in
    let found = beside.found in
    let none = quiet.none in
    let his = low seat now mine in
    let kept = sits-kept street.players seat beside.other after found acted.low beside.apart beside.sits in
    let level : (placed street seat now act put_in).level ≡ 0 = omega (arith, none, his, nothing_in) in
    elim beside.does [
      | inl can ↦
          let parts = and_parts found.bettor.live (nat_lt 0 found.bettor.behind) can in
          let more = ltb-true 0 found.bettor.behind parts.1 in
          record {
            none = level;
            seat = beside.other;
            now = found;
            sits = kept;
            live = parts.0;
            even = even.even beside.other found beside.sits parts.0 (omega (arith, more));
          }
      | inr more ↦
          let above = more.1 in let most_put = low beside.other found beside.sits in
          absurd (omega (arith, above, most_put, none))
    ]

-- What holds of the most is kept by an act that is not refused.
top-act : (start : HandStart) (spared : ℕ → ℕ) (earlier : List StreetPlayed) (most : ℕ) (limits : Limits)
    (street : Street) (seat : ℕ) (act : Act) (now : Player) → IsLawfulStart start → IsSpared start spared
    → Acts limits street seat act now → due_seat street ≡ Some seat
    → limits.least (facing_of street now) ≡ street.level + street.full
    → map is_some street.players ≡ map is_some (players_by_seat start)
    → ((other : ℕ) (found : Player) → Sits street.players other found → found.bettor.put ≤ street.level)
    → IsEven earlier spared most street.players → IsTop start spared earlier most street
    → IsTop start spared earlier most (placed street seat now act (amount_of street.level now act))
top-act start spared earlier most limits street seat act now lawful is_spared acted due least there low even top =
    elim top [
      | inl met ↦ inl (met-act earlier spared most limits street seat act now put_in acted even nothing_in his met)
      | inr else_ ↦
          elim else_ [
            | inl quiet ↦
                elim (cases_Bool (is_fold act)) [
                  | inl folds ↦
                      inr (inl (quiet-fold earlier spared most limits street seat act now put_in acted due even
                      (nothing_in folds) low quiet))
                  | inr stays ↦
                      let none = quiet.none in
                      inl (met-now earlier spared most limits street seat act now put_in acted even stays
                      (omega (arith, none)))
                ]
            | inr first ↦ first-act first
          ]
    ]
  where
    put_in : ℕ
    put_in = amount_of street.level now act

    mine : Sits street.players seat now
    mine = record { low = acted.low; there = acted.sits }

    his : now.bettor.put ≤ street.level
    his = low seat now mine

    nothing_in : is_fold act ≡ true → amount_of street.level now act ≡ 0
    nothing_in = fold-none street.level now.bettor.put now.bettor.behind act

    first-on : now.bettor.put + amount_of street.level now act ≤ street.level
        → can_act (moved (amount_of street.level now act) now act) ≡ false → IsFirst start spared earlier most street
        → IsFirst start spared earlier most (placed street seat now act (amount_of street.level now act))
    first-on short cannot first =
        let opening = first.opening in
        let live = acted.live in
        let ten = ten-slots start street.players there in
        let can = and_from now.bettor.live (nat_lt 0 now.bettor.behind) live (lt-ltb 0 now.bettor.behind acted.more) in
        let blind = opening.blinds seat now mine
        (and_left now.acted now.bettor.live (opening.waits seat now mine can)) in
        let differ = big-waits start spared limits street seat act now opening acted due ten low in
        record {
          before = first.before;
          none = first.none;
          opening = opening-act start spared limits street seat act now (amount_of street.level now act) opening acted
              due ten low short cannot
              (λ out.
              let none = nothing_in (not-false (is_fold act) (rw live at out)) in
              omega (arith, none, blind))
              (λ out.
              fold-held start spared limits street seat act now lawful is_spared opening acted due differ there);
        }

    first-act : IsFirst start spared earlier most street
        → IsTop start spared earlier most (placed street seat now act (amount_of street.level now act))
    first-act first =
        let behind = now.bettor.behind - amount_of street.level now act in
        let live = now.bettor.live && not (is_fold act) in
        elim (cases_Bool (is_fold act)) [
          | inl folds ↦
              let none = nothing_in folds in
              let out = and_right now.bettor.live (not (is_fold act)) (ap not folds) in
              inr (inr (first-on (omega (arith, none, his)) (and_left live (nat_lt 0 behind) out) first))
          | inr stays ↦
              elim (cases_lt (now.bettor.put + amount_of street.level now act) street.level) [
                | inl short ↦
                    elim (acts-meet limits street seat act now acted least stays) [
                      | inl meets ↦ absurd (omega (arith, meets, short))
                      | inr all ↦
                          let gone = le-ltb 0 behind (omega (arith, all)) in
                          inr (inr (first-on (omega (arith, short)) (and_right live (nat_lt 0 behind) gone) first))
                    ]
                | inr enough ↦
                    inl (met-now earlier spared most limits street seat act now (amount_of street.level now act) acted
                    even stays enough)
              ]
        ]

-- A player of a street has put in no more on it than the bet level.
low-put : (start : HandStart) (streets : Streets) (acts : ℕ) → IsSound start streets acts
    → (seat : ℕ) (now : Player) → Sits (street_now streets).players seat now
    → now.bettor.put ≤ (street_now streets).level
low-put start streets acts sound seat now sits = (sound.each seat now sits.low sits.there).met

-- After an act that is not refused.
led-act : (start : HandStart) (spared : ℕ → ℕ) (streets : Streets) (acts seat : ℕ) (act : Act) → IsLawfulStart start
    → IsSpared start spared → IsSound start streets acts
    → act_refusal (limits_on start streets) (street_now streets) seat act ≡ None → IsLed start spared streets
    → IsLed start spared (with_act streets (record { seat = seat; act = act }))
led-act start spared streets acts seat act lawful is_spared sound free led =
    let street = street_now streets in
    let limits = limits_on start streets in
    let entry : SeatAct = record { seat = seat; act = act } in
    let acting = who-acts limits street seat act free in
    let now = acting.0 in
    let acted = acting.1 in
    let put_in = amount_of street.level now act in
    let is = placed-is limits streets.last.start streets.last.acts entry now sound.right acted in
    let due = accepted-due limits street seat act free in
    record {
      most = led.most;
      even = subst (λ (s : Street). IsEven streets.before spared led.most s.players) (sym is)
          (even-act streets.before spared led.most limits street seat act now put_in acted led.even);
      top = subst (λ (s : Street). IsTop start spared streets.before led.most s) (sym is)
          (top-act start spared streets.before led.most limits street seat act now lawful is_spared acted due
          (least-on start streets (facing_of street now)) sound.there (low-put start streets acts sound) led.even
          led.top);
    }

-- What each has put in on this street and earlier ones: nobody more than this, unless it is what he is spared, who can
-- act just as much, and a live player too.
record IsEnded (earlier : List StreetPlayed) (spared : ℕ → ℕ) (most : ℕ) (slots : List (Option Player)) : Type 0 where
  even : (seat : ℕ) (now : Player) → Sits slots seat now → can_act now ≡ true
      → put_before earlier seat + now.bettor.put ≡ most
  within : (seat : ℕ) (now : Player) → Sits slots seat now
      → (put_before earlier seat + now.bettor.put ≤ most) ⊎ (put_before earlier seat + now.bettor.put ≤ spared seat)
  seat : ℕ
  now : Player
  sits : Sits slots seat now
  live : now.bettor.live ≡ true
  same : put_before earlier seat + now.bettor.put ≡ most

-- Who may not be due though he can act has acted and met the bet level.
met-by : (level : ℕ) (now : Player) → can_act now ≡ true → may_be_due level now ≡ false
    → (now.acted ≡ true) × (level ≤ now.bettor.put)
met-by level now can rests =
    let parts = or_parts (not now.acted) (nat_lt now.bettor.put level) (rw can at rests) in
    (not-false now.acted parts.0, ltb-false now.bettor.put level parts.1)

-- Where a street has ended on which the bet level was met.
ended-met_level : (earlier : List StreetPlayed) (spared : ℕ → ℕ) (most : ℕ) (street : Street)
    → has_ended street ≡ true → length street.players ≡ 10
    → ((other : ℕ) (found : Player) → Sits street.players other found → found.bettor.put ≤ street.level)
    → IsEven earlier spared most street.players → IsMet earlier most street
    → IsEnded earlier spared (most + street.level) street.players
ended-met_level earlier spared most street ended ten low even met =
    let put = met.put in
    let base = met.even in
    record {
      even = λ seat now sits can.
          (let parts = and_parts now.bettor.live (nat_lt 0 now.bettor.behind) can in
          let more = ltb-true 0 now.bettor.behind parts.1 in
          let before = even.even seat now sits parts.0 (omega (arith, more)) in
          let within = sits-within street.players seat now sits in
          let his = low seat now sits in
          let reaches : street.level ≤ now.bettor.put =
          elim (ended-met street seat now ended sits (omega (arith, within, ten)) can) [
            | inl rests ↦ (met-by street.level now can rests).1
            | inr most_put ↦
                let top = most-at street.players now.bettor.put met.seat met.now most_put met.sits met.live in
                omega (arith, top, put)
          ] in
          omega (arith, before, his, reaches));
      within = λ seat now sits.
          (let his = low seat now sits in
          elim (even.within seat now sits) [
            | inl less ↦ inl (omega (arith, less, his))
            | inr let_off ↦ let none = let_off.0 in let few = let_off.1 in inr (omega (arith, none, few))
          ]);
      seat = met.seat;
      now = met.now;
      sits = met.sits;
      live = met.live;
      same = omega (arith, put, base);
    }

-- Where a street has ended on which nobody bet.
ended-quiet : (earlier : List StreetPlayed) (spared : ℕ → ℕ) (most : ℕ) (street : Street)
    → ((other : ℕ) (found : Player) → Sits street.players other found → found.bettor.put ≤ street.level)
    → IsEven earlier spared most street.players → IsQuiet earlier most street
    → IsEnded earlier spared most street.players
ended-quiet earlier spared most street low even quiet =
    let none = quiet.none in
    let base = quiet.even in
    let his_put = low quiet.seat quiet.now quiet.sits in
    record {
      even = λ seat now sits can.
          (let parts = and_parts now.bettor.live (nat_lt 0 now.bettor.behind) can in
          let more = ltb-true 0 now.bettor.behind parts.1 in
          let before = even.even seat now sits parts.0 (omega (arith, more)) in
          let his = low seat now sits in
          omega (arith, before, his, none));
      within = λ seat now sits.
          (let his = low seat now sits in
          elim (even.within seat now sits) [
            | inl less ↦ inl (omega (arith, less, his, none))
            | inr let_off ↦ let nothing_in = let_off.0 in let few = let_off.1 in inr (omega (arith, nothing_in, few))
          ]);
      seat = quiet.seat;
      now = quiet.now;
      sits = quiet.sits;
      live = quiet.live;
      same = omega (arith, none, base, his_put);
    }

-- What who is not live, or has not acted, has put in while nobody has met the big blind by an act.
first-put : (start : HandStart) (spared : ℕ → ℕ) (street : Street) (most seat : ℕ) (now : Player)
    → (opening : IsOpening start spared street) → Sits street.players seat now → now.bettor.live ≡ false
    → opening.big.bettor.put ≤ most
    → ((other : ℕ) (found : Player) → Sits street.players other found → found.bettor.live ≡ true
    → found.bettor.put ≤ most)
    → (now.bettor.put ≤ most) ⊎ (now.bettor.put ≤ spared seat)
first-put start spared street most seat now opening sits out big each =
    let blind = opening.blinds seat now sits (and_right now.acted now.bettor.live out) in
    elim (opening.folded seat now sits out) [
      | inl less ↦ inl (omega (arith, blind, less, big))
      | inr else_ ↦
          elim else_ [
            | inl let_off ↦ inr (omega (arith, blind, let_off))
            | inr firm ↦
                let enough = firm.enough in
                let top = each firm.seat firm.now firm.sits firm.live in
                inl (omega (arith, blind, enough, top))
          ]
    ]

-- Where the first street has ended and nobody has met the big blind by an act.
ended-first : (start : HandStart) (spared : ℕ → ℕ) (street : Street) → has_ended street ≡ true
    → length street.players ≡ 10
    → IsOpening start spared street → (most : ℕ) × IsEnded [] spared most street.players
ended-first start spared street ended ten opening =
    let slots = street.players in
    let top = greatest-live slots start.marks.big opening.big opening.sits opening.live in
    let sits = sits-index slots top.index top.found top.there in
    let each : (other : ℕ) (found : Player) → Sits slots other found → found.bettor.live ≡ true
    → found.bettor.put ≤ top.found.bettor.put = λ other found his live. top.most (other - 1) found his.there live in
    let big = each start.marks.big opening.big opening.sits opening.live in (
      top.found.bettor.put,
      record {
        even = λ seat now his can.
            (let parts = and_parts now.bettor.live (nat_lt 0 now.bettor.behind) can in
            let less = each seat now his parts.0 in
            let within = sits-within slots seat now his in
            elim (ended-met street seat now ended his (omega (arith, within, ten)) can) [
              | inl rests ↦
                  let done = (met-by street.level now can rests).0 in
                  let waits = opening.waits seat now his can in
                  let never : true ≡ false = sym done ∙ waits in
                  absurd cc
              | inr most_put ↦
                  let reaches = most-at slots now.bettor.put (top.index + 1) top.found most_put sits top.live in
                  omega (arith, less, reaches)
            ]);
        within = λ seat now his.
            elim (cases_Bool now.bettor.live) [
              | inl live ↦ let less = each seat now his live in inl (omega (arith, less))
              | inr out ↦
                  elim (first-put start spared street top.found.bettor.put seat now opening his out big each) [
                    | inl less ↦ inl (omega (arith, less))
                    | inr few ↦ inr (omega (arith, few))
                  ]
            ];
        seat = top.index + 1;
        now = top.found;
        sits = sits;
        live = top.live;
        same = omega arith;
      },
    )

-- Where a street has ended.
ended-led : (start : HandStart) (spared : ℕ → ℕ) (streets : Streets) (acts : ℕ) → IsSound start streets acts
    → has_ended (street_now streets) ≡ true → IsLed start spared streets
    → (most : ℕ) × IsEnded streets.before spared most (street_now streets).players
ended-led start spared streets acts sound ended led =
    let street = street_now streets in
    let ten = ten-slots start street.players sound.there in
    let low = low-put start streets acts sound in
    elim led.top [
      | inl met ↦ (
        led.most + street.level,
        ended-met_level streets.before spared led.most street ended ten low led.even met,
      )
      | inr else_ ↦
          elim else_ [
            | inl quiet ↦ (led.most, ended-quiet streets.before spared led.most street low led.even quiet)
            | inr first ↦
                let all = ended-first start spared street ended ten first.opening in (
                  all.0,
                  subst (λ (list : List StreetPlayed). IsEnded list spared all.0 street.players) (sym first.before)
                      all.1,
                )
          ]
    ]

-- Where the next street begins.
led-next : (start : HandStart) (spared : ℕ → ℕ) (streets : Streets) (acts : ℕ) → IsSound start streets acts
    → has_ended (street_now streets) ≡ true → IsLed start spared streets
    → IsLed start spared (with_next_street start streets)
led-next start spared streets acts sound ended led =
    let street = street_now streets in
    let over = ended-led start spared streets acts sound ended led in
    let most = over.0 in
    let was = over.1 in
    let earlier = streets.last ∷ streets.before in
    let here = next-put start streets was.seat was.now was.sits in
    let stands = was.same in
    record {
      most = most;
      even = record {
        even = λ seat now sits live some.
            (let old = next-old start streets seat now sits in
            let him = old.0 in
            let is = old.1.1 in
            let behind = ap (λ (p : Player). p.bettor.behind) is in
            let put = ap (λ (p : Player). p.bettor.put) is in
            let lives = sym (ap (λ (p : Player). p.bettor.live) is) ∙ live in
            let can = and_from him.bettor.live (nat_lt 0 him.bettor.behind) lives
            (lt-ltb 0 him.bettor.behind (omega (arith, some, behind, put))) in
            next-put start streets seat him old.1.0 ∙ was.even seat him old.1.0 can);
        within = λ seat now sits.
            (let old = next-old start streets seat now sits in
            let him = old.0 in
            let put = ap (λ (p : Player). p.bettor.put) old.1.1 in
            let all = next-put start streets seat him old.1.0 in
            elim (was.within seat him old.1.0) [
              | inl less ↦ inl (omega (arith, all, less))
              | inr few ↦ inr (put, omega (arith, all, few))
            ]);
      };
      top = inr (inl (record {
        none = level-next start streets;
        seat = was.seat;
        now = fresh (at_next_street was.now);
        sits = record {
          low = was.sits.low;
          there = slot-next start streets was.seat ∙ ap (λ (slot : Option Player). option_map fresh
              (option_map at_next_street slot)) was.sits.there;
        };
        live = was.live;
        even = here ∙ stands;
      }));
    }
  where
    next-put : (start : HandStart) (streets : Streets) (seat : ℕ) (now : Player)
        → Sits (street_now streets).players seat now
        → put_before (streets.last ∷ streets.before) seat ≡ put_before streets.before seat + now.bettor.put
    next-put start streets seat now sits =
        let all = sum_by-cons (put_from seat) streets.last streets.before in
        let put = put_from-there streets.last seat now sits.low sits.there in
        omega (arith, all, put)

    next-old : (start : HandStart) (streets : Streets) (seat : ℕ) (now : Player)
        → Sits (street_now (with_next_street start streets)).players seat now
        → (was : Player) × (Sits (street_now streets).players seat was × (now ≡ fresh (at_next_street was)))
    next-old start streets seat now sits =
        let slots = slot-next start streets seat in
        let slot = player_at (street_now streets).players seat in
        let one = map_found fresh (option_map at_next_street slot) now (sym slots ∙ sits.there) in
        let two = map_found at_next_street slot one.0 one.1 in
        (two.0, (record { low = sits.low; there = two.1 }, sym (ap fresh two.2 ∙ one.2)))

-- In every lawful play a live player has put in the most, but for what is spared.
led-play : (hand : HandTerms) (spared : ℕ → ℕ) → IsLawfulStart hand.start → IsLawfulPlay hand
    → IsSpared hand.start spared → IsLed hand.start spared (streets_of hand)
led-play hand spared lawful play is_spared =
    kept-play hand (IsLed hand.start spared) lawful play
    (record {
      first = led-first hand.start spared lawful;
      next = λ streets acts sound ended led. led-next hand.start spared streets acts sound ended led;
      act = λ streets acts seat act sound free led.
          led-act hand.start spared streets acts seat act lawful is_spared sound free led;
    })

-- A live player who has put in as much as this one, but for what this one is spared.
record IsUpTo (streets : Streets) (most spare : ℕ) : Type 0 where
  seat : ℕ
  now : Player
  sits : Sits (street_now streets).players seat now
  live : now.bettor.live ≡ true
  enough : (most ≤ put_before streets.before seat + now.bettor.put) ⊎ (most ≤ spare)

-- Some live player has put in as much as each.
led-up_to : (start : HandStart) (spared : ℕ → ℕ) (streets : Streets) (acts seat : ℕ) (now : Player)
    → IsSound start streets acts → IsLed start spared streets → Sits (street_now streets).players seat now
    → IsUpTo streets (put_before streets.before seat + now.bettor.put) (spared seat)
led-up_to start spared streets acts seat now sound led sits =
    let street = street_now streets in
    let low = low-put start streets acts sound in
    let his = low seat now sits in
    elim led.top [
      | inl met ↦
          let put = met.put in
          let base = met.even in
          let enough : (put_before streets.before seat + now.bettor.put
          ≤ put_before streets.before met.seat + met.now.bettor.put)
          ⊎ (put_before streets.before seat + now.bettor.put ≤ spared seat) =
          elim (led.even.within seat now sits) [
            | inl less ↦ inl (omega (arith, less, his, put, base))
            | inr let_off ↦ let none = let_off.0 in let few = let_off.1 in inr (omega (arith, none, few))
          ] in
          record { seat = met.seat; now = met.now; sits = met.sits; live = met.live; enough = enough }
      | inr else_ ↦
          elim else_ [
            | inl quiet ↦
                let none = quiet.none in
                let base = quiet.even in
                let enough : (put_before streets.before seat + now.bettor.put
                ≤ put_before streets.before quiet.seat + quiet.now.bettor.put)
                ⊎ (put_before streets.before seat + now.bettor.put ≤ spared seat) =
                elim (led.even.within seat now sits) [
                  | inl less ↦ inl (omega (arith, less, his, none, base))
                  | inr let_off ↦ let nothing_in = let_off.0 in let few = let_off.1 in
                      inr (omega (arith, nothing_in, few))
                ] in
                record { seat = quiet.seat; now = quiet.now; sits = quiet.sits; live = quiet.live; enough = enough }
            | inr first ↦ first-up_to first.before first.opening
          ]
    ]
  where
    first-up_to : streets.before ≡ [] → IsOpening start spared (street_now streets)
        → IsUpTo streets (put_before streets.before seat + now.bettor.put) (spared seat)
    first-up_to before opening =
        let slots = (street_now streets).players in
        let top = greatest-live slots start.marks.big opening.big opening.sits opening.live in
        let each : (other : ℕ) (found : Player) → Sits slots other found → found.bettor.live ≡ true
        → found.bettor.put ≤ top.found.bettor.put =
        λ other found his live. top.most (other - 1) found his.there live in
        let big = each start.marks.big opening.big opening.sits opening.live in
        let mine : put_before streets.before seat ≡ 0 =
        ap (λ (earlier : List StreetPlayed). put_before earlier seat) before in
        let bound : (now.bettor.put ≤ top.found.bettor.put) ⊎ (now.bettor.put ≤ spared seat) =
        elim (cases_Bool now.bettor.live) [
          | inl live ↦ inl (each seat now sits live)
          | inr out ↦
              first-put start spared (street_now streets) top.found.bettor.put seat now opening sits out big each
        ] in
        record {
          seat = top.index + 1;
          now = top.found;
          sits = sits-index slots top.index top.found top.there;
          live = top.live;
          enough = elim bound [
            | inl less ↦ inl (omega (arith, less, mine))
            | inr few ↦ inr (omega (arith, few, mine))
          ];
        }

-- Who has put in no more than a live player of the street is covered.
covered-by : (hand : HandTerms) (player : StartSeat) (seat : ℕ) (now : Player)
    → IsSound hand.start (streets_of hand) (length hand.acts) → Sits (street_of hand).players seat now
    → now.bettor.live ≡ true → put_in_hand hand player ≤ put_before (streets_of hand).before seat + now.bettor.put
    → is_covered hand player ≡ true
covered-by hand player seat now sound sits live enough =
    let dealt = sits-dealt hand.start (street_of hand).players seat now sound.there sits in
    let other = dealt.0 in
    let found = player_of-seat hand.start seat other dealt.1 in
    let here = put_from-there (streets_of hand).last seat now sits.low sits.there in
    let at : player_in (street_of hand).players other.seat ≡ Some now =
    ap (player_in (street_of hand).players) found
    ∙ player_in-there (street_of hand).players seat sits.low ∙ sits.there in
    let lives : is_live hand other ≡ true =
    ap (λ (slot : Option Player). option_map_or (λ (p : Player). p.bettor.live) slot false) at ∙ live in
    let all : put_in_hand hand other ≡ now.bettor.put + put_before (streets_of hand).before seat =
    ap (λ (n : ℕ). put_from n (streets_of hand).last + put_before (streets_of hand).before n) found
    ∙ ap (λ (n : ℕ). n + put_before (streets_of hand).before seat) here in
    let reaches = le-leb (put_in_hand hand player) (put_in_hand hand other) (omega (arith, all, enough)) in
    find-any (λ (p : StartSeat). p.seat == seat)
    (λ (p : StartSeat). is_live hand p && nat_le (put_in_hand hand player) (put_in_hand hand p)) hand.start.seats other
    dealt.1 (and_from (is_live hand other) (nat_le (put_in_hand hand player) (put_in_hand hand other)) lives reaches)

-- Each player is covered, or has put in no more than what he is spared, and has put something in.
covered-but : (hand : HandTerms) (spared : ℕ → ℕ) (seat : ℕ) (player : StartSeat) → IsLawfulStart hand.start
    → IsLawfulPlay hand → IsSpared hand.start spared → player_of hand.start seat ≡ Some player
    → (is_covered hand player ≡ true)
    ⊎ ((put_in_hand hand player ≤ spared seat) × (0 < put_in_hand hand player))
covered-but hand spared seat player lawful play is_spared found =
    let sound = sound-play hand lawful play in
    let led = led-play hand spared lawful play is_spared in
    let within = found-within hand.start seat player lawful found in
    let there = there-at hand.start (street_of hand).players seat player lawful sound.there found in
    let sits : Sits (street_of hand).players seat there.0 = record { low = within.1; there = there.1 } in
    let upper = led-up_to hand.start spared (streets_of hand) (length hand.acts) seat there.0 sound led sits in
    let here = put_from-there (streets_of hand).last seat there.0 within.1 there.1 in
    let all : put_in_hand hand player ≡ there.0.bettor.put + put_before (streets_of hand).before seat =
    ap (λ (n : ℕ). put_from n (streets_of hand).last + put_before (streets_of hand).before n) within.0
    ∙ ap (λ (n : ℕ). n + put_before (streets_of hand).before seat) here in
    let covers = covered-by hand player upper.seat upper.now sound upper.sits upper.live in
    elim upper.enough [
      | inl enough ↦ inl (covers (omega (arith, all, enough)))
      | inr few ↦
          elim (cases_lt 0 (put_in_hand hand player)) [
            | inl some ↦ inr (omega (arith, all, few), some)
            | inr none ↦ inl (covers (omega (arith, none)))
          ]
    ]

-- Where nobody is dealt in between the small mark and the big one, each player is covered.
pub covered-next : (hand : HandTerms) (seat : ℕ) (player : StartSeat) → IsLawfulStart hand.start → IsLawfulPlay hand
    → is_big_next hand.start ≡ true → player_of hand.start seat ≡ Some player → is_covered hand player ≡ true
covered-next hand seat player lawful play next found =
    elim (covered-but hand (λ s. 0) seat player lawful play (inl next) found) [
      | inl covered ↦ covered
      | inr few ↦ let none = few.0 in let some = few.1 in absurd (omega (arith, none, some))
    ]

-- Wherever the marks are, who is not covered sits in the small mark's seat, has put in no more than he posted, and the
-- player in the big mark's seat posted less.
pub covered-anywhere : (hand : HandTerms) (seat : ℕ) (player big : StartSeat) → IsLawfulStart hand.start
    → IsLawfulPlay hand → player_of hand.start seat ≡ Some player
    → player_of hand.start hand.start.marks.big ≡ Some big → is_covered hand player ≡ false
    → (seat ≡ hand.start.marks.small) × (put_in_hand hand player ≤ posted hand.start player)
    × (posted hand.start big < posted hand.start player)
covered-anywhere hand seat player big lawful play found dealt open_ =
    let start = hand.start in
    let spared : ℕ → ℕ = λ s.
    cond (nat_le (posted_at start s) (posted_at start start.marks.big)) 0 (posted_at start s) in
    elim (covered-but hand spared seat player lawful play (inr (λ s. each start s)) found) [
      | inl covered ↦ let never : true ≡ false = sym covered ∙ open_ in absurd cc
      | inr few ↦
          let less = by_less start seat (put_in_hand hand player) few.0 few.1 in
          let most = less.0 in
          let above = less.1 in
          let mine = posted-found start seat player found in
          let his = posted-found start start.marks.big big dealt in
          (small-more start seat lawful above, omega (arith, most, mine), omega (arith, above, mine, his))
    ]
  where
    each : (start : HandStart) (s : ℕ)
        → (posted_at start s ≤ posted_at start start.marks.big)
        ⊎ (posted_at start s
        ≤ cond (nat_le (posted_at start s) (posted_at start start.marks.big)) 0 (posted_at start s))
    each start s =
        elim (cases_Bool (nat_le (posted_at start s) (posted_at start start.marks.big))) [
          | inl less ↦ inl (leb-true (posted_at start s) (posted_at start start.marks.big) less)
          | inr more ↦ inr (rw more (omega arith))
        ]

    by_less : (start : HandStart) (seat put : ℕ)
        → put ≤ cond (nat_le (posted_at start seat) (posted_at start start.marks.big)) 0 (posted_at start seat)
        → 0 < put → (put ≤ posted_at start seat) × (posted_at start start.marks.big < posted_at start seat)
    by_less start seat put few some =
        elim (cases_Bool (nat_le (posted_at start seat) (posted_at start start.marks.big))) [
          | inl less ↦ let none = rw less at few in absurd (omega (arith, none, some))
          | inr more ↦
              (rw more at few, leb-false (posted_at start seat) (posted_at start start.marks.big) more)
        ]

    small-more : (start : HandStart) (seat : ℕ) → IsLawfulStart start
        → posted_at start start.marks.big < posted_at start seat → seat ≡ start.marks.small
    small-more start seat lawful above =
        elim (cases_eq seat start.marks.small) [
          | inl small ↦ small
          | inr other ↦
              let apart : seat ≢ start.marks.big = λ same.
              (let all = ap (posted_at start) same in omega (arith, above, all)) in
              let none = none-posted start seat lawful apart other in
              absurd (omega (arith, above, none))
        ]
