-- Where a hand comes to a showdown, a live player has put in chips.
use Rattle.std.proofs.Common.{◌≡◌, ◌≢◌, ◌∙◌, ℕ, zero, suc, ◌+◌, ◌-◌, ◌≤◌, ◌<◌, Bool, true, false, cond, List, [], ◌∷◌, length, map, Some, None, refl, ap, sym, subst, inl, inr, arith}
use Rattle.std.specs.Prelude.{Option, ◌==◌, ◌&&◌, ◌||◌, ◌⊎◌, count_by, is_none, nat_le, nat_lt, not, option_map, slice_index_or, slice_set, sum_by}
use Rattle.std.specs.List.{list_all, list_any}
use Rattle.std.specs.Option.{is_some}
use Rattle.std.proofs.lemmas.Bool.{and_from, and_parts, and_right, cases_Bool, eqb-false, ne_eqb, not-true, or_right}
use Rattle.std.proofs.lemmas.Bool.Decides.{nat_tests}
use Rattle.std.proofs.lemmas.List.Sums.{sum_by-cons}
use Rattle.rulebook.proofs.Passing.{count_by-all, not-any, sum_by-agree}
use Rattle.rulebook.proofs.Tests.{list_all-always}
use Rattle.betting_round.specs.declared.act.Act.{Act}
use Rattle.betting_round.specs.declared.bettor.Bettor.{Bettor}
use Rattle.betting_round.specs.declared.bettor.Player.{Player}
use Rattle.betting_round.specs.declared.street.Street.{Street}
use Rattle.betting_round.specs.Acts.{is_fold}
use Rattle.betting_round.specs.ActChecks.{act_refusal}
use Rattle.betting_round.specs.Running.{amount_of, moved, placed}
use Rattle.betting_round.specs.StreetActs.{SeatAct, at_next_street, fresh, sum_over}
use Rattle.betting_round.specs.WhoIsDue.{can_act, due_seat, is_closed, is_live, is_one_live, is_there, may_be_due, player_at}
use Rattle.betting_round.proofs.Acted.{who-acts}
use Rattle.betting_round.proofs.Steps.{street_start_is, sum_map, sum_set}
use Rattle.betting_round.proofs.Turns.{accepted-due}
use Rattle.pot_layers.specs.declared.put.Put.{Put}
use Rattle.pot_layers.specs.Layers.{is_contested, is_eligible}
use Rattle.table_engine.specs.declared.start.HandStart.{HandStart}
use Rattle.table_engine.specs.declared.start.StartSeat.{StartSeat}
use Rattle.table_engine.specs.Acts.{limits_on}
use Rattle.table_engine.specs.Hands.{HandTerms, StreetPlayed, Streets, first_street, first_streets, has_ended, is_over, later_street, players_by_seat, playing, put_from, seated, street_now, street_of, streets_of, with_act, with_next_street}
use Rattle.table_engine.specs.Plays.{IsLawfulPlay}
use Rattle.table_engine.specs.Results.{is_won_by_folds, puts_in_hand}
use Rattle.table_engine.specs.Starts.{IsLawfulStart}
use Rattle.table_engine.specs.Tellings.{told}
use Rattle.table_engine.proofs.Along.{kept-play}
use Rattle.table_engine.proofs.BySeat.{sum-of_start}
use Rattle.table_engine.proofs.DueSeats.{due-many, nobody-may}
use Rattle.table_engine.proofs.Puts.{listed-found, puts-hand, puts-moved, puts-next, puts_of}
use Rattle.table_engine.proofs.Sitting.{none-there}
use Rattle.table_engine.proofs.Sound.{IsSound, greatest-least, placed-is, put_from-there, sound-play}
use Rattle.table_engine.proofs.WholeUnits.{blinds-lawful, found-playable, playing-some}

-- One for each live player.
abbrev lives : Player → ℕ
lives now = cond now.bettor.live 1 0

-- One where a test holds.
abbrev one_if : Bool → ℕ
one_if holds = cond holds 1 0

-- A player is live, and has put in all that he had.
abbrev is_all_in : Player → Bool
is_all_in now = now.bettor.live && (now.bettor.behind == 0)

-- Who is live has put in chips.
abbrev has_paid : Put → Bool
has_paid put = not put.live || nat_le 1 put.amount

-- A live player is all-in, or every live player has put in chips.
abbrev ArePaid : HandStart → List (Option Player) → Type 0
ArePaid start slots =
    (list_any (is_there is_all_in) slots ≡ true) ⊎ (list_all has_paid (puts_of start (players_by_seat start) slots) ≡ true)

-- Somebody is live. On the first street there is something to meet, and on later streets the live have paid.
record IsAlive (start : HandStart) (streets : Streets) : Type 0 where
  some : 1 ≤ sum_over lives (street_now streets).players
  opened : streets.before ≡ [] → 0 < (street_now streets).level
  paid : (streets.before ≡ [] → ⊥) → ArePaid start (street_now streets).players

-- Live players, counted and summed.
count-lives : (slots : List (Option Player)) → count_by (is_there is_live) slots ≡ sum_over lives slots
count-lives [] = refl
count-lives (None ∷ slots) =
    let all = sum_by-cons (λ (slot : Option Player). cond (is_there is_live slot) 1 0) None slots in
    let later = count-lives slots in omega arith
count-lives (Some now ∷ slots) =
    let all = sum_by-cons (λ (slot : Option Player). cond (is_there is_live slot) 1 0) (Some now) slots in
    let later = count-lives slots in omega arith

-- As many ones as there are people.
sum-ones : (players : List StartSeat) → sum_by (λ (player : StartSeat). 1) players ≡ length players
sum-ones players =
    count_by-all (λ (player : StartSeat). true) players
    (list_all-always (λ (player : StartSeat). true) players (λ player. refl))

-- Before any act all who are dealt in are live, and the big blind is to be met.
alive-first : (start : HandStart) → IsLawfulStart start → IsAlive start (first_streets start)
alive-first start lawful =
    let first = first_street start in
    let began = street_start_is first in
    let all : sum_over lives (street_now (first_streets start)).players ≡ sum_over (λ (player : StartSeat). 1)
    (players_by_seat start) =
    ap (λ (s : Street). sum_over lives s.players) began ∙ sum_map lives fresh first.bettors
    ∙ sum_map (λ (bettor : Bettor). lives (fresh bettor)) (seated start) (players_by_seat start) in
    let ones = sum-of_start start (λ (player : StartSeat). 1) lawful in
    let count = sum-ones start.seats in
    let two = lawful.two in
    let big = (blinds-lawful start lawful).some in
    let least = greatest-least start.blind.big (λ (bettor : Bettor). bettor.put) first.bettors in
    let level = ap (λ (s : Street). s.level) began in
    record {
      some = omega arith;
      opened = λ none. omega arith;
      paid = λ later. absurd (later refl);
    }

-- The next street leaves who is all-in.
all_in-next : (slots : List (Option Player))
    → list_any (is_there is_all_in) (map (option_map fresh) (map (option_map at_next_street) slots)) ≡ list_any
    (is_there is_all_in) slots
all_in-next [] = refl
all_in-next (None ∷ slots) = all_in-next slots
all_in-next (Some now ∷ slots) = ap (λ (rest : Bool). is_all_in now || rest) (all_in-next slots)

-- Where no live player is all-in those who can act are those who are live.
count-can_act : (slots : List (Option Player)) → list_any (is_there is_all_in) slots ≡ false
    → count_by (is_there can_act) slots ≡ count_by (is_there is_live) slots
count-can_act slots none =
    sum_by-agree (λ (slot : Option Player). one_if (is_there can_act slot)) (λ slot. one_if (is_there is_live slot))
    (λ slot. not (is_there is_all_in slot)) slots each (sym (not-any (is_there is_all_in) slots) ∙ ap not none)
  where
    alike : (live : Bool) (behind : ℕ) → (live && (behind == 0)) ≡ false → (live && nat_lt 0 behind) ≡ live
    alike true behind none = grind (arith, nat_tests)
    alike false behind none = refl

    each : (slot : Option Player) → not (is_there is_all_in slot) ≡ true
        → one_if (is_there can_act slot) ≡ one_if (is_there is_live slot)
    each None partly = refl
    each (Some now) partly =
        let same : can_act now ≡ now.bettor.live =
        alike now.bettor.live now.bettor.behind (not-true (is_all_in now) partly) in
        ap one_if same

-- Where nobody is due and two or more are live, of whom none is all-in, no live player may be due.
nobody-waits : (street : Street) (index : ℕ) → has_ended street ≡ true
    → list_any (is_there is_all_in) street.players ≡ false → index < 10
    → is_there (may_be_due street.level) (player_at street.players (suc index)) ≡ false
nobody-waits street index ended none within =
    let parts = and_parts (is_none (due_seat street)) (not (is_one_live street.players)) ended in
    let many : is_one_live street.players ≡ false = not-true (is_one_live street.players) parts.1 in
    let counts = count-can_act street.players none in
    let one : (count_by (is_there can_act) street.players == 1) ≡ false = ap (λ (n : ℕ). n == 1) counts ∙ many in
    let open_ : is_closed street.players ≡ false = rw (many, one) refl in
    nobody-may street index ended open_ within

-- All puts pass a test where each player's does.
all-puts : (start : HandStart) (players : List (Option StartSeat)) (slots : List (Option Player))
    → ((index : ℕ) (player : StartSeat) (now : Player) → slice_index_or players index None ≡ Some player
    → slice_index_or slots index None ≡ Some now
    → has_paid (record { amount = playing start player - now.bettor.behind; live = now.bettor.live }) ≡ true)
    → list_all has_paid (puts_of start players slots) ≡ true
all-puts start [] slots each = refl
all-puts start (player ∷ players) [] each = refl
all-puts start (None ∷ players) (slot ∷ slots) each = all-puts start players slots (λ index. each (suc index))
all-puts start (Some player ∷ players) (None ∷ slots) each = all-puts start players slots (λ index. each (suc index))
all-puts start (Some player ∷ players) (Some now ∷ slots) each =
    and_from _ _ (each 0 player now refl refl) (all-puts start players slots (λ index. each (suc index)))

-- Once the first street has ended the live have paid.
ended-paid : (start : HandStart) (streets : Streets) (acts : ℕ) → IsLawfulStart start → IsSound start streets acts
    → streets.before ≡ []
    → 0 < (street_now streets).level → has_ended (street_now streets) ≡ true
    → ArePaid start (street_now streets).players
ended-paid start streets acts lawful sound first level ended =
    let street = street_now streets in
    elim (cases_Bool (list_any (is_there is_all_in) street.players)) [
      | inl some ↦ inl some
      | inr none ↦ inr (all-puts start (players_by_seat start) street.players
          (λ index player now listed there.
          let found = listed-found start index player listed in
          let seat : player.seat ≡ index + 1 = found.0 in
          let same : player.seat - 1 ≡ index = omega arith in
          let low : 1 ≤ player.seat = omega arith in
          let at : player_at street.players player.seat ≡ Some now =
          ap (λ (n : ℕ). slice_index_or street.players n None) same ∙ there in
          let his = sound.each player.seat now low at in
          let put = put_from-there streets.last player.seat now low at in
          let before : sum_by (put_from player.seat) streets.before ≡ 0 =
          ap (λ (played : List StreetPlayed). sum_by (put_from player.seat) played) first in
          let stack = his.stack player found.1 in
          let partly = none-there is_all_in street.players index now none there in
          let within = index-ten start index player listed in
          let back : suc index - 1 ≡ index = omega arith in
          let sits : player_at street.players (suc index) ≡ Some now =
          ap (λ (n : ℕ). slice_index_or street.players n None) back ∙ there in
          let waits : may_be_due street.level now ≡ false =
          sym (ap (is_there (may_be_due street.level)) sits) ∙ nobody-waits street index ended none within in
          paid-by now.bettor.live now.acted now.bettor.put now.bettor.behind (playing start player) street.level partly waits
          (omega arith) level))
    ]
  where
    index-ten : (start : HandStart) (index : ℕ) (player : StartSeat)
        → slice_index_or (players_by_seat start) index None ≡ Some player → index < 10
    index-ten start index player listed = slot-within (players_by_seat start) index player listed
      where
        slot-within : (slots : List (Option StartSeat)) (index : ℕ) (player : StartSeat)
            → slice_index_or slots index None ≡ Some player → index < length slots
        slot-within [] index player listed = absurd cc
        slot-within (slot ∷ slots) zero player listed = omega arith
        slot-within (slot ∷ slots) (suc index) player listed = let later =
            slot-within slots index player listed in omega arith

    paid-by : (live acted : Bool) (put behind stack level : ℕ) → (live && (behind == 0)) ≡ false
        → ((live && nat_lt 0 behind) && (not acted || nat_lt put level)) ≡ false → behind + put ≡ stack → 0 < level
        → (not live || nat_le 1 (stack - behind)) ≡ true
    paid-by false acted put behind stack level partly waits all some = refl
    paid-by true false put behind stack level partly waits all some = let never : nat_lt 0 behind ≡ true =
        grind (arith, nat_tests) in absurd (let lost : true ≡ false = rw never at waits in cc)
    paid-by true true put behind stack level partly waits all some =
        let more : nat_lt 0 behind ≡ true = grind (arith, nat_tests) in
        let met : nat_lt put level ≡ false = rw more at waits in
        grind (arith, nat_tests)

-- What is paid stays paid where the next street begins.
alive-next : (start : HandStart) (streets : Streets) (acts : ℕ) → IsLawfulStart start → IsSound start streets acts
    → has_ended (street_now streets) ≡ true → IsAlive start streets → IsAlive start (with_next_street start streets)
alive-next start streets acts lawful sound ended alive =
    let street = street_now streets in
    let next = later_street start streets in
    let began = street_start_is next in
    let all : sum_over lives (street_now (with_next_street start streets)).players ≡ sum_over lives street.players =
    ap (λ (s : Street). sum_over lives s.players) began ∙ sum_map lives fresh next.bettors
    ∙ sum_map (λ (bettor : Bettor). lives (fresh bettor)) at_next_street street.players in
    let some = alive.some in
    record {
      some = omega arith;
      opened = λ none. absurd cc;
      paid = λ later. subst (λ (s : Street). ArePaid start s.players) (sym began)
          (elim (by_before streets.before refl) [
            | inl any ↦ inl (all_in-next street.players ∙ any)
            | inr paid ↦ inr (ap (list_all has_paid) (puts-next start (players_by_seat start) street.players) ∙ paid)
          ]);
    }
  where
    by_before : (before : List StreetPlayed) → streets.before ≡ before → ArePaid start (street_now streets).players
    by_before [] is = ended-paid start streets acts lawful sound is (alive.opened is) ended
    by_before (played ∷ more) is = alive.paid (λ none. let never : played ∷ more ≡ [] = sym is ∙ none in cc)

-- Who passes a test in a slot still does where another slot is written.
any-set : (test : Player → Bool) (slots : List (Option Player)) (index : ℕ) (now after : Player)
    → slice_index_or slots index None ≡ Some now
    → test now ≡ false → list_any (is_there test) slots ≡ true
    → list_any (is_there test) (slice_set slots index (Some after)) ≡ true
any-set test [] index now after there fails some = absurd cc
any-set test (slot ∷ slots) zero now after there fails some =
    let here : is_there test slot ≡ false = ap (is_there test) there ∙ fails in
    let later : list_any (is_there test) slots ≡ true = rw here at some in
    or_right (test after) (list_any (is_there test) slots) later
any-set test (slot ∷ slots) (suc index) now after there fails some =
    by_first (is_there test slot) refl (λ rest. any-set test slots index now after there fails rest)
  where
    by_first : (first : Bool) → is_there test slot ≡ first
        → (list_any (is_there test) slots ≡ true → list_any (is_there test) (slice_set slots index (Some after)) ≡ true)
        → (is_there test slot || list_any (is_there test) (slice_set slots index (Some after))) ≡ true
    by_first true is later = rw is refl
    by_first false is later = rw is (later (rw is at some))

-- What is paid stays paid where more is put in, or a player folds.
paid-told : (folds : Bool) (puts : List Put) (index put_in : ℕ) → list_all has_paid puts ≡ true
    → list_all has_paid (told puts index put_in folds) ≡ true
paid-told true [] index put_in all = refl
paid-told false [] index put_in all = refl
paid-told true (put ∷ puts) zero put_in all = (and_parts (has_paid put) (list_all has_paid puts) all).1
paid-told false (put ∷ puts) zero put_in all =
    let parts = and_parts (has_paid put) (list_all has_paid puts) all in
    and_from _ _ (more-paid put.live put.amount put_in parts.0) parts.1
  where
    more-paid : (live : Bool) (amount put_in : ℕ) → (not live || nat_le 1 amount) ≡ true
        → (not live || nat_le 1 (amount + put_in)) ≡ true
    more-paid true amount put_in paid = grind (arith, nat_tests)
    more-paid false amount put_in paid = refl
paid-told true (put ∷ puts) (suc index) put_in all =
    let parts = and_parts (has_paid put) (list_all has_paid puts) all in
    and_from _ _ parts.0 (paid-told true puts index put_in parts.1)
paid-told false (put ∷ puts) (suc index) put_in all =
    let parts = and_parts (has_paid put) (list_all has_paid puts) all in
    and_from _ _ parts.0 (paid-told false puts index put_in parts.1)

-- An act that is not refused leaves somebody live, and what is paid is paid.
alive-act : (start : HandStart) (streets : Streets) (acts seat : ℕ) (act : Act) → IsSound start streets acts
    → act_refusal (limits_on start streets) (street_now streets) seat act ≡ None → IsAlive start streets
    → IsAlive start (with_act streets (record { seat = seat; act = act }))
alive-act start streets acts seat act sound free alive =
    let street = street_now streets in
    let entry : SeatAct = record { seat = seat; act = act } in
    let acting = who-acts (limits_on start streets) street seat act free in
    let now = acting.0 in
    let acted = acting.1 in
    let put_in = amount_of street.level now act in
    let after = moved put_in now act in
    let is = placed-is (limits_on start streets) streets.last.start streets.last.acts entry now sound.right acted in
    let sums = sum_set (seat - 1) lives now after street.players acted.sits in
    let one : lives now ≡ 1 = ap (λ (b : Bool). cond b 1 0) acted.live in
    let due = accepted-due (limits_on start streets) street seat act free in
    let many : (count_by (is_there is_live) street.players == 1) ≡ false = due-many street seat due in
    let count = count-lives street.players in
    let some = alive.some in
    let two : 2 ≤ sum_over lives street.players = (let apart : count_by (is_there is_live) street.players ≢ 1 =
    eqb-false (count_by (is_there is_live) street.players) 1 many in omega (arith, apart, count, some)) in
    let same = ap (λ (s : Street). sum_over lives s.players) is in
    let grows : street.level ≤ (placed street seat now act put_in).level = omega arith in
    let level = ap (λ (s : Street). s.level) is in
    let puts = puts-moved start streets acts seat act now sound acted in
    let more = acted.more in
    let chips : (now.bettor.behind == 0) ≡ false = ne_eqb now.bettor.behind 0 (λ none. omega (arith, more, none)) in
    let partly : is_all_in now ≡ false = and_right now.bettor.live (now.bettor.behind == 0) chips in
    record {
      some = omega arith;
      opened = λ first. let was = alive.opened first in omega arith;
      paid = λ later. subst (λ (s : Street). ArePaid start s.players) (sym is)
          (elim (alive.paid later) [
            | inl any ↦ inl (any-set is_all_in street.players (seat - 1) now after acted.sits partly any)
            | inr paid ↦ inr (ap (list_all has_paid) puts
                ∙ paid-told (is_fold act) (puts_of start (players_by_seat start) street.players) (seat - 1) put_in paid)
          ]);
    }

-- Somebody is live at each moment of every lawful play, and after the first street the live have paid.
alive-play : (hand : HandTerms) → IsLawfulStart hand.start → IsLawfulPlay hand → IsAlive hand.start (streets_of hand)
alive-play hand lawful play =
    kept-play hand (IsAlive hand.start) lawful play
    (record {
      first = alive-first hand.start lawful;
      next = λ streets acts sound ended alive. alive-next hand.start streets acts lawful sound ended alive;
      act = λ streets acts seat act sound free alive. alive-act hand.start streets acts seat act sound free alive;
    })

-- Where a live player is all-in, who had chips, he has put in chips.
all_in-contested : (start : HandStart) (players : List (Option StartSeat)) (slots : List (Option Player))
    → map is_some slots ≡ map is_some players
    → ((index : ℕ) (player : StartSeat) → slice_index_or players index None ≡ Some player → 0 < playing start player)
    → list_any (is_there is_all_in) slots ≡ true → list_any (is_eligible 1) (puts_of start players slots) ≡ true
all_in-contested start players [] there each some = absurd cc
all_in-contested start [] (slot ∷ slots) there each some = absurd cc
all_in-contested start (None ∷ players) (None ∷ slots) there each some =
    let rest : map is_some slots ≡ map is_some players =
    cc in all_in-contested start players slots rest (λ index. each (suc index)) some
all_in-contested start (None ∷ players) (Some now ∷ slots) there each some = absurd cc
all_in-contested start (Some player ∷ players) (None ∷ slots) there each some = absurd cc
all_in-contested start (Some player ∷ players) (Some now ∷ slots) there each some =
    let rest : map is_some slots ≡ map is_some players = cc in
    by_first (is_all_in now) refl (λ any. all_in-contested start players slots rest (λ index. each (suc index)) any)
  where
    by_first : (first : Bool) → is_all_in now ≡ first
        → (list_any (is_there is_all_in) slots ≡ true → list_any (is_eligible 1) (puts_of start players slots) ≡ true)
        → (now.bettor.live && nat_le 1 (playing start player - now.bettor.behind) || list_any (is_eligible 1)
        (puts_of start players slots)) ≡ true
    by_first true is later =
        let parts = and_parts now.bettor.live (now.bettor.behind == 0) is in
        let chips = each 0 player refl in
        let put : nat_le 1 (playing start player - now.bettor.behind) ≡ true = grind (arith, nat_tests) in
        rw (parts.0, put) refl
    by_first false is later =
        or_right (now.bettor.live && nat_le 1 (playing start player - now.bettor.behind))
        (list_any (is_eligible 1) (puts_of start players slots))
        (later (rw is at some))

-- Where somebody is live and all who are have paid, a live player has put in chips.
paid-contested : (start : HandStart) (players : List (Option StartSeat)) (slots : List (Option Player))
    → map is_some slots ≡ map is_some players
    → list_all has_paid (puts_of start players slots) ≡ true → 1 ≤ sum_over lives slots
    → list_any (is_eligible 1) (puts_of start players slots) ≡ true
paid-contested start players [] there all some = absurd (omega arith)
paid-contested start [] (slot ∷ slots) there all some = absurd cc
paid-contested start (None ∷ players) (None ∷ slots) there all some =
    let rest : map is_some slots ≡ map is_some players = cc in paid-contested start players slots rest all some
paid-contested start (None ∷ players) (Some now ∷ slots) there all some = absurd cc
paid-contested start (Some player ∷ players) (None ∷ slots) there all some = absurd cc
paid-contested start (Some player ∷ players) (Some now ∷ slots) there all some =
    let rest : map is_some slots ≡ map is_some players = cc in
    let parts = and_parts (not now.bettor.live || nat_le 1 (playing start player - now.bettor.behind))
    (list_all has_paid (puts_of start players slots)) all in
    by_live now.bettor.live refl parts.0 (λ more. paid-contested start players slots rest parts.1 more)
  where
    by_live : (live : Bool) → now.bettor.live ≡ live
        → (not now.bettor.live || nat_le 1 (playing start player - now.bettor.behind)) ≡ true
        → (1 ≤ sum_over lives slots → list_any (is_eligible 1) (puts_of start players slots) ≡ true)
        → (now.bettor.live && nat_le 1 (playing start player - now.bettor.behind) || list_any (is_eligible 1)
        (puts_of start players slots)) ≡ true
    by_live true is paid later =
        let put : nat_le 1 (playing start player - now.bettor.behind) ≡ true = rw is at paid in rw (is, put) refl
    by_live false is paid later =
        let none : lives now ≡ 0 = ap (λ (b : Bool). cond b 1 0) is in
        rw is (later (omega arith))

-- Where a hand that is over comes to a showdown, a live player has put in chips.
pub hand-contested : (hand : HandTerms) → IsLawfulStart hand.start → IsLawfulPlay hand → is_over hand ≡ true
    → is_won_by_folds hand ≡ false
    → is_contested (puts_in_hand hand) ≡ true
hand-contested hand lawful play over many =
    let sound = sound-play hand lawful play in
    let alive = alive-play hand lawful play in
    let ended : has_ended (street_of hand) ≡ true = and_from _ _ over (ap not many) in
    let puts = puts-hand hand lawful play in
    ap is_contested puts ∙ by_paid (by_before (streets_of hand).before refl sound alive ended) sound alive
  where
    by_before : (before : List StreetPlayed) → (streets_of hand).before ≡ before
        → IsSound hand.start (streets_of hand) (length hand.acts)
        → IsAlive hand.start (streets_of hand) → has_ended (street_of hand) ≡ true
        → ArePaid hand.start (street_of hand).players
    by_before [] is sound alive ended = ended-paid hand.start (streets_of hand) (length hand.acts) lawful sound is
        (alive.opened is) ended
    by_before (played ∷ more) is sound alive ended =
        alive.paid (λ none. let never : played ∷ more ≡ [] = sym is ∙ none in cc)

    by_paid : ArePaid hand.start (street_of hand).players → IsSound hand.start (streets_of hand) (length hand.acts)
        → IsAlive hand.start (streets_of hand)
        → is_contested (puts_of hand.start (players_by_seat hand.start) (street_of hand).players) ≡ true
    by_paid (inl any) sound alive =
        all_in-contested hand.start (players_by_seat hand.start) (street_of hand).players sound.there
        (λ index player listed. let found = listed-found hand.start index player listed in
        playing-some hand.start player (blinds-lawful hand.start lawful)
        (found-playable hand.start player.seat player lawful found.1).0) any
    by_paid (inr paid) sound alive = paid-contested hand.start (players_by_seat hand.start) (street_of hand).players sound.there
        paid alive.some
