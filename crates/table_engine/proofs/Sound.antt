-- What holds of the streets of every lawful play of a lawful start.
use Rattle.std.proofs.Common.{◌≡◌, ◌≢◌, ◌∙◌, ℕ, zero, suc, ◌+◌, ◌-◌, ◌*◌, ◌%◌, ◌≤◌, ◌<◌, Bool, true, false, cond, List, [], ◌∷◌, ◌++◌, length, map, Some, None, refl, ap, sym, subst, inl, inr, append_assoc, append-nil, length-append, arith}
use Rattle.std.specs.Prelude.{Option, ◌==◌, ◌&&◌, ◌||◌, ◌⊎◌, is_none, nat_lt, not, option_map, slice_index_or, slice_set, sum_by}
use Rattle.std.specs.Option.{is_some, option_map_or}
use Rattle.std.proofs.Math.Nat.{suc-mul, zero-mod}
use Rattle.std.proofs.lemmas.Bool.{and_parts, cases_Bool, cases_lt}
use Rattle.std.proofs.lemmas.Bool.Decides.{nat_tests}
use Rattle.std.proofs.lemmas.List.{length-map}
use Rattle.std.proofs.lemmas.List.Sums.{sum_by-cons}
use Rattle.card_set.specs.declared.game.Game.{Game}
use Rattle.card_set.proofs.Steps.{map_found}
use Rattle.card_set.specs.declared.game.Game.TheVariants.{Holdem, Omaha, Hilo}
use Rattle.floor_text.specs.declared.refusal.Refusal.TheVariants.{NotDealt}
use Rattle.rulebook.proofs.Found.{none-by_test, somes-made}
use Rattle.rulebook.proofs.Multiples.{multiple-add, multiple-max, multiple-sub}
use Rattle.betting_round.specs.declared.act.Act.{Act}
use Rattle.betting_round.specs.declared.act.Act.TheVariants.{Fold, Check, Call, AllIn, Bet, Raise}
use Rattle.betting_round.specs.declared.bettor.Bettor.{Bettor}
use Rattle.betting_round.specs.declared.bettor.Player.{Player}
use Rattle.betting_round.specs.declared.facing.Facing.{Facing}
use Rattle.betting_round.specs.declared.street.Street.{Street}
use Rattle.betting_round.specs.Acts.{amount, is_fold}
use Rattle.betting_round.specs.ActChecks.{act_refusal}
use Rattle.betting_round.specs.Limits.{Limits}
use Rattle.betting_round.specs.Running.{amount_of, moved, placed}
use Rattle.betting_round.specs.StreetActs.{IsStreetStart, SeatAct, StreetStart, at_next_street, fresh, greatest, next_bettors, street_after, sum_over}
use Rattle.betting_round.specs.WhoIsDue.{player_at}
use Rattle.limit_betting.specs.Wagers.{limits_after, wagers}
use Rattle.betting_round.proofs.Acted.{Acts, still, still-falls, who-acts}
use Rattle.betting_round.proofs.Steps.{map_at, street_start_is, street_stepped, sum_map, sum_set}
use Rattle.table_engine.specs.declared.record.ActOf.{ActOf}
use Rattle.table_engine.specs.declared.betting.Betting.{Betting}
use Rattle.table_engine.specs.declared.start.HandStart.{HandStart}
use Rattle.table_engine.specs.declared.start.StartSeat.{StartSeat}
use Rattle.table_engine.specs.Acts.{limits_of, limits_on, refusal_in_seat, refusal_of_act}
use Rattle.table_engine.specs.Hands.{HandTerms, StreetPlayed, Streets, dead_chips, dealt_on, first_street, first_streets, has_ended, later_street, player_of, players_by_seat, playing, posted, put_from, put_on, seat_of_name, seated, street_now, streets_of, with_act, with_next_street}
use Rattle.table_engine.specs.Plays.{IsLawfulPlay, are_lawful_after}
use Rattle.table_engine.specs.Running.{IsAt, IsReady}
use Rattle.table_engine.specs.Starts.{IsLawfulStart, chips_of}
use Rattle.table_engine.proofs.BySeat.{along-at, along-past, player_in-there, sum-of_start}
use Rattle.table_engine.proofs.Refusals.{refused-in_seat, refused-without_seat}
use Rattle.table_engine.proofs.Running.{lawful-bet, lawful-small, ready-act, ready-start, right-next, somes-street, streets-more, streets-none}
use Rattle.table_engine.proofs.Starts.{few-first, right-first}
use Rattle.table_engine.proofs.WholeUnits.{amount-whole, blinds-lawful, found-playable, playing-whole, posted-whole}

-- What the player in a seat has put in on all streets so far.
abbrev pub put_by_seat : ℕ → Streets → ℕ
put_by_seat seat streets = put_from seat streets.last + sum_by (put_from seat) streets.before

-- What holds of a player of a street: he has put in no more than the bet level, he is live or has chips behind, his
-- chips are multiples of the unit, and what he has behind and has put in is what he had to play with.
pub record IsPlayerSound (start : HandStart) (street : Street) (put_in seat : ℕ) (now : Player) : Type 0 where
  pub met : now.bettor.put ≤ street.level
  pub more : (now.bettor.live || nat_lt 0 now.bettor.behind) ≡ true
  pub put : now.bettor.put % start.blind.unit ≡ 0
  pub behind : now.bettor.behind % start.blind.unit ≡ 0
  pub stack : (player : StartSeat) → player_of start seat ≡ Some player → now.bettor.behind + put_in
      ≡ playing start player

-- Somebody is in each slot of each of these streets where one is dealt in at its seat.
abbrev pub AreThere : HandStart → List StreetPlayed → Type 0
AreThere start [] = Unit {0}
AreThere start (played ∷ streets) =
    (map is_some (street_after played.start played.acts).players
    ≡ map is_some (players_by_seat start)) × AreThere start streets

-- The betting that stands for these streets of a hand.
abbrev pub betting_on : HandStart → Streets → Betting
betting_on start streets = record {
  round = street_now streets;
  before = dead_chips start + sum_by put_on streets.before;
  left = streets.left;
  bet = streets.last.start.big;
  wagers = wagers streets.last.start streets.last.acts;
}

-- What holds of the streets of a lawful play after so many acts.
pub record IsSound (start : HandStart) (streets : Streets) (acts : ℕ) : Type 0 where
  pub right : IsStreetStart streets.last.start
  pub ready : IsReady (betting_on start streets)
  pub unit : (street_now streets).unit ≡ start.blind.unit
  pub there : map is_some (street_now streets).players ≡ map is_some (players_by_seat start)
  pub earlier : AreThere start streets.before
  pub level : (street_now streets).level % start.blind.unit ≡ 0
  pub full : 0 < (street_now streets).full
  pub each : (seat : ℕ) (now : Player) → 1 ≤ seat → player_at (street_now streets).players seat ≡ Some now
      → IsPlayerSound start (street_now streets) (put_by_seat seat streets) seat now
  -- the acts are as many as chips were put in at most, and as many as folds and checks were possible
  pub short : acts + (sum_over still (street_now streets).players + 10 * streets.left) ≤ chips_of start.seats + 50

-- What a player of a street has put in on it.
pub put_from-there : (played : StreetPlayed) (seat : ℕ) (now : Player) → 1 ≤ seat
    → player_at (street_after played.start played.acts).players seat ≡ Some now → put_from seat played ≡ now.bettor.put
put_from-there played seat now low there =
    ap (λ (slot : Option Player). option_map_or (λ (p : Player). p.bettor.put) slot 0)
    (player_in-there (street_after played.start played.acts).players seat low ∙ there)

-- Who is in a slot of a table in which one was put into a slot.
pub set-at : (slots : List (Option Player)) (index other : ℕ) (was item found : Player)
    → slice_index_or slots index None ≡ Some was
    → slice_index_or (slice_set slots index (Some item)) other None ≡ Some found
    → ((other ≡ index) × (found ≡ item)) ⊎ ((other ≢ index) × (slice_index_or slots other None ≡ Some found))
set-at [] index other was item found there is = absurd cc
set-at (slot ∷ slots) zero zero was item found there is = let same : found ≡ item = cc in inl (refl, same)
set-at (slot ∷ slots) zero (suc other) was item found there is =
    let apart : suc other ≢ 0 = λ same. omega arith in inr (apart, is)
set-at (slot ∷ slots) (suc index) zero was item found there is =
    let apart : 0 ≢ suc index = λ same. omega arith in inr (apart, is)
set-at (slot ∷ slots) (suc index) (suc other) was item found there is =
    elim (set-at slots index other was item found there is) [
      | inl here ↦ inl (ap (λ (n : ℕ). suc n) here.0, here.1)
      | inr elsewhere ↦ let apart : suc other ≢ suc index = λ same. elsewhere.0 (omega arith) in
          inr (apart, elsewhere.1)
    ]

-- A fold puts nothing in.
pub fold-none : (level put behind : ℕ) (act : Act) → is_fold act ≡ true → amount level put behind act ≡ 0
fold-none level put behind Fold fold = refl
fold-none level put behind Check fold = absurd cc
fold-none level put behind Call fold = absurd cc
fold-none level put behind AllIn fold = absurd cc
fold-none level put behind (Bet n) fold = absurd cc
fold-none level put behind (Raise n) fold = absurd cc

-- After his act a player is live, or has chips behind.
more-moved : (live fold : Bool) (behind put_in : ℕ) → live ≡ true → 0 < behind → (fold ≡ true → put_in ≡ 0)
    → ((live && not fold) || nat_lt 0 (behind - put_in)) ≡ true
more-moved true false behind put_in is some none = refl
more-moved true true behind put_in is some none =
    let nothing_in = none refl in let left : 0 < behind - put_in = omega arith in grind (arith, nat_tests)
more-moved false fold behind put_in is some none = absurd cc

-- What holds of a player holds of him after his act.
player-moved : (start : HandStart) (limits : Limits) (street : Street) (seat : ℕ) (act : Act) (now : Player)
    (before after : ℕ)
    → Acts limits street seat act now → street.unit ≡ start.blind.unit → street.level % start.blind.unit ≡ 0
    → IsPlayerSound start street before seat now → after ≡ before + amount_of street.level now act
    → IsPlayerSound start (placed street seat now act (amount_of street.level now act)) after seat
    (moved (amount_of street.level now act) now act)
player-moved start limits street seat act now before after acts unit level sound is =
    let put_in = amount_of street.level now act in
    let held : put_in ≤ now.bettor.behind = acts.covered in
    let whole : put_in % start.blind.unit ≡ 0 =
    rw unit at (amount-whole limits street seat act now acts (rw unit level) (rw unit sound.put)
    (rw unit sound.behind) sound.met) in
    record {
      met = omega arith;
      more = more-moved now.bettor.live (is_fold act) now.bettor.behind put_in acts.live acts.more
          (fold-none street.level now.bettor.put now.bettor.behind act);
      put = multiple-add start.blind.unit now.bettor.put put_in sound.put whole;
      behind = multiple-sub start.blind.unit now.bettor.behind put_in held sound.behind whole;
      stack = λ player found. let was = sound.stack player found in omega arith;
    }

-- What holds of a player holds of him after an act of another.
player-kept : (start : HandStart) (street later : Street) (before after seat : ℕ) (now : Player)
    → street.level ≤ later.level → after ≡ before
    → IsPlayerSound start street before seat now → IsPlayerSound start later after seat now
player-kept start street later before after seat now grows is sound =
    let met = sound.met in
    record {
      met = omega arith;
      more = sound.more;
      put = sound.put;
      behind = sound.behind;
      stack = λ player found. let was = sound.stack player found in omega arith;
    }

-- The street after an act that is not refused.
pub placed-is : (limits : Limits) (start : StreetStart) (acts : List SeatAct) (entry : SeatAct) (now : Player)
    → IsStreetStart start
    → Acts limits (street_after start acts) entry.seat entry.act now
    → street_after start (entry ∷ acts) ≡ placed (street_after start acts) entry.seat now entry.act
    (amount_of (street_after start acts).level now entry.act)
placed-is limits start acts entry now right acted =
    let street = street_after start acts in
    street_stepped start acts entry now right.seated acted.low acted.sits
    ∙ ap (λ (slot : Option Player). option_map_or (λ player. placed street entry.seat player entry.act
    (amount_of street.level player entry.act)) slot street) acted.sits

-- The least bet or raise of each game is a full raise above the bet level.
least-of_game : (game : Game) (facing : Facing) → (limits_of game).least facing ≡ facing.level + facing.full
least-of_game Holdem facing = refl
least-of_game Omaha facing = refl
least-of_game Hilo facing = refl

-- So it is on each street, by fixed limit too.
pub least-on : (start : HandStart) (streets : Streets) (facing : Facing)
    → (limits_on start streets).least facing ≡ facing.level + facing.full
least-on start streets facing = by_cap (start.cap == 0)
  where
    by_cap : (none : Bool) → (cond none (limits_of start.game)
        (limits_after start.cap streets.last.start streets.last.acts)).least facing ≡ facing.level + facing.full
    by_cap true = least-of_game start.game facing
    by_cap false = refl

-- What holds of the streets after an act that is not refused.
pub sound-act : (start : HandStart) (streets : Streets) (acts : ℕ) (seat : ℕ) (act : Act) → IsSound start streets acts
    → act_refusal (limits_on start streets) (street_now streets) seat act ≡ None
    → IsSound start (with_act streets (record { seat = seat; act = act })) (acts + 1)
sound-act start streets acts seat act sound free =
    let limits = limits_on start streets in
    let street = street_now streets in
    let entry : SeatAct = record { seat = seat; act = act } in
    let acting = who-acts limits street seat act free in
    let now = acting.0 in
    let acted = acting.1 in
    let put_in = amount_of street.level now act in
    let after = with_act streets entry in
    let is : street_now after ≡ placed street seat now act put_in =
    placed-is limits streets.last.start streets.last.acts entry now sound.right acted in
    let his = sound.each seat now acted.low acted.sits in
    let falls = still-falls limits street seat act now acted (least-on start streets _) sound.full his.met in
    let sums = sum_set (seat - 1) still now (moved put_in now act) street.players acted.sits in
    let same = ap (λ (s : Street). sum_over still s.players) is in
    let at : IsAt start streets (betting_on start streets) = record {
      round = refl;
      before = refl;
      left = refl;
      bet = refl;
      wagers = refl;
      right =
          sound.right;
    } in
    let level : (placed street seat now act put_in).level % start.blind.unit ≡ 0 =
    (let whole = player-moved start limits street seat act now (put_by_seat seat streets)
    (put_by_seat seat streets + put_in) acted sound.unit sound.level his refl in
    multiple-max start.blind.unit street.level (now.bettor.put + put_in) sound.level whole.put) in
    let full = sound.full in
    let short = sound.short in
    record {
      right = sound.right;
      ready = ready-act start limits streets (betting_on start streets) (betting_on start after) seat act at sound.ready free refl refl
          refl refl;
      unit = ap (λ (s : Street). s.unit) is ∙ sound.unit;
      there = somes-street streets.last.start (entry ∷ streets.last.acts)
          ∙ sym (somes-street streets.last.start streets.last.acts) ∙ sound.there;
      earlier = sound.earlier;
      level = ap (λ (s : Street). s.level % start.blind.unit) is ∙ level;
      full = subst (λ (s : Street). 0 < s.full) (sym is) (omega arith);
      each = λ other found low there. each-after start limits streets acts seat act now sound acted is other found low
          there;
      short = omega arith;
    }
  where
    each-after : (start : HandStart) (limits : Limits) (streets : Streets) (acts seat : ℕ) (act : Act) (now : Player)
        → IsSound start streets acts
        → Acts limits (street_now streets) seat act now
        → street_now (with_act streets (record { seat = seat; act = act }))
        ≡ placed (street_now streets) seat now act (amount_of (street_now streets).level now act)
        → (other : ℕ) (found : Player) → 1 ≤ other → player_at
        (street_now (with_act streets (record { seat = seat; act = act }))).players other ≡ Some found
        → IsPlayerSound start (street_now (with_act streets (record { seat = seat; act = act })))
        (put_by_seat other (with_act streets (record { seat = seat; act = act }))) other found
    each-after start limits streets acts seat act now sound acted is other found low there =
        let street = street_now streets in
        let put_in = amount_of street.level now act in
        let after = with_act streets (record { seat = seat; act = act }) in
        let mine = put_from-there after.last other found low there in
        let set : slice_index_or (slice_set street.players (seat - 1) (Some (moved put_in now act))) (other - 1) None
        ≡ Some found =
        ap (λ (s : Street). player_at s.players other) (sym is) ∙ there in
        let first = acted.low in
        elim (set-at street.players (seat - 1) (other - 1) now (moved put_in now act) found acted.sits set) [
          | inl here ↦
              let same : other ≡ seat = (let index = here.0 in omega arith) in
              let before = put_from-there streets.last seat now acted.low acted.sits in
              let put : found.bettor.put ≡ now.bettor.put + put_in = ap (λ (p : Player). p.bettor.put) here.1 in
              let earlier : sum_by (put_from other) streets.before ≡ sum_by (put_from seat) streets.before =
              ap (λ (n : ℕ). sum_by (put_from n) streets.before) same in
              let all : put_by_seat other after ≡ put_by_seat seat streets + put_in = omega arith in
              let moved_so = player-moved start limits street seat act now (put_by_seat seat streets)
              (put_by_seat other after) acted sound.unit sound.level
              (sound.each seat now acted.low acted.sits) all in
              subst (λ (s : Street). IsPlayerSound start s (put_by_seat other after) other found) (sym is)
              (subst (λ (n : ℕ). IsPlayerSound start (placed street seat now act put_in)
              (put_by_seat other after) n found) (sym same)
              (subst (λ (p : Player). IsPlayerSound start (placed street seat now act put_in)
              (put_by_seat other after) seat p) (sym here.1) moved_so))
          | inr elsewhere ↦
              let before = put_from-there streets.last other found low elsewhere.1 in
              let grows : street.level ≤ (placed street seat now act put_in).level = omega arith in
              subst (λ (s : Street). IsPlayerSound start s (put_by_seat other after) other found) (sym is)
              (player-kept start street (placed street seat now act put_in) (put_by_seat other streets)
              (put_by_seat other after) other found grows (omega arith) (sound.each other found low elsewhere.1))
        ]

-- The greatest number is at least the least, and the least where no number is greater.
pub greatest-least : {A : Type 0} (least : ℕ) (number : A → ℕ) (slots : List (Option A))
    → least ≤ greatest least number slots
greatest-least least number [] = omega arith
greatest-least least number (None ∷ slots) = greatest-least least number slots
greatest-least least number (Some item ∷ slots) = let later = greatest-least least number slots in omega arith

greatest-no_more : {A B : Type 0} (least : ℕ) (number : B → ℕ) (f : A → B) (slots : List (Option A))
    → ((item : A) → number (f item) ≤ least)
    → greatest least number (map (option_map f) slots) ≡ least
greatest-no_more least number f [] less = refl
greatest-no_more least number f (None ∷ slots) less = greatest-no_more least number f slots less
greatest-no_more least number f (Some item ∷ slots) less =
    let here = less item in let later = greatest-no_more least number f slots less in omega arith

-- Where each number is at most another and so much more, so is the sum, for each slot.
sum-no_more : {A : Type 0} (one other : A → ℕ) (more : ℕ) (slots : List (Option A))
    → ((item : A) → one item ≤ other item + more)
    → sum_over one slots ≤ sum_over other slots + length slots * more
sum-no_more one other more [] less = omega arith
sum-no_more one other more (None ∷ slots) less =
    let later = sum-no_more one other more slots less in let all = suc-mul (length slots) more in omega arith
sum-no_more one other more (Some item ∷ slots) less =
    let here = less item in
    let later = sum-no_more one other more slots less in let all = suc-mul (length slots) more in omega arith

-- As many slots as there are seats.
pub ten-slots : (start : HandStart) (slots : List (Option Player))
    → map is_some slots ≡ map is_some (players_by_seat start) → length slots ≡ 10
ten-slots start slots there = sym (length-map slots is_some) ∙ ap length there

-- What a player can still do is at most one act more on the next street.
still-next : (player : Player) → still (fresh (at_next_street player)) ≤ still player + 1
still-next player = by_acted player.acted
  where
    by_acted : (acted : Bool) → player.bettor.behind + cond player.bettor.live 1 0 + 1 ≤ player.bettor.behind + cond
        player.bettor.live 1 0 + cond acted 0 1 + 1
    by_acted true = omega arith
    by_acted false = omega arith

-- Who is in a slot where the next street begins.
pub slot-next : (start : HandStart) (streets : Streets) (seat : ℕ)
    → player_at (street_now (with_next_street start streets)).players seat
    ≡ option_map fresh (option_map at_next_street (player_at (street_now streets).players seat))
slot-next start streets seat =
    let street = street_now streets in
    ap (λ (s : Street). player_at s.players seat) (street_start_is (later_street start streets))
    ∙ map_at fresh (seat - 1) (next_bettors street)
    ∙ ap (option_map fresh) (map_at at_next_street (seat - 1) street.players)

-- Nothing is put in on the next street before any act.
pub level-next : (start : HandStart) (streets : Streets)
    → (street_now (with_next_street start streets)).level ≡ 0
level-next start streets =
    ap (λ (s : Street). s.level) (street_start_is (later_street start streets))
    ∙ greatest-no_more 0 (λ (bettor : Bettor). bettor.put) at_next_street (street_now streets).players
    (λ player. omega arith)

-- What holds of a player holds of him where the next street begins.
each-next : (start : HandStart) (streets : Streets) (acts seat : ℕ) (now : Player) → IsSound start streets acts
    → 1 ≤ seat
    → player_at (street_now (with_next_street start streets)).players seat ≡ Some now
    → IsPlayerSound start (street_now (with_next_street start streets))
    (put_by_seat seat (with_next_street start streets)) seat now
each-next start streets acts seat now sound low there =
    let street = street_now streets in
    let after = with_next_street start streets in
    let slots = slot-next start streets seat in
    let one = map_found fresh (option_map at_next_street (player_at street.players seat)) now (sym slots ∙ there) in
    let two = map_found at_next_street (player_at street.players seat) one.0 one.1 in
    let was = two.0 in
    let his = sound.each seat was low two.1 in
    let is : now ≡ fresh (at_next_street was) = sym (ap fresh two.2 ∙ one.2) in
    let put = ap (λ (p : Player). p.bettor.put) is in
    let mine = put_from-there after.last seat now low there in
    let before = sum_by-cons (put_from seat) streets.last streets.before in
    let same : put_by_seat seat after ≡ put_by_seat seat streets = omega arith in
    let sound_so : IsPlayerSound start (street_now after) (put_by_seat seat after) seat (fresh (at_next_street was)) =
    record {
      met = omega arith;
      more = his.more;
      put = zero-mod start.blind.unit;
      behind = his.behind;
      stack = λ player found. let all = his.stack player found in omega arith;
    } in
    subst (λ (p : Player). IsPlayerSound start (street_now after) (put_by_seat seat after) seat p) (sym is) sound_so

-- What holds of the streets where the next one begins.
pub sound-next : (start : HandStart) (streets : Streets) (acts : ℕ) → IsLawfulStart start → IsSound start streets acts
    → 1 ≤ streets.left
    → IsSound start (with_next_street start streets) acts
sound-next start streets acts lawful sound some =
    let street = street_now streets in
    let next = later_street start streets in
    let began = street_start_is next in
    let right : IsStreetStart next = right-next start (betting_on start streets) next.counted (streets.left - 1) lawful sound.ready
    (omega arith) in
    let all = sum_by-cons put_on streets.last streets.before in
    let blinds = blinds-lawful start lawful in
    let big = (lawful-bet start (streets.left - 1) lawful).0 in
    let level = level-next start streets in
    let players = ap (λ (s : Street). s.players) began in
    let still_now : sum_over still (street_after next []).players
    ≡ sum_over (λ (player : Player). still (fresh (at_next_street player))) street.players =
    ap (sum_over still) players ∙ sum_map still fresh (next_bettors street)
    ∙ sum_map (λ (bettor : Bettor). still (fresh bettor)) at_next_street street.players in
    let more = sum-no_more (λ (player : Player). still
    (fresh (at_next_street player))) still 1 street.players still-next in
    let ten = ten-slots start street.players sound.there in
    let count : length street.players * 1 ≡ 10 = omega arith in
    let short = sound.short in
    record {
      right = right;
      ready = ready-start next (betting_on start (with_next_street start streets)) right refl
          (let few = right.chips in omega arith) refl big refl;
      unit = ap (λ (s : Street). s.unit) began;
      there = somes-street next [] ∙ somes-made at_next_street street.players ∙ sound.there;
      earlier = (sound.there, sound.earlier);
      level = ap (λ (n : ℕ). n % start.blind.unit) level ∙ zero-mod start.blind.unit;
      full = subst (λ (s : Street). 0 < s.full) (sym began) big;
      each = λ seat now low there. each-next start streets acts seat now sound low there;
      short = omega arith;
    }

-- What holds of the streets once every street has begun that may.
sound-dealt : (start : HandStart) (left : ℕ) (streets : Streets) (acts : ℕ) → IsLawfulStart start
    → IsSound start streets acts → left ≤ streets.left
    → IsSound start (dealt_on start left streets) acts
sound-dealt start zero streets acts lawful sound within = sound
sound-dealt start (suc left) streets acts lawful sound within =
    elim (cases_Bool (has_ended (street_now streets))) [
      | inl ended ↦ rw ended (sound-dealt start left (with_next_street start streets) acts lawful
          (sound-next start streets acts lawful sound (omega arith)) (omega arith))
      | inr open_ ↦ rw open_ sound
    ]

-- A player posts at most the big blind.
pub posted-most : (start : HandStart) (player : StartSeat) → start.blind.small ≤ start.blind.big
    → posted start player ≤ start.blind.big
posted-most start player small =
    elim (cases_Bool (player.seat == start.marks.big)) [
      | inl is ↦ rw is (omega arith)
      | inr other ↦
          elim (cases_Bool (player.seat == start.marks.small)) [
            | inl is ↦ rw (other, is) (omega arith)
            | inr none ↦ rw (other, none) (omega arith)
          ]
    ]

-- Who is in a slot before any act is a player of the start who sits there, as he begins the hand.
pub slot-first : (start : HandStart) (seat : ℕ) (now : Player) → 1 ≤ seat
    → player_at (street_now (first_streets start)).players seat ≡ Some now
    → (player : StartSeat) × (player_of start seat ≡ Some player) × (now ≡ fresh (seated start player))
slot-first start seat now low there =
    let first = first_street start in
    let slots : player_at (street_after first []).players seat
    ≡ option_map fresh (option_map (seated start) (slice_index_or (players_by_seat start) (seat - 1) None)) =
    ap (λ (s : Street). player_at s.players seat) (street_start_is first) ∙ map_at fresh (seat - 1) first.bettors
    ∙ ap (option_map fresh) (map_at (seated start) (seat - 1) (players_by_seat start)) in
    let one = map_found fresh (option_map (seated start) (slice_index_or (players_by_seat start) (seat - 1) None)) now
    (sym slots ∙ there) in
    let two = map_found (seated start) (slice_index_or (players_by_seat start) (seat - 1) None) one.0 one.1 in
    (two.0, listed-at start seat two.0 low two.1, sym (ap fresh two.2 ∙ one.2))
  where
    listed-at : (start : HandStart) (seat : ℕ) (player : StartSeat) → 1 ≤ seat
        → slice_index_or (players_by_seat start) (seat - 1) None ≡ Some player
        → player_of start seat ≡ Some player
    listed-at start seat player low listed =
        elim (cases_lt (seat - 1) 10) [
          | inl within ↦
              let back : 0 + (seat - 1) + 1 ≡ seat = omega arith in
              ap (player_of start) (sym back) ∙ sym (along-at (player_of start) 10 0 (seat - 1) within) ∙ listed
          | inr past ↦ let none = along-past (player_of start) 10 0 (seat - 1) past in
              let never : None ≡ Some player = sym none ∙ listed in absurd cc
        ]

-- Before any act the bet level is the big blind.
pub level-first : (start : HandStart) → IsLawfulStart start
    → (street_now (first_streets start)).level ≡ start.blind.big
level-first start lawful =
    let small = lawful-small start lawful in
    ap (λ (s : Street). s.level) (street_start_is (first_street start))
    ∙ greatest-no_more start.blind.big (λ (bettor : Bettor). bettor.put) (seated start) (players_by_seat start)
    (λ player. posted-most start player small)

-- What holds of a player of a start when he begins the hand.
each-first : (start : HandStart) (seat : ℕ) (now : Player) → IsLawfulStart start → 1 ≤ seat
    → player_at (street_now (first_streets start)).players seat ≡ Some now
    → IsPlayerSound start (street_now (first_streets start)) (put_by_seat seat (first_streets start)) seat now
each-first start seat now lawful low there =
    let first = first_street start in
    let began = street_start_is first in
    let slot = slot-first start seat now low there in
    let player = slot.0 in
    let found = slot.1 in
    let is = slot.2 in
    let blinds = blinds-lawful start lawful in
    let stack = found-playable start seat player lawful found in
    let posted_so = posted-whole start player blinds stack.1 in
    let small = lawful-small start lawful in
    let big = posted-most start player small in
    let least = greatest-least start.blind.big (λ (bettor : Bettor). bettor.put) first.bettors in
    let level = ap (λ (s : Street). s.level) began in
    let held : posted start player ≤ playing start player = omega arith in
    let put = ap (λ (p : Player). p.bettor.put) is in
    let mine = put_from-there (first_streets start).last seat now low there in
    let sound_so : IsPlayerSound start (street_after first []) (put_by_seat seat (first_streets start)) seat
    (fresh (seated start player)) = record {
      met = omega arith;
      more = refl;
      put = posted_so;
      behind = multiple-sub start.blind.unit (playing start player) (posted start player) held
          (playing-whole start player blinds stack.1) posted_so;
      stack = λ other same.
          let him : player ≡ other = (let both : Some player ≡ Some other = sym found ∙ same in cc) in
          let his = ap (playing start) him in
          omega arith;
    } in
    subst (λ (p : Player). IsPlayerSound start (street_after first []) (put_by_seat seat (first_streets start)) seat p)
    (sym is) sound_so

-- What holds of the streets before any act, where the first alone has begun.
pub sound-first : (start : HandStart) → IsLawfulStart start → IsSound start (first_streets start) 0
sound-first start lawful =
    let first = first_street start in
    let began = street_start_is first in
    let right = right-first start lawful in
    let blinds = blinds-lawful start lawful in
    let some = blinds.some in
    let level = level-first start lawful in
    let still_now : sum_over still (street_after first []).players
    ≡ sum_over (λ player. still (fresh (seated start player))) (players_by_seat start) =
    ap (λ (s : Street). sum_over still s.players) began ∙ sum_map still fresh first.bettors
    ∙ sum_map (λ (bettor : Bettor). still (fresh bettor)) (seated start) (players_by_seat start) in
    let more = sum-no_more (λ player. still (fresh (seated start player))) (λ (player : StartSeat). player.stack) 2
    (players_by_seat start) (λ player. omega arith) in
    let chips = sum-of_start start (λ (player : StartSeat). player.stack) lawful in
    let ten : length (players_by_seat start) * 2 ≡ 20 = refl in
    record {
      right = right;
      ready = ready-start first (betting_on start (first_streets start)) right refl
          (let few = few-first start lawful in omega arith) refl some refl;
      unit = ap (λ (s : Street). s.unit) began;
      there = somes-street first [] ∙ somes-made (seated start) (players_by_seat start);
      earlier = tt;
      level = ap (λ (n : ℕ). n % start.blind.unit) level ∙ blinds.big;
      full = subst (λ (s : Street). 0 < s.full) (sym began) some;
      each = λ seat now low there. each-first start seat now lawful low there;
      short = omega arith;
    }

-- What holds of the streets of a lawful play, after more acts that are lawful.
sound-along : (start : HandStart) (before acts : List ActOf) → IsLawfulStart start
    → IsSound start (streets_of (record { start = start; acts = before })) (length before)
    → are_lawful_after start before acts ≡ true
    → IsSound start (streets_of (record { start = start; acts = before ++ acts })) (length (before ++ acts))
sound-along start before [] lawful sound play = rw append-nil sound
sound-along start before (act ∷ acts) lawful sound play =
    let hand : HandTerms = record { start = start; acts = before } in
    let parts = and_parts (is_none (refusal_of_act hand act.name act.act))
    (are_lawful_after start (before ++ act ∷ []) acts) play in
    let free = none-by_test (refusal_of_act hand act.name act.act) parts.0 in
    let joined : (before ++ act ∷ []) ++ acts ≡ before ++ act ∷ acts = append_assoc before (act ∷ []) acts in
    let one_more : IsSound start (streets_of (record { start = start; acts = before ++ act ∷ [] }))
    (length (before ++ act ∷ [])) =
    sound-one_more start before act lawful sound free in
    rw joined at (sound-along start (before ++ act ∷ []) acts lawful one_more parts.1)
  where
    by_seat : (start : HandStart) (before : List ActOf) (act : ActOf) (slot : Option ℕ) → IsLawfulStart start
        → IsSound start (streets_of (record { start = start; acts = before })) (length before)
        → refusal_of_act (record { start = start; acts = before }) act.name act.act ≡ None
        → seat_of_name start act.name ≡ slot
        → IsSound start (streets_of (record { start = start; acts = before ++ act ∷ [] })) (length (before ++ act ∷ []))
    by_seat start before act None lawful sound free found =
        let refused = refused-without_seat (record { start = start; acts = before }) act.name act.act found in
        let never : None ≡ Some NotDealt = sym free ∙ refused in absurd cc
    by_seat start before act (Some seat) lawful sound free found =
        let hand : HandTerms = record { start = start; acts = before } in
        let accepted : refusal_in_seat hand act.act seat ≡ None = sym (refused-in_seat hand act.name act.act seat found)
        ∙ free in
        let entry : SeatAct = record { seat = seat; act = act.act } in
        let acted = sound-act start (streets_of hand) (length before) seat act.act sound accepted in
        let dealt = sound-dealt start (with_act (streets_of hand) entry).left (with_act (streets_of hand) entry)
        (length before + 1) lawful acted (omega arith) in
        let count : length (before ++ act ∷ []) ≡ length before + 1 = length-append before (act ∷ []) in
        rw (streets-more start before act seat found, count) dealt

    sound-one_more : (start : HandStart) (before : List ActOf) (act : ActOf) → IsLawfulStart start
        → IsSound start (streets_of (record { start = start; acts = before })) (length before)
        → refusal_of_act (record { start = start; acts = before }) act.name act.act ≡ None
        → IsSound start (streets_of (record { start = start; acts = before ++ act ∷ [] })) (length (before ++ act ∷ []))
    sound-one_more start before act lawful sound free =
        by_seat start before act (seat_of_name start act.name) lawful sound free refl

-- What holds of the streets of every lawful play of a lawful start.
pub sound-play : (hand : HandTerms) → IsLawfulStart hand.start → IsLawfulPlay hand
    → IsSound hand.start (streets_of hand) (length hand.acts)
sound-play hand lawful play =
    let none = sound-dealt hand.start 3 (first_streets hand.start) 0 lawful (sound-first hand.start lawful)
    (omega arith) in
    sound-along hand.start [] hand.acts lawful (rw (streets-none hand.start) none) play.acts
