-- By fixed limit nobody puts in more on a street than so many bets as the cap says and five more.
use Rattle.std.proofs.Common.{◌≡◌, ◌∙◌, ℕ, ◌+◌, ◌-◌, ◌*◌, ◌≤◌, Bool, true, false, cond, List, [], ◌∷◌, length, map, None, Some, refl, ap, sym, inl, inr, arith}
use Rattle.std.specs.Prelude.{Option, ◌==◌, option_map}
use Rattle.std.specs.List.{AllByRecursion}
use Rattle.std.specs.Option.{option_map_or}
use Rattle.std.proofs.lemmas.Bool.{ne_eqb}
use Rattle.std.proofs.lemmas.Bool.Decides.{nat_tests}
use Rattle.std.proofs.lemmas.List.{length-map}
use Rattle.betting_round.specs.declared.act.Act.{Act}
use Rattle.betting_round.specs.declared.bettor.Player.{Player}
use Rattle.betting_round.specs.ActChecks.{act_refusal}
use Rattle.betting_round.specs.Limits.{Limits}
use Rattle.betting_round.specs.StreetActs.{at_next_street, street_after}
use Rattle.betting_round.specs.WhoIsDue.{player_at}
use Rattle.limit_betting.specs.Wagers.{AreLimited, IsLimitStart, limits_after, raises, wagers}
use Rattle.limit_betting.proofs.Bounded.{level-of, put-bound, raises-bound, wagers-bound}
use Rattle.table_engine.specs.declared.start.HandStart.{HandStart}
use Rattle.table_engine.specs.declared.start.StartSeat.{StartSeat}
use Rattle.table_engine.specs.Acts.{limits_on}
use Rattle.table_engine.specs.Hands.{HandTerms, StreetPlayed, Streets, first_street, first_streets, later_street, players_by_seat, put_from, seated, street_now, streets_of, with_act, with_next_street}
use Rattle.table_engine.specs.Plays.{IsLawfulPlay}
use Rattle.table_engine.specs.Starts.{IsLawfulStart}
use Rattle.table_engine.proofs.Along.{kept-play}
use Rattle.table_engine.proofs.Running.{lawful-bet, lawful-some, right-next}
use Rattle.table_engine.proofs.Sound.{IsSound, betting_on, level-first, level-next, ten-slots}
use Rattle.table_engine.proofs.Starts.{right-first}

-- A street is played by fixed limit.
record IsLimited (cap : ℕ) (played : StreetPlayed) : Type 0 where
  start : IsLimitStart played.start
  acts : AreLimited cap played.start played.acts

-- All streets so far are.
record AllLimited (cap : ℕ) (streets : Streets) : Type 0 where
  last : IsLimited cap streets.last
  before : AllByRecursion (IsLimited cap) streets.before

limited-first : (start : HandStart) → IsLawfulStart start → AllLimited start.cap (first_streets start)
limited-first start lawful =
    let right = right-first start lawful in
    let level = level-first start lawful in
    let is = level-of (first_street start) [] in
    record {
      last = record {
        start = record {
          right = right;
          seats = few-slots start (players_by_seat start) refl;
          opens = inr refl;
          level = sym is ∙ level;
          bet = lawful-some start lawful;
        };
        acts = tt;
      };
      before = tt;
    }
  where
    few-slots : (start : HandStart) (players : List (Option StartSeat)) → length players ≡ 10
        → length (map (option_map (seated start)) players) ≤ 10
    few-slots start players ten = let same = length-map players (option_map (seated start)) in omega arith

limited-next : (start : HandStart) (streets : Streets) (acts : ℕ) → IsLawfulStart start → IsSound start streets acts
    → AllLimited start.cap streets → AllLimited start.cap (with_next_street start streets)
limited-next start streets acts lawful sound limited =
    let next = later_street start streets in
    let right = right-next start (betting_on start streets) next.counted (streets.left - 1) lawful sound.ready
    (omega arith) in
    let ten = ten-slots start (street_now streets).players sound.there in
    let same = length-map (street_now streets).players (option_map at_next_street) in
    let level = level-next start streets in
    let is = level-of next [] in
    record {
      last = record {
        start = record {
          right = right;
          seats = omega arith;
          opens = inl refl;
          level = sym is ∙ level;
          bet = (lawful-bet start (streets.left - 1) lawful).0;
        };
        acts = tt;
      };
      before = (limited.last, limited.before);
    }

limited-act : (start : HandStart) (streets : Streets) (seat : ℕ) (act : Act) → 1 ≤ start.cap
    → act_refusal (limits_on start streets) (street_now streets) seat act ≡ None → AllLimited start.cap streets
    → AllLimited start.cap (with_act streets (record { seat = seat; act = act }))
limited-act start streets seat act some free limited =
    let capped : (start.cap == 0) ≡ false = ne_eqb start.cap 0 (λ none. omega (arith, some, none)) in
    let is : limits_on start streets ≡ limits_after start.cap streets.last.start streets.last.acts = rw capped refl in
    record {
      last = record {
        start = limited.last.start;
        acts = (
          ap (λ (limits : Limits). act_refusal limits (street_now streets) seat act) (sym is) ∙ free,
          limited.last.acts,
        );
      };
      before = limited.before;
    }

limited-play : (hand : HandTerms) → IsLawfulStart hand.start → IsLawfulPlay hand → 1 ≤ hand.start.cap
    → AllLimited hand.start.cap (streets_of hand)
limited-play hand lawful play some =
    kept-play hand (AllLimited hand.start.cap) lawful play
    (record {
      first = limited-first hand.start lawful;
      next = λ streets acts sound ended limited. limited-next hand.start streets acts lawful sound limited;
      act = λ streets acts seat act sound free limited.
          limited-act hand.start streets seat act some free limited;
    })

-- What is put in from a seat on a street of fixed limit.
put-limited : (cap : ℕ) (played : StreetPlayed) (seat : ℕ) → 1 ≤ cap → IsLimited cap played
    → put_from seat played ≤ (cap + 5) * played.start.big
put-limited cap played seat some limited = by_none (seat == 0) refl
  where
    by_slot : (slot : Option Player) → 1 ≤ seat → player_at (street_after played.start played.acts).players seat ≡ slot
        → option_map_or (λ (player : Player). player.bettor.put) slot 0 ≤ (cap + 5) * played.start.big
    by_slot None low is = omega arith
    by_slot (Some player) low is =
        put-bound cap played.start played.acts seat player some limited.start limited.acts low is

    by_none : (none : Bool) → (seat == 0) ≡ none
        → option_map_or (λ (player : Player). player.bettor.put)
        (cond none None (player_at (street_after played.start played.acts).players seat)) 0
        ≤ (cap + 5) * played.start.big
    by_none true is = omega arith
    by_none false is =
        let low : 1 ≤ seat = grind (arith, nat_tests) in
        by_slot (player_at (street_after played.start played.acts).players seat) low refl

each-limited : (cap : ℕ) (P : StreetPlayed → Type 0) (streets : List StreetPlayed)
    → ((played : StreetPlayed) → IsLimited cap played → P played) → AllByRecursion (IsLimited cap) streets
    → AllByRecursion P streets
each-limited cap P [] each limited = tt
each-limited cap P (played ∷ streets) each limited =
    (each played limited.0, each-limited cap P streets each limited.1)

-- On each street of a lawful play of a hand with a cap.
pub puts-bound : (hand : HandTerms) (seat : ℕ) → IsLawfulStart hand.start → IsLawfulPlay hand → 1 ≤ hand.start.cap
    → AllByRecursion (λ played. put_from seat played ≤ (hand.start.cap + 5) * played.start.big)
    ((streets_of hand).last ∷ (streets_of hand).before)
puts-bound hand seat lawful play some =
    let limited = limited-play hand lawful play some in
    each-limited hand.start.cap _ ((streets_of hand).last ∷ (streets_of hand).before)
    (λ played is. put-limited hand.start.cap played seat some is) (limited.last, limited.before)

pub all-wagers : (hand : HandTerms) → IsLawfulStart hand.start → IsLawfulPlay hand → 1 ≤ hand.start.cap
    → AllByRecursion (λ played. wagers played.start played.acts ≤ hand.start.cap)
    ((streets_of hand).last ∷ (streets_of hand).before)
all-wagers hand lawful play some =
    let limited = limited-play hand lawful play some in
    each-limited hand.start.cap _ ((streets_of hand).last ∷ (streets_of hand).before)
    (λ played is. wagers-bound hand.start.cap played.start played.acts some is.start is.acts)
    (limited.last, limited.before)

pub all-raises : (hand : HandTerms) → IsLawfulStart hand.start → IsLawfulPlay hand → 1 ≤ hand.start.cap
    → AllByRecursion (λ played. raises played.start played.acts ≤ hand.start.cap)
    ((streets_of hand).last ∷ (streets_of hand).before)
all-raises hand lawful play some =
    let limited = limited-play hand lawful play some in
    each-limited hand.start.cap _ ((streets_of hand).last ∷ (streets_of hand).before)
    (λ played is. raises-bound hand.start.cap played.start played.acts some is.start is.acts)
    (limited.last, limited.before)
