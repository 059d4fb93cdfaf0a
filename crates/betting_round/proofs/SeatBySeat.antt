-- A street that begins, made seat by seat.
use Rattle.std.proofs.Common.{◌≡◌, ◌∙◌, ℕ, ◌+◌, ◌<◌, ◌≤◌, ◌^◌, List, [], ◌∷◌, ◌++◌, Some, None, length, take, drop, map, get_or, set, refl, ap, sym, arith}
use Rattle.std.specs.Prelude.{Option, max, option_map, replicate}
use Rattle.std.proofs.lemmas.List.{drop_all, drop_more, set-get_or}
use Rattle.rulebook.proofs.Repeats.{get_or-repeated}
use Rattle.rulebook.proofs.Rewrites.{rewritten-all, rewritten-here, rewritten-more}
use Rattle.betting_round.specs.declared.bettor.Bettor.{Bettor}
use Rattle.betting_round.specs.declared.bettor.Player.{Player}
use Rattle.betting_round.specs.declared.street.Street.{Street}
use Rattle.betting_round.specs.StreetActs.{StreetStart, IsStreetStart, fresh, greatest, street_after, sum_over}
use Rattle.betting_round.proofs.Steps.{puts_below, street_start_is}

-- The first players of a table of ten, and nobody in the other seats.
abbrev first_players : ℕ → List (Option Bettor) → List (Option Player)
first_players count bettors = map (option_map fresh) (take count bettors) ++ drop count (replicate 10 None)

-- A greater least number is one number more.
greatest-more : {A : Type 0} (least more : ℕ) (number : A → ℕ) (slots : List (Option A))
    → greatest (max least more) number slots ≡ max more (greatest least number slots)
greatest-more least more number [] = omega arith
greatest-more least more number (None ∷ slots) = greatest-more least more number slots
greatest-more least more number (Some item ∷ slots) =
    let later = greatest-more least more number slots in omega arith

-- One more player who stands on the street.
players-more : (bettors : List (Option Bettor)) (index : ℕ) (bettor : Bettor) → length bettors ≡ 10 → index < 10
    → get_or bettors index None ≡ Some bettor
    → set (first_players index bettors) index (Some (fresh bettor)) ≡ first_players (index + 1) bettors
players-more bettors index bettor ten within there =
    ap (λ slot. set (first_players index bettors) index (option_map fresh slot)) (sym there)
    ∙ rewritten-more (option_map fresh) bettors (replicate 10 None) index None (omega arith) within

-- One more seat in which nobody sits.
players-none : (bettors : List (Option Bettor)) (index : ℕ) → length bettors ≡ 10 → index < 10
    → get_or bettors index None ≡ None → first_players index bettors ≡ first_players (index + 1) bettors
players-none bettors index ten within nobody =
    let here : get_or (first_players index bettors) index None ≡ None =
    rewritten-here (option_map fresh) bettors (replicate 10 None) index None (omega arith) within
    ∙ get_or-repeated 10 index None in
    sym (set-get_or (first_players index bettors) index None)
    ∙ ap (set (first_players index bettors) index) (here ∙ ap (option_map fresh) (sym nobody))
    ∙ rewritten-more (option_map fresh) bettors (replicate 10 None) index None (omega arith) within

-- All players stand on the street once each seat was come to.
players-all : (bettors : List (Option Bettor)) (index : ℕ) → length bettors ≡ 10 → 10 ≤ index
    → first_players index bettors ≡ map (option_map fresh) bettors
players-all bettors index ten all = rewritten-all (option_map fresh) bettors (replicate 10 None) index ten all

-- A street whose players sit in the first seats, before any act: what is left to come makes of its bet level and of its
-- pot what all players make of those of the start.
pub record IsUpTo (start : StreetStart) (index : ℕ) (street : Street) : Type 0 where
  pub players : street.players ≡ first_players index start.bettors
  pub level : greatest street.level (λ bettor. bettor.put) (drop index start.bettors)
      ≡ greatest start.opening (λ bettor. bettor.put) start.bettors
  pub pot : street.pot + sum_over (λ bettor. bettor.put) (drop index start.bettors)
      ≡ start.counted + sum_over (λ bettor. bettor.put) start.bettors
  pub full : street.full ≡ start.big
  pub unit : street.unit ≡ start.unit
  pub after : street.after ≡ start.after

-- What a player of the next seat has put in takes the pot no further than the chips of all.
pub pot-few : (start : StreetStart) (index : ℕ) (street : Street) (bettor : Bettor) → IsStreetStart start
    → index < length start.bettors → get_or start.bettors index None ≡ Some bettor → IsUpTo start index street
    → street.pot + bettor.put < 2 ^ 60
pot-few start index street bettor right within there so_far =
    let left : sum_over (λ (other : Bettor). other.put) (drop index start.bettors)
    ≡ bettor.put + sum_over (λ (other : Bettor). other.put) (drop (index + 1) start.bettors) =
    rw (drop_more start.bettors index None within, there) refl in
    let few = puts_below start.bettors in
    let pot = so_far.pot in
    let chips = right.chips in
    omega arith

-- The player of the next seat sits down.
pub up_to-more : (start : StreetStart) (index : ℕ) (street : Street) (bettor : Bettor) → length start.bettors ≡ 10
    → index < 10 → get_or start.bettors index None ≡ Some bettor → IsUpTo start index street
    → IsUpTo start (index + 1) (record {
      players = set street.players index (Some (fresh bettor));
      level = max street.level bettor.put;
      full = street.full;
      pot = street.pot + bettor.put;
      unit = street.unit;
      after = street.after;
    })
up_to-more start index street bettor ten within there so_far =
    let split : drop index start.bettors ≡ Some bettor ∷ drop (index + 1) start.bettors =
    rw (drop_more start.bettors index None (omega arith), there) refl in
    let left = ap (sum_over (λ (other : Bettor). other.put)) split in
    let pot = so_far.pot in
    record {
      players = rw so_far.players (players-more start.bettors index bettor ten within there);
      level = greatest-more street.level bettor.put (λ (other : Bettor). other.put) (drop (index + 1) start.bettors)
          ∙ sym (ap (greatest street.level (λ (other : Bettor). other.put)) split) ∙ so_far.level;
      pot = omega arith;
      full = so_far.full;
      unit = so_far.unit;
      after = so_far.after;
    }

-- Nobody sits in the next seat.
pub up_to-none : (start : StreetStart) (index : ℕ) (street : Street) → length start.bettors ≡ 10 → index < 10
    → get_or start.bettors index None ≡ None → IsUpTo start index street → IsUpTo start (index + 1) street
up_to-none start index street ten within nobody so_far =
    let split : drop index start.bettors ≡ None ∷ drop (index + 1) start.bettors =
    rw (drop_more start.bettors index None (omega arith), nobody) refl in
    record {
      players = so_far.players ∙ players-none start.bettors index ten within nobody;
      level = sym (ap (greatest street.level (λ (other : Bettor). other.put)) split) ∙ so_far.level;
      pot = sym (ap (λ rest. street.pot + sum_over (λ (other : Bettor). other.put) rest) split) ∙ so_far.pot;
      full = so_far.full;
      unit = so_far.unit;
      after = so_far.after;
    }

-- With all players in their seats it is the street without acts.
pub up_to-all : (start : StreetStart) (index : ℕ) (street : Street) → length start.bettors ≡ 10 → 10 ≤ index
    → IsUpTo start index street → street ≡ street_after start []
up_to-all start index street ten all so_far =
    let ends : drop index start.bettors ≡ [] = drop_all index start.bettors (omega arith) in
    let players = so_far.players ∙ players-all start.bettors index ten all in
    let level = rw ends at so_far.level in
    let pot : street.pot ≡ start.counted + sum_over (λ (bettor : Bettor). bettor.put) start.bettors =
    omega (arith, rw ends at so_far.pot) in
    rw (street_start_is start, ← players, ← level, ← pot, ← so_far.full, ← so_far.unit, ← so_far.after) refl
