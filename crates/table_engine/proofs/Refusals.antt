-- Why an act is refused.
use Rattle.std.proofs.Common.{◌≡◌, ◌∙◌, ℕ, List, [], ◌∷◌, Bool, true, false, cond, Some, None, refl, ap}
use Rattle.std.specs.Prelude.{◌||◌, Option, is_some, option_map, find, not, unwrap_or}
use Rattle.std.specs.List.{list_any}
use Rattle.std.specs.Str.{bytes_eq}
use Rattle.rulebook.specs.Checks.{first_that_holds}
use Rattle.floor_text.specs.declared.refusal.Refusal.TheVariants.{NotDealt}
use Rattle.betting_round.specs.declared.act.Act.{Act}
use Rattle.betting_round.specs.ActChecks.{act_refusal, seat_checks}
use Rattle.table_engine.specs.declared.start.HandStart.{HandStart}
use Rattle.table_engine.specs.Hands.{HandTerms, seat_of_name, street_of, streets_of}
use Rattle.table_engine.specs.Acts.{act_checks, acting_seat, limits_on, done_in_seat, done_of_act, is_dealt, refusal_in_seat, refusal_of_act}

-- Somebody passes a test exactly where somebody is found by it.
any-found_step : {X Y : Type 0} (f : X → Y) (x : X) (passes more : Bool) (left : Option X)
    → more ≡ is_some (option_map f left)
    → (passes || more) ≡ is_some (option_map f (cond passes (Some x) left))
any-found_step f x true more left same = refl
any-found_step f x false more left same = same

pub any-found : {X Y : Type 0} (test : X → Bool) (f : X → Y) (xs : List X)
    → list_any test xs ≡ is_some (option_map f (find test xs))
any-found test f [] = refl
any-found test f (x ∷ xs) = any-found_step f x (test x) (list_any test xs) (find test xs) (any-found test f xs)

-- A player is dealt in exactly where he has a seat.
dealt-seat : (start : HandStart) (name : List ℕ) → is_dealt start name ≡ is_some (seat_of_name start name)
dealt-seat start name = any-found (λ player. bytes_eq player.name name) (λ player. player.seat) start.seats

-- An act of a player who has no seat is refused as one of a player who is not dealt in.
pub refused-without_seat : (hand : HandTerms) (name : List ℕ) (act : Act) → seat_of_name hand.start name ≡ None
    → refusal_of_act hand name act ≡ Some NotDealt
unfolding act_checks
refused-without_seat hand name act none =
    let dealt : is_dealt hand.start name ≡ false = dealt-seat hand.start name ∙ ap is_some none in
    rw dealt

-- An act of a player who has a seat is refused only as the street refuses it of his seat.
pub refused-in_seat : (hand : HandTerms) (name : List ℕ) (act : Act) (seat : ℕ)
    → seat_of_name hand.start name ≡ Some seat
    → refusal_of_act hand name act ≡ refusal_in_seat hand act seat
unfolding act_checks act_refusal
refused-in_seat hand name act seat found =
    let dealt : is_dealt hand.start name ≡ true = dealt-seat hand.start name ∙ ap is_some found in
    let limits = limits_on hand.start (streets_of hand) in
    ap (λ (is : Bool). first_that_holds ((NotDealt, not is) ∷ seat_checks limits (street_of hand)
    (acting_seat hand name) act)) dealt
    ∙ ap (λ (slot : Option ℕ). act_refusal limits (street_of hand) (unwrap_or slot 0) act) found

-- What an act of a player who has a seat comes to.
pub done-in_seat : (hand : HandTerms) (name : List ℕ) (act : Act) (seat : ℕ) → seat_of_name hand.start name ≡ Some seat
    → done_of_act hand name act ≡ done_in_seat hand act seat
unfolding done_of_act
done-in_seat hand name act seat found = rw found
