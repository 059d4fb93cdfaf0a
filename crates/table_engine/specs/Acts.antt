-- What becomes of an act. The Poker TDA Rules: a player acts in turn.
use Rattle.std.specs.Prelude.{◌≡◌, ℕ, Bool, true, not, List, [], ◌∷◌, ◌++◌, Option, Some, None, is_none, option_map, nat_lt, ◌==◌, unwrap_or, Result, Ok, Err, if◌then◌else◌}
use Rattle.std.specs.List.{list_any}
use Rattle.std.specs.Str.{bytes_eq}
use Rattle.rulebook.specs.Checks.{first_that_holds}
use Rattle.card_set.specs.declared.game.Game.{Game}
use Rattle.card_set.specs.declared.game.Game.TheVariants.{Holdem}
use Rattle.floor_text.specs.declared.refusal.Refusal.{Refusal}
use Rattle.floor_text.specs.declared.refusal.Refusal.TheVariants.{NotDealt, HandOver}
use Rattle.betting_round.specs.declared.act.Act.{Act}
use Rattle.betting_round.specs.declared.act.Act.TheVariants.{Fold, Check}
use Rattle.betting_round.specs.declared.act.Done.{Done}
use Rattle.betting_round.specs.Acts.{done_by}
use Rattle.betting_round.specs.ActChecks.{act_refusal, facing_in, seat_checks}
use Rattle.betting_round.specs.Limits.{Limits, no_limit, pot_limit}
use Rattle.limit_betting.specs.FixedLimits.{LimitTerms}
use Rattle.limit_betting.specs.Wagers.{limits_after, wagers}
use Rattle.table_engine.specs.declared.start.HandStart.{HandStart}
use Rattle.table_engine.specs.declared.record.ActOf.{ActOf}
use Rattle.table_engine.specs.declared.record.ActFault.{ActFault}
use Rattle.table_engine.specs.declared.record.ActFault.TheVariants as faults
use Rattle.table_engine.specs.Hands.{HandTerms, Streets, due_in_hand, due_name, seat_of_name, street_of, streets_of}

-- Hold'em is no-limit, and the other games are pot-limit.
abbrev pub limits_of : Game → Limits
limits_of Holdem = no_limit
limits_of game = pot_limit

-- How much may be bet on the last of a hand's streets: by the game, or by fixed limit where there is a cap.
abbrev pub limits_on : HandStart → Streets → Limits
limits_on start streets =
    if start.cap == 0 then limits_of start.game else limits_after start.cap streets.last.start streets.last.acts

-- The fixed limit of the player who is due, where there is a cap and somebody is due.
abbrev pub limit_in_hand : HandTerms → Option LimitTerms
limit_in_hand hand =
    let last = (streets_of hand).last in
    if hand.start.cap == 0 then None
    else
    option_map (λ seat. record { bet = last.start.big; cap = hand.start.cap; wagers = wagers last.start last.acts })
    (due_in_hand hand)

-- Why an act of the player in a seat is refused, if it is.
abbrev pub refusal_in_seat : HandTerms → Act → ℕ → Option Refusal
refusal_in_seat hand act seat = act_refusal (limits_on hand.start (streets_of hand)) (street_of hand) seat act

-- Whether a player of this name is dealt in.
abbrev pub is_dealt : HandStart → List ℕ → Bool
is_dealt start name = list_any (λ player. bytes_eq player.name name) start.seats

-- The seat of who acts. A player who is not dealt in has none, and is told so first.
abbrev pub acting_seat : HandTerms → List ℕ → ℕ
acting_seat hand name = unwrap_or (seat_of_name hand.start name) 0

-- The checks of an act, lowest number first: the player is not dealt in, and then those of the street.
unfoldable pub act_checks : HandTerms → List ℕ → Act → List (Refusal × Bool)
act_checks hand name act =
    (NotDealt, not (is_dealt hand.start name)) ∷
    seat_checks (limits_on hand.start (streets_of hand)) (street_of hand) (acting_seat hand name) act

-- Why an act of a player is refused, if it is: by the first check that holds.
abbrev pub refusal_of_act : HandTerms → List ℕ → Act → Option Refusal
refusal_of_act hand name act = first_that_holds (act_checks hand name act)

-- What an act of the player in a seat comes to.
abbrev pub done_in_seat : HandTerms → Act → ℕ → Done
done_in_seat hand act seat = done_by (facing_in (street_of hand) seat) act

-- What an act of a player that is not refused comes to.
unfoldable pub done_of_act : HandTerms → List ℕ → Act → Done
done_of_act hand name act = done_in_seat hand act (acting_seat hand name)

-- The checks of a called time: nobody is due.
abbrev pub time_checks : HandTerms → List (Refusal × Bool)
time_checks hand = (HandOver, is_none (due_in_hand hand)) ∷ []

-- Why a called time is refused, if it is.
abbrev pub refusal_of_time : HandTerms → Option Refusal
refusal_of_time hand = first_that_holds (time_checks hand)

-- A called time is a fold of the player in the seat that is due where he has put in less than the bet level, and else
-- a check of his.
abbrev pub act_in_time : HandTerms → ℕ → Act
act_in_time hand seat =
    let facing = facing_in (street_of hand) seat in if nat_lt facing.put facing.level then Fold else Check

-- The act that a called time makes for the player who is due.
unfoldable pub time_act : HandTerms → ActOf
time_act hand = record {
  name = unwrap_or (due_name hand) [];
  act = act_in_time hand (unwrap_or (due_in_hand hand) 0);
  by_time = true;
}

-- What a called time that is not refused comes to.
abbrev pub done_of_time : HandTerms → Done
done_of_time hand = done_of_act hand (time_act hand).name (time_act hand).act

-- The hand after an act of a player: one more act.
abbrev pub hand_after : HandTerms → List ℕ → Act → Bool → HandTerms
hand_after hand name act by_time =
    record hand { acts = hand.acts ++ (record { name = name; act = act; by_time = by_time }) ∷ [] }

-- The hand after a called time: one more act.
abbrev pub hand_after_time : HandTerms → HandTerms
hand_after_time hand = record hand { acts = hand.acts ++ time_act hand ∷ [] }

-- What an act gives: Ok exactly where nothing refuses it and memory does not run out, else the refusal that there is;
-- memory runs out only where there is none.
abbrev pub IsAnswer : {T : Type 0} → Option Refusal → Result T ActFault → Type 0
IsAnswer refusal (Ok done) = refusal ≡ None
IsAnswer refusal (Err (faults.No reason)) = refusal ≡ Some reason
IsAnswer refusal (Err faults.NoMemory) = refusal ≡ None
