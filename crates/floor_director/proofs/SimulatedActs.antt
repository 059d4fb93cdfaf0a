-- What the player who is due may do.
use Rattle.std.proofs.Common.{◌≡◌, ◌∙◌, refl, sym, ap, subst, ℕ, Bool, true, false, not, List, [], ◌∷◌, Option, Some, None}
use Rattle.std.specs.Prelude.{is_none, option_map}
use Rattle.floor_text.specs.declared.refusal.Refusal.{Refusal}
use Rattle.floor_text.specs.declared.refusal.Refusal.TheVariants.{CheckFacing, NothingToCall}
use Rattle.rulebook.specs.Checks.{first_that_holds}
use Rattle.rulebook.proofs.Checks.{first_that_holds-later}
use Rattle.betting_round.specs.declared.act.Act.{Act}
use Rattle.betting_round.specs.declared.act.Act.TheVariants.{Fold, Check, Call}
use Rattle.betting_round.specs.declared.facing.Facing.{Facing}
use Rattle.betting_round.specs.ActChecks.{act_checks, act_refusal, facing_in, turn_checks}
use Rattle.betting_round.specs.declared.street.Street.{Street}
use Rattle.betting_round.proofs.Turns.{turn-none}
use Rattle.table_engine.specs.Starts.{IsLawfulStart}
use Rattle.table_engine.specs.Hands.{HandTerms, due_in_hand, due_name, name_in_seat, seat_of_name, street_of, streets_of}
use Rattle.table_engine.specs.Acts.{limits_on}
use Rattle.table_engine.proofs.DueNames.{seat-of_named}
use Rattle.table_engine.proofs.Refusals.{refused-in_seat}
use Rattle.floor_director.specs.SimulatedActs.{is_lawful_act}
use Rattle.floor_director.specs.Passive.{MayGoOn}

-- one check does not refuse where it does not hold
one-check : (refusal : Refusal) (holds : Bool) → is_none (first_that_holds ((refusal, holds) ∷ [])) ≡ not holds
one-check refusal true = refl
one-check refusal false = refl

-- what the player who is due finds in the name of his seat
module _ (hand : HandTerms) (seat : ℕ) (name : List ℕ) (due : due_in_hand hand ≡ Some seat)
    (found : seat_of_name hand.start name ≡ Some seat) where
  -- only the checks of the act are left
  by_act : (act : Act) → is_lawful_act hand name act ≡ is_none (first_that_holds
      (act_checks (limits_on hand.start (streets_of hand)) (street_of hand).unit (facing_in (street_of hand) seat) act))
  unfolding act_refusal
  by_act act = ap is_none (refused-in_seat hand name act seat found
      ∙ first_that_holds-later (turn_checks (street_of hand) seat)
      (act_checks (limits_on hand.start (streets_of hand)) (street_of hand).unit (facing_in (street_of hand) seat) act)
      (turn-none (street_of hand) seat due))

  goes_on : MayGoOn hand name (facing_in (street_of hand) seat)
  goes_on = record {
    call = by_act Call ∙ one-check NothingToCall _;
    check = by_act Check ∙ one-check CheckFacing _;
    fold = by_act Fold;
  }

-- What the player who is due faces has the bet level and the full raise of the street.
pub facing-street : (street : Street) (due : Option ℕ) (facing : Facing)
    → option_map (facing_in street) due ≡ Some facing → (facing.level ≡ street.level) × (facing.full ≡ street.full)
facing-street street None facing is = absurd cc
facing-street street (Some seat) facing is =
    let same : facing_in street seat ≡ facing = cc in
    (ap (λ (f : Facing). f.level) (sym same), ap (λ (f : Facing). f.full) (sym same))

-- Where somebody is due, the player of that name may do by what he faces.
pub due-goes_on : (hand : HandTerms) (name : List ℕ) (facing : Facing) → IsLawfulStart hand.start
    → due_name hand ≡ Some name → option_map (facing_in (street_of hand)) (due_in_hand hand) ≡ Some facing
    → MayGoOn hand name facing
due-goes_on hand name facing lawful called faces = by_due (due_in_hand hand) refl
  where
    by_due : (due : Option ℕ) → due_in_hand hand ≡ due → MayGoOn hand name facing
    by_due None is = let none : None ≡ Some name = rw is at called in absurd cc
    by_due (Some seat) is =
        let his : name_in_seat hand.start seat ≡ Some name = rw is at called in
        let seen : Some (facing_in (street_of hand) seat) ≡ Some facing = rw is at faces in
        let same : facing_in (street_of hand) seat ≡ facing = cc in
        subst (λ (facing : Facing). MayGoOn hand name facing) same
        (goes_on hand seat name is (seat-of_named hand.start seat name lawful.names his))
