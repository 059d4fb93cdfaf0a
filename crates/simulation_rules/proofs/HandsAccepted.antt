-- A simulated act is accepted while the hand goes on, and a settle once it is over.
use Rattle.std.proofs.Common.{◌≡◌, ◌∙◌, refl, sym, ap, subst, ℕ, Bool, true, false, List, [], Option, Some, None}
use Rattle.std.specs.Prelude.{IsSome, find, option_map, unwrap_or}
use Rattle.rulebook.proofs.Found.{none-by_test}
use Rattle.rulebook.proofs.Tests.{find-passes, some_there}
use Rattle.betting_round.specs.declared.act.Act.{Act}
use Rattle.betting_round.specs.declared.act.Act.TheVariants.{Fold}
use Rattle.betting_round.specs.ActChecks.{facing_in}
use Rattle.table_engine.specs.Acts.{refusal_of_act}
use Rattle.table_engine.specs.Hands.{HandTerms, due_in_hand, due_name, is_over, street_of}
use Rattle.table_engine.specs.Starts.{IsLawfulStart}
use Rattle.table_engine.proofs.TurnLaws.{due-somebody}
use Rattle.tournament_events.specs.declared.event.Event.TheVariants as events
use Rattle.floor_director.specs.SimulatedActs.{act_number, is_lawful_act, listed_acts, simulated_act}
use Rattle.floor_director.proofs.SimulatedActs.{due-goes_on}
use Rattle.tournament_rules.specs.States.{PlayState, hand_at, refusal_of}
use Rattle.tournament_rules.specs.Valid.{IsValidPlay}
use Rattle.tournament_rules.proofs.Acting.{acts_freely, settle_free, started_at}
use Rattle.tournament_rules.proofs.Passed.{refusal-parts}
use Rattle.simulation_rules.proofs.ListedActs.{listed-found}

-- what is found passes, and so does it with another in the place of none
passes-found : (test : Act → Bool) (acts : List Act) (other : Act) → IsSome (find test acts)
    → test (unwrap_or (find test acts) other) ≡ true
passes-found test acts other some =
    let found = some_there (find test acts) some in
    let same : unwrap_or (find test acts) other ≡ found.0 =
    ap (λ (act : Option Act). unwrap_or act other) found.1 in
    ap test same ∙ find-passes test acts found.0 found.1

-- One act of each list is lawful for the player who is due.
due-lawful : (hand : HandTerms) (name : List ℕ) (number level full : ℕ) → IsLawfulStart hand.start
    → due_name hand ≡ Some name → IsSome (find (is_lawful_act hand name) (listed_acts number level full))
due-lawful hand name number level full lawful called = by_due (due_in_hand hand) refl
  where
    by_due : (due : Option ℕ) → due_in_hand hand ≡ due
        → IsSome (find (is_lawful_act hand name) (listed_acts number level full))
    by_due None is = let none : None ≡ Some name = rw is at called in absurd cc
    by_due (Some seat) is =
        let facing = facing_in (street_of hand) seat in
        let faces : option_map (facing_in (street_of hand)) (due_in_hand hand) ≡ Some facing = rw is refl in
        listed-found hand name facing (due-goes_on hand name facing lawful called faces) number level full

-- No check refuses the simulated act of the player who is due.
simulated-free : (seed : List ℕ) (number : ℕ) (hand : HandTerms) (name : List ℕ) → IsLawfulStart hand.start
    → due_name hand ≡ Some name → refusal_of_act hand name (simulated_act seed number hand) ≡ None
unfolding simulated_act
simulated-free seed number hand name lawful called =
    let acts = listed_acts (act_number seed number) (street_of hand).level (street_of hand).full in
    let due : unwrap_or (due_name hand) [] ≡ name =
    ap (λ (found : Option (List ℕ)). unwrap_or found []) called in
    subst (λ (due : List ℕ). refusal_of_act hand name (unwrap_or (find (is_lawful_act hand due) acts) Fold) ≡ None)
    (sym due)
    (none-by_test (refusal_of_act hand name (unwrap_or (find (is_lawful_act hand name) acts) Fold))
    (passes-found (is_lawful_act hand name) acts Fold
    (due-lawful hand name (act_number seed number) (street_of hand).level (street_of hand).full lawful called)))

module _ (play : PlayState) (table : ℕ) (hand : HandTerms) (valid : IsValidPlay play)
    (going : play.book.stopped ≡ false) (is : hand_at play table ≡ Some hand) where
  lawful : IsLawfulStart hand.start
  lawful = (valid.book.hands.starts table hand.start (started_at play table hand valid is).started).lawful

  -- While the hand goes on, the simulated act of the player who is due is accepted.
  pub act_accepted : (seed : List ℕ) (number : ℕ) → is_over hand ≡ false
      → refusal_of play (events.Act table (unwrap_or (due_name hand) []) (simulated_act seed number hand)) ≡ None
  act_accepted seed number goes =
      let called = some_there (due_name hand) (due-somebody hand lawful (valid.plays table hand is) goes) in
      let act = simulated_act seed number hand in
      let due : unwrap_or (due_name hand) [] ≡ called.0 =
      ap (λ (found : Option (List ℕ)). unwrap_or found []) called.1 in
      subst (λ (name : List ℕ). refusal_of play (events.Act table name act) ≡ None) (sym due)
      (acts_freely play table valid (events.Act table called.0 act) refl (record {
        going = going;
        hand = hand;
        started = is;
        free = simulated-free seed number hand called.0 lawful called.1;
      }))

  -- Once it is over, the settle is accepted.
  pub settle_accepted : is_over hand ≡ true → refusal_of play (events.Settle table) ≡ None
  settle_accepted over =
      let has = started_at play table hand valid is in
      let book = settle_free play.book table going has.there has.playing in
      refusal-parts play (events.Settle table) ∙ rw (book, is, over) refl
