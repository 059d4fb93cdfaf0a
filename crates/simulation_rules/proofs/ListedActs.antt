-- What is found in each list of acts by a player who may go on.
use Rattle.std.proofs.Common.{◌≡◌, refl, ℕ, ◌+◌, Bool, true, false, cond, not, List, [], ◌∷◌, ◌++◌, Option, Some}
use Rattle.std.specs.Prelude.{◌==◌, IsSome, find, nat_le, nat_lt}
use Rattle.betting_round.specs.declared.act.Act.{Act}
use Rattle.betting_round.specs.declared.act.Act.TheVariants.{Fold, Check, Call, AllIn, Bet, Raise}
use Rattle.betting_round.specs.declared.facing.Facing.{Facing}
use Rattle.table_engine.specs.Hands.{HandTerms}
use Rattle.floor_director.specs.Passive.{MayGoOn}
use Rattle.floor_director.specs.SimulatedActs.{is_lawful_act, listed_acts}
use Rattle.floor_director.proofs.Passive.{find-joined, found-call_or_check, found-check_or_fold}

found-some : {A : Type 0} (found : Option A) (item : A) → found ≡ Some item → IsSome found
found-some found item is = rw is refl

-- One act of each list is found by a test that passes what a player may do who faces this.
listed-some : (test : Act → Bool) (put level_is : ℕ) → test Call ≡ not (put == level_is)
    → test Check ≡ not (nat_lt put level_is) → test Fold ≡ true → (number level full : ℕ)
    → IsSome (find test (listed_acts number level full))
listed-some test put level_is call check fold number level full =
    by_number (number == 0) (nat_le number 2) (nat_le number 7)
  where
    called : find test (Call ∷ Check ∷ []) ≡ Some (cond (put == level_is) Check Call)
    called = found-call_or_check test put level_is check call

    -- behind some that are preferred
    behind : (front : List Act) → IsSome (find test (front ++ Call ∷ Check ∷ []))
    behind front = found-some _ _ (find-joined test front (Call ∷ Check ∷ []) _ called)

    by_number : (zero_is two seven : Bool) → IsSome (find test (cond zero_is (AllIn ∷ Call ∷ Check ∷ [])
        (cond two (Raise (level + full) ∷ Bet full ∷ Call ∷ Check ∷ []) (cond seven (Call ∷ Check ∷ [])
        (Check ∷ Fold ∷ [])))))
    by_number true two seven = behind (AllIn ∷ [])
    by_number false true seven = behind (Raise (level + full) ∷ Bet full ∷ [])
    by_number false false true = behind []
    by_number false false false = found-some _ _ (found-check_or_fold test put level_is check fold)

-- One act of each list is lawful for a player who may go on.
pub listed-found : (hand : HandTerms) (name : List ℕ) (facing : Facing) → MayGoOn hand name facing
    → (number level full : ℕ) → IsSome (find (is_lawful_act hand name) (listed_acts number level full))
listed-found hand name facing may =
    listed-some (is_lawful_act hand name) facing.put facing.level may.call may.check may.fold
