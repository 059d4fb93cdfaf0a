-- What is found in lists of acts by a player who neither bets nor raises.
use Rattle.std.proofs.Common.{◌≡◌, refl, ℕ, Bool, true, false, cond, not, List, [], ◌∷◌, ◌++◌, Some, inl, inr, arith}
use Rattle.std.specs.Prelude.{◌==◌, nat_lt, find, unwrap_or}
use Rattle.std.proofs.lemmas.Bool.{cases_Bool}
use Rattle.std.proofs.lemmas.Bool.Decides.{nat_tests}
use Rattle.betting_round.specs.declared.act.Act.{Act}
use Rattle.betting_round.specs.declared.act.Act.TheVariants.{Fold, Check, Call}

-- What is found in two lists, one behind the other: in the first, or else in the second.
pub find-joined : {A : Type 0} (test : A → Bool) (front back : List A) (last : A) → find test back ≡ Some last
    → find test (front ++ back) ≡ Some (unwrap_or (find test front) last)
find-joined test [] back last is = is
find-joined test (item ∷ front) back last is = by_test (test item) (find-joined test front back last is)
  where
    by_test : (passes : Bool) → find test (front ++ back) ≡ Some (unwrap_or (find test front) last)
        → cond passes (Some item) (find test (front ++ back))
        ≡ Some (unwrap_or (cond passes (Some item) (find test front)) last)
    by_test true later = refl
    by_test false later = later

met_not_less : (put level : ℕ) → (put == level) ≡ true → nat_lt put level ≡ false
met_not_less put level met = grind (arith, nat_tests)

module _ (test : Act → Bool) (put level : ℕ) (check : test Check ≡ not (nat_lt put level)) where
  -- Of a call and a check the check is found just where the level is met.
  pub found-call_or_check : test Call ≡ not (put == level)
      → find test (Call ∷ Check ∷ []) ≡ Some (cond (put == level) Check Call)
  found-call_or_check call = elim (cases_Bool (put == level)) [
    | inl met ↦ let less = met_not_less put level met in rw (call, check, met, less) refl
    | inr unmet ↦ rw (call, unmet) refl
  ]

  -- Of a check and a fold the fold is found just where less than the level is put in.
  pub found-check_or_fold : test Fold ≡ true
      → find test (Check ∷ Fold ∷ []) ≡ Some (cond (nat_lt put level) Fold Check)
  found-check_or_fold fold = elim (cases_Bool (nat_lt put level)) [
    | inl less ↦ rw (check, less, fold) refl
    | inr enough ↦ rw (check, enough) refl
  ]
