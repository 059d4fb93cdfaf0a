-- A session with one exchange more.
use Rattle.std.proofs.Common.{◌≡◌, sym, subst, ℕ, ◌+◌, false, List, [], ◌∷◌, ◌++◌, append-nil, append_assoc, arith}
use Rattle.std.specs.List.{flat_map, fold}
use Rattle.std.proofs.lemmas.List.{flat_map_more}
use Rattle.std.proofs.lemmas.List.Sums.{fold-append}
use Rattle.plan_files.specs.Words.{WordTerms}
use Rattle.session_desk.specs.Desks.{Numbers, Sights}
use Rattle.session_desk.specs.Exchanges.{Exchange}
use Rattle.session_desk.specs.Standings.{Standing, first_standing, is_quit, meaning_said, standing_after, standing_through}
use Rattle.session_desk.specs.Talks.{AreGoingFrom, AreMomentsBehind, IsMoment, brought_in, sights_through, sum_from}

-- What each exchange gives, one more.
pub flat-more : {A : Type 0} (f : Exchange → List A) (log : List Exchange) (said : Exchange)
    → flat_map f (log ++ said ∷ []) ≡ flat_map f log ++ f said
flat-more f log said = sym (flat_map_more f [] log said)

-- All that was brought.
pub brought-more : (log : List Exchange) (said : Exchange) → brought_in (log ++ said ∷ [])
    ≡ record {
      acts = (brought_in log).acts ++ said.brought.acts;
      orders = (brought_in log).orders ++ said.brought.orders;
    }
brought-more log said = λ i. record {
  acts = flat-more (λ (one : Exchange). one.brought.acts) log said i;
  orders = flat-more (λ (one : Exchange). one.brought.orders) log said i;
}

-- What had been seen then.
pub sights-more : (start : Sights) (log : List Exchange) (said : Exchange)
    → sights_through start (log ++ said ∷ []) ≡ said.at
sights-more start log said = fold-append (λ (seen : Sights) (one : Exchange). one.at) start log (said ∷ [])

module _ (words : WordTerms) (count : ℕ) where
  -- The standing behind it.
  pub standing-more : (log : List Exchange) (said : Exchange) → standing_through words count (log ++ said ∷ [])
      ≡ standing_after words count (standing_through words count log) said
  standing-more log said = fold-append (standing_after words count) first_standing log (said ∷ [])

  -- The sum of what each counts.
  pub sum-more : (size : Standing → Exchange → ℕ) (standing : Standing) (log : List Exchange) (said : Exchange)
      → sum_from words count size standing (log ++ said ∷ [])
      ≡ sum_from words count size standing log + size (fold (standing_after words count) standing log) said
  sum-more size standing [] said = omega arith
  sum-more size standing (first ∷ log) said =
      let rest = sum-more size (standing_after words count standing first) log said in omega (arith, rest)

  -- None ends the session, where this one does not.
  pub going-more : (standing : Standing) (log : List Exchange) (said : Exchange)
      → AreGoingFrom words count standing log
      → is_quit (meaning_said words (fold (standing_after words count) standing log).speaker said.answered) ≡ false
      → AreGoingFrom words count standing (log ++ said ∷ [])
  going-more standing [] said going stays = (stays, tt)
  going-more standing (first ∷ log) said going stays =
      (going.0, going-more (standing_after words count standing first) log said going.1 stays)

  -- Each is right, by those before it, where this one is.
  pub moments-more : (numbers : Numbers) (start : Sights) (before log : List Exchange) (said : Exchange)
      → AreMomentsBehind words count numbers start before log
      → IsMoment words count numbers start (before ++ log) said
      → AreMomentsBehind words count numbers start before (log ++ said ∷ [])
  moments-more numbers start before [] said moments one =
      (subst (λ (l : List Exchange). IsMoment words count numbers start l said) (append-nil before) one, tt)
  moments-more numbers start before (first ∷ log) said moments one = (
    moments.0,
    moments-more numbers start (before ++ first ∷ []) log said moments.1
        (subst (λ (l : List Exchange). IsMoment words count numbers start l said)
        (sym (append_assoc before (first ∷ []) log)) one),
  )
