-- The best straights and straight flushes of hole cards with cards of a board.
use Rattle.std.proofs.Common.{◌≡◌, ℕ, ◌-◌, ◌<◌, ◌≤◌, ◌⊎◌, inl, inr, Bool, true, false, ◌||◌, not, eqb, leb, List, [], ◌∷◌, ◌++◌, length, Some, None, refl, sym, ap, ◌∙◌, subst, eqb-true, leb-true, le-leb, lit≤, arith}
use Rattle.std.specs.Prelude.{Option}
use Rattle.std.proofs.lemmas.Bool.{not_from_true}
use Rattle.std.proofs.lemmas.Bool.Decides.{nat_tests}
use Rattle.std.proofs.lemmas.Option.{same_Some}
use Rattle.card_set.specs.declared.card.Card.{Card}
use Rattle.card_choices.proofs.ListOrder.{Upto}
use Rattle.rulebook.proofs.Found.{some-found}
use Rattle.rulebook.proofs.Sides.{others_alone}
use Rattle.hand_rank.specs.declared.held.Held.{Held}
use Rattle.hand_rank.specs.Held.{hands, count_of_some_suit, IsHeld, RunsWith, IsHighestRunWith, IsBestIn}
use Rattle.hand_rank.specs.Cards.{count_of_suit}
use Rattle.hand_rank.specs.Runs.{is_in_run}
use Rattle.hand_rank.specs.Sets.{falling, HasRanks}
use Rattle.hand_rank.specs.Values.{count_of_rank, distinct_ranks, run_top, are_of_one_suit, value_of_distinct}
use Rattle.hand_rank.proofs.CardCounts.{other-rank, total-cards}
use Rattle.hand_rank.proofs.FiveLaws.{ones, shown-run, run-top_same}
use Rattle.hand_rank.proofs.HandLaws.{IsHandOf, is-hand, no-best, some-best}
use Rattle.hand_rank.proofs.NearLaws.{run-in, in-run, in_run, in_run-below}
use Rattle.hand_rank.proofs.Needs.{Among, has-only}
use Rattle.hand_rank.proofs.RunLaws.{occurring, is_run-more, run-found, run-ranks}
use Rattle.card_set.proofs.Computed.{all_below, holds_below}
use Rattle.hand_rank.proofs.ShapeLaws.{of-number, rank-within}
use Rattle.hand_rank.proofs.ShownValues.{occurs-from_two}
use Rattle.hand_rank.proofs.SingleLaws.{single_count, single-is, AreFive, singles-reached, suited-reached, AreSingle, are-single, single-value, IsSingle, is-single, tells, hand-suited, suited-hole}

-- a run has five ranks
run_size : ℕ → Bool
run_size top = not (leb 5 top) || eqb (length (falling (is_in_run top) 15)) 5

all_run_sizes : all_below run_size 15 ≡ true
unfolding all_below run_size falling
all_run_sizes = refl

run-size : (top : ℕ) → 5 ≤ top → top < 15 → length (falling (is_in_run top) 15) ≡ 5
unfolding run_size
run-size top low high =
    eqb-true (length (falling (is_in_run top) 15)) 5
    (others_alone (not (leb 5 top)) (eqb (length (falling (is_in_run top) 15)) 5)
    (holds_below run_size 15 top all_run_sizes high) (not_from_true (leb 5 top) (le-leb 5 top low)))

-- the five ranks of a run into which hole cards fit
run-five : (hole : List Card) (count : ℕ → ℕ) (top : ℕ) → RunsWith top count hole → AreFive hole (is_in_run top)
run-five hole count top run = record {
  many = run-size top run.low run.high;
  apart = run.fits.apart;
  among = λ r below some. run.fits.among r some;
}

run-there : (hole : List Card) (count : ℕ → ℕ) (top r : ℕ) → RunsWith top count hole → count 1 ≡ 0
    → is_in_run top r ≡ true → 1 ≤ count r
run-there hole count top r run none is =
    leb-true 1 (count r) (run-in (occurring count) top r (ap (leb 1) none) run.runs is)

-- five cards that run
record Runs (five : List Card) (top : ℕ) : Type 0 where
  high : ℕ
  up : top ≤ high
  is : run_top (distinct_ranks five) ≡ Some high

runs : (five : List Card) (top : ℕ) → 5 ≤ top → top < 15 → AreSingle five (is_in_run top)
    → ((r : ℕ) → count_of_rank five r ≡ single_count (is_in_run top) r) → Runs five top
runs five top low high single counts =
    let found = run-found (occurring (count_of_rank five)) top low high
    (in-run (occurring (count_of_rank five)) top low (λ r is.
    let below = in_run-below top r high is in
    let at : count_of_rank five r ≡ 1 = counts r ∙ single-is (is_in_run top) r below is in
    le-leb 1 (count_of_rank five r) (omega arith))) in
    record { high = found.0; up = found.2; is = sym (run-top_same five single.shown single.often) ∙ found.1 }

-- a hand that runs
hand-runs : (hole board five : List Card) (number : ℕ) (ranks : List ℕ) (count : ℕ → ℕ) (top : ℕ)
    → IsHandOf hole board five → IsSingle five number ranks → run_top (distinct_ranks five) ≡ Some top
    → ((r : ℕ) → count_of_rank five r ≤ count r) → RunsWith top count hole
hand-runs hole board five number ranks count top hand single is more =
    let run = shown-run five top single.often is in
    let all = run-ranks (count_of_rank five) top (other-rank five 1 (inr (lit≤ tt))) run in
    record {
      low = run.low;
      high = run.high;
      runs = is_run-more (occurring (count_of_rank five)) (occurring count) top (λ r occurs.
          let some = leb-true 1 (count_of_rank five r) occurs in
          let up = more r in le-leb 1 (count r) (omega arith)) run.runs;
      fits = record {
        apart = λ r. let up = hand.least r in let few = single.once r in omega arith;
        among = λ r some.
            let up = hand.least r in
            let has : 1 ≤ count_of_rank five r = omega arith in
            of_run r all.last (occurs-from_two five r has) all.which run.low
            (has-only ones (top ∷ (top - 1) ∷ (top - 2) ∷ (top - 3) ∷ all.last ∷ []) (count_of_rank five) r all.have
            (total-cards five ∙ hand.shown.count) (rank-within five r has) has);
      };
    }
  where
    of_run : (r last : ℕ) → 2 ≤ r → (last ≡ top - 4) ⊎ ((top ≡ 5) × (last ≡ 14)) → 5 ≤ top
        → Among r (top ∷ (top - 1) ∷ (top - 2) ∷ (top - 3) ∷ last ∷ []) → is_in_run top r ≡ true
    of_run r last from which low (inl is) = grind (arith, nat_tests)
    of_run r last from which low (inr (inl is)) = grind (arith, nat_tests)
    of_run r last from which low (inr (inr (inl is))) = grind (arith, nat_tests)
    of_run r last from which low (inr (inr (inr (inl is)))) = grind (arith, nat_tests)
    of_run r last from (inl lowest) low (inr (inr (inr (inr (inl is))))) = grind (arith, nat_tests)
    of_run r last from (inr ace) low (inr (inr (inr (inr (inl is))))) =
        let a = ace.0 in let b = ace.1 in grind (arith, nat_tests)
    of_run r last from which low (inr (inr (inr (inr (inr none))))) = absurd none

upto-one : (number top high : ℕ) → top ≤ high → Upto (number ∷ top ∷ []) (number ∷ high ∷ [])
upto-one number top high up = inr (
  refl,
  elim (eqb top high) as (λ b. eqb top high ≡ b → Upto (top ∷ []) (high ∷ [])) [
    | true ↦ λ same. inr (eqb-true top high same, tt)
    | false ↦ λ differs. inl (grind (arith, nat_tests))
  ] refl,
)

-- the best straight
pub straight-best : (held : Held) (hole board : List Card) (top : ℕ) (result : Option ℕ)
    → IsHeld held hole board → IsHighestRunWith result (count_of_rank (hole ++ board)) hole
    → result ≡ Some top → IsBestIn 4 (Some (4 ∷ top ∷ [])) (hands hole board)
straight-best held hole board top result is highest found =
    let count = count_of_rank (hole ++ board) in
    let run = highest.is top found in
    let are = run-five hole count top run in
    let reached = singles-reached hole board (is_in_run top) is.few is.enough are (λ r below at.
    run-there hole count top r run (other-rank (hole ++ board) 1 (inr (lit≤ tt))) at) in
    let hand = is-hand hole board reached.others reached.choice reached.count is.few is.once in
    let five = hole ++ reached.others in
    let single = are-single five (is_in_run top) hand.shown are.many reached.counts in
    let at = runs five top run.low run.high single reached.counts in
    some-best 4 (4 ∷ top ∷ []) hole board refl
    (record {
      others = reached.others;
      choice = reached.choice;
      count = reached.count;
      up = subst (λ v. Upto (4 ∷ top ∷ []) v) (single-value five single.often)
          (subst (λ o. Upto (4 ∷ top ∷ []) (value_of_distinct o (are_of_one_suit five) (distinct_ranks five)))
          (sym at.is) (above (are_of_one_suit five) at.high (distinct_ranks five) at.up));
    })
    (λ others ranks chosen others_long is_value.
    let this = is-hand hole board others chosen others_long is.few is.once in
    let one = is-single (hole ++ others) 4 ranks this.shown
    (of-number (hole ++ others) 4 ranks this.shown is_value) is_value in
    let told = (tells (run_top (distinct_ranks (hole ++ others))) (are_of_one_suit (hole ++ others))
    (distinct_ranks (hole ++ others)) ranks 4 one.value).straight refl in
    let with = highest.others told.0
    (hand-runs hole board (hole ++ others) 4 ranks count told.0 this one told.1 this.most) in
    let same : with.0 ≡ top = same_Some with.0 top (sym with.1 ∙ found) in
    subst (λ rs. Upto (4 ∷ rs) (4 ∷ top ∷ [])) (sym told.2)
    (subst (λ t. Upto (4 ∷ told.0 ∷ []) (4 ∷ t ∷ [])) same (upto-one 4 told.0 with.0 with.2)))
  where
    above : (one : Bool) (high : ℕ) (ranks : List ℕ) → top ≤ high
        → Upto (4 ∷ top ∷ []) (value_of_distinct (Some high) one ranks)
    above true high ranks up = inl (lit≤ tt)
    above false high ranks up = upto-one 4 top high up

-- where no run has both, there is no straight
pub no-straight : (held : Held) (hole board : List Card) (result : Option ℕ) (best : Option (List ℕ))
    → IsHeld held hole board → IsHighestRunWith result (count_of_rank (hole ++ board)) hole → result ≡ None
    → best ≡ None → IsBestIn 4 best (hands hole board)
no-straight held hole board result best is highest none is_none =
    no-best 4 best hole board is_none (λ others ranks chosen others_long is_value.
    let this = is-hand hole board others chosen others_long is.few is.once in
    let one = is-single (hole ++ others) 4 ranks this.shown
    (of-number (hole ++ others) 4 ranks this.shown is_value) is_value in
    let told = (tells (run_top (distinct_ranks (hole ++ others))) (are_of_one_suit (hole ++ others))
    (distinct_ranks (hole ++ others)) ranks 4 one.value).straight refl in
    let with = highest.others told.0
    (hand-runs hole board (hole ++ others) 4 ranks (count_of_rank (hole ++ board)) told.0
    this one told.1 this.most) in
    let bad : None ≡ Some with.0 = sym none ∙ with.1 in
    absurd cc)

-- the best straight flush
pub straight_flush-best : (held : Held) (hole board : List Card) (top : ℕ) (result : Option ℕ)
    (is : IsHeld held hole board)
    → IsHighestRunWith result (count_of_some_suit is.suited.suit (hole ++ board)) hole
    → result ≡ Some top → IsBestIn 8 (Some (8 ∷ top ∷ [])) (hands hole board)
straight_flush-best held hole board top result is highest found =
    let run = highest.is top found in
    let suit = some-found is.suited.suit no_suit in
    let all_suited = is.suited.of_hole suit.0 suit.1 in
    let count = count_of_suit (hole ++ board) suit.0 in
    let of_suit : RunsWith top count hole =
    subst (λ s. RunsWith top (count_of_some_suit s (hole ++ board)) hole) suit.1 run in
    let are = run-five hole count top of_suit in
    let no_one = (subst (λ s. HasRanks held.suited.bits 1 (count_of_some_suit s (hole ++ board))) suit.1
    is.suited.ranks).only 1 (inr (lit≤ tt)) in
    let reached = suited-reached hole board suit.0 (is_in_run top) is.few all_suited are (λ r below at.
    run-there hole count top r of_suit no_one at) in
    let hand = is-hand hole board reached.others reached.choice reached.count is.few is.once in
    let five = hole ++ reached.others in
    let single = are-single five (is_in_run top) hand.shown are.many reached.counts in
    let at = runs five top run.low run.high single reached.counts in
    some-best 8 (8 ∷ top ∷ []) hole board refl
    (record {
      others = reached.others;
      choice = reached.choice;
      count = reached.count;
      up = subst (λ v. Upto (8 ∷ top ∷ []) v) (single-value five single.often)
          (subst (λ o. Upto (8 ∷ top ∷ []) (value_of_distinct o (are_of_one_suit five) (distinct_ranks five)))
          (sym at.is)
          (subst (λ b. Upto (8 ∷ top ∷ []) (value_of_distinct (Some at.high) b (distinct_ranks five)))
          (sym reached.one) (upto-one 8 top at.high at.up)));
    })
    (λ others ranks chosen others_long is_value.
    let this = is-hand hole board others chosen others_long is.few is.once in
    let one = is-single (hole ++ others) 8 ranks this.shown
    (of-number (hole ++ others) 8 ranks this.shown is_value) is_value in
    let told = (tells (run_top (distinct_ranks (hole ++ others))) (are_of_one_suit (hole ++ others))
    (distinct_ranks (hole ++ others)) ranks 8 one.value).straight_flush refl in
    let with = highest.others told.1.0
    (hand-runs hole board (hole ++ others) 8 ranks (count_of_some_suit is.suited.suit (hole ++ board)) told.1.0 this one
    told.1.1 (λ r. hand-suited hole board (hole ++ others) held.suited.bits r is.suited this told.0
    (λ s all. suited-hole hole others s all))) in
    let same : with.0 ≡ top = same_Some with.0 top (sym with.1 ∙ found) in
    subst (λ rs. Upto (8 ∷ rs) (8 ∷ top ∷ [])) (sym told.1.2)
    (subst (λ t. Upto (8 ∷ told.1.0 ∷ []) (8 ∷ t ∷ [])) same (upto-one 8 told.1.0 with.0 with.2)))
  where
    no_suit : is.suited.suit ≡ None → ⊥
    no_suit at =
        let run = subst (λ s. RunsWith top (count_of_some_suit s (hole ++ board)) hole) at (highest.is top found) in
        let low = run.low in
        let some = run-there hole (λ r. 0) top top run refl
        (in_run top top (omega (arith, low)) (omega arith) (omega arith)) in
        absurd (omega (arith, some))

-- where no run of the suit has both, there is no straight flush
pub no-straight_flush : (held : Held) (hole board : List Card) (result : Option ℕ) (best : Option (List ℕ))
    (is : IsHeld held hole board) → IsHighestRunWith result (count_of_some_suit is.suited.suit (hole ++ board)) hole
    → result ≡ None → best ≡ None → IsBestIn 8 best (hands hole board)
no-straight_flush held hole board result best is highest none is_none =
    no-best 8 best hole board is_none (λ others ranks chosen others_long is_value.
    let this = is-hand hole board others chosen others_long is.few is.once in
    let one = is-single (hole ++ others) 8 ranks this.shown
    (of-number (hole ++ others) 8 ranks this.shown is_value) is_value in
    let told = (tells (run_top (distinct_ranks (hole ++ others))) (are_of_one_suit (hole ++ others))
    (distinct_ranks (hole ++ others)) ranks 8 one.value).straight_flush refl in
    let with = highest.others told.1.0
    (hand-runs hole board (hole ++ others) 8 ranks (count_of_some_suit is.suited.suit (hole ++ board)) told.1.0 this one
    told.1.1 (λ r. hand-suited hole board (hole ++ others) held.suited.bits r is.suited this told.0
    (λ s all. suited-hole hole others s all))) in
    let bad : None ≡ Some with.0 = sym none ∙ with.1 in
    absurd cc)
