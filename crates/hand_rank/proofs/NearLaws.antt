-- Runs into which hole cards fit.
use Rattle.std.proofs.Common.{◌≡◌, ℕ, ◌+◌, ◌-◌, ◌<◌, ◌≤◌, inr, Bool, true, false, ◌&&◌, ◌||◌, not, eqb, leb, cond, List, [], refl, sym, ap, ◌∙◌, subst, eqb-true, le-leb, lit≤, zero-le, arith}
use Rattle.std.specs.Prelude.{Option}
use Rattle.std.proofs.lemmas.Bool.{and_from, and_left, and_parts, not_from_true, or_right}
use Rattle.std.proofs.lemmas.Nat.Bits.{bit_at-zero}
use Rattle.std.proofs.lemmas.Bool.Decides.{nat_tests}
use Rattle.rulebook.proofs.Sides.{first_alone, others_alone}
use Rattle.card_set.specs.declared.card.Card.{Card}
use Rattle.hand_rank.specs.Held.{AreNear, IsHighestRunWith}
use Rattle.hand_rank.specs.Runs.{holds_step, is_run, highest_run, is_in_run, is_near}
use Rattle.hand_rank.specs.Sets.{has_rank, HasRanks}
use Rattle.hand_rank.specs.Values.{count_of_rank}
use Rattle.hand_rank.proofs.RunLaws.{occurring, run_parts, run_from, run-found, run-is}
use Rattle.card_set.proofs.Computed.{all_below, holds_below}

held_at : (p : ℕ → Bool) (step r : ℕ) → step ≡ r → 2 ≤ r → holds_step p step ≡ true → p r ≡ true
held_at p step r is high holds =
    first_alone (p r) (eqb r 1 && p 14) (subst (λ s. holds_step p s ≡ true) is holds)
    (and_left (eqb r 1) (p 14) (grind (arith, nat_tests)))

-- the ranks of a run are those that are in it
pub run-in : (p : ℕ → Bool) (top r : ℕ) → p 1 ≡ false → is_run p top ≡ true → is_in_run top r ≡ true → p r ≡ true
run-in p top r not_one runs is =
    let parts = run_parts p top runs in
    (elim (leb 2 r && leb r top && leb top (r + 4)) as (λ b. (leb 2 r && leb r top && leb top (r + 4)) ≡ b
    → (b || (eqb top 5 && eqb r 14)) ≡ true → p r ≡ true) [
      | true ↦ λ inside all.
          let low : 2 ≤ r = grind (arith, nat_tests) in
          let up : r ≤ top = grind (arith, nat_tests) in
          let down : top ≤ r + 4 = grind (arith, nat_tests) in
          elim (eqb r top) as (λ b. eqb r top ≡ b → p r ≡ true) [
            | true ↦ λ same. held_at p top r (grind (arith, nat_tests)) low parts.0
            | false ↦ λ not_top. elim (eqb r (top - 1)) as (λ b. eqb r (top - 1) ≡ b → p r ≡ true) [
              | true ↦ λ same. held_at p (top - 1) r (grind (arith, nat_tests)) low parts.1
              | false ↦ λ not_1. elim (eqb r (top - 2)) as (λ b. eqb r (top - 2) ≡ b → p r ≡ true) [
                | true ↦ λ same. held_at p (top - 2) r (grind (arith, nat_tests)) low parts.2
                | false ↦ λ not_2. elim (eqb r (top - 3)) as (λ b. eqb r (top - 3) ≡ b → p r ≡ true) [
                  | true ↦ λ same. held_at p (top - 3) r (grind (arith, nat_tests)) low parts.3
                  | false ↦ λ not_3. held_at p (top - 4) r (grind (arith, nat_tests)) low parts.4
                ] refl
              ] refl
            ] refl
          ] refl
      | false ↦ λ outside all.
          let five : top ≡ 5 = grind (arith, nat_tests) in
          let ace : r ≡ 14 = grind (arith, nat_tests) in
          let low : holds_step p 1 ≡ true = subst (λ t. holds_step p (t - 4) ≡ true) five parts.4 in
          subst (λ s. p s ≡ true) (sym ace) (others_alone (p 1) (p 14) low not_one)
    ]) refl is

step_held : (p : ℕ → Bool) (step : ℕ) → p step ≡ true → holds_step p step ≡ true
step_held p step is = rw is refl

-- a rank that is in a run, by its distance from the top
pub in_run : (top r : ℕ) → 2 ≤ r → r ≤ top → top ≤ r + 4 → is_in_run top r ≡ true
in_run top r low up down = grind (arith, nat_tests)

-- and where all of those are there, there is the run
pub in-run : (p : ℕ → Bool) (top : ℕ) → 5 ≤ top → ((r : ℕ) → is_in_run top r ≡ true → p r ≡ true) → is_run p top ≡ true
in-run p top low all =
    run_from p top (step_held p top (all top (in_run top top (omega arith) (omega arith) (omega arith))))
    (step_held p (top - 1) (all (top - 1) (in_run top (top - 1) (omega arith) (omega arith) (omega arith))))
    (step_held p (top - 2) (all (top - 2) (in_run top (top - 2) (omega arith) (omega arith) (omega arith))))
    (step_held p (top - 3) (all (top - 3) (in_run top (top - 3) (omega arith) (omega arith) (omega arith))))
    (elim (eqb top 5) as (λ b. eqb top 5 ≡ b → holds_step p (top - 4) ≡ true) [
      | true ↦ λ five.
          let is : top ≡ 5 = eqb-true top 5 five in
          let ace : p 14 ≡ true = all 14 (subst (λ t. is_in_run t 14 ≡ true) (sym is) refl) in
          subst (λ t. holds_step p (t - 4) ≡ true) (sym is) (or_right (p 1) (p 14) ace)
      | false ↦ λ more. step_held p (top - 4)
          (all (top - 4) (in_run top (top - 4) (grind (arith, nat_tests)) (omega arith) (omega arith)))
    ] refl)

-- a rank that all ranks of a run are near is in it
near_in : ℕ → ℕ → Bool
near_in top rank = not (leb 5 top && is_run (is_near rank) top) || is_in_run top rank

all_near_in : all_below (λ top. all_below (near_in top) 15) 15 ≡ true
unfolding all_below near_in is_near
all_near_in = refl

run-near : (top rank : ℕ) → 5 ≤ top → top < 15 → rank < 15 → is_run (is_near rank) top ≡ true
    → is_in_run top rank ≡ true
unfolding near_in
run-near top rank low high below runs =
    let at = holds_below (near_in top) 15 rank
    (holds_below (λ top. all_below (near_in top) 15) 15 top all_near_in high) below in
    others_alone (not (leb 5 top && is_run (is_near rank) top)) (is_in_run top rank) at
    (not_from_true _ (and_from _ _ (le-leb 5 top low) runs))

-- ranks of a run are near each other
in_near : ℕ → ℕ → ℕ → Bool
in_near top rank other = not (leb 5 top && (is_in_run top rank && is_in_run top other)) || is_near rank other

all_in_near : all_below (λ top. all_below (λ rank. all_below (in_near top rank) 15) 15) 15 ≡ true
unfolding all_below in_near is_near
all_in_near = refl

near-run : (top rank other : ℕ) → 5 ≤ top → top < 15 → rank < 15 → other < 15 → is_in_run top rank ≡ true
    → is_in_run top other ≡ true → is_near rank other ≡ true
unfolding in_near
near-run top rank other low high one two is also =
    let at = holds_below (in_near top rank) 15 other
    (holds_below (λ rank. all_below (in_near top rank) 15) 15 rank
    (holds_below (λ top. all_below (λ rank. all_below (in_near top rank) 15) 15) 15 top all_in_near high) one) two in
    others_alone (not (leb 5 top && (is_in_run top rank && is_in_run top other))) (is_near rank other) at
    (not_from_true _ (and_from _ _ (le-leb 5 top low) (and_from _ _ is also)))

-- a rank of a run is no more than the ace
pub in_run-below : (top r : ℕ) → top < 15 → is_in_run top r ≡ true → r < 15
in_run-below top r high is = grind (arith, nat_tests)

-- with no hole cards all ranks may be in a run
in_all : ℕ → ℕ → Bool
in_all top rank = not (leb 5 top && is_in_run top rank) || has_rank 32764 rank

all_in_all : all_below (λ top. all_below (in_all top) 15) 15 ≡ true
unfolding all_below in_all
all_in_all = refl

pub near-all : AreNear 32764 []
unfolding in_all
near-all = record {
  fits = λ top low high all. record { apart = λ r. zero-le; among = λ r some. absurd (omega arith) };
  near = λ top rank low high fit is.
      let at = holds_below (in_all top) 15 rank
      (holds_below (λ top. all_below (in_all top) 15) 15 top all_in_all high) (in_run-below top rank high is) in
      others_alone (not (leb 5 top && is_in_run top rank)) (has_rank 32764 rank) at
      (not_from_true _ (and_from _ _ (le-leb 5 top low) is));
}

-- where two hole cards have one rank, they fit into no run
pub near-none : (rank bits : ℕ) (hole : List Card)
    → ((r : ℕ) → count_of_rank hole r ≡ cond (eqb rank r) 1 0 + cond (eqb rank r) 1 0) → bits ≡ 0 → AreNear bits hole
near-none rank bits hole counts empty = record {
  fits = λ top low high all.
      let none : has_rank bits top ≡ false = ap (λ n. has_rank n top) empty ∙ ap (λ b. eqb b 1) (bit_at-zero top) in
      let has = all top (in_run top top (omega arith) (omega arith) (omega arith)) in
      absurd cc;
  near = λ top r low high fit is.
      let itself : eqb rank rank ≡ true = grind (arith, nat_tests) in
      let twice : count_of_rank hole rank ≡ 1 + 1 = counts rank ∙ rw itself refl in
      let few = fit.apart rank in
      absurd (omega arith);
}

-- where they have two, those ranks are near both
pub near-both : (one other bits : ℕ) (hole : List Card) → one < 15 → other < 15 → eqb one other ≡ false
    → ((r : ℕ) → count_of_rank hole r ≡ cond (eqb one r) 1 0 + cond (eqb other r) 1 0)
    → ((r : ℕ) → r < 16 → has_rank bits r ≡ (is_near one r && is_near other r)) → AreNear bits hole
near-both one other bits hole below_one below_other apart counts are = record {
  fits = λ top low high all.
      let parts : (r : ℕ) → is_in_run top r ≡ true → (is_near one r ≡ true) × (is_near other r ≡ true) =
      λ r is. let below = in_run-below top r high is in
      and_parts (is_near one r) (is_near other r) (sym (are r (omega arith)) ∙ all r is) in
      let of_one = run-near top one low high below_one (in-run (is_near one) top low (λ r is. (parts r is).0)) in
      let of_other = run-near top other low high below_other
      (in-run (is_near other) top low (λ r is. (parts r is).1)) in
      record {
        apart = λ r. let at = counts r in grind (arith, nat_tests);
        among = λ r some. elim (eqb one r) as (λ b. eqb one r ≡ b → is_in_run top r ≡ true) [
          | true ↦ λ same. subst (λ s. is_in_run top s ≡ true) (eqb-true one r same) of_one
          | false ↦ λ not_one.
              let at = counts r in
              let same : other ≡ r = grind (arith, nat_tests) in
              subst (λ s. is_in_run top s ≡ true) same of_other
        ] refl;
      };
  near = λ top r low high fit is.
      let below = in_run-below top r high is in
      let at_one = counts one in
      let at_other = counts other in
      are r (omega arith) ∙ and_from (is_near one r) (is_near other r)
      (near-run top one r low high below_one below (fit.among one (grind (arith, nat_tests))) is)
      (near-run top other r low high below_other below (fit.among other (grind (arith, nat_tests))) is);
}

-- the highest run of the ranks that may run with the hole cards is the highest with them
pub run-with : (hole : List Card) (count : ℕ → ℕ) (bits near fewer : ℕ) (result : Option ℕ) → AreNear near hole
    → HasRanks bits 1 count
    → ((r : ℕ) → has_rank fewer r ≡ (has_rank bits r && has_rank near r))
    → ((count : ℕ → ℕ) → HasRanks fewer 1 count → result ≡ highest_run (λ rank. leb 1 (count rank)))
    → IsHighestRunWith result count hole
run-with hole count bits near fewer result are has meet top =
    let some : ℕ → ℕ = λ r. cond (has_rank near r) (count r) 0 in
    let has_some : HasRanks fewer 1 some = record {
      some = lit≤ tt;
      at = λ r below. meet r ∙ ap (λ a. a && has_rank near r) (has.at r below) ∙ kept (has_rank near r) (count r);
      only = λ r out. none (has_rank near r) (count r) (has.only r out);
    } in
    let found = top some has_some in
    let not_one : leb 1 (count 1) ≡ false = ap (leb 1) (has.only 1 (inr (lit≤ tt))) in
    let not_some : leb 1 (some 1) ≡ false = ap (leb 1) (has_some.only 1 (inr (lit≤ tt))) in
    record {
      is = λ best is.
          let run = run-is (occurring some) best (sym found ∙ is) in
          let inside : (r : ℕ) → is_in_run best r ≡ true → (has_rank near r ≡ true) × (leb 1 (count r) ≡ true) =
          λ r at. parts (has_rank near r) (count r) (run-in (occurring some) best r not_some run.runs at) in
          record {
            low = run.low;
            high = run.high;
            runs = in-run (occurring count) best run.low (λ r at. (inside r at).1);
            fits = are.fits best run.low run.high (λ r at. (inside r at).0);
          };
      others = λ other is.
          let runs = in-run (occurring some) other is.low (λ r at.
          all (has_rank near r) (count r) (are.near other r is.low is.high is.fits at)
          (run-in (occurring count) other r not_one is.runs at)) in
          let at = run-found (occurring some) other is.low is.high runs in
          (at.0, found ∙ at.1, at.2);
    }
  where
    kept : (b : Bool) (n : ℕ) → (leb 1 n && b) ≡ leb 1 (cond b n 0)
    kept true n = grind (arith, nat_tests)
    kept false n = grind (arith, nat_tests)

    none : (b : Bool) (n : ℕ) → n ≡ 0 → cond b n 0 ≡ 0
    none true n is = is
    none false n is = refl

    parts : (b : Bool) (n : ℕ) → leb 1 (cond b n 0) ≡ true → (b ≡ true) × (leb 1 n ≡ true)
    parts true n is = (refl, is)
    parts false n is = absurd (let bad : leb 1 0 ≡ true = is in let fails : leb 1 0 ≡ false = refl in cc)

    all : (b : Bool) (n : ℕ) → b ≡ true → leb 1 n ≡ true → leb 1 (cond b n 0) ≡ true
    all true n p is = is
    all false n p is = absurd cc
