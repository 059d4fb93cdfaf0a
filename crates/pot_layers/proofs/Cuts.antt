-- The pots as they are cut, one amount of a live player after another.
use Rattle.std.proofs.Common.{◌≡◌, ◌∙◌, ◌⊎◌, ℕ, ◌+◌, ◌-◌, ◌%◌, ◌<◌, ◌≤◌, List, [], ◌∷◌, ◌++◌, Bool, true, false, true≢false, Some, None, length, refl, ap, sym, subst, inl, inr, arith}
use Rattle.std.specs.Prelude.{◌==◌, nat_le, nat_lt, count_by, map, fold, reverse}
use Rattle.std.specs.List.{list_all, list_any}
use Rattle.std.proofs.lemmas.Bool.{and_parts, eq-eqb, eqb-true, leb-true, ltb-true}
use Rattle.std.proofs.lemmas.List.{length-append}
use Rattle.std.proofs.lemmas.List.Folds.{list_all-map, list_all-append}
use Rattle.rulebook.proofs.Multiples.{multiple-sub}
use Rattle.rulebook.proofs.Passing.{list_any-none}
use Rattle.rulebook.proofs.Tests.{list_all-always}
use Rattle.pot_layers.specs.declared.put.Put.{Put}
use Rattle.pot_layers.specs.declared.pot_list.Pot.{Pot}
use Rattle.pot_layers.specs.declared.reach.Reach.{Reach}
use Rattle.pot_layers.specs.Layers.{is_eligible, live_payers, greatest_put, is_contested, pots_to, height_pots}
use Rattle.pot_layers.specs.Tallies.{total_put, total_to}
use Rattle.pot_layers.specs.PotTests.{are_whole_pots, are_whole_puts}
use Rattle.pot_layers.specs.Reaches.{puts_of, reach_of, is_above, nearer}
use Rattle.pot_layers.proofs.ListTests.{reverse-cons}
use Rattle.pot_layers.proofs.Heights.{is_within, is_live_at, live_at-passes, pays-none_above, total_to-grows, total_to-greatest, greatest_put-most}
use Rattle.pot_layers.proofs.Stretches.{pot_of, IsTop, next-cut, above-top}
use Rattle.pot_layers.proofs.Units.{total_to-whole, total_put-whole, there-whole, last-whole}
use Rattle.pot_layers.proofs.Nearest.{stands_at, nearest-found, none-above, above-falls, outside-puts_of, within-puts_of, there-puts_of}

-- The heights up to one are cut.
pub record IsCut (reaches : List Reach) (pots : List Pot) (below total : ℕ) : Type 0 where
  pub so_far : pots ≡ reverse (pots_to (puts_of reaches) below)
  pub paid : total ≡ total_to (puts_of reaches) below
  pub top : (below ≡ 0) ⊎ IsTop (puts_of reaches) below
  pub units : (unit : ℕ) → are_whole_puts unit (puts_of reaches) ≡ true
      → (are_whole_pots unit pots ≡ true) × (total % unit ≡ 0)
  pub room : length pots + count_by (is_above below) reaches ≤ 10

-- What is known once the nearest live player above is found.
pub record CutsNext (reaches : List Reach) (pots : List Pot) (below paid : ℕ) (next : Reach) : Type 0 where
  pub higher : below < next.put.amount
  pub more : paid ≤ next.total
  pub fewer : count_by (is_above next.put.amount) reaches < count_by (is_above below) reaches
  pub cut : IsCut reaches (pots ++ pot_of (next.total - paid) (live_payers (puts_of reaches) next.put.amount) ∷ [])
      next.put.amount next.total

-- A player's total is what is put in up to his height.
stands_right : List Put → Reach → Bool
stands_right puts reach = reach.total == total_to puts reach.put.amount

all-stand_right : (puts all : List Put) → list_all (stands_right all) (map (reach_of all) puts) ≡ true
unfolding stands_right
all-stand_right puts all = list_all-map (stands_right all) (reach_of all) puts
    ∙ list_all-always (λ put. stands_right all (reach_of all put)) puts
    (λ put. eq-eqb (total_to all put.amount) (total_to all put.amount) refl)

right-total : (puts : List Put) (reach : Reach) → stands_right puts reach ≡ true
    → reach.total ≡ total_to puts reach.put.amount
unfolding stands_right
right-total puts reach is = eqb-true reach.total (total_to puts reach.put.amount) is

-- The nearest live player above cuts the next pot.
pub cuts-next : (reaches : List Reach) (pots : List Pot) (below paid : ℕ) (next : Reach)
    → reaches ≡ map (reach_of (puts_of reaches)) (puts_of reaches) → IsCut reaches pots below paid
    → fold (nearer below) None reaches ≡ Some next → CutsNext reaches pots below paid next
cuts-next reaches pots below paid next right cut found =
    let puts = puts_of reaches in
    let all_right : list_all (stands_right puts) reaches ≡ true =
    subst (λ (s : List Reach). list_all (stands_right puts) s ≡ true) (sym right) (all-stand_right puts puts) in
    let nearest = nearest-found (stands_right puts) below None reaches next
    (λ before was. absurd cc) all_right found in
    let higher = ltb-true below next.put.amount
    (and_parts next.put.live (nat_lt below next.put.amount) nearest.above).1 in
    let there : list_any (stands_at next.put.amount) reaches ≡ true =
    elim nearest.there [ inl none ↦ absurd cc | inr some ↦ some ] in
    let total = right-total puts next nearest.passes in
    let fewer = above-falls reaches below next.put.amount higher there in
    let stands : list_any (is_live_at next.put.amount) puts ≡ true = there-puts_of reaches next.put.amount there in
    let pot = next-cut puts below next.put.amount cut.top higher
    (outside-puts_of reaches below next.put.amount nearest.least) stands in
    let pot_is : pot_of (total_to puts next.put.amount - total_to puts below) (live_payers puts next.put.amount)
    ≡ pot_of (next.total - paid) (live_payers puts next.put.amount) = rw (total, cut.paid) in
    record {
      higher = higher;
      more = rw (total, cut.paid) (total_to-grows puts below next.put.amount (omega arith));
      fewer = fewer;
      cut = record {
        so_far =
            ap (λ before. before ++ pot_of (next.total - paid) (live_payers puts next.put.amount) ∷ []) cut.so_far
            ∙ sym (reverse-cons (pot_of (next.total - paid) (live_payers puts next.put.amount)) (pots_to puts below))
            ∙ ap (λ top. reverse (top ∷ pots_to puts below)) (sym pot_is)
            ∙ ap reverse (sym pot);
        paid = total;
        top = inr (record {
          amount = total_to puts next.put.amount - total_to puts below;
          rest =
              pots_to puts below;
          cut = pot;
          within = omega arith;
          there = stands;
        });
        units = λ unit whole.
            let before = cut.units unit whole in
            let after : next.total % unit ≡ 0 =
            rw total (total_to-whole puts next.put.amount unit whole
            (there-whole puts next.put.amount unit whole stands)) in (
              list_all-append (λ (p : Pot). p.amount % unit == 0) pots
                  (pot_of (next.total - paid) (live_payers puts next.put.amount) ∷ [])
                  ∙ rw (
                    before.0,
                    eq-eqb ((next.total - paid) % unit) 0
                        (multiple-sub unit next.total paid
                        (rw (total, cut.paid) (total_to-grows puts below next.put.amount (omega arith))) after
                        before.1),
                  ),
              after,
            );
        room = rw length-append (omega (arith, cut.room, fewer));
      };
    }

-- What is known once no live player is above.
pub record IsWhole (reaches : List Reach) (pots : List Pot) (total paid : ℕ) : Type 0 where
  pub below : List Pot
  pub last : Pot
  pub ends : pots ≡ below ++ last ∷ []
  pub least : paid ≤ total
  pub within : last.amount ≤ paid
  pub all : below ++ record last { amount = last.amount + (total - paid) } ∷ [] ≡ height_pots (puts_of reaches)
  pub units : (unit : ℕ) → are_whole_puts unit (puts_of reaches) ≡ true
      → are_whole_pots unit (height_pots (puts_of reaches)) ≡ true

-- Where no live player is above, what is left goes into the top pot.
pub is-whole : (reaches : List Reach) (pots : List Pot) (below paid total : ℕ) → IsCut reaches pots below paid
    → fold (nearer below) None reaches ≡ None → is_contested (puts_of reaches) ≡ true
    → total ≡ total_put (puts_of reaches) → IsWhole reaches pots total paid
unfolding height_pots
is-whole reaches pots below paid total cut none contested whole = elim cut.top [
  | inl first ↦
      let within = within-puts_of reaches below (none-above below None reaches none).1 in
      let nobody : is_contested (puts_of reaches) ≡ false =
      list_any-none (is_within 0) (is_eligible 1) (puts_of reaches)
      (λ put is. pays-none_above put.live put.amount 0 1 is (omega arith)) (rw first at within) in
      absurd (true≢false (sym contested ∙ nobody))
  | inr top ↦
      let puts = puts_of reaches in
      let within = within-puts_of reaches below (none-above below None reaches none).1 in
      let least = leb-true below (greatest_put puts)
      (live_at-passes (λ n. nat_le n (greatest_put puts)) below puts (greatest_put-most puts) top.there) in
      let all = above-top puts below (greatest_put puts) top within least in
      let greatest = total_to-greatest puts in
      let grows = total_to-grows puts below (greatest_put puts) least in
      let left : total - paid ≡ total_to puts (greatest_put puts) - total_to puts below =
      rw (cut.paid, whole, ← greatest) in
      let ends : pots ≡ reverse top.rest ++ pot_of top.amount (live_payers puts below) ∷ [] = cut.so_far
      ∙ ap reverse top.cut ∙ reverse-cons (pot_of top.amount (live_payers puts below)) top.rest in
      let all_is : reverse top.rest ++ pot_of (top.amount + (total - paid)) (live_payers puts below) ∷ []
      ≡ height_pots puts =
      sym (reverse-cons (pot_of (top.amount + (total - paid)) (live_payers puts below)) top.rest)
      ∙ ap (λ left. reverse (pot_of (top.amount + left) (live_payers puts below) ∷ top.rest)) left
      ∙ ap reverse (sym all) in
      record {
        below = reverse top.rest;
        last = pot_of top.amount (live_payers puts below);
        ends = ends;
        least = rw (cut.paid, whole, ← greatest) grows;
        within = rw cut.paid top.within;
        all = all_is;
        units = λ unit whole_puts.
            let before = cut.units unit whole_puts in
            let total_is : total % unit ≡ 0 = rw whole (total_put-whole puts unit whole_puts) in
            subst (λ (p : List Pot). are_whole_pots unit p ≡ true) all_is
            (last-whole unit (reverse top.rest) top.amount (total - paid) (live_payers puts below)
            (subst (λ (p : List Pot). are_whole_pots unit p ≡ true) ends before.0)
            (multiple-sub unit total paid (rw (cut.paid, whole, ← greatest) grows) total_is before.1));
      }
]
