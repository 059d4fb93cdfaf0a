-- Who pays a height, and how much is put in up to it.
use Rattle.std.proofs.Common.{◌≡◌, ◌∙◌, ℕ, suc, ◌+◌, ◌<◌, ◌≤◌, List, [], ◌∷◌, Bool, true, false, cond, refl, ap, sym, arith}
use Rattle.std.specs.Prelude.{◌&&◌, ◌||◌, ◌==◌, not, nat_le, min, max, map, fold}
use Rattle.std.specs.List.{list_all, list_any}
use Rattle.std.proofs.lemmas.Bool.{and_parts, and_right, le-leb, not_from_false}
use Rattle.std.proofs.lemmas.Bool.Decides.{nat_tests}
use Rattle.std.proofs.lemmas.List.Sums.{sum_by-le-sum_by}
use Rattle.std.proofs.lemmas.List.Folds.{fold_stays, list_all-map}
use Rattle.rulebook.proofs.Among.{all-among}
use Rattle.rulebook.proofs.Passing.{map-agree, not-any, sum_by-agree}
use Rattle.rulebook.proofs.Tests.{list_all-follows, list_any-follows, list_any-made, sum_by-plus}
use Rattle.pot_layers.specs.declared.put.Put.{Put}
use Rattle.pot_layers.specs.Layers.{has_paid, is_eligible, payments, live_payers, greatest_put, are_same_seats, is_nobody}
use Rattle.pot_layers.specs.Tallies.{total_put, total_to}

-- A player's part of a height.
min-suc : (amount height : ℕ) → min amount (suc height) ≡ min amount height + cond (nat_le (suc height) amount) 1 0
min-suc amount height = grind (arith, nat_tests)

-- What is put in up to the next height is more by that height's payments.
pub total_to-suc : (puts : List Put) (height : ℕ)
    → total_to puts (suc height) ≡ total_to puts height + payments puts (suc height)
total_to-suc puts height =
    sym (sum_by-plus (λ (put : Put). min put.amount height) (λ put. cond (has_paid (suc height) put) 1 0)
    (λ put. min put.amount (suc height)) puts (λ put. sym (min-suc put.amount height)))

-- What is put in up to a height is no more than up to a greater one.
pub total_to-grows : (puts : List Put) (low high : ℕ) → low ≤ high → total_to puts low ≤ total_to puts high
total_to-grows puts low high under =
    sum_by-le-sum_by (λ (put : Put). min put.amount low) (λ put. min put.amount high) puts (λ put. omega arith)

-- What is put in up to a height is no more than all.
pub total_to-le : (puts : List Put) (height : ℕ) → total_to puts height ≤ total_put puts
total_to-le puts height = sum_by-le-sum_by (λ (put : Put). min put.amount height) (λ put. put.amount) puts
    (λ put. omega arith)

-- Nothing is put in up to height 0.
pub total_to-zero : (puts : List Put) → total_to puts 0 ≡ 0
total_to-zero puts = fold_stays (λ (sum : ℕ) (put : Put). sum + min put.amount 0) 0 (λ put. omega arith) puts

-- The greatest so far is not above the greatest of all.
greatest-grows : (least : ℕ) (puts : List Put)
    → least ≤ fold (λ greatest (put : Put). max greatest put.amount) least puts
greatest-grows least [] = omega arith
greatest-grows least (put ∷ more) = omega (arith, greatest-grows (max least put.amount) more)

-- Nobody has put in more than the greatest of all.
greatest-most : (least : ℕ) (puts : List Put)
    → list_all (λ put. nat_le put.amount (fold (λ greatest (put : Put). max greatest put.amount) least puts)) puts
    ≡ true
greatest-most least [] = refl
greatest-most least (put ∷ more) =
    rw (le-leb put.amount (fold (λ greatest (put : Put). max greatest put.amount) (max least put.amount) more)
    (omega (arith, greatest-grows (max least put.amount) more)))
    (greatest-most (max least put.amount) more)

-- No player has put in more than the greatest put.
pub greatest_put-most : (puts : List Put) → list_all (λ put. nat_le put.amount (greatest_put puts)) puts ≡ true
greatest_put-most puts = greatest-most 0 puts

-- Up to the greatest amount put in, everything is put in.
pub total_to-greatest : (puts : List Put) → total_to puts (greatest_put puts) ≡ total_put puts
total_to-greatest puts =
    sum_by-agree (λ (put : Put). min put.amount (greatest_put puts)) (λ put. put.amount)
    (λ put. nat_le put.amount (greatest_put puts)) puts
    (λ put under. within put.amount (greatest_put puts) under) (greatest_put-most puts)
  where
    within : (amount most : ℕ) → nat_le amount most ≡ true → min amount most ≡ amount
    within amount most under = grind (arith, nat_tests)

-- No live player has put in an amount strictly between two heights.
abbrev pub is_outside : ℕ → ℕ → Put → Bool
is_outside below height put = not put.live || (nat_le put.amount below || nat_le height put.amount)

-- A live player has put in just this amount.
abbrev pub is_live_at : ℕ → Put → Bool
is_live_at height put = put.live && (put.amount == height)

-- What each amount put in passes, an amount that a live player has put in passes.
pub live_at-passes : (test : ℕ → Bool) (amount : ℕ) (puts : List Put) → list_all (λ put. test put.amount) puts ≡ true
    → list_any (is_live_at amount) puts ≡ true → test amount ≡ true
live_at-passes test amount puts all there =
    all-among test amount (map (λ (put : Put). put.amount) puts)
    (list_all-map test (λ (put : Put). put.amount) puts ∙ all)
    (list_any-made (λ (other : ℕ). other == amount) (λ (put : Put). put.amount) puts
    ∙ list_any-follows (is_live_at amount) (λ put. put.amount == amount) puts
    (λ put is. (and_parts put.live (put.amount == amount) is).1) there)

-- A player is not live, or has put in at most this height.
abbrev pub is_within : ℕ → Put → Bool
is_within height put = not put.live || nat_le put.amount height

eligible_outside : (live : Bool) (amount below between height : ℕ)
    → (not live || (nat_le amount below || nat_le height amount)) ≡ true → below < between → between ≤ height
    → (live && nat_le between amount) ≡ (live && nat_le height amount)
eligible_outside true amount below between height out low high = grind (arith, nat_tests)
eligible_outside false amount below between height out low high = refl

-- Heights between which no live player's amount lies have the same live payers.
pub live_payers-between : (puts : List Put) (below between height : ℕ) → list_all (is_outside below height) puts ≡ true
    → below < between → between ≤ height
    → live_payers puts between ≡ live_payers puts height
live_payers-between puts below between height out low high =
    map-agree (is_eligible between) (is_eligible height) (is_outside below height) puts
    (λ put is. eligible_outside put.live put.amount below between height is low high) out

-- Who is live and has put in just one height pays every height up to it.
pub pays-up_to : (live : Bool) (amount reached height : ℕ) → (live && (amount == reached)) ≡ true → height ≤ reached
    → (live && nat_le height amount) ≡ true
pays-up_to true amount reached height is under = grind (arith, nat_tests)
pays-up_to false amount reached height is under = absurd cc

-- Who is not live, or has put in at most one height, does not pay a greater one.
pub pays-none_above : (live : Bool) (amount below height : ℕ) → (not live || nat_le amount below) ≡ true
    → below < height → (live && nat_le height amount) ≡ false
pays-none_above true amount below height within above = grind (arith, nat_tests)
pays-none_above false amount below height within above = refl

-- Above the greatest amount of a live player a height has no live payer.
pub live_payers-above : (puts : List Put) (below height : ℕ) → list_all (is_within below) puts ≡ true → below < height
    → is_nobody (live_payers puts height) ≡ true
live_payers-above puts below height within above =
    list_all-map (λ is_in. not is_in) (is_eligible height) puts
    ∙ list_all-follows (is_within below) (λ put. not (is_eligible height put)) puts
    (λ put is. not_from_false (is_eligible height put)
    (pays-none_above put.live put.amount below height is above)) within

-- A height for which somebody is eligible has a live payer.
pub eligible-somebody : (puts : List Put) (height : ℕ) → list_any (is_eligible height) puts ≡ true
    → is_nobody (live_payers puts height) ≡ false
eligible-somebody puts height some =
    list_all-map (λ is_in. not is_in) (is_eligible height) puts ∙ sym (not-any (is_eligible height) puts) ∙ ap not some

-- A height that a live player reaches has a live payer.
pub live_payers-somebody : (puts : List Put) (reached height : ℕ) → list_any (is_live_at reached) puts ≡ true
    → height ≤ reached → is_nobody (live_payers puts height) ≡ false
live_payers-somebody puts reached height there under =
    eligible-somebody puts height
    (list_any-follows (is_live_at reached) (is_eligible height) puts
    (λ put is. pays-up_to put.live put.amount reached height is under) there)

-- A set has the same seats as itself.
pub are_same_seats-self : (set : List Bool) → are_same_seats set set ≡ true
are_same_seats-self [] = refl
are_same_seats-self (true ∷ more) = are_same_seats-self more
are_same_seats-self (false ∷ more) = are_same_seats-self more

-- Sets with the same seats are the same.
pub same_seats-equal : (one other : List Bool) → are_same_seats one other ≡ true → one ≡ other
same_seats-equal [] [] same = refl
same_seats-equal [] (o ∷ others) same = absurd cc
same_seats-equal (s ∷ more) [] same = absurd cc
same_seats-equal (true ∷ more) (true ∷ others) same = ap (λ seats. true ∷ seats) (same_seats-equal more others same)
same_seats-equal (true ∷ more) (false ∷ others) same = absurd cc
same_seats-equal (false ∷ more) (true ∷ others) same = absurd cc
same_seats-equal (false ∷ more) (false ∷ others) same = ap (λ seats. false ∷ seats) (same_seats-equal more others same)

-- Who has put in just this amount does not pay a greater height.
pub live_payers-differ : (puts : List Put) (reached height : ℕ) → list_any (is_live_at reached) puts ≡ true
    → reached < height
    → are_same_seats (live_payers puts reached) (live_payers puts height) ≡ false
live_payers-differ [] reached height there above = absurd cc
live_payers-differ (put ∷ more) reached height there above =
    by_first (put.live && (put.amount == reached)) refl (λ rest. live_payers-differ more reached height rest above)
  where
    stops : (live : Bool) (amount : ℕ) → (live && (amount == reached)) ≡ true → (live && nat_le height amount) ≡ false
    stops true amount is = grind (arith, nat_tests)
    stops false amount is = refl

    by_first : (first : Bool) → (put.live && (put.amount == reached)) ≡ first
        → (list_any (is_live_at reached) more ≡ true
        → are_same_seats (live_payers more reached) (live_payers more height) ≡ false)
        → are_same_seats (live_payers (put ∷ more) reached) (live_payers (put ∷ more) height) ≡ false
    by_first true is others =
        let pays = pays-up_to put.live put.amount reached reached is (omega arith) in
        rw (pays, stops put.live put.amount is)
    by_first false is others =
        and_right (cond (is_eligible reached put) (is_eligible height put) (not (is_eligible height put)))
        (are_same_seats (live_payers more reached) (live_payers more height)) (others (rw is at there))
