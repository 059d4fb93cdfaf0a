-- What was put in above the height that any other player reached comes back.
use Rattle.std.proofs.Common.{◌≡◌, ◌∙◌, ℕ, zero, suc, ◌+◌, ◌-◌, ◌<◌, ◌≤◌, List, [], ◌∷◌, Bool, true, false, cond, length, set, replicate, refl, ap, inl, inr, arith}
use Rattle.std.specs.Prelude.{◌==◌, nat_le, max, reverse, fold}
use Rattle.std.specs.List.{list_all}
use Rattle.std.proofs.lemmas.Bool.{and_parts, cases_lt, eqb-true, le-leb, leb-true, or_right}
use Rattle.std.proofs.lemmas.Bool.Decides.{nat_tests}
use Rattle.std.proofs.lemmas.List.Sums.{sum_by-cons}
use Rattle.rulebook.proofs.Tests.{list_all-follows}
use Rattle.pot_layers.specs.declared.put.Put.{Put}
use Rattle.pot_layers.specs.declared.pot_list.Pot.{Pot}
use Rattle.pot_layers.specs.Layers.{has_paid, payments, live_payers, greatest_put, are_same_seats, is_nobody, lay, pots_to, height_pots}
use Rattle.pot_layers.specs.PotTests.{has_put, are_others_within, IsOwnPot}
use Rattle.pot_layers.proofs.ListTests.{reverse-cons}
use Rattle.pot_layers.proofs.Heights.{greatest_put-most, pays-none_above, pays-up_to, same_seats-equal}
use Rattle.pot_layers.proofs.Stretches.{pot_of, lay-same}

-- Above the others' heights nobody of them pays.
nobody-pays : (puts : List Put) (reached height : ℕ) → list_all (λ put. nat_le put.amount reached) puts ≡ true
    → reached < height → live_payers puts height ≡ replicate (length puts) false
nobody-pays [] reached height all above = refl
nobody-pays (put ∷ more) reached height all above =
    let parts = and_parts (nat_le put.amount reached) (list_all (λ other. nat_le other.amount reached) more) all in
    let own = pays-none_above put.live put.amount reached height (or_right _ _ parts.0) above in
    rw (own, nobody-pays more reached height parts.1 above)

-- Above the others' heights one alone pays.
one-pays : (puts : List Put) (index amount reached height : ℕ) → has_put puts index amount ≡ true
    → are_others_within puts index reached ≡ true → reached < height → height ≤ amount
    → live_payers puts height ≡ set (replicate (length puts) false) index true
one-pays [] index amount reached height put_in others above under = absurd cc
one-pays (put ∷ more) zero amount reached height put_in others above under =
    rw (pays-up_to put.live put.amount amount height put_in under, nobody-pays more reached height others above)
one-pays (put ∷ more) (suc index) amount reached height put_in others above under =
    let parts = and_parts (nat_le put.amount reached) (are_others_within more index reached) others in
    let own = pays-none_above put.live put.amount reached height (or_right _ _ parts.0) above in
    rw (own, one-pays more index amount reached height put_in parts.1 above under)

-- A height that is reached has a payment.
some-payment : (puts : List Put) (index amount height : ℕ) → has_put puts index amount ≡ true → height ≤ amount
    → 1 ≤ payments puts height
some-payment [] index amount height put_in under = absurd cc
some-payment (put ∷ more) zero amount height put_in under =
    let pays = and_parts put.live (nat_le height put.amount)
    (pays-up_to put.live put.amount amount height put_in under) in
    let own : cond {A = ℕ} (nat_le height put.amount) 1 0 ≡ 1 = ap (λ (b : Bool). cond b 1 0) pays.1 in
    let sum = sum_by-cons (λ (p : Put). cond (has_paid height p) 1 0) put more in
    omega (arith, own, sum)
some-payment (put ∷ more) (suc index) amount height put_in under =
    let sum = sum_by-cons (λ (p : Put). cond (has_paid height p) 1 0) put more in
    omega (arith, sum, some-payment more index amount height put_in under)

-- The top pot is for these players alone, and holds at least the chips above a height.
record IsOwnTop (puts : List Put) (payers : List Bool) (reached height : ℕ) : Type 0 where
  amount : ℕ
  rest : List Pot
  top : pots_to puts height ≡ pot_of amount payers ∷ rest
  holds : height ≤ reached + amount

first-top : (pots : List Pot) (paid : ℕ) (payers : List Bool) → is_nobody payers ≡ false
    → (amount : ℕ) × (rest : List Pot) × (lay pots paid payers ≡ pot_of amount payers ∷ rest) × (paid ≤ amount)
first-top [] paid payers somebody = (paid, [], refl, omega arith)
first-top (top ∷ below) paid payers somebody = by_same (are_same_seats top.eligible payers) refl
  where
    by_same : (same : Bool) → are_same_seats top.eligible payers ≡ same
        → (amount : ℕ) × (rest : List Pot) × (lay (top ∷ below) paid payers ≡ pot_of amount payers ∷ rest)
        × (paid ≤ amount)
    by_same true is = (
      top.amount + paid,
      below,
      rw is
          (ap (λ eligible. pot_of (top.amount + paid) eligible ∷ below) (same_seats-equal top.eligible payers is)),
      omega
          arith,
    )
    by_same false is = (paid, top ∷ below, rw (is, somebody), omega arith)

somebody-alone : (n index : ℕ) → index < n → is_nobody (set (replicate n false) index true) ≡ false
somebody-alone zero index within = absurd (omega arith)
somebody-alone (suc n) zero within = refl
somebody-alone (suc n) (suc index) within = somebody-alone n index (omega arith)

own-top : (puts : List Put) (payers : List Bool) (reached amount height : ℕ) → is_nobody payers ≡ false
    → ((h : ℕ) → reached < h → h ≤ amount → live_payers puts h ≡ payers) → ((h : ℕ) → h ≤ amount → 1 ≤ payments puts h)
    → reached < height → height ≤ amount → IsOwnTop puts payers reached height
unfolding pots_to
own-top puts payers reached amount zero somebody alone pays above under = absurd (omega arith)
own-top puts payers reached amount (suc before) somebody alone pays above under = elim (cases_lt reached before) [
  | inl later ↦
      let own = own-top puts payers reached amount before somebody alone pays later (omega arith) in
      record {
        amount = own.amount + payments puts (suc before);
        rest = own.rest;
        top = rw (alone (suc before) above under, own.top)
            (lay-same own.amount (payments puts (suc before)) payers own.rest);
        holds = omega (arith, own.holds, pays (suc before) under);
      }
  | inr first ↦
      let top = first-top (pots_to puts before) (payments puts (suc before)) payers somebody in
      record {
        amount = top.0;
        rest = top.1;
        top = rw (alone (suc before) above under) top.2;
        holds = omega (arith, first, top.3, pays (suc before) under);
      }
]

-- Of a list whose items are within a bound the greatest is.
greatest-within : (bound least : ℕ) (puts : List Put) → least ≤ bound
    → list_all (λ put. nat_le put.amount bound) puts ≡ true
    → fold (λ greatest (put : Put). max greatest put.amount) least puts ≤ bound
greatest-within bound least [] under all = under
greatest-within bound least (put ∷ more) under all =
    let own = leb-true put.amount bound
    (and_parts (nat_le put.amount bound) (list_all (λ other. nat_le other.amount bound) more) all).0 in
    greatest-within bound (max least put.amount) more (omega (arith, own, under))
    (and_parts (nat_le put.amount bound) (list_all (λ other. nat_le other.amount bound) more) all).1

-- What is no more than a height is no more than a greater one.
within-more : (n reached amount : ℕ) → reached < amount → nat_le n reached ≡ true → nat_le n amount ≡ true
within-more n reached amount above is = grind (arith, nat_tests)

all-within : (puts : List Put) (index amount reached : ℕ) → has_put puts index amount ≡ true
    → are_others_within puts index reached ≡ true → reached < amount
    → list_all (λ put. nat_le put.amount amount) puts ≡ true
all-within [] index amount reached put_in others above = refl
all-within (put ∷ more) zero amount reached put_in others above =
    let same = eqb-true put.amount amount (and_parts put.live (put.amount == amount) put_in).1 in
    rw (le-leb put.amount amount (omega (arith, same)))
    (list_all-follows (λ other. nat_le other.amount reached) (λ other. nat_le other.amount amount) more
    (λ other is. within-more other.amount reached amount above is) others)
all-within (put ∷ more) (suc index) amount reached put_in others above =
    rw (within-more put.amount reached amount above
    (and_parts (nat_le put.amount reached) (are_others_within more index reached) others).0)
    (all-within more index amount reached put_in
    (and_parts (nat_le put.amount reached) (are_others_within more index reached) others).1 above)

reaches : (puts : List Put) (index amount most : ℕ) → has_put puts index amount ≡ true
    → list_all (λ put. nat_le put.amount most) puts ≡ true → (amount ≤ most) × (index < length puts)
reaches [] index amount most put_in all = absurd cc
reaches (put ∷ more) zero amount most put_in all =
    let parts = and_parts (nat_le put.amount most) (list_all (λ other. nat_le other.amount most) more) all in
    let same = eqb-true put.amount amount (and_parts put.live (put.amount == amount) put_in).1 in
    let own = leb-true put.amount most parts.0 in
    (omega (arith, same, own), omega arith)
reaches (put ∷ more) (suc index) amount most put_in all =
    let later = reaches more index amount most put_in
    (and_parts (nat_le put.amount most) (list_all (λ other. nat_le other.amount most) more) all).1 in
    (later.0, omega (arith, later.1))

-- A live player who has put in more than every other has a pot of his own, of at least what is above them.
pub own-height_pot : (puts : List Put) (index amount reached : ℕ) → length puts ≡ 10 → has_put puts index amount ≡ true
    → are_others_within puts index reached ≡ true → reached < amount → IsOwnPot (height_pots puts) index (amount - reached)
unfolding height_pots
own-height_pot puts index amount reached ten put_in others above =
    let at_most = reaches puts index amount (greatest_put puts) put_in (greatest_put-most puts) in
    let at_least = greatest-within amount 0 puts (omega arith)
    (all-within puts index amount reached put_in others above) in
    let greatest : greatest_put puts ≡ amount = omega (arith, at_most.0, at_least) in
    let payers : List Bool = set (replicate (length puts) false) index true in
    let own = own-top puts payers reached amount amount (somebody-alone (length puts) index at_most.1)
    (λ h low high. one-pays puts index amount reached h put_in others low high)
    (λ h high. some-payment puts index amount h put_in high) above (omega arith) in
    record {
      below = reverse own.rest;
      pot = pot_of own.amount payers;
      highest = ap (λ h. reverse (pots_to puts h)) greatest ∙ ap reverse own.top
          ∙ reverse-cons (pot_of own.amount payers) own.rest;
      own = ap (λ n. set (replicate n false) index true) ten;
      holds = omega (arith, own.holds);
    }
