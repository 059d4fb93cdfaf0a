-- The live player above a height who is nearest to it.
use Rattle.std.proofs.Common.{◌≡◌, ◌∙◌, ◌⊎◌, ℕ, ◌<◌, ◌≤◌, List, [], ◌∷◌, Bool, true, false, cond, Some, None, refl, sym, inl, inr, arith}
use Rattle.std.specs.Prelude.{◌&&◌, ◌||◌, ◌==◌, not, nat_le, nat_lt, count_by, fold, Option}
use Rattle.std.specs.List.{list_all, list_any}
use Rattle.std.proofs.lemmas.Bool.{and_parts, le-leb, or_right}
use Rattle.std.proofs.lemmas.Bool.Decides.{nat_tests}
use Rattle.std.proofs.lemmas.List.Sums.{sum_by-cons, sum_by-le-sum_by}
use Rattle.std.proofs.lemmas.List.Folds.{list_all-map}
use Rattle.rulebook.proofs.Tests.{list_all-follows, list_any-made}
use Rattle.pot_layers.specs.declared.reach.Reach.{Reach}
use Rattle.pot_layers.specs.Reaches.{puts_of, is_above, nearer}
use Rattle.pot_layers.proofs.Heights.{is_outside, is_within, is_live_at}

-- Nobody is above the height who is nearer to it than this.
abbrev pub is_not_nearer : ℕ → ℕ → Reach → Bool
is_not_nearer below amount reach = not (is_above below reach) || nat_le amount reach.put.amount

-- A player who is live and has put in just this amount.
abbrev pub stands_at : ℕ → Reach → Bool
stands_at amount reach = is_live_at amount reach.put

-- Where nobody is found, nobody is above.
pub none-above : (below : ℕ) (so_far : Option Reach) (reaches : List Reach)
    → fold (nearer below) so_far reaches ≡ None
    → (so_far ≡ None) × (list_all (λ reach. not (is_above below reach)) reaches ≡ true)
none-above below so_far [] none = (none, refl)
none-above below None (reach ∷ more) none =
    (refl, by_test (is_above below reach) refl (none-above below (nearer below None reach) more none))
  where
    by_test : (above : Bool) → is_above below reach ≡ above
        → (nearer below None reach ≡ None) × (list_all (λ other. not (is_above below other)) more ≡ true)
        → list_all (λ other. not (is_above below other)) (reach ∷ more) ≡ true
    by_test true is later = let found : Some reach ≡ None = rw is at later.0 in absurd cc
    by_test false is later = rw is later.1
none-above below (Some best) (reach ∷ more) none =
    by_test (is_not_nearer below best.put.amount reach) refl
    (none-above below (nearer below (Some best) reach) more none)
  where
    by_test : (keeps : Bool) → is_not_nearer below best.put.amount reach ≡ keeps
        → (nearer below (Some best) reach ≡ None) × (list_all (λ other. not (is_above below other)) more ≡ true)
        → (Some best ≡ None) × (list_all (λ other. not (is_above below other)) (reach ∷ more) ≡ true)
    by_test true is later = let found : Some best ≡ None = rw is at later.0 in absurd cc
    by_test false is later = let found : Some reach ≡ None = rw is at later.0 in absurd cc

-- What holds of the player who is found: he is above, nobody else above is nearer, he is one of those looked at, and he
-- passes each test that all pass.
pub record IsNearest (test : Reach → Bool) (below : ℕ) (so_far : Option Reach) (reaches : List Reach)
    (best : Reach) : Type 0 where
  pub above : is_above below best ≡ true
  pub least : list_all (is_not_nearer below best.put.amount) reaches ≡ true
  pub under : (before : Reach) → so_far ≡ Some before → best.put.amount ≤ before.put.amount
  pub there : (so_far ≡ Some best) ⊎ (list_any (stands_at best.put.amount) reaches ≡ true)
  pub passes : test best ≡ true

-- The one so far is above and passes the test.
abbrev pub IsGoodStart : (Reach → Bool) → ℕ → Option Reach → Type 0
IsGoodStart test below so_far = (before : Reach) → so_far ≡ Some before
    → (is_above below before ≡ true) × (test before ≡ true)

stands_at-self : (live : Bool) (below amount : ℕ) → (live && nat_lt below amount) ≡ true
    → (live && (amount == amount)) ≡ true
stands_at-self true below amount above = grind (arith, nat_tests)
stands_at-self false below amount above = above

-- One who was not nearer than the one so far is not nearer than one who is at least as near.
not_nearer-more : (above : Bool) (before best amount : ℕ) → (not above || nat_le before amount) ≡ true → best ≤ before
    → (not above || nat_le best amount) ≡ true
not_nearer-more true before best amount is under = grind (arith, nat_tests)
not_nearer-more false before best amount is under = refl

is_nearer : (above : Bool) (before amount : ℕ) → (not above || nat_le before amount) ≡ false
    → (above ≡ true) × (amount ≤ before)
is_nearer true before amount is = (refl, grind (arith, nat_tests))
is_nearer false before amount is = absurd cc

-- Where all players pass a test, the one found nearest above a height passes it, and nobody above is nearer.
pub nearest-found : (test : Reach → Bool) (below : ℕ) (so_far : Option Reach) (reaches : List Reach)
    (best : Reach)
    → IsGoodStart test below so_far → list_all test reaches ≡ true → fold (nearer below) so_far reaches ≡ Some best
    → IsNearest test below so_far reaches best
nearest-found test below so_far [] best start all found = record {
  above = (start best found).0;
  least = refl;
  under = λ before was. let same : before ≡ best = cc in rw same (omega arith);
  there = inl found;
  passes = (start best found).1;
}
nearest-found test below None (reach ∷ more) best start all found =
    by_test (is_above below reach) refl
    (λ good. nearest-found test below (nearer below None reach) more best good
    (and_parts (test reach) (list_all test more) all).1 found)
  where
    by_test : (above : Bool) → is_above below reach ≡ above
        → (IsGoodStart test below (nearer below None reach)
        → IsNearest test below (nearer below None reach) more best)
        → IsNearest test below None (reach ∷ more) best
    by_test true is later =
        let first : nearer below None reach ≡ Some reach = rw is in
        let rest = later (λ before was. let same : before ≡ reach = cc in
        rw same (is, (and_parts (test reach) (list_all test more) all).0)) in
        let under = rest.under reach first in
        record {
          above = rest.above;
          least = rw (or_right (not (is_above below reach)) (nat_le best.put.amount reach.put.amount)
              (le-leb best.put.amount reach.put.amount under)) rest.least;
          under = λ before was. absurd cc;
          there = elim rest.there [
            | inl same ↦ let is_best : reach ≡ best = cc in
                inr (rw (← is_best) (rw (stands_at-self reach.put.live below reach.put.amount is)))
            | inr some ↦ inr (or_right (stands_at best.put.amount reach)
                (list_any (stands_at best.put.amount) more) some)
          ];
          passes = rest.passes;
        }
    by_test false is later =
        let first : nearer below None reach ≡ None = rw is in
        let rest = later (λ before was. absurd cc) in
        record {
          above = rest.above;
          least = rw is rest.least;
          under = λ before was. absurd cc;
          there = elim rest.there [
            | inl same ↦ absurd cc
            | inr some ↦ inr (or_right (stands_at best.put.amount reach)
                (list_any (stands_at best.put.amount) more) some)
          ];
          passes = rest.passes;
        }
nearest-found test below (Some so_far) (reach ∷ more) best start all found =
    by_test (is_not_nearer below so_far.put.amount reach) refl
    (λ good. nearest-found test below (nearer below (Some so_far) reach) more best good
    (and_parts (test reach) (list_all test more) all).1 found)
  where
    by_test : (keeps : Bool) → is_not_nearer below so_far.put.amount reach ≡ keeps
        → (IsGoodStart test below (nearer below (Some so_far) reach)
        → IsNearest test below (nearer below (Some so_far) reach) more best)
        → IsNearest test below (Some so_far) (reach ∷ more) best
    by_test true is later =
        let first : nearer below (Some so_far) reach ≡ Some so_far = rw is in
        let rest = later (λ before was. start before (sym first ∙ was)) in
        let under = rest.under so_far first in
        record {
          above = rest.above;
          least = rw (not_nearer-more (is_above below reach) so_far.put.amount best.put.amount reach.put.amount is
              under) rest.least;
          under = λ before was. rest.under before (first ∙ was);
          there = elim rest.there [
            | inl same ↦ inl (sym first ∙ same)
            | inr some ↦ inr (or_right (stands_at best.put.amount reach)
                (list_any (stands_at best.put.amount) more) some)
          ];
          passes = rest.passes;
        }
    by_test false is later =
        let first : nearer below (Some so_far) reach ≡ Some reach = rw is in
        let nearer_than = is_nearer (is_above below reach) so_far.put.amount reach.put.amount is in
        let rest = later (λ before was. let same : before ≡ reach = cc in
        rw same (nearer_than.0, (and_parts (test reach) (list_all test more) all).0)) in
        let under = rest.under reach first in
        record {
          above = rest.above;
          least = rw (or_right (not (is_above below reach)) (nat_le best.put.amount reach.put.amount)
              (le-leb best.put.amount reach.put.amount under)) rest.least;
          under = λ before was. let same : before ≡ so_far = cc in rw same (omega (arith, nearer_than.1, under));
          there = elim rest.there [
            | inl same ↦ let is_best : reach ≡ best = cc in
                inr (rw (← is_best) (rw (stands_at-self reach.put.live below reach.put.amount nearer_than.0)))
            | inr some ↦ inr (or_right (stands_at best.put.amount reach)
                (list_any (stands_at best.put.amount) more) some)
          ];
          passes = rest.passes;
        }

one-less : (live : Bool) (below amount reached : ℕ) → below < reached
    → cond (live && nat_lt reached amount) 1 0 ≤ cond (live && nat_lt below amount) 1 0
one-less true below amount reached low = grind (arith, nat_tests)
one-less false below amount reached low = omega arith

-- No more players are above a greater height.
above-fewer : (reaches : List Reach) (below reached : ℕ) → below < reached
    → count_by (is_above reached) reaches ≤ count_by (is_above below) reaches
above-fewer reaches below reached low =
    sum_by-le-sum_by (λ (s : Reach). cond (is_above reached s) 1 0) (λ s. cond (is_above below s) 1 0) reaches
    (λ s. one-less s.put.live below s.put.amount reached low)

-- Above an amount that a live player above a height has put in, fewer are above than above the height.
pub above-falls : (reaches : List Reach) (below reached : ℕ) → below < reached
    → list_any (stands_at reached) reaches ≡ true
    → count_by (is_above reached) reaches < count_by (is_above below) reaches
above-falls [] below reached low there = absurd cc
above-falls (reach ∷ more) below reached low there =
    by_first (stands_at reached reach) refl (λ rest. above-falls more below reached low rest)
  where
    stops : (live : Bool) (amount : ℕ) → (live && (amount == reached)) ≡ true
        → cond (live && nat_lt reached amount) 1 0 < cond (live && nat_lt below amount) 1 0
    stops true amount is = grind (arith, nat_tests)
    stops false amount is = absurd cc

    by_first : (first : Bool) → stands_at reached reach ≡ first
        → (list_any (stands_at reached) more ≡ true → count_by (is_above reached) more < count_by (is_above below) more)
        → count_by (is_above reached) (reach ∷ more) < count_by (is_above below) (reach ∷ more)
    by_first true is others =
        let before = sum_by-cons (λ (s : Reach). cond (is_above below s) 1 0) reach more in
        let after = sum_by-cons (λ (s : Reach). cond (is_above reached s) 1 0) reach more in
        let one = stops reach.put.live reach.put.amount is in
        omega (arith, before, after, one, above-fewer more below reached low)
    by_first false is others =
        let before = sum_by-cons (λ (s : Reach). cond (is_above below s) 1 0) reach more in
        let after = sum_by-cons (λ (s : Reach). cond (is_above reached s) 1 0) reach more in
        let one = one-less reach.put.live below reach.put.amount reached low in
        let later : count_by (is_above reached) more < count_by (is_above below) more = others (rw is at there) in
        omega (arith, before, after, one, later)

outside : (live : Bool) (below reached amount : ℕ) → (not (live && nat_lt below amount) || nat_le reached amount) ≡ true
    → (not live || (nat_le amount below || nat_le reached amount)) ≡ true
outside true below reached amount is = grind (arith, nat_tests)
outside false below reached amount is = refl

within : (live : Bool) (below amount : ℕ) → not (live && nat_lt below amount) ≡ true
    → (not live || nat_le amount below) ≡ true
within true below amount is = grind (arith, nat_tests)
within false below amount is = refl

-- Where nobody above is nearer than an amount, no live player's amount lies between.
pub outside-puts_of : (reaches : List Reach) (below reached : ℕ)
    → list_all (is_not_nearer below reached) reaches ≡ true
    → list_all (is_outside below reached) (puts_of reaches) ≡ true
outside-puts_of reaches below reached least =
    list_all-map (is_outside below reached) (λ (reach : Reach). reach.put) reaches
    ∙ list_all-follows (is_not_nearer below reached) (λ reach. is_outside below reached reach.put) reaches
    (λ reach is. outside reach.put.live below reached reach.put.amount is) least

-- Where nobody is above, every live player is within.
pub within-puts_of : (reaches : List Reach) (below : ℕ)
    → list_all (λ reach. not (is_above below reach)) reaches ≡ true
    → list_all (is_within below) (puts_of reaches) ≡ true
within-puts_of reaches below none =
    list_all-map (is_within below) (λ (reach : Reach). reach.put) reaches
    ∙ list_all-follows (λ reach. not (is_above below reach)) (λ reach. is_within below reach.put) reaches
    (λ reach is. within reach.put.live below reach.put.amount is) none

-- A player who stands at an amount has put it in.
pub there-puts_of : (reaches : List Reach) (amount : ℕ) → list_any (stands_at amount) reaches ≡ true
    → list_any (is_live_at amount) (puts_of reaches) ≡ true
there-puts_of reaches amount there =
    list_any-made (is_live_at amount) (λ (reach : Reach). reach.put) reaches ∙ there
