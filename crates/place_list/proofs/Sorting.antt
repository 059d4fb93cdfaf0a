-- Standings in order: a list that falls in order is the ordered list of any list with the same standings.
use Rattle.std.proofs.Common.{◌≡◌, ◌∙◌, refl, ap, sym, ℕ, ◌+◌, ◌≤◌, inl, inr, Bool, true, false, List, [], ◌∷◌, arith}
use Rattle.std.specs.Prelude.{if◌then◌else◌, count_by, not, ◌==◌, ◌&&◌, ◌||◌, nat_lt}
use Rattle.std.proofs.lemmas.Bool.{cases_Bool}
use Rattle.std.proofs.lemmas.Bool.Decides.{nat_tests}
use Rattle.rulebook.proofs.Tests.{count_by-cons}
use Rattle.place_list.specs.declared.standing.Standing.{Standing}
use Rattle.place_list.specs.Standings.{comes_before, put_in_order, ordered}

-- Whether two standings are the same.
abbrev is_same : Standing → Standing → Bool
is_same one other = (one.player == other.player && one.place == other.place) && one.prize == other.prize

same_numbers : (a b c d e f : ℕ) → ((a == b && c == d) && e == f) ≡ true → (a ≡ b) × (c ≡ d) × (e ≡ f)
same_numbers a b c d e f same = grind (arith, nat_tests)

same-from : (one other : Standing) → is_same one other ≡ true → one ≡ other
same-from one other same =
    let parts = same_numbers one.player other.player one.place other.place one.prize other.prize same in
    λ i. record { player = parts.0 i; place = parts.1 i; prize = parts.2 i }

numbers-self : (a b c : ℕ) → ((a == a && b == b) && c == c) ≡ true
numbers-self a b c = grind (arith, nat_tests)

same-self : (one : Standing) → is_same one one ≡ true
same-self one = numbers-self one.player one.place one.prize

numbers-one_way : (p q a b : ℕ) → (nat_lt p q || (p == q && nat_lt a b)) ≡ true
    → (nat_lt q p || (q == p && nat_lt b a)) ≡ false
numbers-one_way p q a b before = grind (arith, nat_tests)

one_way : (one other : Standing) → comes_before one other ≡ true → comes_before other one ≡ false
one_way one other before = numbers-one_way one.place other.place one.player other.player before

-- Each standing comes before all that are behind it.
abbrev pub Falls : List Standing → Type 0
Falls [] = Unit {0}
Falls (standing ∷ standings) = (count_by (λ other. not (comes_before standing other)) standings ≡ 0) × Falls standings

-- A list with one standing taken out.
record Without (standing : Standing) (standings : List Standing) : Type 0 where
  rest : List Standing
  falls : Falls rest
  put : put_in_order standing rest ≡ standings
  counts : (test : Standing → Bool) → count_by test standings ≡ (if test standing then 1 else 0) + count_by test rest

none-true : (test : Bool) (n : ℕ) → (if not test then 1 else 0) + n ≡ 0 → (test ≡ true) × (n ≡ 0)
none-true true n none = (refl, omega arith)
none-true false n none = absurd (omega arith)

put-front : (standing : Standing) (standings : List Standing)
    → count_by (λ other. not (comes_before standing other)) standings ≡ 0 → put_in_order standing standings
    ≡ standing ∷ standings
unfolding put_in_order
put-front standing [] all = refl
put-front standing (other ∷ others) all =
    let first = none-true (comes_before standing other) _
    (sym (count_by-cons (λ next. not (comes_before standing next)) other others) ∙ all) in
    rw (first.0) refl

take_out : (standing : Standing) (standings : List Standing) → Falls standings
    → 1 ≤ count_by (is_same standing) standings → Without standing standings
unfolding put_in_order
take_out standing [] falls some = absurd (omega arith)
take_out standing (other ∷ others) falls some =
    elim (cases_Bool (is_same standing other)) [
      | inl same ↦ here (same-from standing other same)
      | inr differs ↦ later differs (λ found. take_out standing others falls.1 found)
    ]
  where
    here : standing ≡ other → Without standing (other ∷ others)
    here is = record {
      rest = others;
      falls = falls.1;
      put = ap (λ first. put_in_order first others) is ∙ put-front other others falls.0;
      counts = λ test. count_by-cons test other others
          ∙ ap (λ first. (if test first then 1 else 0) + count_by test others) (sym is);
    }

    behind : Without standing others → Without standing (other ∷ others)
    behind out =
        let before = none-true (comes_before other standing)
        (count_by (λ next. not (comes_before other next)) out.rest)
        (sym (out.counts (λ next. not (comes_before other next))) ∙ falls.0) in
        record {
          rest = other ∷ out.rest;
          falls = (before.1, out.falls);
          put = rw (one_way other standing before.0) (ap (λ rest. other ∷ rest) out.put);
          counts = λ test.
              let all = count_by-cons test other others in
              let fewer = count_by-cons test other out.rest in
              let same = out.counts test in
              omega (arith, all, fewer, same);
        }

    later : is_same standing other ≡ false → (1 ≤ count_by (is_same standing) others → Without standing others)
        → Without standing (other ∷ others)
    later differs found =
        let count = count_by-cons (is_same standing) other others in
        let none : ◌≡◌ {A = ℕ} (if is_same standing other then 1 else 0) 0 = rw differs refl in
        behind (found (omega (arith, count, none, some)))

-- A list that falls is the ordered list of every list with the same standings.
pub ordered-unique : (standings falling : List Standing) → Falls falling
    → ((test : Standing → Bool) → count_by test standings ≡ count_by test falling) → ordered standings ≡ falling
unfolding ordered
ordered-unique [] [] falls same = refl
ordered-unique [] (other ∷ others) falls same = (let count = same (λ one. true)
    ∙ count_by-cons (λ one. true) other others in absurd (omega (arith, count)))
ordered-unique (standing ∷ standings) falling falls same =
    let count = count_by-cons (is_same standing) standing standings in
    let own : ◌≡◌ {A = ℕ} (if is_same standing standing then 1 else 0) 1 = rw (same-self standing) refl in
    let there = same (is_same standing) in
    let out = take_out standing falling falls (omega (arith, count, own, there)) in
    ap (put_in_order standing) (ordered-unique standings out.rest out.falls (λ test.
    let all = count_by-cons test standing standings in
    let fewer = out.counts test in
    let equal = same test in
    omega (arith, all, fewer, equal)))
    ∙ out.put
