-- What is so of standings is so once they are in order, and so are their sums and counts.
use Rattle.std.proofs.Common.{◌≡◌, refl, ℕ, ◌+◌, Bool, true, false, cond, List, [], ◌∷◌, arith}
use Rattle.std.specs.Prelude.{sum_by}
use Rattle.std.specs.List.{All}
use Rattle.std.proofs.lemmas.List.Elements.{All-cons, All-head, All-tail}
use Rattle.std.proofs.lemmas.List.Sums.{sum_by-cons}
use Rattle.place_list.specs.declared.standing.Standing.{Standing}
use Rattle.place_list.specs.Standings.{comes_before, put_in_order, ordered}

-- A sum has one more where one more standing goes into the order.
sum_by-put : (f : Standing → ℕ) (standing : Standing) (standings : List Standing)
    → sum_by f (put_in_order standing standings) ≡ f standing + sum_by f standings
unfolding put_in_order
sum_by-put f standing [] = sum_by-cons f standing []
sum_by-put f standing (other ∷ others) =
    by_test (comes_before standing other) (sum_by-put f standing others)
  where
    by_test : (before : Bool) → sum_by f (put_in_order standing others) ≡ f standing + sum_by f others
        → sum_by f (cond before (standing ∷ other ∷ others) (other ∷ put_in_order standing others))
        ≡ f standing + sum_by f (other ∷ others)
    by_test true rest = sum_by-cons f standing (other ∷ others)
    by_test false rest =
        let more = sum_by-cons f other (put_in_order standing others) in
        let own = sum_by-cons f other others in
        omega (arith, rest, more, own)

-- A sum over standings is the same once they are in order.
pub sum_by-ordered : (f : Standing → ℕ) (standings : List Standing) → sum_by f (ordered standings) ≡ sum_by f standings
unfolding ordered
sum_by-ordered f [] = refl
sum_by-ordered f (standing ∷ standings) =
    let put = sum_by-put f standing (ordered standings) in
    let rest = sum_by-ordered f standings in
    let own = sum_by-cons f standing standings in
    omega (arith, put, rest, own)

all-put : (P : Standing → Type 0) (standing : Standing) (standings : List Standing) → P standing → All P standings
    → All P (put_in_order standing standings)
unfolding put_in_order
all-put P standing [] here all = All-cons P standing [] here all
all-put P standing (other ∷ others) here all =
    let first = All-head P other others all in
    by_test (comes_before standing other) first (all-put P standing others here (All-tail P other others all))
  where
    by_test : (before : Bool) → P other → All P (put_in_order standing others)
        → All P (cond before (standing ∷ other ∷ others) (other ∷ put_in_order standing others))
    by_test true first rest = All-cons P standing (other ∷ others) here all
    by_test false first rest = All-cons P other (put_in_order standing others) first rest

-- What is so of each standing is so of each once they are in order.
pub all-ordered : (P : Standing → Type 0) (standings : List Standing) → All P standings → All P (ordered standings)
unfolding ordered
all-ordered P [] all = all
all-ordered P (standing ∷ standings) all =
    all-put P standing (ordered standings) (All-head P standing standings all)
    (all-ordered P standings (All-tail P standing standings all))
