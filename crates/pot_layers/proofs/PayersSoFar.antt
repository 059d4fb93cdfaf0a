-- A set of seats that is filled seat by seat.
use Rattle.std.proofs.Common.{◌≡◌, ◌∙◌, ℕ, zero, suc, ◌+◌, ◌-◌, ◌<◌, add-one, sym, List, [], ◌∷◌, ◌++◌, Bool, true, false, length, take, get_or, set, replicate, ap, arith}
use Rattle.std.specs.Prelude.{map}
use Rattle.button_blinds.specs.SeatSets.{with_seat}

-- The seat at an index is put in.
pub filled-yes : {A : Type 0} (test : A → Bool) (items : List A) (index rest : ℕ) (other : A) → index < length items
    → test (get_or items index other) ≡ true
    → set (map test (take index items) ++ replicate (suc rest) false) index true
    ≡ map test (take (suc index) items) ++ replicate rest false
filled-yes test [] index rest other within is = absurd (omega arith)
filled-yes test (item ∷ more) zero rest other within is = rw is
filled-yes test (item ∷ more) (suc index) rest other within is =
    ap (λ seats. test item ∷ seats) (filled-yes test more index rest other (omega arith) is)

-- The seat at an index stays out.
pub filled-no : {A : Type 0} (test : A → Bool) (items : List A) (index rest : ℕ) (other : A) → index < length items
    → test (get_or items index other) ≡ false
    → map test (take index items) ++ replicate (suc rest) false
    ≡ map test (take (suc index) items) ++ replicate rest false
filled-no test [] index rest other within is = absurd (omega arith)
filled-no test (item ∷ more) zero rest other within is = rw is
filled-no test (item ∷ more) (suc index) rest other within is =
    ap (λ seats. test item ∷ seats) (filled-no test more index rest other (omega arith) is)

-- The set so far: the seats up to an index are looked at.
abbrev pub seats_so_far : {A : Type 0} → (A → Bool) → List A → ℕ → List Bool
seats_so_far test items index = map test (take index items) ++ replicate (10 - index) false

-- The next seat is put in.
pub so_far-yes : {A : Type 0} (test : A → Bool) (items : List A) (index : ℕ) (payers : List Bool) (other : A)
    → index < length items → length items ≡ 10 → payers ≡ seats_so_far test items index
    → test (get_or items index other) ≡ true → with_seat payers (index + 1) ≡ seats_so_far test items (index + 1)
so_far-yes test items index payers other within ten so_far is =
    let left : 10 - index ≡ suc (10 - (index + 1)) = omega arith in
    ap (with_seat payers) (add-one index)
    ∙ ap (λ seats. set seats index true) (so_far ∙ ap (λ n. map test (take index items) ++ replicate n false) left)
    ∙ filled-yes test items index (10 - (index + 1)) other within is
    ∙ ap (λ n. map test (take n items) ++ replicate (10 - (index + 1)) false) (sym (add-one index))

-- The next seat stays out.
pub so_far-no : {A : Type 0} (test : A → Bool) (items : List A) (index : ℕ) (payers : List Bool) (other : A)
    → index < length items → length items ≡ 10 → payers ≡ seats_so_far test items index
    → test (get_or items index other) ≡ false → payers ≡ seats_so_far test items (index + 1)
so_far-no test items index payers other within ten so_far is =
    let left : 10 - index ≡ suc (10 - (index + 1)) = omega arith in
    so_far ∙ ap (λ n. map test (take index items) ++ replicate n false) left
    ∙ filled-no test items index (10 - (index + 1)) other within is
    ∙ ap (λ n. map test (take n items) ++ replicate (10 - (index + 1)) false) (sym (add-one index))
