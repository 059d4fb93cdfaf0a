-- Each of the passes is fresh.
use Rattle.std.proofs.Common.{◌≡◌, ℕ, List, []}
use Rattle.std.specs.Prelude.{All, Some, slice_get, slice_index_or}
use Rattle.std.proofs.lemmas.Option.{slice_get-get_or}
use Rattle.history_lock.specs.declared.grows.Grows.{Ghosts}
use Rattle.history_lock.specs.declared.pass.Pass.{Pass}
use Rattle.history_lock.specs.Passes.{AreFresh, LockId, lock_of, own}
use Rattle.server_tests.proofs.sessions.hall.open_book.Goals as goal

-- What holds of each item that is found at a place holds of all.
all-found : {A : Type 0} (P : A → Type 0) (items : List A)
    → ((k : ℕ) (item : A) → slice_get items k ≡ Some item → P item) → All P items
all-found P items found = λ k item within.
    found k (slice_index_or items k item) (slice_get-get_or items k item within)

-- Passes that are fresh are of their lock, and have done nothing.
all-fresh : {Val E : Type 0} {g : Ghosts Val E} (lock : LockId) (history : List E) (passes : List (Pass Val E g))
    → AreFresh lock history passes → All (λ (p : Pass Val E g). (lock_of p ≡ lock) × (own p ≡ [])) passes
all-fresh {Val} {E} {g} lock history passes fresh =
    let Theirs : Pass Val E g → Type 0 = λ p. (lock_of p ≡ lock) × (own p ≡ []) in
    all-found Theirs passes (λ k pass found. let one = fresh k pass found in (one.its_lock, one.none_own))

pub returns : goal.returns
returns g c =
    let is = c.expect.ensures in let made = c.make_book.ensures.fresh in let fresh = (rw is at made) in
    all-fresh _ _ c.expect.result.1.items fresh
