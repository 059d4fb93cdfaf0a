-- A list that has one item over and over.
use Rattle.std.proofs.Common.{◌≡◌, ℕ, zero, suc, get_or, replicate, refl}

-- At each index there is the item, also past the end where a read gives it as well.
pub get_or-repeated : {A : Type 0} (count index : ℕ) (item : A) → get_or (replicate count item) index item ≡ item
get_or-repeated zero index item = refl
get_or-repeated (suc count) zero item = refl
get_or-repeated (suc count) (suc index) item = get_or-repeated count index item
