-- What grows at its end begins with what it was.
use Rattle.std.proofs.Common.{◌≡◌, ℕ, ◌-◌, ◌≤◌, List, [], ◌∷◌, ◌++◌, length, get_or, take, drop, map, refl, ap, ◌∙◌, subst, append_assoc, arith}
use Rattle.std.specs.List.{join_with_byte, flat_map}
use Rattle.std.proofs.lemmas.List.{take_at, take_all, append-nil}
use Rattle.std.proofs.lemmas.List.Concat.{flat_map-cons}
use Rattle.line_words.specs.Words.{Extends}

-- a list that stayed the same begins with what it was
pub Extends-same : (old new : List ℕ) → new ≡ old → Extends old new
Extends-same old new same = rw same (take_all (length old) old (omega arith))

-- a list to which more was appended begins with what it was
pub Extends-append : (old new more : List ℕ) → new ≡ old ++ more → Extends old new
Extends-append old new more grown = rw grown (take_at old more (length old) refl)

take_front : (old middle new : List ℕ) → take (length (old ++ middle)) new ≡ old ++ middle → take (length old) new ≡ old
take_front [] middle new kept = refl
take_front (x ∷ old) middle [] kept = absurd cc
take_front (x ∷ old) middle (y ∷ new) kept = let heads : y ≡ x = cc in let tails : take (length (old ++ middle)) new
    ≡ old ++ middle = cc in let rest = take_front old middle new tails in cc

-- what begins with a longer list begins with the shorter one
pub Extends-before : (old now new more : List ℕ) → now ≡ old ++ more → Extends now new → Extends old new
Extends-before old now new more grown kept =
    take_front old more new (subst (λ (list : List ℕ). Extends list new) grown kept)

module _ {A : Type 0} (text : A → List ℕ) (between : ℕ) where
  -- Joined texts are the first, and each other behind the byte between.
  pub join_with_byte-cons : (first : List ℕ) (items : List A)
      → first ++ flat_map (λ other. between ∷ text other) items ≡ join_with_byte between (first ∷ map text items)
  join_with_byte-cons first [] = append-nil first
  join_with_byte-cons first (next ∷ items) = ap (λ (rest : List ℕ). first ++ rest)
      (flat_map-cons (λ other. between ∷ text other) next items
      ∙ ap (λ (rest : List ℕ). between ∷ rest) (join_with_byte-cons (text next) items))

  -- What was written item by item is joined.
  pub joined : (items : List A) (d : A) (old first new : List ℕ) → 1 ≤ length items
      → first ≡ old ++ text (get_or items 0 d)
      → new ≡ first ++ flat_map (λ other. between ∷ text other) (take (length items - 1) (drop 1 items))
      → new ≡ old ++ join_with_byte between (map text items)
  joined [] d old first new some begun grown = absurd (omega arith)
  joined (item ∷ items) d old first new some begun grown =
      let rest : take (length (item ∷ items) - 1) items
      ≡ items = take_all (length (item ∷ items) - 1) items (omega arith) in
      let whole : new ≡ first ++ flat_map (λ other. between ∷ text other) items = grown
      ∙ ap (λ (xs : List A). first ++ flat_map (λ other. between ∷ text other) xs) rest in
      whole ∙ (ap (λ (front : List ℕ). front ++ flat_map (λ other. between ∷ text other) items) begun
      ∙ (append_assoc old (text item) (flat_map (λ other. between ∷ text other) items)
      ∙ ap (λ (rest : List ℕ). old ++ rest) (join_with_byte-cons (text item) items)))
