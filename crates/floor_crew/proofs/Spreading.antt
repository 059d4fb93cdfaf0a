-- Things are spread among rows, from the last place down.
use Rattle.std.proofs.Common.{◌≡◌, ◌∙◌, sym, ap, subst, ℕ, zero, suc, ◌<◌, ◌≤◌, List, [], ◌∷◌, ◌++◌, append_assoc, Option, Some, length, arith}
use Rattle.std.specs.Prelude.{IfSome, Vec, option_to_list, slice_get}
use Rattle.std.proofs.lemmas.Option.{slice_get_within}
use Rattle.session_desk.specs.Desks.{of_table}
use Rattle.session_desk.proofs.Rows.{has-index, if-some}
use Rattle.floor_crew.specs.Rows.{AreSpread, HaveGrown, IsPutBehind}
use Rattle.floor_crew.proofs.Zipped.{if-found}

module _ {T A : Type 0} where
  -- what holds of a place where something was put
  abbrev pub IsPutAt : List (Vec T A) → List (Vec T A) → List T → ℕ → Type 0
  IsPutAt before now things index =
      IfSome (slice_get before index) (λ old. IfSome (slice_get things index)
      (λ thing. IfSome (slice_get now index) (λ new. IsPutBehind old thing new)))

  -- The things from a place on were put behind those of their rows, and the rows below it are as they were.
  pub record IsSpreading (before now : List (Vec T A)) (things : List T) (left : ℕ) : Type 0 where
    pub count : length now ≡ length before
    pub below : (index : ℕ) → index < left → slice_get now index ≡ slice_get before index
    pub above : (index : ℕ) → left ≤ index → IsPutAt before now things index

  -- What is put behind which row at a place.
  pub spread-at : (before after : List (Vec T A)) (things : List T) → AreSpread before after things
      → length things ≡ length before → (index : ℕ) → index < length before
      → (old : Vec T A) × (thing : T) × (new : Vec T A) × (slice_get before index ≡ Some old)
      × (slice_get things index ≡ Some thing) × (slice_get after index ≡ Some new) × IsPutBehind old thing new
  spread-at before after things spread as_many index within =
      let old = has-index before index within in
      let thing = has-index things index (omega (arith, within, as_many)) in
      let new = has-index after index (omega (arith, within, spread.count)) in
      let P : Option (Vec T A) × Option T × Option (Vec T A) → Type 0 = λ found.
      IfSome found.0 (λ one. IfSome found.1 (λ two. IfSome found.2 (λ three. IsPutBehind one two three))) in
      (old.0, thing.0, new.0, old.1, thing.1, new.1, subst P (λ i. (old.1 i, thing.1 i, new.1 i)) (spread.each index))

  -- The row of each table has grown by the thing at its place.
  pub spread-grown : (before after : List (Vec T A)) (things : List T) → AreSpread before after things
      → length things ≡ length before → HaveGrown before after (λ table. option_to_list (of_table things table))
  spread-grown before after things spread as_many zero = tt
  spread-grown before after things spread as_many (suc index) =
      if-some (slice_get before index) (λ old. IfSome (slice_get after index)
      (λ new. new.items ≡ old.items ++ option_to_list (slice_get things index)))
      (λ old at.
      let here = spread-at before after things spread as_many index (slice_get_within before index old at) in
      let same : here.0 ≡ old = cc (here.3, at) in
      let P : Option (Vec T A) × Option T → Type 0 = λ found.
      IfSome found.0 (λ new. new.items ≡ old.items ++ option_to_list found.1) in
      subst P (λ i. (sym here.5 i, sym here.4 i))
      (subst (λ (r : Vec T A). here.2.items ≡ r.items ++ here.1 ∷ []) same here.6.items))

  -- Rows that have grown, and have grown again.
  pub grown-more : (first mid last : List (Vec T A)) (some more : ℕ → List T) → length mid ≡ length first
      → HaveGrown first mid some → HaveGrown mid last more
      → HaveGrown first last (λ table. some table ++ more table)
  grown-more first mid last some more as_many one two zero = tt
  grown-more first mid last some more as_many one two (suc index) =
      if-some (slice_get first index) (λ old. IfSome (slice_get last index)
      (λ new. new.items ≡ old.items ++ (some (suc index) ++ more (suc index))))
      (λ old at.
      let within = slice_get_within first index old at in
      let between = has-index mid index (omega (arith, within, as_many)) in
      let here = if-found (λ m. m.items ≡ old.items ++ some (suc index)) (slice_get mid index) between.0 between.1
      (if-found (λ o. IfSome (slice_get mid index) (λ m. m.items ≡ o.items ++ some (suc index)))
      (slice_get first index) old at (one (suc index))) in
      if-some (slice_get last index) (λ new. new.items ≡ old.items ++ (some (suc index) ++ more (suc index)))
      (λ new there.
      let then = if-found (λ n. n.items ≡ between.0.items ++ more (suc index)) (slice_get last index) new there
      (if-found (λ m. IfSome (slice_get last index) (λ n. n.items ≡ m.items ++ more (suc index)))
      (slice_get mid index) between.0 between.1 (two (suc index))) in
      then
      ∙ (ap (λ l. l ++ more (suc index)) here
      ∙ append_assoc old.items (some (suc index)) (more (suc index)))))

  -- Rows that were empty, and have grown twice.
  pub grown-all : (first mid last : List (Vec T A)) (some more : ℕ → List T) → length mid ≡ length first
      → length last ≡ length first
      → ((index : ℕ) (row : Vec T A) → slice_get first index ≡ Some row → row.items ≡ [])
      → HaveGrown first mid some → HaveGrown mid last more → (index : ℕ) (row : Vec T A)
      → slice_get last index ≡ Some row → row.items ≡ some (suc index) ++ more (suc index)
  grown-all first mid last some more as_many too none one two index row at =
      let within = slice_get_within last index row at in
      let old = has-index first index (omega (arith, within, too)) in
      let grown = grown-more first mid last some more as_many one two in
      let here = if-found (λ n. n.items ≡ old.0.items ++ (some (suc index) ++ more (suc index)))
      (slice_get last index) row at
      (if-found (λ o. IfSome (slice_get last index)
      (λ n. n.items ≡ o.items ++ (some (suc index) ++ more (suc index)))) (slice_get first index) old.0 old.1
      (grown (suc index))) in
      here ∙ ap (λ l. l ++ (some (suc index) ++ more (suc index))) (none index old.0 old.1)
