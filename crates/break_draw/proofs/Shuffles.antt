-- A shuffle leaves a list in some order, whatever words it draws.
use Rattle.std.proofs.Common.{◌≡◌, refl, sym, subst, ℕ, zero, suc, ◌+◌, ◌-◌, ◌*◌, ◌/◌, ◌%◌, ◌^◌, ◌<◌, ◌≤◌, ◌==◌, nat_lt, List, length, swap, arith}
use Rattle.std.specs.Prelude.{IsPermutation}
use Rattle.std.proofs.lemmas.Nat.{mod_below}
use Rattle.std.proofs.lemmas.Bool.{cond_both}
use Rattle.std.proofs.lemmas.Bool.Decides.{nat_tests}
use Rattle.std.proofs.lemmas.List.Sorted.{IsPermutation-refl, IsPermutation-trans, IsPermutation-swap, length_permutation}
use Rattle.rand_core.specs.Stream.{Stream, next_u32}
use Rattle.rand.specs.Uniform.{canon, usize_single}
use Rattle.rand.specs.Shuffle.{rising, grow, chunk_of, Chooser, chooser_at, chooser_refill, chooser_next, narrow_swaps, wide_swaps, shuffled}
use Rattle.rand.proofs.ShuffleLemmas.{rising_more, rising_one, rising_positive, rest_below, last_below}
use Rattle.break_draw.specs.declared.random.DrawKind.{DrawKind}
use Rattle.break_draw.specs.Generator.{draw_generator, words_of, drawn_order}
use Rattle.break_draw.proofs.Words.{GivesWords, one-word, generator-words, canon-draws, place-draws}

-- a product of so many factors from a number on, with how many they are
record IsChunk (first : ℕ) (chunk : ℕ × ℕ) : Type 0 where
  product : chunk.0 ≡ rising first chunk.1
  some : 0 < chunk.1

grow-chunk : (more first product current count : ℕ) → current ≡ first + count → product ≡ rising first count → 0 < count
    → IsChunk first (grow more product current count)
unfolding grow
grow-chunk zero first product current count at is some = record { product = is; some = some }
grow-chunk (suc more) first product current count at is some =
    cond_both {A = ℕ × ℕ} (nat_lt (2 ^ 32 - 1) (product * current)) (product, count)
    (grow more (product * current) (current + 1) (count + 1)) (IsChunk first)
    (λ _. record { product = is; some = some })
    (λ _. grow-chunk more first (product * current) (current + 1) (count + 1) (omega (arith, at))
    (rw (is, at) (sym (rising_more first count))) (omega arith))

chunk-is : (first : ℕ) → IsChunk first (chunk_of first)
chunk-is first = grow-chunk 32 first first (first + 1) 1 refl (rising_one first) (omega arith)

-- what chooses places stands at a bound, and what is left of its draw is below the factors to come
record IsChooserAt (bound : ℕ) (chooser : Chooser) : Type 0 where
  at : chooser.n ≡ bound
  left : 0 < chooser.left → chooser.chunk < rising (chooser.n + 1) chooser.left

-- a draw that serves some calls more
record IsRefilled (bound : ℕ) (refilled : ℕ × ℕ × Stream) : Type 0 where
  some : 0 < refilled.1
  below : refilled.0 < rising (bound + 1) refilled.1
  rest : GivesWords refilled.2

refilled : (chooser : Chooser) (stream : Stream) → IsChooserAt chooser.n chooser → GivesWords stream
    → IsRefilled chooser.n (chooser_refill chooser stream)
refilled chooser stream is words =
    let chunk = chunk-is (chooser.n + 1) in
    let drawn = canon-draws (2 ^ 32) next_u32 (chunk_of (chooser.n + 1)).0 stream one-word
    (rw chunk.product (rising_positive (chooser.n + 1) (chunk_of (chooser.n + 1)).1 (omega arith))) words in
    cond_both {A = ℕ × ℕ × Stream} (chooser.left == 0) (
      (canon (2 ^ 32) next_u32 (chunk_of (chooser.n + 1)).0 stream).0,
      (chunk_of (chooser.n + 1)).1,
      (canon (2 ^ 32) next_u32 (chunk_of (chooser.n + 1)).0 stream).1,
    )
    (chooser.chunk, chooser.left, stream) (IsRefilled chooser.n)
    (λ _. record {
      some = chunk.some;
      below = subst (λ range. (canon (2 ^ 32) next_u32 (chunk_of (chooser.n + 1)).0 stream).0 < range) chunk.product
          drawn.below;
      rest = drawn.rest;
    })
    (λ none.
    let some : 0 < chooser.left = grind (arith, nat_tests) in
    record { some = some; below = is.left some; rest = words })

-- the next place is at most the bound, and the bound grows by one
record IsChosen (bound : ℕ) (chosen : ℕ × Chooser × Stream) : Type 0 where
  below : chosen.0 < bound + 1
  next : IsChooserAt (bound + 1) chosen.1
  rest : GivesWords chosen.2

last-chosen : (bound value served : ℕ) (stream : Stream) → value < rising (bound + 1) served → served ≡ 1
    → GivesWords stream → IsChosen bound (value, record { n = bound + 1; chunk = value; left = 0 }, stream)
last-chosen bound value served stream below one words = record {
  below = last_below value (bound + 1) (subst (λ calls. value < rising (bound + 1) calls) one below);
  next = record { at = refl; left = λ some. absurd (omega arith) };
  rest = words;
}

one-chosen : (bound value served : ℕ) (stream : Stream) → value < rising (bound + 1) served → 0 < served
    → GivesWords stream
    → IsChosen bound (
      value % (bound + 1),
      record {
        n = bound + 1;
        chunk = value / (bound + 1);
        left =
            served - 1;
      },
      stream,
    )
one-chosen bound value served stream below some words =
    let before : served ≡ suc (served - 1) = omega arith in
    record {
      below = mod_below value (bound + 1) (omega arith);
      next = record {
        at = refl;
        left = λ more. rest_below value (bound + 1) (served - 1) (omega arith)
            (subst (λ calls. value < rising (bound + 1) calls) before below);
      };
      rest = words;
    }

chosen : (bound : ℕ) (chooser : Chooser) (stream : Stream) → IsChooserAt bound chooser → GivesWords stream
    → IsChosen bound (chooser_next chooser stream)
chosen bound chooser stream is words =
    let now = chooser_refill chooser stream in
    let ready = refilled chooser stream (record { at = refl; left = is.left }) words in
    subst (λ place. IsChosen place (chooser_next chooser stream)) is.at
    (cond_both {A = ℕ × Chooser × Stream} (now.1 == 1)
    (now.0, record { n = chooser.n + 1; chunk = now.0; left = 0 }, now.2)
    (now.0 % (chooser.n + 1), record { n = chooser.n + 1; chunk = now.0 / (chooser.n + 1); left = now.1 - 1 }, now.2)
    (IsChosen chooser.n)
    (λ one. last-chosen chooser.n now.0 now.1 now.2 ready.below (grind (arith, nat_tests)) ready.rest)
    (λ _. one-chosen chooser.n now.0 now.1 now.2 ready.below ready.some ready.rest))

-- a swap of two places of a list that is another in some order
swapped : {A : Type 0} (items now : List A) (one other : ℕ) → IsPermutation items now → one < length items
    → other < length items → IsPermutation items (swap now one other)
swapped items now one other is first second =
    let len = length_permutation items now is in
    IsPermutation-trans items now (swap now one other) is
    (IsPermutation-swap now (swap now one other) one other (omega (arith, len, first))
    (omega (arith, len, second)) refl)

-- a list after some swaps, with what chooses their places and the words that are left
record IsNarrowed {A : Type 0} (items : List A) (bound : ℕ) (now : List A × Chooser × Stream) : Type 0 where
  same : IsPermutation items now.0
  chooser : IsChooserAt bound now.1
  rest : GivesWords now.2

narrowed-next : {A : Type 0} (items now : List A) (bound : ℕ) (chooser : Chooser) (next : ℕ × Chooser × Stream)
    → IsPermutation items now → IsChooserAt bound chooser → IsChosen bound next → bound < length items
    → IsNarrowed items (bound + 1) (swap now chooser.n next.0, next.1, next.2)
narrowed-next items now bound chooser next same is chosen within =
    let at = is.at in
    let below = chosen.below in
    record {
      same = swapped items now chooser.n next.0 same (omega (arith, at, within)) (omega (arith, below, within));
      chooser = chosen.next;
      rest = chosen.rest;
    }

narrowed : {A : Type 0} (items : List A) (chooser : Chooser) (stream : Stream) (count : ℕ) → IsChooserAt 0 chooser
    → GivesWords stream → count ≤ length items → IsNarrowed items count (narrow_swaps items chooser stream count)
unfolding narrow_swaps
narrowed items chooser stream zero is words within =
    record { same = IsPermutation-refl items; chooser = is; rest = words }
narrowed items chooser stream (suc count) is words within =
    let before = narrow_swaps items chooser stream count in
    let was = narrowed items chooser stream count is words (omega (arith, within)) in
    let one : count + 1 ≡ suc count = omega arith in
    subst (λ place. IsNarrowed items place (narrow_swaps items chooser stream (suc count))) one
    (narrowed-next items before.0 count before.1 (chooser_next before.1 before.2) was.same was.chooser
    (chosen count before.1 before.2 was.chooser was.rest) (omega (arith, within)))

-- a list after some swaps, each with a draw of its own
record IsWidened {A : Type 0} (items : List A) (now : List A × Stream) : Type 0 where
  same : IsPermutation items now.0
  rest : GivesWords now.1

widened : {A : Type 0} (items : List A) (stream : Stream) (count : ℕ) → GivesWords stream → count ≤ length items
    → IsWidened items (wide_swaps items 0 stream count)
unfolding wide_swaps
widened items stream zero words within = record { same = IsPermutation-refl items; rest = words }
widened items stream (suc count) words within =
    let before = wide_swaps items 0 stream count in
    let was = widened items stream count words (omega (arith, within)) in
    let drawn = place-draws (0 + count + 1) before.1 (omega arith) was.rest in
    let below = drawn.below in
    record {
      same = swapped items before.0 (0 + count) (usize_single 0 (0 + count + 1) before.1).0 was.same
          (omega (arith, within)) (omega (arith, below, within));
      rest = drawn.rest;
    }

-- A shuffle over words leaves the list in some order.
shuffled-permutes : {A : Type 0} (items : List A) (stream : Stream) → GivesWords stream
    → IsPermutation items (shuffled items 0 stream).0
shuffled-permutes {A} items stream words =
    let narrow = narrowed items (chooser_at 0) stream (length items - 0)
    (record { at = refl; left = λ _. rising_positive 1 1 (omega arith) }) words (omega arith) in
    let wide = widened items stream (length items - 0) words (omega arith) in
    let now = narrow_swaps items (chooser_at 0) stream (length items - 0) in
    cond_both {A = List A × Stream} (nat_lt (length items) (2 ^ 32 - 1)) (now.0, now.2)
    (wide_swaps items 0 stream (length items - 0))
    (λ pair. IsPermutation items pair.0) (λ _. narrow.same) (λ _. wide.same)

-- A draw leaves a list in some order, for every seed, kind and number.
pub drawn-permutes : {A : Type 0} (seed : List ℕ) (kind : DrawKind) (number : ℕ) (items : List A)
    → IsPermutation items (drawn_order seed kind number items)
unfolding drawn_order
drawn-permutes seed kind number items =
    shuffled-permutes items (words_of (draw_generator seed kind number))
    (generator-words (draw_generator seed kind number))
