-- A name is kept in front of zeros, up to sixteen bytes.
use Rattle.std.proofs.Common.{◌≡◌, ◌∙◌, ◌+◌, ◌-◌, ◌<◌, ℕ, suc, true, List, ◌++◌, length, take, replicate, refl, sym, ap, arith, append_assoc, length-take}
use Rattle.std.specs.Prelude.{◌==◌, ◌&&◌, slice_index, slice_set}
use Rattle.std.specs.Str.{bytes_eq}
use Rattle.std.proofs.lemmas.List.{take_more, set-append_right}
use Rattle.std.proofs.lemmas.Bool.{and_parts, eqb-true}
use Rattle.std.proofs.lemmas.Bool.Decides.{Decides-eqb, same_from_decides}
use Rattle.std.proofs.lemmas.Slice.Eq.{bytes_eq-Decides}
use Rattle.floor_text.specs.Limits.{longest_name}
use Rattle.floor_text.specs.Names.{length_kept, IsKept}

-- One more byte of a name in front of zeros.
pub padded-more : (room index : ℕ) (name : List ℕ) → index < length name → index < room
    → slice_set (take index name ++ replicate (room - index) 0) index (slice_index name index)
    ≡ take (index + 1) name ++ replicate (room - (index + 1)) 0
padded-more room index name within fits =
    let size : length (take index name) ≡ index = omega (arith, length-take index name) in
    let none : index - index ≡ 0 = omega arith in
    let left : room - index ≡ suc (room - (index + 1)) = omega arith in
    rw (
      left,
      set-append_right (take index name) (replicate (suc (room - (index + 1))) 0) index index
          (slice_index name index) size (omega arith),
      none,
      take_more name index 0 within,
      append_assoc,
    ) refl

-- Two names are the same exactly where they are as long and what is kept of them is the same.
pub same_kept : {bytes other : List ℕ} {len long : ℕ} → IsKept bytes len → IsKept other long
    → (len == long && bytes_eq bytes other) ≡ bytes_eq (take len bytes) (take long other)
same_kept {bytes} {other} {len} {long} ours theirs =
    same_from_decides (len == long && bytes_eq bytes other) (bytes_eq (take len bytes) (take long other))
    (same, kept_same) (bytes_eq-Decides (take len bytes) (take long other))
  where
    same : (len == long && bytes_eq bytes other) ≡ true → take len bytes ≡ take long other
    same holds =
        let parts = and_parts (len == long) (bytes_eq bytes other) holds in
        let lens : len ≡ long = eqb-true len long parts.0 in
        let lists : bytes ≡ other = (bytes_eq-Decides bytes other).0 parts.1 in
        ap (λ (n : ℕ). take n bytes) lens ∙ ap (take long) lists

    kept_same : take len bytes ≡ take long other → (len == long && bytes_eq bytes other) ≡ true
    kept_same views =
        let lens : len ≡ long = sym (length_kept ours) ∙ ap length views ∙ length_kept theirs in
        let pads : replicate (longest_name - len) 0 ≡ replicate (longest_name - long) 0 =
        ap (λ (n : ℕ). replicate (longest_name - n) 0) lens in
        let lists : bytes ≡ other =
        ours.padded ∙ ap (λ (xs : List ℕ). xs ++ replicate (longest_name - len) 0) views
        ∙ ap (λ (xs : List ℕ). take long other ++ xs) pads ∙ sym theirs.padded in
        let one : (len == long) ≡ true = (Decides-eqb len long).1 lens in
        let two : bytes_eq bytes other ≡ true = (bytes_eq-Decides bytes other).1 lists in rw (one, two) refl
