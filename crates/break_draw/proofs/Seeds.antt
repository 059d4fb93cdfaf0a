-- The bytes from which a generator is made.
use Rattle.std.proofs.Common.{◌≡◌, ◌∙◌, refl, sym, ap, ℕ, List, [], ◌++◌, length, take, drop, append_assoc, length-append, length-drop, length-take, append-nil, arith}
use Rattle.std.specs.Int.{w64, to_le_bytes}
use Rattle.std.proofs.Math.Seq.{take-append_seam}
use Rattle.std.proofs.lemmas.List.{drop_all}
use Rattle.rand_core.specs.Stream.{Stream}
use Rattle.rand_core.specs.Steps.{stream_of, steps_u32}
use Rattle.rand_chacha.specs.ChaCha.{ChaCha, next_word}
use Rattle.rand.specs.Shuffle.{shuffled}
use Rattle.break_draw.specs.declared.random.DrawKind.{DrawKind}
use Rattle.break_draw.specs.Generator.{draw_bytes, draw_generator, words_of, drawn_order, kind_number}

-- two numbers that are written behind one another
two_numbers : (seed one other now last : List ℕ) → length one ≡ 8 → length other ≡ 8 → length now ≡ 32
    → now ≡ take 16 seed ++ (one ++ drop 24 seed) → last ≡ take 24 now ++ (other ++ drop 32 now)
    → last ≡ take 16 seed ++ (one ++ other)
two_numbers seed one other now last one_len other_len now_len now_is last_is =
    let total = ap length now_is ∙ (length-append (take 16 seed) (one ++ drop 24 seed)) in
    let rest = length-append one (drop 24 seed) in
    let cut = length-drop 24 seed in
    let kept = length-take 16 seed in
    let front : length (take 16 seed ++ one) ≡ 24 = omega (
      arith,
      length-append (take 16 seed) one,
      total,
      rest,
      cut,
      kept,
      one_len,
      now_len,
    ) in
    let joined : now ≡ (take 16 seed ++ one) ++ drop 24 seed = now_is
    ∙ sym (append_assoc (take 16 seed) one (drop 24 seed)) in
    let begins : take 24 now ≡ take 16 seed ++ one = ap (take 24) joined
    ∙ (ap (λ (n : ℕ). take n ((take 16 seed ++ one) ++ drop 24 seed)) (sym front)
    ∙ take-append_seam (take 16 seed ++ one) (drop 24 seed)) in
    let ends : drop 32 now ≡ [] = drop_all 32 now (omega (arith, now_len)) in
    last_is ∙ (ap (λ (begin : List ℕ). begin ++ (other ++ drop 32 now)) begins
    ∙ (ap (λ (end : List ℕ). (take 16 seed ++ one) ++ (other ++ end)) ends
    ∙ (ap (λ (end : List ℕ). (take 16 seed ++ one) ++ end) (append-nil other)
    ∙ append_assoc (take 16 seed) one other)))

-- These are the bytes from which the generator of a draw is made.
pub bytes-drawn : (seed now last : List ℕ) (kind : DrawKind) (number kind_is : ℕ) → length now ≡ 32
    → kind_is ≡ kind_number kind → now ≡ take 16 seed ++ (to_le_bytes w64 number ++ drop 24 seed)
    → last ≡ take 24 now ++ (to_le_bytes w64 kind_is ++ drop 32 now) → last ≡ draw_bytes seed kind number
bytes-drawn seed now last kind number kind_is now_len is now_is last_is =
    two_numbers seed (to_le_bytes w64 number) (to_le_bytes w64 kind_is) now last refl refl now_len now_is last_is
    ∙ ap (λ (n : ℕ). take 16 seed ++ (to_le_bytes w64 number ++ to_le_bytes w64 n)) is

-- What is shuffled by the generator of a draw is in the order of the draw.
pub order-drawn : {A : Type 0} (seed : List ℕ) (kind : DrawKind) (number : ℕ) (before now : List A) (after : Stream)
    (generator : ChaCha) → generator ≡ draw_generator seed kind number
    → (now, after) ≡ shuffled before 0 (stream_of (steps_u32 (next_word 10)) generator)
    → now ≡ drawn_order seed kind number before
unfolding drawn_order words_of
order-drawn seed kind number before now after generator is drawn =
    ap (λ pair. pair.0) drawn
    ∙ ap (λ generator. (shuffled before 0 (stream_of (steps_u32 (next_word 10)) generator)).0) is
