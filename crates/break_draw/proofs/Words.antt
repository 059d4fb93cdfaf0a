-- The words of a generator are below 2^32, and a number that is drawn from them is below its bound.
use Rattle.std.proofs.Common.{◌≡◌, ℕ, ◌+◌, ◌-◌, ◌*◌, ◌/◌, ◌%◌, ◌^◌, ◌<◌, ◌≤◌, nat_lt, nat_le, cond, List, [], ◌∷◌, inl, inr, arith}
use Rattle.std.proofs.lemmas.Nat.{div_below, mod_below, mul-le}
use Rattle.std.proofs.lemmas.Bool.{cases_lt, cond_both}
use Rattle.std.proofs.lemmas.Bool.Decides.{nat_tests}
use Rattle.rand_core.specs.Stream.{Call, u32_call, u64_call, Stream, next_u32, next_u64}
use Rattle.rand_core.specs.Steps.{state_after, stream_of, steps_u32}
use Rattle.rand_chacha.specs.Block.{block_word}
use Rattle.rand_chacha.specs.ChaCha.{ChaCha, next_word}
use Rattle.rand.specs.Draw.{draw_map}
use Rattle.rand.specs.Uniform.{canon, usize_single}
use Rattle.break_draw.specs.Generator.{words_of}

-- What a stream gives are words: below 2^32, and below 2^64 two at a time.
pub record GivesWords (stream : Stream) : Type 0 where
  pub one : (calls : List Call) → stream.u32_after calls < 2 ^ 32
  pub two : (calls : List Call) → stream.u64_after calls < 2 ^ 64

-- A draw of a number below a bound, which leaves a stream of words.
pub record Draws (bound : ℕ) (drawn : ℕ × Stream) : Type 0 where
  pub below : drawn.0 < bound
  pub rest : GivesWords drawn.1

-- Each draw from a stream of words is below a bound.
pub record IsDrawBelow (bound : ℕ) (next : Stream → ℕ × Stream) : Type 0 where
  pub draws : (stream : Stream) → GivesWords stream → Draws bound (next stream)

-- The next word of a stream of words is below 2^32, and what is left of the stream gives words again.
pub one-word : IsDrawBelow (2 ^ 32) next_u32
unfolding next_u32
one-word = record {
  draws = λ stream words. record {
    below = words.one [];
    rest = record { one = λ calls. words.one (u32_call ∷ calls); two = λ calls. words.two (u32_call ∷ calls) };
  };
}

pub two-words : IsDrawBelow (2 ^ 64) next_u64
unfolding next_u64
two-words = record {
  draws = λ stream words. record {
    below = words.two [];
    rest = record { one = λ calls. words.one (u64_call ∷ calls); two = λ calls. words.two (u64_call ∷ calls) };
  };
}

block-below : (rounds : ℕ) (key : List ℕ) (counter nonce place : ℕ) → block_word rounds key counter nonce place < 2 ^ 32
unfolding block_word
block-below rounds key counter nonce place = mod_below _ (2 ^ 32) (omega arith)

word-below : (generator : ChaCha) → (next_word 10 generator).0 < 2 ^ 32
word-below generator =
    block-below 10 generator.key (generator.word_pos / 16) generator.stream (generator.word_pos % 16)

two-below : (low high : ℕ) → low < 2 ^ 32 → high < 2 ^ 32 → low + high * 2 ^ 32 < 2 ^ 64
two-below low high low_fits high_fits = omega arith

-- The generator of a draw gives words.
pub generator-words : (generator : ChaCha) → GivesWords (words_of generator)
unfolding words_of stream_of
generator-words generator = record {
  one = λ calls. word-below (state_after (steps_u32 (next_word 10)) calls generator);
  two = λ calls.
      let now = state_after (steps_u32 (next_word 10)) calls generator in
      two-below (next_word 10 now).0 (next_word 10 (next_word 10 now).1).0 (word-below now)
      (word-below (next_word 10 now).1);
}

-- a number whose fraction may still carry has room for one more
carry-room : (words word range high low : ℕ) → word < words → high * words + low ≡ word * range → words - range < low
    → high + 1 < range
carry-room words word range high low fits product carried =
    let above : (word + 1) * range ≤ words * range = mul-le (word + 1) range words range (omega arith) (omega arith) in
    elim (cases_lt (high + 1) range) [
      | inl below ↦ below
      | inr over ↦
          let under : range * words ≤ (high + 1) * words = mul-le range words (high + 1) words over (omega arith) in
          absurd (omega arith)
    ]

fraction-below : (words word range : ℕ) → word < words → 0 < range → word * range / words < range
fraction-below words word range fits some =
    let above : (word + 1) * range ≤ words * range = mul-le (word + 1) range words range (omega arith) (omega arith) in
    div_below (word * range) words range (omega arith) (omega arith)

-- A number that is drawn by a fraction is below its bound.
pub canon-draws : (words : ℕ) (next : Stream → ℕ × Stream) (range : ℕ) (stream : Stream) → IsDrawBelow words next
    → 0 < range → GivesWords stream → Draws range (canon words next range stream)
unfolding canon
canon-draws words next range stream draw some given =
    let first = draw.draws stream given in
    let second = draw.draws (next stream).1 first.rest in
    let word = (next stream).0 in
    let high = word * range / words in
    let low = word * range % words in
    let fits = fraction-below words word range first.below some in
    cond_both {A = ℕ × Stream} (nat_lt (words - range) low)
    (draw_map (λ other. cond (nat_le words (low + other * range / words)) (high + 1) high) next (next stream).1)
    (high, (next stream).1) (Draws range)
    (λ carried.
    let open_carry : words - range < low = grind (arith, nat_tests) in
    let product : high * words + low ≡ word * range = omega arith in
    let room = carry-room words word range high low first.below product open_carry in
    record {
      below = cond_both {A = ℕ} (nat_le words (low + (next (next stream).1).0 * range / words)) (high + 1) high
          (λ number. number < range) (λ _. room) (λ _. fits);
      rest = second.rest;
    })
    (λ _. record { below = fits; rest = first.rest })

-- A place below an end is below it.
pub place-draws : (end : ℕ) (stream : Stream) → 0 < end → GivesWords stream → Draws end (usize_single 0 end stream)
place-draws end stream some given =
    let short = canon-draws (2 ^ 32) next_u32 (end - 0) stream one-word (omega arith) given in
    let long = canon-draws (2 ^ 64) next_u64 (end - 0) stream two-words (omega arith) given in
    cond_both {A = ℕ × Stream} (nat_lt end (2 ^ 32))
    (draw_map (λ number. 0 + number) (canon (2 ^ 32) next_u32 (end - 0)) stream)
    (draw_map (λ number. 0 + number) (canon (2 ^ 64) next_u64 (end - 0)) stream) (Draws end)
    (λ _. record { below = (let below = short.below in omega arith); rest = short.rest })
    (λ _. record { below = (let below = long.below in omega arith); rest = long.rest })
