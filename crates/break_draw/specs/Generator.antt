-- The generator of a draw, and the order in which it leaves a list. This project's own.
use Rattle.std.specs.Prelude.{ℕ, List, ◌++◌, take}
use Rattle.std.specs.Int.{w64, to_le_bytes}
use Rattle.rand_core.specs.Stream.{Stream}
use Rattle.rand_core.specs.Steps.{stream_of, steps_u32}
use Rattle.rand_chacha.specs.ChaCha.{ChaCha, next_word, of_seed}
use Rattle.rand.specs.Shuffle.{shuffled}
use Rattle.break_draw.specs.declared.random.DrawKind.{DrawKind}
use Rattle.break_draw.specs.declared.random.DrawKind.TheVariants.{Deck, Seats, Names, Act}

-- The number of a kind of draw.
abbrev pub kind_number : DrawKind → ℕ
kind_number Deck = 0
kind_number Seats = 1
kind_number Names = 2
kind_number Act = 3

-- The 32 bytes from which the generator of a draw is made: the first 16 of the seed, then the number of the draw as
-- eight bytes and that of its kind as eight bytes, each with the least byte first. The last 16 bytes of the seed are
-- not used.
abbrev pub draw_bytes : List ℕ → DrawKind → ℕ → List ℕ
draw_bytes seed kind number = take 16 seed ++ (to_le_bytes w64 number ++ to_le_bytes w64 (kind_number kind))

-- The generator of a draw.
unfoldable pub draw_generator : List ℕ → DrawKind → ℕ → ChaCha
draw_generator seed kind number = of_seed (draw_bytes seed kind number)

-- What a generator of ChaCha with 20 rounds gives from now on.
unfoldable pub words_of : ChaCha → Stream
words_of generator = stream_of (steps_u32 (next_word 10)) generator

-- A list in the order in which the draw leaves it: the shuffle that `rand` states, over the words of `rand_chacha`.
unfoldable pub drawn_order : {A : Type 0} → List ℕ → DrawKind → ℕ → List A → List A
drawn_order seed kind number items = (shuffled items 0 (words_of (draw_generator seed kind number))).0
