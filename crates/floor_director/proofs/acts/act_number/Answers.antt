use Rattle.std.proofs.Common.{◌∙◌, ap, ℕ, ◌%◌}
use Rattle.rand_core.specs.Stream.{Stream, next_u32}
use Rattle.rand_chacha.specs.ChaCha.{ChaCha}
use Rattle.break_draw.specs.Generator.{words_of}
use Rattle.floor_director.specs.SimulatedActs.{act_number}
use Rattle.floor_director.proofs.acts.act_number.Goals as goal

pub returns-clause-number : goal.returns-clause-number
unfolding act_number words_of
returns-clause-number c = ap (λ (drawn : ℕ × Stream). drawn.0 % 10) c.next_u32.ensures
    ∙ ap (λ (generator : ChaCha). (next_u32 (words_of generator)).0 % 10) c.generator-generator.ensures
