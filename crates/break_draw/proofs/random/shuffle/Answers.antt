use Rattle.break_draw.proofs.Seeds.{order-drawn}
use Rattle.break_draw.proofs.random.shuffle.Goals as goal

pub returns-clause-drawn : goal.returns-clause-drawn
returns-clause-drawn g c = order-drawn c.args.seed c.args.kind c.args.number c.args.items.now c.shuffle.new.self _
    c.generator-generator.result c.generator-generator.ensures c.shuffle.ensures.drawn
