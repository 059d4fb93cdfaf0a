use Rattle.break_draw.proofs.Seeds.{bytes-drawn}
use Rattle.break_draw.proofs.random.draw_bytes.Goals as goal

pub returns : goal.returns
returns c = bytes-drawn c.args.seed c.with_number-numbered.result c.with_number.result c.args.kind c.args.number
    c.number.result c.with_number-numbered.ensures.len c.number.ensures c.with_number-numbered.ensures.bytes
    c.with_number.ensures.bytes
