use Rattle.floor_text.proofs.HeldLists.{first_byte_is_position}
use Rattle.floor_text.proofs.held_bytes.first_feed.Goals as goal

pub returns : goal.returns
returns c = first_byte_is_position 10 c.args.bytes.now c.memchr.result c.memchr.ensures
