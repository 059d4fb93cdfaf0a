use Rattle.std.proofs.Common.{◌∙◌, length, drop, arith}
use Rattle.std.proofs.lemmas.List.{take_at}
use Rattle.table_engine.proofs.Stacks.{players-of_record}
use Rattle.table_engine.proofs.record.HandRecord.into_players.Goals as goal

pub returns-clause-same : goal.returns-clause-same
returns-clause-same c =
    let back = take_at c.set_stacks.new.players
    (drop (length c.set_stacks.new.players) c.into_vec-players.result.items) c.into_vec-players.result.len
    (omega arith) in
    rw (
      c.from_vec.ensures,
      back,
      c.set_stacks.ensures,
      c.items.ensures,
      c.deref_mut.ensures.value,
      c.into_vec-players.ensures,
    )

pub returns-clause-after : goal.returns-clause-after
returns-clause-after c = λ complete. returns-clause-same c ∙ players-of_record c.args.self complete
