use Rattle.std.proofs.Common.{◌+◌, ℕ, refl, true, arith}
use Rattle.std.specs.Prelude.{◌==◌}
use Rattle.std.proofs.lemmas.Grind.{common_steps}
use Rattle.table_dock.specs.Docks.{dock_id}
use Rattle.session_desk.specs.Desks.{nothing, sights}
use Rattle.session_desk.specs.Standings.{count_of}
use Rattle.session_desk.proofs.DeskMoves.{both-moved, later-sights, moved-alike, moved-still, pass-kept, same-desk}
use Rattle.session_desk.proofs.Pieces.{table-both, table-none}
use Rattle.session_desk.proofs.TableLines.{same-both, same-itself}
use Rattle.session_desk.proofs.Working.{moved-least}
use Rattle.session_desk.proofs.desk.Desk.tell_table.Goals as goal

-- the numbers of holds that a piece makes of the passes of tables
abbrev at_index : ℕ → ℕ → ℕ
at_index index = λ table. count_of (table == index + 1)

pub loop-init : goal.loop-init
loop-init g c =
    let told = c.requires.watch in
    record {
      moved = moved-still (λ table. 0) c.args.self c.args.self (λ table. refl) (same-desk c.args.self);
      others = same-itself (c.args.index + 1) c.args.self;
      told = table-none ((sights c.args.self).tables (c.args.index + 1)) c.args.watch.now c.args.out.now.items
          told.1.within;
      watch = λ who is. is;
    }

pub tell_table_piece-next-requires-clause-index : goal.tell_table_piece-next-requires-clause-index
tell_table_piece-next-requires-clause-index g c =
    omega (
      arith,
      c.requires.index,
      c.loop.invariant.moved.count,
      c.args.self.tables.ok.0,
      c.loop.desk.tables.ok.0,
    )

pub tell_table_piece-next-requires-clause-pass : goal.tell_table_piece-next-requires-clause-pass
tell_table_piece-next-requires-clause-pass g c =
    pass-kept (dock_id c.args.dock.now) 0 (λ table. 0) nothing c.args.index c.args.self c.loop.desk
    c.loop.invariant.moved c.requires.pass

pub tell_table_piece-next-requires-clause-watch : goal.tell_table_piece-next-requires-clause-watch
tell_table_piece-next-requires-clause-watch g c =
    let told = c.requires.watch in (told.0, c.loop.invariant.watch told.0 told.1)

pub loop-preserved : goal.loop-preserved
loop-preserved g c =
    let next = c.tell_table_piece-next in
    let table : ℕ = c.args.index + 1 in
    record {
      moved = moved-least 0 (λ table. 0 + at_index c.args.index table) nothing c.args.self next.result.0
          (both-moved 0 0 (λ table. 0) (at_index c.args.index) nothing nothing c.args.self c.loop.desk next.result.0
          c.loop.invariant.moved next.ensures.moved);
      others = same-both table c.args.self c.loop.desk next.result.0 c.loop.invariant.others next.ensures.others;
      told = table-both ((sights c.loop.desk).tables table) ((sights next.result.0).tables table)
          c.args.watch.now c.loop.watch next.new.watch true next.result.2 true c.args.out.now.items
          c.loop.out.items next.new.out.items
          ((later-sights 0 (at_index c.args.index) nothing c.loop.desk next.result.0 next.ensures.moved).tables table)
          (λ none. absurd (cc none)) c.loop.invariant.told next.ensures.told;
      watch = λ who is. next.ensures.watch who (c.loop.invariant.watch who is);
    }

pub returns-then-behind-clause-moved : goal.returns-then-behind-clause-moved
returns-then-behind-clause-moved g c =
    let next = c.tell_table_piece-next in
    moved-alike 0 (λ table. 0 + at_index c.args.index table) (at_index c.args.index) nothing c.args.self
    next.result.0 (λ table. omega arith)
    (both-moved 0 0 (λ table. 0) (at_index c.args.index) nothing nothing c.args.self c.loop.desk next.result.0
    c.loop.invariant.moved next.ensures.moved)

pub returns-then-behind-clause-others : goal.returns-then-behind-clause-others
returns-then-behind-clause-others g c =
    let next = c.tell_table_piece-next in
    same-both (c.args.index + 1) c.args.self c.loop.desk next.result.0 c.loop.invariant.others next.ensures.others

pub returns-then-behind-clause-told : goal.returns-then-behind-clause-told
returns-then-behind-clause-told g c =
    let next = c.tell_table_piece-next in
    let table : ℕ = c.args.index + 1 in
    table-both ((sights c.loop.desk).tables table) ((sights next.result.0).tables table) c.args.watch.now
    c.loop.watch next.new.watch true next.result.2 next.result.1 c.args.out.now.items c.loop.out.items
    next.new.out.items
    ((later-sights 0 (at_index c.args.index) nothing c.loop.desk next.result.0 next.ensures.moved).tables table)
    (λ none. grind (arith, common_steps)) c.loop.invariant.told next.ensures.told

pub returns-then-behind-clause-watch : goal.returns-then-behind-clause-watch
returns-then-behind-clause-watch g c = λ who is.
    c.tell_table_piece-next.ensures.watch who (c.loop.invariant.watch who is)
