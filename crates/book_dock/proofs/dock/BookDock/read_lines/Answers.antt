use Rattle.std.proofs.Common.{◌≡◌, length, ap, sym, arith}
use Rattle.history_lock.specs.Passes.{seen}
use Rattle.history_lock.proofs.Prefixes.{prefix_length}
use Rattle.book_dock.proofs.Pieces.{read-whole}
use Rattle.book_dock.proofs.dock.BookDock.read_lines.Goals as goal

pub returns-clause-stands : goal.returns-clause-stands
returns-clause-stands g c =
    let both = c.follow-pass.ensures.stands in
    let left : seen c.follow-pass.result.0 ≡ both.at = (both.hold.idle both.is.1.1.1).0 in
    let longer = prefix_length (seen c.args.pass) both.at (both.hold.others.0, sym both.hold.others.1) in
    record {
      at = both.at;
      added = both.added;
      hold = both.hold;
      is = (
        (read-whole c.follow-pass.result.1.told c.args.from _ both.at c.args.out.now.items
            c.follow-pass.new.out.items (omega (arith, longer, c.requires.from))
            (omega (arith, ap length left, c.follow-pass.ensures.few)) (omega arith) both.is.1.1.0
            (rw left at c.follow-pass.ensures.lines)).0,
        both.is.1.1.1,
      );
    }

pub returns-clause-lines : goal.returns-clause-lines
returns-clause-lines g c =
    let both = c.follow-pass.ensures.stands in
    let left : seen c.follow-pass.result.0 ≡ both.at = (both.hold.idle both.is.1.1.1).0 in
    let longer = prefix_length (seen c.args.pass) both.at (both.hold.others.0, sym both.hold.others.1) in
    rw left (read-whole c.follow-pass.result.1.told c.args.from _ both.at c.args.out.now.items
    c.follow-pass.new.out.items (omega (arith, longer, c.requires.from))
    (omega (arith, ap length left, c.follow-pass.ensures.few)) (omega arith) both.is.1.1.0
    (rw left at c.follow-pass.ensures.lines)).1
