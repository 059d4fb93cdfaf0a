-- A source is read block by block.
use Rattle.std.proofs.Common.{◌≡◌, ℕ, ◌+◌, List, ◌++◌, length, take, drop, ap, refl, arith, Err}
use Rattle.std.proofs.lemmas.List.{take_at}
use Rattle.plan_files.specs.declared.whole.WholeEnd.TheVariants as ends
use Rattle.plan_files.proofs.ReadWholes.{first_read, all_read, read_more, read_none, taken_up_to, rose_later, length-more, not_too_long}
use Rattle.plan_files.proofs.whole.read_whole.Goals as goal

pub reading-init : goal.reading-init
reading-init g c = record {
  within = omega (arith, ap length c.new-whole.ensures.items);
  block = c.in_ok-block.ensures;
  read = first_read (g.S.Source.left c.args.source.now) c.new-whole.result.items c.new-whole.ensures.items;
  faults = omega arith;
}

pub returns-in_err-taken-clause-taken : goal.returns-in_err-taken-clause-taken
returns-in_err-taken-clause-taken g c =
    let long = not_too_long c.from_residual-in_err-taken.result ends.ReadFault c.from_residual-in_err-taken.ensures.1
    (λ same. cc) in
    taken_up_to c.args.limit (g.S.Source.left c.args.source.now) (g.S.Source.left c.take.new.self)
    c.reading.whole.items (c.from_residual-in_err-taken.result ≡ Err ends.InputTooLong)
    (rw c.in_err-taken.ensures.kept c.reading.invariant.read)
    (λ too_long. absurd (long too_long))
    (λ above. absurd (omega (arith, above, c.reading.invariant.within)))

pub returns-in_err-taken-clause-read_fault : goal.returns-in_err-taken-clause-read_fault
returns-in_err-taken-clause-read_fault g c = λ fault.
    rose_later (g.S.Source.faults c.args.source.now) (g.S.Source.faults c.reading.source)
    (g.S.Source.faults c.take.new.self) c.reading.invariant.faults (c.in_err-taken.ensures.cause.failed refl)

pub returns-then-taken-eq0-clause-whole : goal.returns-then-taken-eq0-clause-whole
returns-then-taken-eq0-clause-whole g c =
    all_read (g.S.Source.left c.args.source.now) (g.S.Source.left c.reading.source) (g.S.Source.left c.take.new.self)
    c.reading.whole.items c.take.new.buffer c.in_ok-taken.taken c.reading.invariant.read c.in_ok-taken.ensures.bytes
    c.if-taken-eq0.true (omega (arith, c.take.auto.buffer, c.reading.invariant.block, c.deref_mut.ensures.len))

pub returns-then-taken-eq0-clause-taken : goal.returns-then-taken-eq0-clause-taken
returns-then-taken-eq0-clause-taken g c =
    taken_up_to c.args.limit (g.S.Source.left c.args.source.now) (g.S.Source.left c.take.new.self)
    c.reading.whole.items _
    (read_none (g.S.Source.left c.args.source.now) (g.S.Source.left c.reading.source)
    (g.S.Source.left c.take.new.self) c.reading.whole.items c.take.new.buffer c.in_ok-taken.taken
    c.reading.invariant.read c.in_ok-taken.ensures.bytes c.if-taken-eq0.true)
    (λ too_long. cc)
    (λ above. absurd (omega (arith, above, c.reading.invariant.within)))

pub returns-then-taken-limit-clause-taken : goal.returns-then-taken-limit-clause-taken
returns-then-taken-limit-clause-taken g c =
    let whole : List ℕ = c.reading.whole.items in
    let block : List ℕ = c.take.new.buffer in
    let more : List ℕ = whole ++ take c.in_ok-taken.taken block in
    let size : length more ≡ length whole + c.in_ok-taken.taken =
    length-more whole block c.in_ok-taken.taken c.in_ok-taken.ensures.count in
    taken_up_to c.args.limit (g.S.Source.left c.args.source.now) (g.S.Source.left c.take.new.self) more _
    (read_more (g.S.Source.left c.args.source.now) (g.S.Source.left c.reading.source)
    (g.S.Source.left c.take.new.self) whole block c.in_ok-taken.taken c.reading.invariant.read
    c.in_ok-taken.ensures.bytes)
    (λ too_long. omega (arith, size, c.if-taken-limit.true, c.len.ensures))
    (λ above. refl)

pub reading-preserved : goal.reading-preserved
reading-preserved g c =
    let whole : List ℕ = c.reading.whole.items in
    let block : List ℕ = c.take.new.buffer in
    let behind : List ℕ = drop (length block) c.reading.block.items in
    let back : take c.reading.block.len (block ++ behind) ≡ block = take_at block behind c.reading.block.len (omega arith) in
    let more : List ℕ = whole ++ take c.in_ok-taken.taken block in
    let items : c.extend_from_slice.new.self.items ≡ more =
    rw (c.in_ok-extend_from_slice.ensures.items, c.deref.ensures.value, back) in
    let size : length more ≡ length whole + c.in_ok-taken.taken =
    length-more whole block c.in_ok-taken.taken c.in_ok-taken.ensures.count in
    let read = read_more (g.S.Source.left c.args.source.now) (g.S.Source.left c.reading.source)
    (g.S.Source.left c.take.new.self) whole block c.in_ok-taken.taken c.reading.invariant.read
    c.in_ok-taken.ensures.bytes in
    record {
      within = omega (arith, ap length items, size, c.if-taken-limit.false, c.reading.invariant.within, c.len.ensures);
      block = rw back (omega (arith, c.reading.invariant.block));
      read = rw items read;
      faults = omega (arith, c.reading.invariant.faults, c.in_ok-taken.ensures.cause.later);
    }

pub returns-in_err-extend_from_slice-clause-taken : goal.returns-in_err-extend_from_slice-clause-taken
returns-in_err-extend_from_slice-clause-taken g c =
    let whole : List ℕ = c.reading.whole.items in
    let block : List ℕ = c.take.new.buffer in
    let more : List ℕ = whole ++ take c.in_ok-taken.taken block in
    let size : length more ≡ length whole + c.in_ok-taken.taken =
    length-more whole block c.in_ok-taken.taken c.in_ok-taken.ensures.count in
    let long = not_too_long c.from_residual-in_err-extend_from_slice.result ends.NoMemory
    c.from_residual-in_err-extend_from_slice.ensures.1 (λ same. cc) in
    taken_up_to c.args.limit (g.S.Source.left c.args.source.now) (g.S.Source.left c.take.new.self) more _
    (read_more (g.S.Source.left c.args.source.now) (g.S.Source.left c.reading.source)
    (g.S.Source.left c.take.new.self) whole block c.in_ok-taken.taken c.reading.invariant.read
    c.in_ok-taken.ensures.bytes)
    (λ too_long. absurd (long too_long))
    (λ above. absurd (omega (arith, size, above, c.if-taken-limit.false, c.reading.invariant.within, c.len.ensures)))
