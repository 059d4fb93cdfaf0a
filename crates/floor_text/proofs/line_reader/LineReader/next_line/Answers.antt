use Rattle.std.proofs.Common.{Ok, [], ap, rules, arith}
use Rattle.std.proofs.lemmas.Grind.{common_steps}
use Rattle.floor_text.proofs.ReadLines.{goes_on, handed_reads, last_reads, ends_then, some_reads_on}
use Rattle.floor_text.proofs.line_reader.LineReader.next_line.Goals as goal

pub returns-in-Some-clause-goes_on : goal.returns-in-Some-clause-goes_on
returns-in-Some-clause-goes_on g c = λ going.
    let left = g.S.Source.left c.search.source in
    let handed = handed_reads c.search.self c.hand_out.new.self left c.in-Some.at _ c.in-Some.ensures.found.1
    c.hand_out.ensures.line c.hand_out.ensures.held c.hand_out.ensures.taken in
    goes_on c.args.self.now c.search.self c.hand_out.new.self
    (g.S.Source.left c.args.source.now) left left [] _ c.search.invariant.reads handed

pub returns-in-Some-clause-reads : goal.returns-in-Some-clause-reads
returns-in-Some-clause-reads g c =
    let left = g.S.Source.left c.search.source in
    let handed = handed_reads c.search.self c.hand_out.new.self left c.in-Some.at _ c.in-Some.ensures.found.1
    c.hand_out.ensures.line c.hand_out.ensures.held c.hand_out.ensures.taken in
    some_reads_on c.args.self.now c.hand_out.new.self (g.S.Source.left c.args.source.now) left _
    (goes_on c.args.self.now c.search.self c.hand_out.new.self
    (g.S.Source.left c.args.source.now) left left [] _ c.search.invariant.reads handed)

pub returns-then-taken-eq0-clause-reads : goal.returns-then-taken-eq0-clause-reads
returns-then-taken-eq0-clause-reads g c =
    let before = g.S.Source.left c.args.source.now in
    let between = g.S.Source.left c.search.source in
    let after = g.S.Source.left c.take_more.new.source in
    let taken = goes_on c.args.self.now c.search.self c.take_more.new.self before between after [] []
    c.search.invariant.reads c.in_ok-taken.ensures.reads in
    let ends = ends_then c.args.self.now c.search.self before between after c.search.invariant.reads
    (c.in_ok-taken.ensures.source_end (ap Ok c.if-taken-eq0.true)) in
    last_reads c.args.self.now c.take_more.new.self c.last_line.new.self before after _ taken ends
    c.last_line.ensures.line c.last_line.ensures.held c.last_line.ensures.taken

pub returns-then-taken-eq0-clause-source_end : goal.returns-then-taken-eq0-clause-source_end
returns-then-taken-eq0-clause-source_end g c = λ ended.
    ends_then c.args.self.now c.search.self (g.S.Source.left c.args.source.now) (g.S.Source.left c.search.source)
    (g.S.Source.left c.take_more.new.source) c.search.invariant.reads
    (c.in_ok-taken.ensures.source_end (ap Ok c.if-taken-eq0.true))

pub returns-in_err-taken-clause-reads : goal.returns-in_err-taken-clause-reads
returns-in_err-taken-clause-reads g c =
    let on = goes_on c.args.self.now c.search.self c.take_more.new.self (g.S.Source.left c.args.source.now)
    (g.S.Source.left c.search.source) (g.S.Source.left c.take_more.new.source) [] []
    c.search.invariant.reads c.in_err-taken.ensures.reads in
    let reads = some_reads_on c.args.self.now c.take_more.new.self (g.S.Source.left c.args.source.now)
    (g.S.Source.left c.take_more.new.source) [] on in
    search rules

pub search-preserved : goal.search-preserved
search-preserved g c =
    let reads = goes_on c.args.self.now c.search.self c.take_more.new.self (g.S.Source.left c.args.source.now)
    (g.S.Source.left c.search.source) (g.S.Source.left c.take_more.new.source) [] []
    c.search.invariant.reads c.in_ok-taken.ensures.reads in
    search rules

pub returns-in-Some-clause-shorter : goal.returns-in-Some-clause-shorter
returns-in-Some-clause-shorter g c = grind (arith, common_steps)

pub returns-in-Some-clause-within_limit : goal.returns-in-Some-clause-within_limit
returns-in-Some-clause-within_limit g c = grind (arith, common_steps)

pub last_line-requires-clause-no_feed : goal.last_line-requires-clause-no_feed
last_line-requires-clause-no_feed g c = grind (arith, common_steps)
