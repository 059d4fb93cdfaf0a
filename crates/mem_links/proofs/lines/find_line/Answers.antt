use Rattle.std.proofs.Common.{Some, None, sym, ap, ◌∙◌}
use Rattle.mem_links.specs.Lines.{begins_with}
use Rattle.mem_links.proofs.SearchedLines.{line_is, first_found, found_at, found_none, searched_on}
use Rattle.mem_links.proofs.lines.find_line.Goals as goal

pub returns-then-starts_with-clause-found : goal.returns-then-starts_with-clause-found
returns-then-starts_with-clause-found c =
    let front = c.args.front.now in let put = c.args.put.now in let n = c.search.searched in let at = c.in-Some.n in
    sym (found_at front put n at c.search.invariant (first_found put n (Some at) c.in-Some.ensures)
    (ap (begins_with front) (sym (line_is put n at)) ∙ sym c.starts_with.ensures.value ∙ c.if-starts_with.true))

pub search-preserved : goal.search-preserved
search-preserved c =
    let front = c.args.front.now in let put = c.args.put.now in let n = c.search.searched in let at = c.in-Some.n in
    searched_on front put n at c.search.invariant (first_found put n (Some at) c.in-Some.ensures)
    (ap (begins_with front) (sym (line_is put n at)) ∙ sym c.starts_with.ensures.value ∙ c.if-starts_with.false)

pub returns-clause-found : goal.returns-clause-found
returns-clause-found c =
    let put = c.args.put.now in let n = c.search.searched in
    sym (found_none c.args.front.now put n c.search.invariant (first_found put n None c.in_default.ensures))
