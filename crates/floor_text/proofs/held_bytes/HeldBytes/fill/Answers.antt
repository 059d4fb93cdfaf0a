use Rattle.std.proofs.Common.{◌≤◌, ℕ, List, length, drop, take, Result, Ok, Err, OnErr, ap, ◌∙◌, arith}
use Rattle.std.proofs.lemmas.List.{take_at}
use Rattle.std.proofs.lemmas.Option.{IfSome_then}
use Rattle.std.proofs.Math.Seq.{take-length}
use Rattle.floor_text.specs.HeldBytes.{Holding}
use Rattle.floor_text.proofs.HeldLists.{moved_by_call, moved_kept, moved_front, moved_count, moved_behind}
use Rattle.floor_text.proofs.held_bytes.HeldBytes.fill.Goals as goal

-- what holds in any case holds after an error
on_err : {T E P : Type 0} (r : Result T E) → P → OnErr r P
on_err (Ok x) p = tt
on_err (Err e) p = p

pub returns-in_err-n-clause-front : goal.returns-in_err-n-clause-front
returns-in_err-n-clause-front g c =
    let is = moved_by_call c.self.inside.buffer.items c.args.self.now.held c.copy_within.new.self.items
    c.deref_mut.result.now c.take_at.new.buffer c.self.inside.start c.self.inside.end c.min-kept.result
    c.copy_within.new.self.len (omega arith) (omega arith) c.min-kept.ensures
    (ap (λ (h : Holding). h.held) c.self.view_is) c.copy_within.ensures.items c.deref_mut.ensures.value
    c.in_err-n.ensures.front (omega arith) in
    ap (take (length (take 401 c.args.self.now.held))) (moved_kept c.args.self.now.held _ c.min-kept.result is)
    ∙ take-length (take 401 c.args.self.now.held)

pub returns-in_err-n-clause-kept : goal.returns-in_err-n-clause-kept
returns-in_err-n-clause-kept g c =
    let is = moved_by_call c.self.inside.buffer.items c.args.self.now.held c.copy_within.new.self.items
    c.deref_mut.result.now c.take_at.new.buffer c.self.inside.start c.self.inside.end c.min-kept.result
    c.copy_within.new.self.len (omega arith) (omega arith) c.min-kept.ensures
    (ap (λ (h : Holding). h.held) c.self.view_is) c.copy_within.ensures.items c.deref_mut.ensures.value
    c.in_err-n.ensures.front (omega arith) in
    on_err c.from_residual.result (moved_kept c.args.self.now.held _ c.min-kept.result is)

pub returns-clause-count : goal.returns-clause-count
returns-clause-count g c =
    let is = moved_by_call c.self.inside.buffer.items c.args.self.now.held c.copy_within.new.self.items
    c.deref_mut.result.now c.take_at.new.buffer c.self.inside.start c.self.inside.end c.min-kept.result
    c.copy_within.new.self.len (omega arith) (omega arith) c.min-kept.ensures
    (ap (λ (h : Holding). h.held) c.self.view_is) c.copy_within.ensures.items c.deref_mut.ensures.value
    c.in_ok-n.ensures.front (omega arith) in
    let back = take_at c.take_at.new.buffer (drop (length c.take_at.new.buffer) c.copy_within.new.self.items)
    c.copy_within.new.self.len (omega arith) in
    let count : c.in_ok-n.n ≤ c.args.ask = c.in_ok-n.ensures.count in
    (count, moved_count c.args.self.now.held _ c.min-kept.result c.in_ok-n.n is (omega (arith, ap length back)))

pub returns-clause-front : goal.returns-clause-front
returns-clause-front g c =
    let is = moved_by_call c.self.inside.buffer.items c.args.self.now.held c.copy_within.new.self.items
    c.deref_mut.result.now c.take_at.new.buffer c.self.inside.start c.self.inside.end c.min-kept.result
    c.copy_within.new.self.len (omega arith) (omega arith) c.min-kept.ensures
    (ap (λ (h : Holding). h.held) c.self.view_is) c.copy_within.ensures.items c.deref_mut.ensures.value
    c.in_ok-n.ensures.front (omega arith) in
    moved_front c.args.self.now.held _ c.min-kept.result c.in_ok-n.n is

pub returns-clause-bytes : goal.returns-clause-bytes
returns-clause-bytes g c =
    let is = moved_by_call c.self.inside.buffer.items c.args.self.now.held c.copy_within.new.self.items
    c.deref_mut.result.now c.take_at.new.buffer c.self.inside.start c.self.inside.end c.min-kept.result
    c.copy_within.new.self.len (omega arith) (omega arith) c.min-kept.ensures
    (ap (λ (h : Holding). h.held) c.self.view_is) c.copy_within.ensures.items c.deref_mut.ensures.value
    c.in_ok-n.ensures.front (omega arith) in
    let back = take_at c.take_at.new.buffer (drop (length c.take_at.new.buffer) c.copy_within.new.self.items)
    c.copy_within.new.self.len (omega arith) in
    IfSome_then (g.S.Source.left c.args.source.now) c.in_ok-n.ensures.bytes (λ bytes gives. record {
      within = gives.within;
      rest = gives.rest;
      behind = moved_behind c.args.self.now.held _ bytes c.min-kept.result c.in_ok-n.n is
          (ap (λ (xs : List ℕ). take c.in_ok-n.n (drop c.min-kept.result xs)) back ∙ gives.given);
      at_end = gives.at_end;
    })
