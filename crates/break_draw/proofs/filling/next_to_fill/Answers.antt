use Rattle.std.proofs.Common.{◌≡◌, ◌∙◌, ◌<◌, refl, sym, subst, ℕ, length, Some}
use Rattle.balance_rule.specs.Filling.{count_with}
use Rattle.break_draw.proofs.Room.{lowest-has_room}
use Rattle.break_draw.proofs.Chosen.{chosen-places}
use Rattle.break_draw.proofs.filling.next_to_fill.Goals as goal

pub unwrap-other-requires : goal.unwrap-other-requires
unwrap-other-requires c =
    let lowest = lowest-has_room c.args.book.now c.args.table (length c.args.chosen.now) c.args.chosen.now
    c.requires.filled c.requires.room in
    rw (c.lowest_table.ensures.lowest (count_with c.args.book.now.players c.args.chosen.now) c.requires.counts
    ∙ lowest.1.0) refl

pub free_seat-requires-clause-places : goal.free_seat-requires-clause-places
free_seat-requires-clause-places c = chosen-places c.args.book.now c.args.table (length c.args.chosen.now)
    c.args.chosen.now c.requires.filled

pub free_seat-requires-clause-room : goal.free_seat-requires-clause-room
free_seat-requires-clause-room c =
    let lowest = lowest-has_room c.args.book.now c.args.table (length c.args.chosen.now) c.args.chosen.now
    c.requires.filled c.requires.room in
    let same : Some lowest.0 ≡ Some c.unwrap-other.result = sym (c.lowest_table.ensures.lowest
    (count_with c.args.book.now.players c.args.chosen.now) c.requires.counts ∙ lowest.1.0) ∙ c.unwrap-other.ensures in
    let one : lowest.0 ≡ c.unwrap-other.result = cc in
    subst (λ (n : ℕ). count_with c.args.book.now.players c.args.chosen.now n < c.args.book.now.seat_count) one
    lowest.1.1

pub returns-clause-room : goal.returns-clause-room
returns-clause-room c =
    let lowest = lowest-has_room c.args.book.now c.args.table (length c.args.chosen.now) c.args.chosen.now
    c.requires.filled c.requires.room in
    let same : Some lowest.0 ≡ Some c.unwrap-other.result = sym (c.lowest_table.ensures.lowest
    (count_with c.args.book.now.players c.args.chosen.now) c.requires.counts ∙ lowest.1.0) ∙ c.unwrap-other.ensures in
    let one : lowest.0 ≡ c.unwrap-other.result = cc in
    subst (λ (n : ℕ). count_with c.args.book.now.players c.args.chosen.now n < c.args.book.now.seat_count) one
    lowest.1.1
