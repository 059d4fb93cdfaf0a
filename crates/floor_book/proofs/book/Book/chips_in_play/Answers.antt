use Rattle.std.proofs.Common.{◌≡◌, ap, List, arith}
use Rattle.std.specs.Prelude.{sum_by, Option}
use Rattle.table_engine.specs.declared.start.HandStart.{HandStart}
use Rattle.table_engine.specs.Starts.{chips_of}
use Rattle.tournament_rules.specs.Books.{starters_of}
use Rattle.tournament_rules.specs.Chips.{play_of}
use Rattle.tournament_rules.proofs.Begins.{few_chips}
use Rattle.floor_book.specs.Fields.{book_of}
use Rattle.floor_book.proofs.book.Book.chips_in_play.Goals as goal

pub play_of-requires : goal.play_of-requires
play_of-requires c =
    let book = book_of c.self.inside in
    let kept = c.self.invariant.chips in
    let few = few_chips book c.self.invariant in
    let same : sum_by (λ (start : Option HandStart). chips_of (starters_of start)) c.deref.result.now ≡ play_of book =
    ap (λ (started : List (Option HandStart)). sum_by (λ (start : Option HandStart). chips_of (starters_of start)) started)
    c.deref.ensures.value in
    omega (arith, kept, few, same)
