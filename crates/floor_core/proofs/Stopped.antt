-- What is left of the hands once the tournament is stopped.
use Rattle.std.proofs.Common.{◌≡◌, ◌∙◌, refl, sym, ap, ℕ, List, length, map, arith}
use Rattle.std.specs.Prelude.{replicate, Option, None}
use Rattle.table_engine.specs.Hands.{HandTerms}
use Rattle.tournament_rules.specs.Books.{BookState}
use Rattle.tournament_rules.specs.Effects.{stopped_book}
use Rattle.tournament_rules.specs.Valid.{IsValid}
use Rattle.tournament_rules.specs.Apart.{start_of}
use Rattle.tournament_rules.proofs.Ends.{left-void_first, valid_stopped, none_started-stopped}
use Rattle.tournament_rules.proofs.Layers.{all_empty, hands_length, map_empty}

-- A stop leaves no hand out, and each table keeps its slot.
pub stopped_hands : (book : BookState) (hands : List (Option HandTerms)) → IsValid book → map start_of hands ≡ book.started
    → map start_of (replicate (length hands) None) ≡ (stopped_book book).started
stopped_hands book hands valid tied =
    let none = all_empty (stopped_book book).started (λ table. none_started-stopped book table valid) in
    let tables = left-void_first (λ book. book.plan.tables) (record { same = λ book table payees. refl }) book
    book.plan.tables in
    let after = (valid_stopped book valid).tables.room in
    let before = valid.tables.room in
    let same = hands_length book hands tied in
    let size : length hands ≡ length (stopped_book book).started = omega (arith, same, tables, after, before) in
    map_empty start_of (length hands) None ∙ (ap (λ (count : ℕ). replicate count None) size ∙ sym none)
