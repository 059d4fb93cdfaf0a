use Rattle.dock_rules.specs.Journals.{book_of, hands_out, tale_of}
use Rattle.whole_laws.proofs.InSlots.{item-slot, slot-item}
use Rattle.whole_laws.proofs.HandsOut.{out-in_slots}
use Rattle.whole_laws.proofs.NoneOut.{none_out}
use Rattle.whole_laws.proofs.journals.the_hands_out_are_those_of_the_book.Goals as goal

pub returns-clause-at_table : goal.returns-clause-at_table
returns-clause-at_table c = λ journal table legal. (out-in_slots journal legal).each table

pub returns-clause-each : goal.returns-clause-each
returns-clause-each c = λ journal start legal.
    let are = out-in_slots journal legal in (
      slot-item (λ start. start.table) (hands_out journal) (book_of (tale_of journal)).started start are,
      item-slot (λ start. start.table) (hands_out journal) (book_of (tale_of journal)).started start are,
    )

pub returns-clause-stopped : goal.returns-clause-stopped
returns-clause-stopped c = none_out
