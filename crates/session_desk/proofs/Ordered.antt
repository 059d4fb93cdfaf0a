-- The floor's order at a desk.
use Rattle.std.proofs.Common.{◌≡◌, ◌⊎◌, ◌∙◌, inl, inr, refl, sym, ap, List, [], length, append-nil, arith}
use Rattle.view_rules.specs.declared.entries.JournalEntry.{JournalEntry}
use Rattle.dock_rules.specs.declared.asks.Ask.{Ask}
use Rattle.dock_rules.specs.declared.asks.AskAnswer.{AskAnswer}
use Rattle.dock_rules.specs.declared.asks.AskAnswer.TheVariants as answers
use Rattle.dock_rules.specs.Added.{only_if}
use Rattle.dock_rules.specs.Journals.{entry_told, tale_of}
use Rattle.dock_rules.specs.Points.{IsAskAnswer, ask_answer, event_done, is_done}
use Rattle.history_lock.specs.Holds.{IsHold}
use Rattle.history_lock.specs.Passes.{pass_number, seen}
use Rattle.session_lines.specs.declared.request.Request.TheVariants as requests
use Rattle.session_desk.specs.declared.desk.Desk.{Desk}
use Rattle.session_desk.specs.Answers.{RanOut, StandsAtBook, order_reply}
use Rattle.session_desk.specs.Asking.{HasCarriedOut}
use Rattle.session_desk.specs.Desks.{Brought, of_table}
use Rattle.session_desk.specs.Moves.{HasMoved}
use Rattle.session_desk.proofs.Moving.{hold-later, hold-left, moved-fewer, moved-hold, moved-none}
use Rattle.session_desk.proofs.Rows.{with-itself}

-- what an order brings: entries of the journal alone
abbrev brings : List JournalEntry → Brought
brings added = record { acts = []; orders = added }

-- What an order was answered stands at the journal that its hold found, or memory ran out.
order-stands : (desk after : Desk) (ask : Ask) (answer : AskAnswer) (at added : List JournalEntry)
    → IsHold desk.book after.book at added → IsAskAnswer (ask_answer (tale_of at) ask) answer
    → added ≡ only_if (is_done answer) (entry_told (tale_of at) (pass_number desk.book) (event_done
    (tale_of at) ask) [])
    → RanOut (order_reply answer) (brings added)
    ⊎ StandsAtBook (pass_number desk.book) ask (seen desk.book) (seen after.book) (order_reply answer) (brings added)
order-stands desk after ask answers.Ok at added hold is came = inr record {
  at = at;
  later = hold-later desk.book after.book at added hold;
  earlier = hold-left desk.book after.book at added hold;
  reply_is = ap order_reply is;
  brought_is = ap brings came;
}
order-stands desk after ask (answers.No refusal) at added hold is came = inr record {
  at = at;
  later = hold-later desk.book after.book at added hold;
  earlier = hold-left desk.book after.book at added hold;
  reply_is = ap order_reply is;
  brought_is = ap brings came;
}
order-stands desk after ask answers.NoOrder at added hold is came = inr record {
  at = at;
  later = hold-later desk.book after.book at added hold;
  earlier = hold-left desk.book after.book at added hold;
  reply_is = ap order_reply is;
  brought_is = ap brings came;
}
order-stands desk after ask answers.NoMemory at added hold is came = inl record { said = refl; none = ap brings came }

-- An order that one hold of the book's pass carried out.
pub order-carried : (desk after : Desk) (ask : Ask) (answer : AskAnswer) (at added : List JournalEntry)
    → after.tables ≡ desk.tables → after.asked ≡ desk.asked → IsHold desk.book after.book at added
    → IsAskAnswer (ask_answer (tale_of at) ask) answer
    → added ≡ only_if (is_done answer) (entry_told (tale_of at) (pass_number desk.book) (event_done
    (tale_of at) ask) [])
    → HasCarriedOut 0 desk after (requests.Order ask) (order_reply answer)
order-carried desk after ask answer at added tables asked hold is came = record {
  brought = brings added;
  moved = record {
    book = moved-fewer 0 1 added desk.book after.book (omega arith) (moved-hold desk.book after.book at added hold);
    count = ap (λ row. length row.items) tables;
    tables = λ table.
        let e : after.tables ≡ desk.tables = tables in
        rw e (with-itself (λ one other. HasMoved 0 [] one other) moved-none (of_table desk.tables.items table));
    asked = ap (λ list. list.items) asked ∙ sym (append-nil desk.asked.items);
  };
  reply_is = order-stands desk after ask answer at added hold is came;
}
