-- What a desk does that is asked for. This project's own.
use Rattle.std.specs.Prelude.{◌≡◌, ◌⊎◌, ◌==◌, ◌&&◌, ℕ, not, List, [], ◌∷◌, ◌++◌, Option, Result, Ok, Err}
use Rattle.floor_text.specs.declared.refusal.Refusal.{Refusal}
use Rattle.table_engine.specs.declared.record.ActFault.{ActFault}
use Rattle.table_engine.specs.declared.record.ActFault.TheVariants as faults
use Rattle.table_engine.specs.declared.record.ActOf.{ActOf}
use Rattle.view_rules.specs.declared.entries.TableEntry.{TableEntry}
use Rattle.session_lines.specs.declared.meaning.Meaning.{Meaning}
use Rattle.session_lines.specs.declared.meaning.Meaning.TheVariants.{Asks}
use Rattle.session_lines.specs.declared.reply.Reply.{Reply}
use Rattle.session_lines.specs.declared.reply.Reply.TheVariants as replies
use Rattle.session_lines.specs.declared.request.Request.{Request}
use Rattle.session_desk.specs.declared.desk.Asked.{Asked}
use Rattle.session_desk.specs.declared.desk.Desk.{Desk}
use Rattle.session_desk.specs.Answers.{IsReply, RanOut, StandsAtTable}
use Rattle.session_desk.specs.Desks.{Brought, HasDeskMoved, numbers_of, sights}
use Rattle.session_desk.specs.Standings.{count_of, is_asked_at, is_memory}

-- what an act is replied that was not taken
abbrev pub fault_reply : ActFault → Reply
fault_reply (faults.No refusal) = replies.No refusal
fault_reply faults.NoMemory = replies.NoMemory

-- An act is listed where it was taken, and is replied what it came to.
abbrev pub IsNoted : Option (List ℕ) → ℕ → Result ActOf ActFault → List Asked → List Asked → Reply → Type 0
IsNoted who table (Ok act) before after reply =
    (after ≡ before ++ record { who = who; table = table; act = act } ∷ []) × (reply ≡ replies.Ok)
IsNoted who table (Err fault) before after reply = (after ≡ before) × (reply ≡ fault_reply fault)

-- A desk did what is asked for at one of its tables: it stands at the table's history, or memory ran out.
pub record IsDoneAt (table : ℕ) (refusal : List TableEntry → Option Refusal) (brings : List TableEntry → List Asked)
    (before after : Desk) (reply : Reply) : Type 0 where
  pub brought : Brought
  pub moved : HasDeskMoved 0 (λ other. count_of ((other == table) && not (is_memory reply))) brought before after
  pub stands : RanOut reply brought
      ⊎ StandsAtTable ((numbers_of before).tables table) table refusal brings ((sights before).tables table)
      ((sights after).tables table) reply brought

-- A desk of so many tables did what a line means.
pub record HasAnswered (count : ℕ) (before after : Desk) (meaning : Meaning) (reply : Reply) : Type 0 where
  pub brought : Brought
  pub moved : HasDeskMoved 0 (λ table. count_of (is_asked_at count table meaning && not (is_memory reply))) brought
      before after
  pub reply_is : IsReply count (numbers_of before) (sights before) (sights after) meaning reply brought

-- A desk of so many tables did what is asked for.
abbrev pub HasCarriedOut : ℕ → Desk → Desk → Request → Reply → Type 0
HasCarriedOut count before after request reply = HasAnswered count before after (Asks request) reply
