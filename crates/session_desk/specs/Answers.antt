-- Which reply is right for a line, and what the line brings. This project's own.
use Rattle.std.specs.Prelude.{◌≡◌, ◌⊎◌, ℕ, Bool, true, false, List, [], ◌∷◌, ◌++◌, Option, Some, None, option_map, option_to_list, if◌then◌else◌}
use mathlib.Core.List.{IsPrefix}
use Rattle.floor_text.specs.declared.refusal.Refusal.{Refusal}
use Rattle.floor_text.specs.declared.refusal.Refusal.TheVariants.{Syntax, NoTable}
use Rattle.level_plan.specs.Items.{is_between}
use Rattle.betting_round.specs.declared.act.Act.{Act}
use Rattle.table_engine.specs.Acts.{time_act}
use Rattle.view_rules.specs.declared.entries.JournalEntry.{JournalEntry}
use Rattle.view_rules.specs.declared.entries.TableEntry.{TableEntry}
use Rattle.dock_rules.specs.declared.asks.Ask.{Ask}
use Rattle.dock_rules.specs.declared.asks.AskAnswer.{AskAnswer}
use Rattle.dock_rules.specs.declared.asks.AskAnswer.TheVariants as answers
use Rattle.dock_rules.specs.Added.{only_if}
use Rattle.dock_rules.specs.Tables.{act_refusal_at, lying_hand, time_refusal_at}
use Rattle.dock_rules.specs.Journals.{entry_told, tale_of}
use Rattle.dock_rules.specs.Points.{ask_answer, event_done}
use Rattle.session_lines.specs.declared.meaning.Meaning.{Meaning}
use Rattle.session_lines.specs.declared.meaning.Meaning.TheVariants as meanings
use Rattle.session_lines.specs.declared.reply.Reply.{Reply}
use Rattle.session_lines.specs.declared.reply.Reply.TheVariants.{Ok, Who, No, NoOrder, NoMemory}
use Rattle.session_lines.specs.declared.request.Request.{Request}
use Rattle.session_lines.specs.declared.request.Request.TheVariants as requests
use Rattle.session_desk.specs.declared.desk.Asked.{Asked}
use Rattle.session_desk.specs.Desks.{Brought, Numbers, Sights, acted_at, nothing}
use Rattle.session_desk.specs.Exchanges.{Answered}

-- whether a reply says that it was done
abbrev pub is_done : Reply → Bool
is_done Ok = true
is_done reply = false

-- the reply that tells a refusal, or that there is none
abbrev pub reply_told : Option Refusal → Reply
reply_told None = Ok
reply_told (Some refusal) = No refusal

-- the reply that tells what an order is answered
abbrev pub order_reply : AskAnswer → Reply
order_reply answers.Ok = Ok
order_reply (answers.No refusal) = No refusal
order_reply answers.NoOrder = NoOrder
order_reply answers.NoMemory = NoMemory

-- Memory ran out, and nothing was brought.
pub record RanOut (reply : Reply) (brought : Brought) : Type 0 where
  pub said : reply ≡ NoMemory
  pub none : brought ≡ nothing

-- What is asked for at a table stands at a history between these two: it is refused exactly as there, and else brings
-- what it comes to there, which is the next entry, by this caller.
pub record StandsAtTable (caller table : ℕ) (refusal : List TableEntry → Option Refusal)
    (brings : List TableEntry → List Asked) (before after : List TableEntry) (reply : Reply) (brought : Brought)
    : Type 0 where
  pub at : List TableEntry
  pub later : IsPrefix before at
  pub earlier : IsPrefix (at ++ acted_at caller table brought.acts) after
  pub reply_is : reply ≡ reply_told (refusal at)
  pub brought_is : brought ≡ record { acts = if is_done reply then brings at else []; orders = [] }

-- What is asked for at a table of so many: it is refused where there is no such table; else it stands at the table's
-- history, or memory ran out.
pub record IsAtTable (count : ℕ) (numbers : Numbers) (table : ℕ) (refusal : List TableEntry → Option Refusal)
    (brings : List TableEntry → List Asked) (before after : Sights) (reply : Reply) (brought : Brought) : Type 0 where
  pub missing : is_between 1 count table ≡ false → (reply ≡ No NoTable) × (brought ≡ nothing)
  pub there : is_between 1 count table ≡ true → RanOut reply brought
      ⊎ StandsAtTable (numbers.tables table) table refusal brings (before.tables table) (after.tables table) reply
      brought

-- the act of a player, as it is listed
abbrev pub act_asked : ℕ → List ℕ → Act → Asked
act_asked table name act =
    record { who = Some name; table = table; act = record { name = name; act = act; by_time = false } }

-- the called time, as it is listed: the act that it makes for the player who is due
abbrev pub times_asked : ℕ → List TableEntry → List Asked
times_asked table history =
    option_to_list (option_map (λ hand. record { who = None; table = table; act = time_act hand })
    (lying_hand history))

-- An order stands at a journal between these two: it is answered as there, and where it was carried out it brings the
-- next entry, by this caller.
pub record StandsAtBook (caller : ℕ) (ask : Ask) (before after : List JournalEntry) (reply : Reply)
    (brought : Brought) : Type 0 where
  pub at : List JournalEntry
  pub later : IsPrefix before at
  pub earlier : IsPrefix (at ++ brought.orders) after
  pub reply_is : reply ≡ order_reply (ask_answer (tale_of at) ask)
  pub brought_is : brought ≡ record {
    acts = [];
    orders = only_if (is_done reply) (entry_told (tale_of at) caller (event_done (tale_of at) ask) []);
  }

-- A reply without a look at anything: nothing is brought.
pub record IsSaid (wanted reply : Reply) (brought : Brought) : Type 0 where
  pub same : reply ≡ wanted
  pub none : brought ≡ nothing

-- The reply to what is asked for at a desk of so many tables, whose passes have these numbers and had seen and have
-- seen these.
module _ (count : ℕ) (numbers : Numbers) (before after : Sights) where
  abbrev pub IsReplyTo : Request → Reply → Brought → Type 0
  IsReplyTo (requests.Watch table) reply brought =
      IsSaid (if is_between 1 count table then Ok else No NoTable) reply brought
  IsReplyTo (requests.Act table name act) reply brought =
      IsAtTable count numbers table (λ at. act_refusal_at at name act) (λ at. act_asked table name act ∷ []) before
      after reply brought
  IsReplyTo (requests.Time table) reply brought =
      IsAtTable count numbers table time_refusal_at (times_asked table) before after reply brought
  IsReplyTo (requests.Order ask) reply brought =
      RanOut reply brought ⊎ StandsAtBook numbers.book ask before.journal after.journal reply brought

  -- The reply to a line, by what it means.
  abbrev pub IsReply : Meaning → Reply → Brought → Type 0
  IsReply meanings.Quit reply brought = IsSaid Ok reply brought
  IsReply (meanings.Hello speaker) reply brought = IsSaid Ok reply brought
  IsReply meanings.Stranger reply brought = IsSaid Who reply brought
  IsReply meanings.Nonsense reply brought = IsSaid (No Syntax) reply brought
  IsReply (meanings.Asks request) reply brought = IsReplyTo request reply brought

  -- The reply to a line, which nobody may have meant anything by: an Idle brings nothing.
  abbrev pub IsRightAnswer : Option Meaning → Option Answered → Brought → Type 0
  IsRightAnswer (Some meaning) (Some answered) brought = IsReply meaning answered.reply brought
  IsRightAnswer meaning answered brought = brought ≡ nothing
