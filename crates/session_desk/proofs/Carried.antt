-- What a line means is done at a desk.
use Rattle.std.proofs.Common.{◌≡◌, ◌∙◌, inl, refl, subst, sym, ℕ, ◌+◌, suc, ◌<◌, Bool, [], ◌∷◌, true, false, List, Option, Some, length, get_or, arith}
use Rattle.std.specs.Prelude.{◌==◌, ◌&&◌, not, slice_get, IfSome, if◌then◌else◌}
use Rattle.std.proofs.lemmas.Bool.Decides.{nat_tests}
use Rattle.std.proofs.lemmas.Option.{slice_get_read}
use Rattle.floor_text.specs.declared.refusal.Refusal.{Refusal}
use Rattle.floor_text.specs.declared.refusal.Refusal.TheVariants.{NoTable}
use Rattle.level_plan.specs.Items.{is_between}
use Rattle.betting_round.specs.declared.act.Act.{Act}
use Rattle.view_rules.specs.declared.entries.TableEntry.{TableEntry}
use Rattle.dock_rules.specs.declared.asks.Ask.{Ask}
use Rattle.dock_rules.specs.Tables.{act_refusal_at, time_refusal_at}
use Rattle.history_lock.specs.Passes.{lock_of}
use Rattle.table_dock.specs.declared.dock.TableDock.{TableDock}
use Rattle.table_dock.specs.Docks.{dock_id, table_of}
use Rattle.session_lines.specs.declared.meaning.Meaning.{Meaning}
use Rattle.session_lines.specs.declared.reply.Reply.{Reply}
use Rattle.session_lines.specs.declared.reply.Reply.TheVariants as replies
use Rattle.session_lines.specs.declared.request.Request.TheVariants as requests
use Rattle.session_desk.specs.declared.desk.Asked.{Asked}
use Rattle.session_desk.specs.declared.desk.Desk.{Desk}
use Rattle.session_desk.specs.Answers.{IsAtTable, IsReply, act_asked, times_asked}
use Rattle.session_desk.specs.Asking.{HasAnswered, HasCarriedOut, IsDoneAt}
use Rattle.session_desk.specs.Desks.{AreInOrder, ArePassesOf, Brought, HasDeskMoved, nothing, numbers_of, sights}
use Rattle.session_desk.specs.Standings.{count_of, is_asked_at, is_memory}
use Rattle.session_desk.proofs.DeskMoves.{IsSame, moved-alike, moved-from, moved-still, same-desk}

-- no hold is counted where there is no such table
none-missing : (there here well : Bool) → there ≡ false → count_of ((there && here) && well) ≡ 0
none-missing false here well lost = refl
none-missing true here well lost = absurd (cc (lost))

-- and none where memory ran out
pub none-memory : (so : Bool) → count_of (so && false) ≡ 0
none-memory false = refl
none-memory true = refl

-- where there is such a table, its holds are counted
some-there : (there : Bool) (other table : ℕ) (well : Bool) → there ≡ true
    → count_of ((other == table) && well) ≡ count_of ((there && (table == other)) && well)
some-there true other table well found =
    let same : (other == table) ≡ (table == other) = grind (arith, nat_tests) in
    rw same refl
some-there false other table well found = absurd (cc (found))

module _ (count table : ℕ) (refusal : List TableEntry → Option Refusal) (brings : List TableEntry → List Asked) where
  -- What is asked for at a table of a number was answered.
  pub record IsCarried (before after : Desk) (reply : Reply) : Type 0 where
    pub brought : Brought
    pub moved : HasDeskMoved 0 (λ other. count_of ((is_between 1 count table && (table == other))
        && not (is_memory reply))) brought before after
    pub reply_is : IsAtTable count (numbers_of before) table refusal brings (sights before) (sights after) reply brought

  -- there is no such table
  carried-missing : (before after : Desk) → is_between 1 count table ≡ false → IsSame before after
      → IsCarried before after (replies.No NoTable)
  carried-missing before after lost same = record {
    brought = nothing;
    moved = moved-still (λ other. count_of ((is_between 1 count table && (table == other)) && true)) before after
        (λ other. none-missing (is_between 1 count table) (table == other) true lost) same;
    reply_is = record { missing = λ _. (refl, refl); there = λ found. absurd (cc (lost, found)) };
  }

  -- memory ran out
  carried-memory : (before after : Desk) → is_between 1 count table ≡ true → IsSame before after
      → IsCarried before after replies.NoMemory
  carried-memory before after found same = record {
    brought = nothing;
    moved = moved-still (λ other. count_of ((is_between 1 count table && (table == other)) && false)) before after
        (λ other. none-memory (is_between 1 count table && (table == other))) same;
    reply_is = record {
      missing = λ lost. absurd (cc (lost, found));
      there = λ _. inl record { said = refl; none = refl };
    };
  }

  -- It was not done: there is no such table, or memory ran out.
  pub carried-refused : (before after : Desk) (reply : Reply) → IsSame before after
      → reply ≡ (if is_between 1 count table then replies.NoMemory else replies.No NoTable)
      → IsCarried before after reply
  carried-refused before after reply same is = by_test (is_between 1 count table) refl is
    where
      by_test : (there : Bool) → is_between 1 count table ≡ there
          → reply ≡ (if there then replies.NoMemory else replies.No NoTable) → IsCarried before after reply
      by_test true found is = subst (IsCarried before after) (sym is) (carried-memory before after found same)
      by_test false lost is = subst (IsCarried before after) (sym is) (carried-missing before after lost same)

  -- It was done at the table.
  pub carried-there : (before start after : Desk) (reply : Reply) → is_between 1 count table ≡ true
      → IsSame before start → IsDoneAt table refusal brings start after reply → IsCarried before after reply
  carried-there before start after reply found same done = record {
    brought = done.brought;
    moved = moved-alike 0 (λ other. count_of ((other == table) && not (is_memory reply)))
        (λ other. count_of ((is_between 1 count table && (table == other)) && not (is_memory reply))) done.brought
        before after (λ other. some-there (is_between 1 count table) other table (not (is_memory reply)) found)
        (moved-from 0 (λ other. count_of ((other == table) && not (is_memory reply))) done.brought before start after
        same done.moved);
    reply_is = record {
      missing = λ lost. absurd (cc (lost, found));
      there = λ _. let e : start.tables ≡ before.tables = same.tables in rw (← e) done.stands;
    };
  }

-- A reply without a look at anything.
pub answered-still : (count : ℕ) (desk : Desk) (meaning : Meaning) (reply : Reply)
    → ((table : ℕ) → is_asked_at count table meaning ≡ false)
    → IsReply count (numbers_of desk) (sights desk) (sights desk) meaning reply nothing
    → HasAnswered count desk desk meaning reply
answered-still count desk meaning reply none is = record {
  brought = nothing;
  moved = moved-still (λ table. count_of (is_asked_at count table meaning && not (is_memory reply))) desk desk
      (λ table. let lost : is_asked_at count table meaning ≡ false = none table in rw lost refl) (same-desk desk);
  reply_is = is;
}

-- An order is carried out alike, however many tables there are.
pub order-anywhere : (count : ℕ) (before after : Desk) (ask : Ask) (reply : Reply)
    → HasCarriedOut 0 before after (requests.Order ask) reply
    → HasCarriedOut count before after (requests.Order ask) reply
order-anywhere count before after ask reply done = record {
  brought = done.brought;
  moved = done.moved;
  reply_is = done.reply_is;
}

-- the dock of an index
dock-at : (docks : List TableDock) (index : ℕ) (dock : TableDock) → index < length docks
    → dock ≡ get_or docks index dock → slice_get docks index ≡ Some dock
dock-at docks index dock within is = slice_get_read docks (length docks) index dock refl within is

-- The desk's pass of the dock of an index.
pub pass-at : (docks : List TableDock) (desk : Desk) (index : ℕ) (dock : TableDock) → ArePassesOf docks desk
    → index < length docks → dock ≡ get_or docks index dock
    → IfSome (slice_get desk.tables.items index) (λ pass. lock_of pass ≡ dock_id dock)
pass-at docks desk index dock passes within is = passes (suc index) dock (dock-at docks index dock within is)

-- And the number of its table.
pub number-at : (docks : List TableDock) (index : ℕ) (dock : TableDock) → AreInOrder docks → index < length docks
    → dock ≡ get_or docks index dock → table_of dock ≡ index + 1
number-at docks index dock order within is =
    let next : suc index ≡ index + 1 = omega arith in order (suc index) dock (dock-at docks index dock within is) ∙ next

-- A player's act was answered.
pub act-answered : (count table : ℕ) (name : List ℕ) (act : Act) (before after : Desk) (reply : Reply)
    → IsCarried count table (λ at. act_refusal_at at name act) (λ at. act_asked table name act ∷ []) before after reply
    → HasCarriedOut count before after (requests.Act table name act) reply
act-answered count table name act before after reply done = record {
  brought = done.brought;
  moved = done.moved;
  reply_is = done.reply_is;
}

-- A called time was answered.
pub time-answered : (count table : ℕ) (before after : Desk) (reply : Reply)
    → IsCarried count table time_refusal_at (times_asked table) before after reply
    → HasCarriedOut count before after (requests.Time table) reply
time-answered count table before after reply done = record {
  brought = done.brought;
  moved = done.moved;
  reply_is = done.reply_is;
}
