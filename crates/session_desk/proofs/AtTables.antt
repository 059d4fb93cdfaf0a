-- What is asked for at a table is done with the desk's pass of it.
use Rattle.std.proofs.Common.{◌≡◌, ◌≢◌, ◌∙◌, inl, inr, refl, sym, ap, subst, ℕ, ◌+◌, suc, ◌<◌, ◌≤◌, Bool, true, false, List, [], ◌∷◌, ◌++◌, Option, Some, None, Result, Ok, Err, length, append-nil, arith}
use Rattle.std.specs.Prelude.{◌==◌, ◌&&◌, not, slice_get, is_ok, option_map, option_to_list, IfOk, MatchResult, if◌then◌else◌}
use Rattle.std.specs.List.{insert, remove}
use Rattle.std.proofs.lemmas.Bool.Decides.{nat_tests}
use Rattle.std.proofs.lemmas.Option.{same_Some}
use mathlib.Core.List.{IsPrefix}
use Rattle.floor_text.specs.declared.refusal.Refusal.{Refusal}
use Rattle.betting_round.specs.declared.act.Done.{Done}
use Rattle.table_engine.specs.declared.record.ActFault.{ActFault}
use Rattle.table_engine.specs.declared.record.ActFault.TheVariants as faults
use Rattle.table_engine.specs.declared.record.ActOf.{ActOf}
use Rattle.table_engine.specs.Acts.{IsAnswer, time_act}
use Rattle.table_engine.specs.Hands.{HandTerms}
use Rattle.view_rules.specs.declared.entries.TableEntry.{TableEntry}
use Rattle.view_rules.specs.declared.entries.TableEntry.TheVariants.{Acted}
use Rattle.dock_rules.specs.Added.{only_if}
use Rattle.dock_rules.specs.Tables.{called_entries, lying_hand}
use Rattle.history_lock.specs.declared.pass.Pass.{Pass}
use Rattle.history_lock.specs.Holds.{IsHold}
use Rattle.history_lock.specs.Passes.{pass_number, seen}
use Rattle.session_lines.specs.declared.reply.Reply.{Reply}
use Rattle.session_lines.specs.declared.reply.Reply.TheVariants as replies
use Rattle.session_desk.specs.declared.desk.Asked.{Asked}
use Rattle.session_desk.specs.declared.desk.Desk.{Desk}
use Rattle.session_desk.specs.Answers.{StandsAtTable, is_done, reply_told, times_asked}
use Rattle.session_desk.specs.Asking.{IsDoneAt, IsNoted}
use Rattle.session_desk.specs.Moves.{HasMoved}
use Rattle.session_desk.specs.Desks.{Brought, HasDeskMoved, acted_at, numbers_of, sights}
use Rattle.session_desk.specs.Standings.{count_of, is_memory}
use Rattle.session_desk.proofs.Moving.{hold-later, hold-left, moved-fewer, moved-hold}
use Rattle.session_desk.proofs.DeskMoves.{moved-at}
use Rattle.session_desk.proofs.Rows.{put-here}

-- a count of one at most
pub count-most : (so : Bool) → count_of so ≤ 1
count-most true = omega arith
count-most false = omega arith

-- no hold is counted of another table
none-elsewhere : (index : ℕ) (so : Bool) (table : ℕ) → table ≢ suc index → count_of ((table == suc index) && so) ≡ 0
none-elsewhere index so table ne =
    let other : (table == suc index) ≡ false = grind (arith, nat_tests) in
    rw other refl

-- an act is in the history of no other table
one-elsewhere : (one : Asked) (index : ℕ) → one.table ≡ suc index → (caller table : ℕ) → table ≢ suc index
    → acted_at caller table (one ∷ []) ≡ []
one-elsewhere one index its caller table ne =
    let other : (one.table == table) ≡ false = grind (arith, nat_tests) in
    rw other refl

-- and it is in that of its own
one-here : (one : Asked) (index caller : ℕ) → one.table ≡ suc index
    → acted_at caller (suc index) (one ∷ []) ≡ Acted caller one.act ∷ []
one-here one index caller its =
    let here : (one.table == suc index) ≡ true = grind (arith, nat_tests) in
    rw here refl

module _ (index : ℕ) (refusal : List TableEntry → Option Refusal) (brings : List TableEntry → List Asked)
    (who : Option (List ℕ)) (desk after : Desk) (pass later : Pass _ _ _) (at added : List TableEntry)
    (within : index < length desk.tables.items) (is : slice_get desk.tables.items index ≡ Some pass)
    (put : after.tables.items ≡ insert (remove desk.tables.items index) index later) (book : after.book ≡ desk.book)
    (hold : IsHold pass later at added) where
  -- how an act is listed
  abbrev listed : ActOf → Asked
  listed act = record { who = who; table = suc index; act = act }

  -- How often each pass was held, by the reply.
  abbrev looks : Reply → ℕ → ℕ
  looks reply other = count_of ((other == suc index) && not (is_memory reply))

  -- What the hold added is what was taken.
  abbrev pub Came : Result ActOf ActFault → Type 0
  Came (Ok act) = (brings at ≡ listed act ∷ []) × (added ≡ Acted (pass_number pass) act ∷ [])
  Came (Err fault) = added ≡ []

  -- The desk moved on by the acts that the hold added.
  moved-by : (reply : Reply) (acts : List Asked) → acted_at (pass_number pass) (suc index) acts ≡ added
      → ((caller table : ℕ) → table ≢ suc index → acted_at caller table acts ≡ [])
      → after.asked.items ≡ desk.asked.items ++ acts
      → HasDeskMoved 0 (looks reply) record { acts = acts; orders = [] } desk after
  moved-by reply acts same none asked =
      moved-at index (looks reply) acts desk after pass later within is put
      (none-elsewhere index (not (is_memory reply))) none book asked
      (subst (λ (l : List TableEntry). HasMoved (looks reply (suc index)) l pass later) (sym same)
      (moved-fewer (looks reply (suc index)) 1 added pass later (count-most _) (moved-hold pass later at added hold)))

  -- The reply stands at the history that the hold found.
  stands-at : (reply : Reply) (acts : List Asked) → acted_at (pass_number pass) (suc index) acts ≡ added
      → reply ≡ reply_told (refusal at) → acts ≡ (if is_done reply then brings at else [])
      → StandsAtTable ((numbers_of desk).tables (suc index)) (suc index) refusal brings
      ((sights desk).tables (suc index)) ((sights after).tables (suc index)) reply record { acts = acts; orders = [] }
  stands-at reply acts same told brought =
      let putted : slice_get after.tables.items index ≡ Some later =
      ap (λ items. slice_get items index) put ∙ put-here desk.tables.items index later within in
      record {
        at = at;
        later = rw is (hold-later pass later at added hold);
        earlier = rw (is, putted)
            (subst (λ (l : List TableEntry). IsPrefix (at ++ l) (seen later)) (sym same)
            (hold-left pass later at added hold));
        reply_is = told;
        brought_is = ap (λ (acts : List Asked). let b : Brought = record { acts = acts; orders = [] } in b) brought;
      }

  -- What was answered is done at the desk.
  done-suc : (taken : Result ActOf ActFault) (reply : Reply) → IsAnswer (refusal at) taken
      → IsNoted who (suc index) taken desk.asked.items after.asked.items reply → Came taken
      → IsDoneAt (suc index) refusal brings desk after reply
  done-suc (Ok act) reply answer noted came =
      let same : acted_at (pass_number pass) (suc index) (listed act ∷ []) ≡ added =
      one-here (listed act) index (pass_number pass) refl ∙ sym came.1 in
      subst (λ (r : Reply). IsDoneAt (suc index) refusal brings desk after r) (sym noted.1)
      record {
        brought = record { acts = listed act ∷ []; orders = [] };
        moved = moved-by replies.Ok (listed act ∷ []) same (one-elsewhere (listed act) index refl) noted.0;
        stands = inr (stands-at replies.Ok (listed act ∷ []) same (sym (ap reply_told answer)) (sym came.0));
      }
  done-suc (Err (faults.No reason)) reply answer noted came =
      subst (λ (r : Reply). IsDoneAt (suc index) refusal brings desk after r) (sym noted.1)
      record {
        brought = record { acts = []; orders = [] };
        moved = moved-by (replies.No reason) [] (sym came) (λ caller table ne. refl)
            (noted.0 ∙ sym (append-nil desk.asked.items));
        stands = inr (stands-at (replies.No reason) [] (sym came) (sym (ap reply_told answer)) refl);
      }
  done-suc (Err faults.NoMemory) reply answer noted came =
      subst (λ (r : Reply). IsDoneAt (suc index) refusal brings desk after r) (sym noted.1)
      record {
        brought = record { acts = []; orders = [] };
        moved = moved-by replies.NoMemory [] (sym came) (λ caller table ne. refl)
            (noted.0 ∙ sym (append-nil desk.asked.items));
        stands = inl record { said = refl; none = refl };
      }

  -- what was taken is what the hold added, by its two cases
  came-of : (taken : Result ActOf ActFault)
      → ((act : ActOf) → taken ≡ Ok act → (brings at ≡ listed act ∷ []) × (added ≡ Acted (pass_number pass) act ∷ []))
      → ((fault : ActFault) → taken ≡ Err fault → added ≡ []) → Came taken
  came-of (Ok act) some none = some act refl
  came-of (Err fault) some none = none fault refl

-- An act that was answered so was taken so, and is what the hold added.
pub act-came : (refusal : Option Refusal) (caller : ℕ) (act : ActOf) (done : Result Done ActFault)
    (taken : Result ActOf ActFault) (added : List TableEntry)
    → MatchResult done (λ _. taken ≡ Ok act) (λ fault. taken ≡ Err fault) → IsAnswer refusal done
    → added ≡ only_if (is_ok done) (Acted caller act)
    → IsAnswer refusal taken × ((made : ActOf) → taken ≡ Ok made → (made ≡ act) × (added ≡ Acted caller act ∷ []))
    × ((fault : ActFault) → taken ≡ Err fault → added ≡ [])
act-came refusal caller act (Ok done) taken added is answer came = (
  subst (λ (t : Result ActOf ActFault). IsAnswer refusal t) (sym is) answer,
  (λ made so. (cc (is, so), came)),
  (λ fault so. absurd (cc (is, so))),
)
act-came refusal caller act (Err (faults.No reason)) taken added is answer came = (
  subst (λ (t : Result ActOf ActFault). IsAnswer refusal t) (sym is) answer,
  (λ made so. absurd (cc (is, so))),
  (λ fault so. came),
)
act-came refusal caller act (Err faults.NoMemory) taken added is answer came = (
  subst (λ (t : Result ActOf ActFault). IsAnswer refusal t) (sym is) answer,
  (λ made so. absurd (cc (is, so))),
  (λ fault so. came),
)

-- A called time lists the act that it made, and added it.
called-by : (caller table : ℕ) (act : ActOf) (hand : Option HandTerms) → option_map time_act hand ≡ Some act
    → (option_to_list (option_map (λ (h : HandTerms).
    let a : Asked = record { who = None; table = table; act = time_act h } in a) hand)
    ≡ record { who = None; table = table; act = act } ∷ [])
    × (option_to_list (option_map (λ (h : HandTerms). Acted caller (time_act h)) hand) ≡ Acted caller act ∷ [])
called-by caller table act None is = absurd (cc)
called-by caller table act (Some hand) is =
    let same : time_act hand ≡ act = same_Some (time_act hand) act is in (
      ap (λ (made : ActOf). let l : List Asked = record { who = None; table = table; act = made } ∷ [] in l) same,
      ap (λ (made : ActOf). Acted caller made ∷ []) same,
    )

pub time-came : (caller table : ℕ) (at added : List TableEntry) (taken : Result ActOf ActFault)
    → IfOk taken (λ act. option_map time_act (lying_hand at) ≡ Some act)
    → added ≡ (if is_ok taken then called_entries caller at else [])
    → ((act : ActOf) → taken ≡ Ok act → (times_asked table at ≡ record { who = None; table = table; act = act } ∷ [])
    × (added ≡ Acted caller act ∷ [])) × ((fault : ActFault) → taken ≡ Err fault → added ≡ [])
time-came caller table at added (Ok act) made came = (
  (λ other so.
      let same : act ≡ other = cc in
      let both = called-by caller table other (lying_hand at) (made ∙ ap (λ (a : ActOf). Some a) same) in
      (both.0, came ∙ both.1)),
  (λ fault so. absurd (cc (so))),
)
time-came caller table at added (Err fault) made came = (
  (λ act so. absurd (cc (so))),
  (λ other so. came),
)

-- What was taken at the table of an index is done at its number.
pub done-at : (index table : ℕ) (refusal : List TableEntry → Option Refusal)
    (brings : ℕ → List TableEntry → List Asked) (who : Option (List ℕ)) (desk after : Desk) (pass later : Pass _ _ _)
    (at added : List TableEntry) (taken : Result ActOf ActFault) (reply : Reply) → index < length desk.tables.items
    → slice_get desk.tables.items index ≡ Some pass
    → after.tables.items ≡ insert (remove desk.tables.items index) index later → after.book ≡ desk.book
    → IsHold pass later at added → table ≡ index + 1 → IsAnswer (refusal at) taken
    → IsNoted who table taken desk.asked.items after.asked.items reply
    → ((act : ActOf) → taken ≡ Ok act → (brings table at ≡ record { who = who; table = table; act = act } ∷ [])
    × (added ≡ Acted (pass_number pass) act ∷ [])) → ((fault : ActFault) → taken ≡ Err fault → added ≡ [])
    → IsDoneAt table refusal (brings table) desk after reply
done-at index table refusal brings who desk after pass later at added taken reply within is put book hold its answer
    noted
    some none =
    let next : suc index ≡ table = omega (arith, its) in
    subst (λ (t : ℕ). IsDoneAt t refusal (brings t) desk after reply) next
    (done-suc index refusal (brings (suc index)) who desk after pass later at added within is put book hold taken reply
    answer
    (subst (λ (t : ℕ). IsNoted who t taken desk.asked.items after.asked.items reply) (sym next) noted)
    (came-of index refusal (brings (suc index)) who desk after pass later at added within is put book hold taken
    (λ act so. subst (λ (t : ℕ). (brings t at ≡ record { who = who; table = t; act = act } ∷ [])
    × (added ≡ Acted (pass_number pass) act ∷ [])) (sym next) (some act so)) none))
