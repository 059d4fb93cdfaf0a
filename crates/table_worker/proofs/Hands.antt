-- The hands of a table's history, entry by entry, and what entries of others leave of them.
use Rattle.std.proofs.Common.{◌≡◌, ◌∙◌, refl, sym, ap, ◌==◌, Bool, true, false, cond, List, [], ◌∷◌, ◌++◌, fold, append-nil}
use Rattle.std.specs.Prelude.{filter, Option, None, Some, option_map, option_to_list}
use Rattle.std.proofs.lemmas.List.Sums.{fold-append}
use Rattle.std.proofs.lemmas.List.Elements.{filter-append, filter_map-append}
use Rattle.table_engine.specs.declared.record.ActOf.{ActOf}
use Rattle.table_engine.specs.declared.start.HandStart.{HandStart}
use Rattle.table_engine.specs.Hands.{HandTerms}
use Rattle.history_lock.specs.Entries.{entries_by}
use Rattle.view_rules.specs.declared.entries.TableEntry.{TableEntry}
use Rattle.view_rules.specs.declared.entries.TableEntry.TheVariants.{Acted, Closed, Opened}
use Rattle.view_rules.specs.Entries.{hand_told, with_act}
use Rattle.dock_rules.specs.Tables.{lying_hand, openings, start_opened, table_caller}
use Rattle.dock_rules.specs.Whole.{TableHands, hands_after, hands_of, no_hands}
use Rattle.dock_rules.proofs.Tables.{openings-workers}
use Rattle.table_worker.specs.Ties.{hands_closed, is_act, workers_acts}

-- The hands after one more entry.
pub hands-push : (history : List TableEntry) (entry : TableEntry)
    → hands_of (history ++ entry ∷ []) ≡ hands_after (hands_of history) entry
unfolding hands_of
hands-push history entry = fold-append hands_after no_hands history (entry ∷ [])

hands-append : (history more : List TableEntry) → hands_of (history ++ more) ≡ fold hands_after (hands_of history) more
unfolding hands_of
hands-append history more = fold-append hands_after no_hands history more

lying-from : (hands : TableHands) (history : List TableEntry)
    → (fold hands_after hands history).lying ≡ fold hand_told hands.lying history
lying-from hands [] = refl
lying-from hands (Opened start ∷ history) = lying-from (hands_after hands (Opened start)) history
lying-from hands (Acted caller act ∷ history) = lying-from (hands_after hands (Acted caller act)) history
lying-from hands (Closed ∷ history) = lying-from (hands_after hands Closed) history

-- The hand that lies there is the same.
pub hands-lying : (history : List TableEntry) → (hands_of history).lying ≡ lying_hand history
unfolding hands_of lying_hand
hands-lying history = lying-from no_hands history

-- One hand more is closed.
pub closed-push : (history : List TableEntry) (hand : HandTerms) → lying_hand history ≡ Some hand
    → hands_closed (history ++ Closed ∷ []) ≡ hands_closed history ++ hand ∷ []
closed-push history hand lies =
    ap (λ (hands : TableHands). hands.closed) (hands-push history Closed)
    ∙ ap (λ (found : Option HandTerms). hands_closed history ++ option_to_list found) (hands-lying history ∙ lies)

-- An opening closes none.
pub closed-opened : (history : List TableEntry) (start : HandStart)
    → hands_closed (history ++ Opened start ∷ []) ≡ hands_closed history
closed-opened history start = ap (λ (hands : TableHands). hands.closed) (hands-push history (Opened start))

-- One hand more is opened.
pub openings-opened : (history : List TableEntry) (start : HandStart)
    → openings (history ++ Opened start ∷ []) ≡ openings history ++ start ∷ []
openings-opened history start = filter_map-append start_opened history (Opened start ∷ [])

-- A closing opens none.
pub openings-closed : (history : List TableEntry) → openings (history ++ Closed ∷ []) ≡ openings history
openings-closed history = filter_map-append start_opened history (Closed ∷ []) ∙ append-nil (openings history)

-- An opening and a closing are no acts of the worker.
pub acts-opened : (history : List TableEntry) (start : HandStart)
    → workers_acts (history ++ Opened start ∷ []) ≡ workers_acts history
acts-opened history start =
    ap (filter is_act) (filter-append (λ entry. table_caller entry == 0) history (Opened start ∷ []))
    ∙ (filter-append is_act (entries_by table_caller 0 history) (Opened start ∷ []) ∙ append-nil (workers_acts history))

pub acts-closed : (history : List TableEntry) → workers_acts (history ++ Closed ∷ []) ≡ workers_acts history
acts-closed history =
    ap (filter is_act) (filter-append (λ entry. table_caller entry == 0) history (Closed ∷ []))
    ∙ (filter-append is_act (entries_by table_caller 0 history) (Closed ∷ []) ∙ append-nil (workers_acts history))

-- the start of a hand, where there is one
abbrev pub start_in : Option HandTerms → Option HandStart
start_in found = option_map (λ (hand : HandTerms). hand.start) found

-- What entries of others leave of a table's history: they are acts, so all but the acts is as it was.
pub record IsSameButActs (before after : List TableEntry) : Type 0 where
  pub closed : hands_closed after ≡ hands_closed before
  pub opened : openings after ≡ openings before
  pub lying : start_in (lying_hand after) ≡ start_in (lying_hand before)
  pub acts : workers_acts after ≡ workers_acts before

acted-start : (act : ActOf) (found : Option HandTerms) → start_in (option_map (with_act act) found) ≡ start_in found
acted-start act None = refl
acted-start act (Some hand) = refl

-- what entries of others leave of the hands
record AreSameHands (before after : TableHands) : Type 0 where
  closed : after.closed ≡ before.closed
  lying : start_in after.lying ≡ start_in before.lying

same_hands : (hands : TableHands) (others : List TableEntry) → entries_by table_caller 0 others ≡ []
    → AreSameHands hands (fold hands_after hands others)
same_hands hands [] none = record { closed = refl; lying = refl }
same_hands hands (Opened start ∷ others) none = absurd cc
same_hands hands (Closed ∷ others) none = absurd cc
same_hands hands (Acted caller act ∷ others) none =
    step (caller == 0) none (same_hands (hands_after hands (Acted caller act)) others)
  where
    step : (mine : Bool)
        → cond mine (Acted caller act ∷ entries_by table_caller 0 others) (entries_by table_caller 0 others) ≡ []
        → (entries_by table_caller 0 others ≡ []
        → AreSameHands (hands_after hands (Acted caller act))
        (fold hands_after (hands_after hands (Acted caller act)) others))
        → AreSameHands hands (fold hands_after (hands_after hands (Acted caller act)) others)
    step true none further = absurd cc
    step false none further =
        let there = further none in
        record { closed = there.closed; lying = there.lying ∙ acted-start act hands.lying }

none-opened : (others : List TableEntry) → entries_by table_caller 0 others ≡ [] → openings others ≡ []
none-opened others none = sym (openings-workers others) ∙ ap openings none

-- Entries of others leave all but the acts as it was.
pub same-others : (before others : List TableEntry) → entries_by table_caller 0 others ≡ []
    → IsSameButActs before (before ++ others)
same-others before others none =
    let hands = same_hands (hands_of before) others none in
    let is = hands-append before others in
    record {
      closed = ap (λ (hands : TableHands). hands.closed) is ∙ hands.closed;
      opened = filter_map-append start_opened before others
          ∙ (ap (λ (starts : List HandStart). openings before ++ starts) (none-opened others none)
          ∙ append-nil (openings before));
      lying = ap start_in (sym (hands-lying (before ++ others)))
          ∙ (ap (λ (hands : TableHands). start_in hands.lying) is ∙ (hands.lying ∙ ap start_in (hands-lying before)));
      acts = ap (filter is_act) (filter-append (λ entry. table_caller entry == 0) before others
          ∙ (ap (λ (rest : List TableEntry). entries_by table_caller 0 before ++ rest) none
          ∙ append-nil (entries_by table_caller 0 before)));
    }

-- No hand is closed by no history.
pub closed-nil : hands_closed [] ≡ []
unfolding hands_of
closed-nil = refl
