-- Turns that are made of a hold and what follows it.
use Rattle.std.proofs.Common.{◌≡◌, ◌∙◌, refl, sym, ap, subst, ℕ, ◌+◌, ◌≤◌, Bool, true, false, List, [], ◌∷◌, ◌++◌, append_assoc}
use Rattle.std.specs.Prelude.{◌&&◌, Option, Some, None, is_none, is_some, unwrap_or, Err, if◌then◌else◌}
use mathlib.Core.List.{IsPrefix}
use Rattle.table_engine.specs.declared.record.ActFault.{ActFault}
use Rattle.table_engine.specs.declared.record.ActFault.TheVariants as faults
use Rattle.table_engine.specs.Acts.{IsAnswer}
use Rattle.table_engine.specs.Hands.{HandTerms}
use Rattle.history_lock.specs.Holds.{IsHold}
use Rattle.history_lock.specs.Passes.{pass_number, seen}
use Rattle.view_rules.specs.declared.entries.JournalEntry.{JournalEntry}
use Rattle.view_rules.specs.declared.entries.TableEntry.{TableEntry}
use Rattle.view_rules.specs.declared.entries.TableEntry.TheVariants as entries
use Rattle.dock_rules.specs.Added.{only_if}
use Rattle.dock_rules.specs.Journals.{Tale, tale_of}
use Rattle.dock_rules.specs.Points.{hand_begun, next_begin, refusal_at}
use Rattle.table_worker.specs.declared.stage.Stage.{Stage}
use Rattle.table_worker.specs.declared.turn.Turn.{Turn}
use Rattle.table_worker.specs.declared.turn.Turn.TheVariants.{Opened, NotNow, Lying, Settled, Ordered, Ended, NoMemory}
use Rattle.table_worker.specs.declared.worker.Worker.{Worker}
use Rattle.table_worker.specs.Stages.{does_ask, does_lie, hand_carried, is_done}
use Rattle.table_worker.specs.Turns.{DidTurn, IsTurn, NoneWasOwed, begin_entry, count_of, is_ended, is_stopping, turn_given_up}
use Rattle.table_worker.specs.Visits.{IsVisit}
use Rattle.table_worker.proofs.Visiting.{seen-longer, visit-after, visit-fewer, visit-hold}

-- What begins a list begins one that goes on.
prefix-twice : {A : Type 0} (first second third : List A) → IsPrefix first second → IsPrefix second third
    → IsPrefix first third
prefix-twice first second third one two = (
  one.0 ++ two.0,
  sym (append_assoc first one.0 two.0) ∙ (ap (λ front. front ++ two.0) one.1 ∙ two.1),
)

-- A turn with so many holds at least is one with fewer at least.
pub turn-fewer : (fewer least : ℕ) (before after : Worker) (turn : Turn) → fewer ≤ least
    → IsTurn least before after turn → IsTurn fewer before after turn
turn-fewer fewer least before after turn fits is = record {
  journal = is.journal;
  brought = is.brought;
  history = is.history;
  made = is.made;
  book = visit-fewer fewer least before.book after.book is.journal is.brought fits is.book;
  dock = is.dock;
  did = is.did;
  asked = is.asked;
}

-- What stages that tell the same of the hand have in common.
pub record AreAlike (one other : Stage) : Type 0 where
  pub lie : does_lie one ≡ does_lie other
  pub carry : hand_carried one ≡ hand_carried other
  pub ask : does_ask one ≡ true → does_ask other ≡ true

module _ (k table : ℕ) (one other after : Stage) (tale : Tale) (history : List TableEntry)
    (brought : List JournalEntry) (made : List TableEntry) (alike : AreAlike one other) where
  -- What a turn did from the one is what it did from the other.
  pub did-alike : (turn : Turn) → DidTurn k table one after tale history brought made turn
      → DidTurn k table other after tale history brought made turn
  did-alike Opened did = record {
    lay_not = sym alike.lie ∙ did.lay_not;
    lies = did.lies;
    accepted = λ none. did.accepted (alike.carry ∙ none);
    brought_begin = did.brought_begin
        ∙ ap (λ (found : Option HandTerms). only_if (is_none found)
        (begin_entry k table tale)) alike.carry;
    made_opening = did.made_opening
        ∙ ap (λ (found : Option HandTerms). entries.Opened (unwrap_or found (hand_begun tale table)).start ∷ [])
        alike.carry;
  }
  did-alike (NotNow refusal) did = record {
    lay_not = sym alike.lie ∙ did.lay_not;
    none = sym alike.carry ∙ did.none;
    lies_not = did.lies_not;
    none_yet = did.none_yet;
    idle = did.idle;
    refused = did.refused;
    going = did.going;
    brought_none = did.brought_none;
    made_none = did.made_none;
  }
  did-alike Lying did = record {
    lay = sym alike.lie ∙ did.lay;
    lies = did.lies;
    hand = did.hand;
    lying = did.lying;
    plays = did.plays;
    brought_none = did.brought_none;
    made_none = did.made_none;
  }
  did-alike Settled did = record {
    lay = sym alike.lie ∙ did.lay;
    asks = did.asks;
    hand = did.hand;
    lying = did.lying;
    over = did.over;
    brought_settle = did.brought_settle;
    made_end = did.made_end;
  }
  did-alike Ordered did = record {
    asked = alike.ask did.asked;
    asks = did.asks;
    order = did.order;
    owed = did.owed;
    lawful = did.lawful;
    brought_order = did.brought_order;
    made_none = did.made_none;
  }
  did-alike Ended did = record {
    done = did.done;
    brought_none = did.brought_none;
    made_end = did.made_end ∙ ap (λ (lay : Bool). only_if lay entries.Closed) alike.lie;
  }
  did-alike NoMemory did = record {
    lay_not = sym alike.lie ∙ did.lay_not;
    lies_not = did.lies_not;
    asks = λ asks. alike.ask (did.asks asks);
    kept = λ some. did.kept (ap is_some alike.carry ∙ some);
    hand = λ hand is. did.hand hand is
        ∙ ap (λ (found : Option HandTerms). unwrap_or found (hand_begun tale table)) alike.carry;
    brought_begin = did.brought_begin
        ∙ ap (λ (found : Option HandTerms). only_if (is_none found && is_some (hand_carried after))
        (begin_entry k table tale)) alike.carry;
    made_none = did.made_none;
  }

-- A worker made a hold of the book's pass that added nothing.
pub record IsNoting (before mid : Worker) (at : List JournalEntry) : Type 0 where
  pub hold : IsHold before.book mid.book at []
  pub dock : mid.dock ≡ before.dock
  pub table : mid.table ≡ before.table

-- Such a hold and then a turn are a turn with a hold more, where the stages before both are alike.
pub turn-after : (least : ℕ) (before mid after : Worker) (at : List JournalEntry) (turn : Turn)
    → IsNoting before mid at → AreAlike mid.stage before.stage
    → ((journal : List JournalEntry) → IsPrefix (seen mid.book) journal
    → (does_ask mid.stage ≡ true → does_ask after.stage ≡ false → is_ended turn ≡ false
    → NoneWasOwed (seen mid.book) journal)
    → does_ask before.stage ≡ true → does_ask after.stage ≡ false → is_ended turn ≡ false
    → NoneWasOwed (seen before.book) journal)
    → IsTurn least mid after turn → IsTurn (least + 1) before after turn
turn-after least before mid after at turn noting alike asked is =
    let journal : List JournalEntry = is.journal in
    record {
      journal = journal;
      brought = is.brought;
      history = is.history;
      made = is.made;
      book = visit-after least before.book mid.book after.book at journal is.brought noting.hold is.book;
      dock = subst (λ (lay : Bool). IsVisit (count_of lay) before.dock after.dock is.history is.made) alike.lie
          (subst (λ pass. IsVisit (count_of (does_lie mid.stage)) pass after.dock is.history is.made) noting.dock
          is.dock);
      did = did-alike (pass_number before.book) before.table mid.stage before.stage after.stage (tale_of journal)
          is.history is.brought is.made alike turn
          (subst (λ (at : ℕ × ℕ). DidTurn at.0 at.1 mid.stage after.stage (tale_of journal) is.history is.brought
          is.made turn) (λ i. (noting.hold.number i, noting.table i)) is.did);
      asked = asked journal (is.book.others.0, sym is.book.others.1) is.asked;
    }

-- What was so since a later moment was so since an earlier one.
pub owed-earlier : (before mid after : List JournalEntry) → IsPrefix before mid → NoneWasOwed mid after
    → NoneWasOwed before after
owed-earlier before mid after front none = record {
  noted = none.noted;
  later = prefix-twice before mid none.noted front none.later;
  earlier = none.earlier;
  none = none.none;
}

-- A hand was begun in a hold of the book's pass.
pub record IsBegunIn (before mid : Worker) (at added : List JournalEntry) : Type 0 where
  pub hold : IsHold before.book mid.book at added
  pub dock : mid.dock ≡ before.dock
  pub table : mid.table ≡ before.table
  pub accepted : refusal_at (tale_of at) (next_begin (tale_of at) before.table) ≡ None
  pub carried : hand_carried mid.stage ≡ Some (hand_begun (tale_of at) before.table)
  pub away : does_lie mid.stage ≡ false
  pub idle : does_ask mid.stage ≡ false

module _ (before mid after : Worker) (at added : List JournalEntry) (begun : IsBegunIn before mid at added)
    (lay_not : does_lie before.stage ≡ false) (none : hand_carried before.stage ≡ None) where
  abbrev first : HandTerms
  first = hand_begun (tale_of at) before.table

  -- What the turn did that brought the hand, or had no memory to.
  did-begin : (history : List TableEntry) (brought : List JournalEntry) (made : List TableEntry) (tale : Tale)
      (number table : ℕ)
      → added ≡ begin_entry (pass_number before.book) before.table (tale_of at) ∷ []
      → (turn : Turn) → is_ended turn ≡ false
      → DidTurn number table mid.stage after.stage tale history brought made turn
      → DidTurn (pass_number before.book) before.table before.stage after.stage (tale_of at) history added made turn
  did-begin history brought made tale number table added_is Opened open_ did = record {
    lay_not = lay_not;
    lies = did.lies;
    accepted = λ nothing. begun.accepted;
    brought_begin = added_is
        ∙ ap (λ (found : Option HandTerms). only_if (is_none found)
        (begin_entry (pass_number before.book) before.table (tale_of at)))
        (sym none);
    made_opening = did.made_opening
        ∙ (ap (λ (found : Option HandTerms). entries.Opened (unwrap_or found (hand_begun tale table)).start ∷ [])
        begun.carried
        ∙ ap (λ (found : Option HandTerms). entries.Opened (unwrap_or found first).start ∷ []) (sym none));
  }
  did-begin history brought made tale number table added_is (NotNow refusal) open_ did =
      absurd (let never : None ≡ Some first = sym did.none ∙ begun.carried in cc)
  did-begin history brought made tale number table added_is Lying open_ did =
      absurd (let never : true ≡ false = sym did.lay ∙ begun.away in cc)
  did-begin history brought made tale number table added_is Settled open_ did =
      absurd (let never : true ≡ false = sym did.lay ∙ begun.away in cc)
  did-begin history brought made tale number table added_is Ordered open_ did =
      absurd (let never : true ≡ false = sym did.asked ∙ begun.idle in cc)
  did-begin history brought made tale number table added_is Ended open_ did = absurd cc
  did-begin history brought made tale number table added_is NoMemory open_ did =
      let some : is_some (hand_carried after.stage) ≡ true = did.kept (ap is_some begun.carried) in
      record {
        lay_not = lay_not;
        lies_not = did.lies_not;
        asks = λ asks. absurd (let never : true ≡ false = sym (did.asks asks) ∙ begun.idle in cc);
        kept = λ yes. some;
        hand = λ hand is. did.hand hand is
            ∙ (ap (λ (found : Option HandTerms). unwrap_or found (hand_begun tale table)) begun.carried
            ∙ ap (λ (found : Option HandTerms). unwrap_or found first) (sym none));
        brought_begin = added_is
            ∙ (λ i. only_if (is_none (sym none i) && sym some i)
            (begin_entry (pass_number before.book) before.table (tale_of at)));
        made_none = did.made_none;
      }

  -- The begin and what followed are one turn.
  pub turn-begun : (turn : Turn) → does_ask before.stage ≡ false → is_ended turn ≡ false → after.book ≡ mid.book
      → added ≡ begin_entry (pass_number before.book) before.table (tale_of at) ∷ []
      → IsTurn 0 mid after turn → IsTurn 1 before after turn
  turn-begun turn idle open_ same added_is is = record {
    journal = at;
    brought = added;
    history = is.history;
    made = is.made;
    book = subst (λ pass. IsVisit 1 before.book pass at added) (sym same)
        (visit-hold before.book mid.book at added begun.hold);
    dock = subst (λ (lay : Bool). IsVisit (count_of lay) before.dock after.dock is.history is.made)
        (begun.away ∙ sym lay_not)
        (subst (λ pass. IsVisit (count_of (does_lie mid.stage)) pass after.dock is.history is.made) begun.dock is.dock);
    did = did-begin is.history is.brought is.made (tale_of is.journal) (pass_number mid.book) mid.table
        added_is turn open_ is.did;
    asked = λ asks. absurd (let never : true ≡ false = sym asks ∙ idle in cc);
  }

-- Stages that are the same are alike.
pub alike-same : (one other : Stage) → one ≡ other → AreAlike one other
alike-same one other same = record {
  lie = ap does_lie same;
  carry = ap hand_carried same;
  ask = λ asks. sym (ap does_ask same) ∙ asks;
}

-- What a turn did that gives up: nothing.
pub did-give_up : (k table : ℕ) (before after : Stage) (tale : Tale) (history : List TableEntry) (fault : ActFault)
    → IsAnswer {T = HandTerms} (refusal_at tale (next_begin tale table)) (Err fault) → does_lie before ≡ false
    → hand_carried before ≡ None → does_lie after ≡ false → hand_carried after ≡ None → does_ask after ≡ false
    → is_done after ≡ is_ended (turn_given_up fault)
    → DidTurn k table before after tale history [] [] (turn_given_up fault)
did-give_up k table before after tale history (faults.No refusal) refused lay_not none lies_not none_yet idle done =
    by_stop (is_stopping refusal) refl done
  where
    by_stop : (stops : Bool) → is_stopping refusal ≡ stops
        → is_done after ≡ is_ended (if stops then Ended else NotNow refusal)
        → DidTurn k table before after tale history [] [] (if stops then Ended else NotNow refusal)
    by_stop true is done = record {
      done = done;
      brought_none = refl;
      made_end = ap (λ (lay : Bool). only_if lay entries.Closed) (sym lay_not);
    }
    by_stop false is done = record {
      lay_not = lay_not;
      none = none;
      lies_not = lies_not;
      none_yet = none_yet;
      idle = idle;
      refused = refused;
      going = λ same. let never : false ≡ true = sym is ∙ ap is_stopping same in cc;
      brought_none = refl;
      made_none = refl;
    }
did-give_up k table before after tale history faults.NoMemory refused lay_not none lies_not bare idle done = record {
  lay_not = lay_not;
  lies_not = lies_not;
  asks = λ asks. absurd (let never : true ≡ false = sym asks ∙ idle in cc);
  kept = λ some. absurd (let never : true ≡ false = sym some ∙ ap is_some none in cc);
  hand = λ hand is. absurd (let never : None ≡ Some hand = sym bare ∙ is in cc);
  brought_begin = λ i. only_if (is_none (sym none i) && is_some (sym bare i)) (begin_entry k table tale);
  made_none = refl;
}

-- A look at the journal, and then a turn, are a turn with a hold more.
pub turn-looked : (least : ℕ) (before mid after : Worker) (at : List JournalEntry) (turn : Turn)
    → IsNoting before mid at → mid.stage ≡ before.stage → IsTurn least mid after turn
    → IsTurn (least + 1) before after turn
turn-looked least before mid after at turn noting same is =
    turn-after least before mid after at turn noting (alike-same mid.stage before.stage same)
    (λ journal front asked asks none open_. owed-earlier (seen before.book) (seen mid.book) journal
    (seen-longer before.book mid.book at noting.hold) (asked (ap does_ask same ∙ asks) none open_)) is
