-- A desk works at a door, one client after another.
use Rattle.std.proofs.Common.{◌≡◌, ◌⊎◌, ◌∙◌, inl, inr, refl, sym, ap, subst, ℕ, List, [], ◌∷◌, ◌++◌, Option, Some, None, Ok, append-nil, arith}
use Rattle.std.specs.Prelude.{All, IfSome, option_map}
use Rattle.std.specs.List.{flat_map}
use Rattle.std.proofs.lemmas.Grind.{flat_map-append}
use Rattle.std.proofs.lemmas.List.Elements.{All-append, All-cons, All-head, All-nil, All-tail}
use Rattle.floor_text.specs.Memory.{count_up}
use Rattle.history_lock.specs.declared.grows.Grows.{Ghosts}
use Rattle.history_lock.specs.declared.pass.Pass.{Pass}
use Rattle.history_lock.specs.Passes.{pass_number}
use Rattle.plan_files.specs.Words.{WordTerms}
use Rattle.links.specs.Links.{after_knock, with_back}
use Rattle.links.specs.Telling.{DoorTelling, Telling}
use Rattle.session_desk.specs.declared.desk.Desk.{Desk}
use Rattle.session_desk.specs.declared.session.SessionEnd.{SessionEnd}
use Rattle.session_desk.specs.Desks.{AreLater, Brought, HasDeskMoved, Numbers, Sights, acted_at, nothing, numbers_of, of_table, sights}
use Rattle.session_desk.specs.Exchanges.{Exchange}
use Rattle.session_desk.specs.Moves.{HasMoved}
use Rattle.session_desk.specs.Talks.{IsServed, Served, WasServed, book_looks_in, brought_in, sights_through, table_looks_in}
use Rattle.session_desk.specs.Works.{AreInTurn, HasWorked}
use Rattle.session_desk.proofs.DeskMoves.{both-moved, later-self, later-sights, later-trans, moved-still, same-desk}
use Rattle.session_desk.proofs.Doors.{back-both, back-none, back-one}
use Rattle.session_desk.proofs.Moving.{moved-fewer}
use Rattle.session_desk.proofs.ServedOn.{all-later, all-since}

-- what a pass of a table did, whatever number of holds it made
least-found : {Val E : Type 0} {g : Ghosts Val E} (least : ℕ) (acts : Pass Val E g → List E)
    (one other : Option (Pass Val E g)) → IfSome one (λ x. IfSome other (λ y. HasMoved least (acts x) x y))
    → IfSome one (λ x. IfSome other (λ y. HasMoved 0 (acts x) x y))
least-found least acts None other moved = tt
least-found least acts (Some x) None moved = tt
least-found least acts (Some x) (Some y) moved = moved-fewer 0 least (acts x) x y (omega arith) moved

-- A desk moved on, whatever number of holds its passes made.
pub moved-least : (looks : ℕ) (table_looks : ℕ → ℕ) (brought : Brought) (before after : Desk)
    → HasDeskMoved looks table_looks brought before after → HasDeskMoved 0 (λ table. 0) brought before after
moved-least looks table_looks brought before after moved = record {
  book = moved-fewer 0 looks brought.orders before.book after.book (omega arith) moved.book;
  count = moved.count;
  tables = λ table.
      least-found (table_looks table) (λ one. acted_at (pass_number one) table brought.acts)
      (of_table before.tables.items table) (of_table after.tables.items table) (moved.tables table);
  asked = moved.asked;
}

module _ {L : Type 0} where
  -- what the lines of sessions brought
  abbrev brought_by : List (Served L) → Brought
  brought_by sessions = brought_in (flat_map (λ (one : Served L). one.log) sessions)

  -- what each exchange gives, of some sessions and of others
  flat-both : {A : Type 0} (f : Exchange → List A) (some others : List (Served L))
      → flat_map f (flat_map (λ (one : Served L). one.log) (some ++ others))
      ≡ flat_map f (flat_map (λ (one : Served L). one.log) some)
      ++ flat_map f (flat_map (λ (one : Served L). one.log) others)
  flat-both f some others =
      ap (flat_map f) (flat_map-append (λ (one : Served L). one.log) some others)
      ∙ flat_map-append f (flat_map (λ (one : Served L). one.log) some) (flat_map (λ (one : Served L). one.log) others)

  -- what the lines of some sessions brought, and those of others
  brought-both : (some others : List (Served L)) → brought_by (some ++ others)
      ≡ record {
        acts = (brought_by some).acts ++ (brought_by others).acts;
        orders = (brought_by some).orders ++ (brought_by others).orders;
      }
  brought-both some others = λ i. record {
    acts = flat-both (λ (said : Exchange). said.brought.acts) some others i;
    orders = flat-both (λ (said : Exchange). said.brought.orders) some others i;
  }

module _ {D L : Type 0} (told : D → Option (DoorTelling L)) (told_by : L → Option Telling) (faults : L → ℕ)
    (words : WordTerms) (count : ℕ) where
  -- Sessions in turn, and others behind them.
  turns-both : (numbers : Numbers) (first seen mid : Sights) (some others : List (Served L)) → AreLater seen mid
      → All (WasServed told_by faults words count numbers first mid) some → AreInTurn seen some
      → AreInTurn mid others → AreInTurn seen (some ++ others)
  turns-both numbers first seen mid [] [] longer each turns later = tt
  turns-both numbers first seen mid [] (other ∷ others) longer each turns later =
      (later-trans seen mid other.began longer later.0, later.1)
  turns-both numbers first seen mid (one ∷ some) others longer each turns later =
      let Is : Served L → Type 0 = WasServed told_by faults words count numbers first mid in (
        turns.0,
        turns-both numbers first (sights_through one.began one.log) mid some others (All-head Is one some each).earlier
            (All-tail Is one some each) turns.1 later,
      )

  -- Nobody came.
  pub worked-none : (first last : D) (desk : Desk)
      → told last ≡ option_map (λ (t : DoorTelling L). record t { knocks = count_up t.knocks }) (told first)
      → HasWorked told told_by faults words count first last desk desk
  worked-none first last desk knocked = record {
    sessions = [];
    each = All-nil (WasServed told_by faults words count (numbers_of desk) (sights desk) (sights desk));
    turns = tt;
    moved = moved-still (λ table. 0) desk desk (λ table. refl) (same-desk desk);
    door = back-none (told first) (told last) knocked;
  }

  -- Somebody came and was served, and the link is back.
  pub worked-one : (first mid last : D) (start now : Desk) (end : SessionEnd) (came left : L)
      → told mid ≡ option_map (after_knock (Ok (Some came))) (told first)
      → told last ≡ option_map (with_back left) (told mid)
      → IsServed told_by faults words count end came left start now
      → HasWorked told told_by faults words count first last start now
  worked-one first mid last start now end came left given back served =
      let one : Served L = record { came = came; left = left; end = end; began = sights start; log = served.log } in
      let Is : Served L → Type 0 =
      WasServed told_by faults words count (numbers_of start) (sights start) (sights now) in
      record {
        sessions = one ∷ [];
        each = All-cons Is one [] served.served (All-nil Is);
        turns = (later-self (sights start), tt);
        moved = subst (λ (log : List Exchange). HasDeskMoved 0 (λ table. 0) (brought_in log) start now)
            (sym (append-nil served.log))
            (moved-least (book_looks_in words count served.log) (table_looks_in words count served.log)
            (brought_in served.log) start now served.moved);
        door = back-one one (told first) (told mid) (told last) given back;
      }

  -- it worked, and then worked on
  worked-both : (first mid last : D) (start between now : Desk)
      → HasWorked told told_by faults words count first mid start between
      → HasWorked told told_by faults words count mid last between now
      → HasWorked told told_by faults words count first last start now
  worked-both first mid last start between now one two = record {
    sessions = one.sessions ++ two.sessions;
    each = All-append (WasServed told_by faults words count (numbers_of start) (sights start) (sights now))
        one.sessions two.sessions
        (all-later told_by faults words count 0 (λ table. 0) (brought_by two.sessions) start between now one.sessions
        two.moved one.each)
        (all-since told_by faults words count 0 (λ table. 0) (brought_by one.sessions) start between now two.sessions
        one.moved two.each);
    turns = turns-both (numbers_of start) (sights start) (sights start) (sights between) one.sessions two.sessions
        (later-sights 0 (λ table. 0) (brought_by one.sessions) start between one.moved) one.each one.turns two.turns;
    moved = subst (λ (b : Brought). HasDeskMoved 0 (λ table. 0) b start now)
        (sym (brought-both one.sessions two.sessions))
        (both-moved 0 0 (λ table. 0) (λ table. 0) (brought_by one.sessions) (brought_by two.sessions) start between now
        one.moved two.moved);
    door = back-both one.sessions two.sessions (told first) (told mid) (told last) one.door two.door;
  }

  -- it worked, and looked at the journal
  worked-looked : (looks : ℕ) (table_looks : ℕ → ℕ) (first last : D) (start mid now : Desk)
      → HasDeskMoved looks table_looks nothing mid now
      → HasWorked told told_by faults words count first last start mid
      → HasWorked told told_by faults words count first last start now
  worked-looked looks table_looks first last start mid now moved worked =
      let brought : Brought = brought_by worked.sessions in
      record {
        sessions = worked.sessions;
        each = all-later told_by faults words count looks table_looks nothing start mid now worked.sessions moved
            worked.each;
        turns = worked.turns;
        moved = subst (λ (b : Brought). HasDeskMoved 0 (λ table. 0) b start now)
            (λ i. record { acts = append-nil brought.acts i; orders = append-nil brought.orders i })
            (both-moved 0 0 (λ table. 0) (λ table. 0) brought nothing start mid now worked.moved
            (moved-least looks table_looks nothing mid now moved));
        door = worked.door;
      }

  -- A desk has yet to begin, or it has worked.
  abbrev pub IsAtWork : D → D → Desk → Desk → Type 0
  IsAtWork first last start now =
      ((last ≡ first) × (now ≡ start)) ⊎ HasWorked told told_by faults words count first last start now

  -- It began so, or worked on.
  pub worked-on : (first mid last : D) (start between now : Desk) → IsAtWork first mid start between
      → HasWorked told told_by faults words count mid last between now
      → HasWorked told told_by faults words count first last start now
  worked-on first mid last start between now (inl same) worked =
      subst (λ (x : D × Desk). HasWorked told told_by faults words count x.0 last x.1 now)
      (λ i. (same.0 i, same.1 i)) worked
  worked-on first mid last start between now (inr before) worked =
      worked-both first mid last start between now before worked

  -- It did, and looked at the journal then.
  pub worked-round : (looks : ℕ) (table_looks : ℕ → ℕ) (first mid last : D) (start between served now : Desk)
      → IsAtWork first mid start between → HasWorked told told_by faults words count mid last between served
      → HasDeskMoved looks table_looks nothing served now
      → HasWorked told told_by faults words count first last start now
  worked-round looks table_looks first mid last start between served now before worked moved =
      worked-looked looks table_looks first last start served now moved
      (worked-on first mid last start between served before worked)
