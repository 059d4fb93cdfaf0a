use Rattle.std.proofs.Common.{◌≡◌, ◌∙◌, Some, None, map, ap, sym}
use Rattle.std.specs.Prelude.{IfErr, OnOk, Option, Result, Ok, Err, true}
use Rattle.std.specs.Option.{is_some}
use Rattle.floor_text.specs.declared.refusal.Refusal.{Refusal}
use Rattle.betting_round.specs.WhoIsDue.{due_seat}
use Rattle.table_engine.specs.contracts.hand.Hand.{the_view}
use Rattle.table_engine.specs.Acts.{act_in_time, refusal_of_act, time_act}
use Rattle.table_engine.specs.Hands.{due_in_hand, name_in_seat, players_by_seat, street_of}
use Rattle.table_engine.proofs.DueNames.{due-named, seat-of_named, time-allowed, time-free, time_act-is}
use Rattle.table_engine.proofs.Refusals.{refused-in_seat}
use Rattle.table_engine.proofs.hand.Hand.accept_time.Goals as goal

-- What holds, holds where a result is one.
held-ok : {T : Type 0} (result : Result T Refusal) (P : Type 0) → P → OnOk result P
held-ok (Ok done) P holds = holds
held-ok (Err found) P holds = tt

-- What is not refused gives no refusal.
none-refused : {T : Type 0} (result : Result T Refusal) (refusal : Option Refusal) (P : Refusal → Type 0)
    → refusal ≡ None → IfErr result (λ found. refusal ≡ Some found) → IfErr result P
none-refused (Ok done) refusal P free err = tt
none-refused (Err found) refusal P free err = absurd cc

pub returns-in_default-name_in_seat-clause-err : goal.returns-in_default-name_in_seat-clause-err
returns-in_default-name_in_seat-clause-err c =
    let hand = the_view c.self.inside in
    let there : map is_some (street_of hand).players ≡ map is_some (players_by_seat hand.start) =
    rw c.self.invariant.at.round at c.self.invariant.there in
    let due : due_in_hand hand ≡ Some c.in-Some.seat =
    ap due_seat (sym c.self.invariant.at.round) ∙ sym c.in-Some.ensures in
    absurd (due-named hand c.in-Some.seat there due (sym c.in_default-name_in_seat.ensures))

pub accept_in_seat-requires : goal.accept_in_seat-requires
accept_in_seat-requires c =
    let hand = the_view c.self.inside in
    let due : due_in_hand hand ≡ Some c.in-Some.seat =
    ap due_seat (sym c.self.invariant.at.round) ∙ sym c.in-Some.ensures in
    let named : name_in_seat hand.start c.in-Some.seat ≡ Some c.in-Some-name_in_seat.name =
    sym c.in-Some-name_in_seat.ensures in
    record {
      seat = rw (← c.self.view_is) (seat-of_named hand.start c.in-Some.seat c.in-Some-name_in_seat.name
          c.self.invariant.lawful.names named);
      timed = λ by_time. rw (c.act_in_time.ensures, ← c.self.view_is)
          (sym (time_act-is hand c.in-Some.seat c.in-Some-name_in_seat.name due named));
    }

pub returns-clause-ok : goal.returns-clause-ok
returns-clause-ok c =
    let due : due_in_hand (the_view c.self.inside) ≡ Some c.in-Some.seat =
    ap due_seat (sym c.self.invariant.at.round) ∙ sym c.in-Some.ensures in
    held-ok c.accept_in_seat.result _ (rw (← c.self.view_is) (time-free (the_view c.self.inside) c.in-Some.seat due))

pub returns-clause-err : goal.returns-clause-err
returns-clause-err c =
    let hand = the_view c.self.inside in
    let due : due_in_hand hand ≡ Some c.in-Some.seat =
    ap due_seat (sym c.self.invariant.at.round) ∙ sym c.in-Some.ensures in
    let act = act_in_time hand c.in-Some.seat in
    let seat = seat-of_named hand.start c.in-Some.seat c.in-Some-name_in_seat.name c.self.invariant.lawful.names
    (sym c.in-Some-name_in_seat.ensures) in
    let free : refusal_of_act hand c.in-Some-name_in_seat.name act ≡ None =
    refused-in_seat hand c.in-Some-name_in_seat.name act c.in-Some.seat seat
    ∙ time-allowed hand c.in-Some.seat due in
    let allowed : refusal_of_act c.args.self.now c.in-Some-name_in_seat.name c.act_in_time.result ≡ None =
    rw (c.act_in_time.ensures, ← c.self.view_is) free in
    none-refused c.accept_in_seat.result _ _ allowed c.accept_in_seat.ensures.err

pub returns-clause-entry : goal.returns-clause-entry
returns-clause-entry c =
    let hand = the_view c.self.inside in
    let due : due_in_hand hand ≡ Some c.in-Some.seat =
    ap due_seat (sym c.self.invariant.at.round) ∙ sym c.in-Some.ensures in
    let is : time_act c.args.self.now ≡ record {
      name = c.in-Some-name_in_seat.name;
      act = c.act_in_time.result;
      by_time = true;
    } =
    rw (c.act_in_time.ensures, ← c.self.view_is)
    (time_act-is hand c.in-Some.seat c.in-Some-name_in_seat.name due (sym c.in-Some-name_in_seat.ensures)) in
    rw is c.accept_in_seat.ensures.entry
