use Rattle.std.proofs.Common.{rules, ◌≡◌, ◌∷◌, ◌++◌, [], map, sym, ap, ◌∙◌, subst, option_to_list, IfSome}
use Rattle.std.proofs.lemmas.List.{append-nil}
use Rattle.std.proofs.lemmas.List.Elements.{All-pop}
use Rattle.history_lock.specs.declared.pass.Pass.{Pass}
use Rattle.history_lock.specs.declared.view.View.{View}
use Rattle.history_lock.specs.Passes.{lock_of, share_of}
use Rattle.history_lock.proofs.Seats.{joins}
use Rattle.history_lock.proofs.Dealing.{shares-pop}
use Rattle.history_lock.proofs.closing.take_in.Goals as goal

pub loop-pass-init : goal.loop-pass-init
loop-pass-init g c =
    let P : Type 0 = Pass g.row.V.Denot g.row.V-Entry.Denot g.V.Grows in
    let p : P = c.unwrap.result in
    let seat = c.into_parts-seat.ensures.2 in
    let split : c.args.passes.items ≡ c.pop.new.self.items ++ p ∷ [] = c.pop.ensures.items
    ∙ ap (λ r. c.pop.new.self.items ++ option_to_list r) c.unwrap.ensures in
    let theirs = All-pop (λ (p : P). lock_of p ≡ c.args.steps.now.table_id) c.args.passes.items c.pop.new.self.items
    c.pop.result c.pop.ensures.items c.requires.table.0 in
    let its : lock_of p ≡ c.args.steps.now.table_id =
    subst (λ r. IfSome r (λ (p : P). lock_of p ≡ c.args.steps.now.table_id)) c.unwrap.ensures theirs.1 in (
      ap (λ s. s.table_id) seat ∙ its,
      (
        ap (λ s. s.me.0.ticket) seat
            ∙ ap (λ (v : View g.row.V-Entry.Denot). v.ticket) p.at_rest,
        ap (λ s. s.me.0.served) seat
            ∙ ap (λ (v : View g.row.V-Entry.Denot). v.served) p.at_rest,
        ap (λ s. s.me.1) seat ∙ p.empty_handed,
      ),
      sym (append-nil (map share_of c.args.passes.items))
          ∙ (shares-pop c.args.passes.items c.pop.new.self.items p [] split
          ∙ ap (λ l. map share_of c.pop.new.self.items ++ l) (append-nil p.seat.me.0.shares
          ∙ ap (λ s. s.me.0.shares) (sym seat))),
      theirs.0,
    )

pub join_seat-requires : goal.join_seat-requires
join_seat-requires g c =
    let P : Type 0 = Pass g.row.V.Denot g.row.V-Entry.Denot g.V.Grows in
    let p : P = c.in-Some.pass in
    let seat = c.into_parts-other.ensures.2 in
    let theirs = All-pop (λ (p : P). lock_of p ≡ c.args.steps.now.table_id) c.loop-pass.passes.items
    c.pop-in-loop-pass.new.self.items c.pop-in-loop-pass.result c.pop-in-loop-pass.ensures.items
    c.loop-pass.invariant.3 in
    let its : lock_of p ≡ c.args.steps.now.table_id =
    subst (λ r. IfSome r (λ (p : P). lock_of p ≡ c.args.steps.now.table_id)) c.in-Some.is theirs.1 in (
      c.loop-pass.invariant.0,
      ap (λ s. s.table_id) seat ∙ its,
      ap (λ s. s.me.1) seat ∙ p.empty_handed,
      search rules,
      joins g.V.Grows.history g.V.Grows.caller_of c.args.steps.now.key.passes
          (g.V.Grows.history c.args.steps.now.key.opening.value) c.loop-pass.seat.id
          c.loop-pass.seat.me.0 c.into_parts-other.result.2.id c.into_parts-other.result.2.me.0
          c.loop-pass.invariant.1.0 c.loop-pass.invariant.1.1
          (ap (λ s. s.me.0.ticket) seat ∙ ap (λ (v : View g.row.V-Entry.Denot). v.ticket) p.at_rest)
          (ap (λ s. s.me.0.served) seat ∙ ap (λ (v : View g.row.V-Entry.Denot). v.served) p.at_rest),
    )

pub loop-pass-preserved : goal.loop-pass-preserved
loop-pass-preserved g c =
    let P : Type 0 = Pass g.row.V.Denot g.row.V-Entry.Denot g.V.Grows in
    let p : P = c.in-Some.pass in
    let seat = c.into_parts-other.ensures.2 in
    let rest = c.pop-in-loop-pass.new.self.items in
    let joined = c.join_seat.ensures.2 in
    let split : c.loop-pass.passes.items ≡ rest ++ p ∷ [] = c.pop-in-loop-pass.ensures.items
    ∙ ap (λ r. rest ++ option_to_list r) c.in-Some.is in
    let theirs = All-pop (λ (p : P). lock_of p ≡ c.args.steps.now.table_id) c.loop-pass.passes.items rest
    c.pop-in-loop-pass.result c.pop-in-loop-pass.ensures.items c.loop-pass.invariant.3 in (
      c.join_seat.ensures.0 ∙ c.loop-pass.invariant.0,
      (
        ap (λ m. m.0.ticket) joined ∙ c.loop-pass.invariant.1.0,
        ap (λ m. m.0.served) joined
            ∙ c.loop-pass.invariant.1.1,
        ap (λ m. m.1) joined ∙ c.loop-pass.invariant.1.2,
      ),
      c.loop-pass.invariant.2 ∙ (shares-pop c.loop-pass.passes.items rest p c.loop-pass.seat.me.0.shares split
          ∙ ap (λ l. map share_of rest ++ l) (ap (λ s. s.me.0.shares ++ c.loop-pass.seat.me.0.shares) (sym seat)
          ∙ ap (λ m. m.0.shares) (sym joined))),
      theirs.0,
    )
