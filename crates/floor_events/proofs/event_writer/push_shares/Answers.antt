use Rattle.std.proofs.Common.{◌∙◌, ℕ, List, ◌∷◌, ◌++◌, ap, sym, append_assoc}
use Rattle.std.specs.Prelude.{codes}
use Rattle.std.specs.Fmt.{decimal}
use Rattle.std.specs.List.{flat_map}
use Rattle.std.proofs.lemmas.Result.{on_ok_weaker}
use Rattle.floor_events.proofs.EventLaws.{shares_text}
use Rattle.floor_events.proofs.event_writer.push_shares.Goals as goal

pub returns-clause-ok : goal.returns-clause-ok
returns-clause-ok c =
    let behind : List ℕ = flat_map (λ share. 32 ∷ decimal share) c.args.shares.now in
    on_ok_weaker c.push_behind.result (λ written. written
    ∙ (ap (λ (front : List ℕ). front ++ behind) c.in_ok-push_words.ensures.ok
    ∙ (append_assoc c.args.out.now.items (codes "shares") behind
    ∙ ap (λ (text : List ℕ). c.args.out.now.items ++ text) (sym (shares_text c.args.shares.now)))))
    c.push_behind.ensures.ok
