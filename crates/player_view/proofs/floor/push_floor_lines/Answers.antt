use Rattle.std.proofs.Common.{◌≡◌, ◌∙◌, ◌++◌, List, [], ℕ, ap, inl, inr, map}
use Rattle.std.specs.Prelude.{◌⊎◌}
use Rattle.std.proofs.lemmas.Result.{on_ok_weaker}
use Rattle.betting_round.specs.declared.act.Act.{Act}
use Rattle.floor_text.specs.declared.name.Name.{Name}
use Rattle.tournament_events.specs.declared.event.Event.{Event}
use Rattle.tournament_events.specs.declared.event.Event.TheVariants as events
use Rattle.view_rules.specs.declared.entries.StackLine.{StackLine}
use Rattle.view_rules.specs.Lines.{floor_lines}
use Rattle.view_rules.specs.Spelling.{Floor, lines_text}
use Rattle.player_view.proofs.FloorTexts.{floor-act, floor-begin, floor-given, floor-race, floor-settle, floor-time}
use Rattle.player_view.proofs.Texts.{nothing-more}
use Rattle.player_view.proofs.floor.push_floor_lines.Goals as goal

-- Of an act or a called time the floor tells nothing.
told_nothing : (event : Event) (serial : ℕ) (stacks : List StackLine)
    → ((table : ℕ) × (name : Name) × (act : Act) × (event ≡ events.Act table name act))
    ⊎ ((table : ℕ) × (event ≡ events.Time table))
    → [] ≡ lines_text (map Floor (floor_lines event serial stacks))
told_nothing event serial stacks (inl act) = rw act.3 (floor-act act.0 serial act.1 act.2 stacks)
told_nothing event serial stacks (inr time) = rw time.1 (floor-time time.0 serial stacks)

pub returns-in-Begin-clause-ok : goal.returns-in-Begin-clause-ok
returns-in-Begin-clause-ok c =
    rw c.in-Begin.is
    (on_ok_weaker c.push_begin.result
    (λ then. then ∙ ap (λ (text : List ℕ). c.args.out.now.items ++ text)
    (floor-begin c.in-Begin.table c.args.serial c.in-Begin.row c.args.stacks.now))
    c.push_begin.ensures.ok)

pub returns-in-Act-clause-ok : goal.returns-in-Act-clause-ok
returns-in-Act-clause-ok c =
    nothing-more c.args.out.now.items _
    (told_nothing c.args.event.now c.args.serial c.args.stacks.now c.in-Act.is)

pub returns-in-Act-2-clause-ok : goal.returns-in-Act-2-clause-ok
returns-in-Act-2-clause-ok c =
    nothing-more c.args.out.now.items _
    (told_nothing c.args.event.now c.args.serial c.args.stacks.now c.in-Act.is)

pub returns-in-Settle-clause-ok : goal.returns-in-Settle-clause-ok
returns-in-Settle-clause-ok c =
    rw c.in-Settle.is
    (on_ok_weaker c.push_settled.result
    (λ then. then ∙ ap (λ (text : List ℕ). c.args.out.now.items ++ text)
    (floor-settle c.in-Settle.table c.args.serial c.args.stacks.now))
    c.push_settled.ensures.ok)

pub returns-in-Race-clause-ok : goal.returns-in-Race-clause-ok
returns-in-Race-clause-ok c =
    rw c.in-Race.is
    (on_ok_weaker c.push_raced.result
    (λ then. then ∙ ap (λ (text : List ℕ). c.args.out.now.items ++ text)
    (floor-race c.in-Race.table c.args.serial c.in-Race.row c.args.stacks.now))
    c.push_raced.ensures.ok)

pub returns-in_default-clause-ok : goal.returns-in_default-clause-ok
returns-in_default-clause-ok c =
    on_ok_weaker c.push_event.result
    (λ then. then ∙ ap (λ (text : List ℕ). c.args.out.now.items ++ text)
    (floor-given c.args.event.now c.args.serial c.args.stacks.now c.in_default.not-Begin c.in_default.not-Act
    c.in_default.not-Time c.in_default.not-Settle c.in_default.not-Race))
    c.push_event.ensures.ok
