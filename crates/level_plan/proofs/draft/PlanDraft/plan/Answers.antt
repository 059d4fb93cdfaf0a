-- The items of a draft that is complete, taken one by one, make its plan.
use Rattle.std.proofs.Common.{◌≡◌, sym, ap, ◌∙◌, None, Some}
use Rattle.std.specs.Option.{option_copied}
use Rattle.level_plan.specs.declared.draft.PlanDraft.TheInside as fields
use Rattle.level_plan.specs.Drafts.{Draft, go_fault}
use Rattle.level_plan.specs.Fields.{draft_of}
use Rattle.level_plan.proofs.Complete.{IsComplete, complete, right}
use Rattle.level_plan.proofs.draft.PlanDraft.plan.Goals as goal

all : (draft : fields.Inside) (seen : Draft) → draft_of draft ≡ seen → go_fault seen ≡ None
    → IsComplete (draft_of draft)
all draft seen is none = complete (draft_of draft) (ap go_fault is ∙ none)

pub unwrap-requires-2 : goal.unwrap-requires-2
unwrap-requires-2 c = (all c.self.inside c.args.self.now c.self.view_is c.requires).game

pub unwrap-requires-3 : goal.unwrap-requires-3
unwrap-requires-3 c = (all c.self.inside c.args.self.now c.self.view_is c.requires).tables

pub unwrap-requires-4 : goal.unwrap-requires-4
unwrap-requires-4 c = (all c.self.inside c.args.self.now c.self.view_is c.requires).seats

pub unwrap-requires-5 : goal.unwrap-requires-5
unwrap-requires-5 c = (all c.self.inside c.args.self.now c.self.view_is c.requires).stack

pub unwrap-requires-6 : goal.unwrap-requires-6
unwrap-requires-6 c = (all c.self.inside c.args.self.now c.self.view_is c.requires).buyin

pub unwrap-requires-7 : goal.unwrap-requires-7
unwrap-requires-7 c = (all c.self.inside c.args.self.now c.self.view_is c.requires).late

pub invariant_of-result : goal.invariant_of-result
invariant_of-result c =
    right (draft_of c.self.inside) _ c.self.invariant (all c.self.inside c.args.self.now c.self.view_is c.requires)
    (record {
      game = c.unwrap-2.ensures;
      tables = c.unwrap-3.ensures;
      seats = c.unwrap-4.ensures;
      stack = c.unwrap-5.ensures;
      buyin = c.unwrap-6.ensures;
      late = c.unwrap-7.ensures;
      blinds = c.in_ok-blinds.ensures;
      shares = sym c.as_ref.ensures.value ∙ ap option_copied c.unwrap.ensures ∙ ap Some (sym c.in_ok-shares.ensures);
      cap = c.unwrap_or.ensures;
    })
