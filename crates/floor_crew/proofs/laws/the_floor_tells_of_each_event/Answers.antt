use Rattle.std.proofs.Common.{◌∙◌, sym, ap}
use Rattle.std.specs.List.{flat_map}
use Rattle.std.proofs.lemmas.Grind.{flat_map-append}
use Rattle.view_rules.specs.Entries.{journal_lines}
use Rattle.floor_crew.proofs.FloorTold.{floor_told}
use Rattle.floor_crew.proofs.laws.the_floor_tells_of_each_event.Goals as goal

pub returns-clause-whole : goal.returns-clause-whole
returns-clause-whole c = floor_told

pub returns-clause-fronts : goal.returns-clause-fronts
returns-clause-fronts c journal told legal lawful front = (
  flat_map journal_lines front.0,
  sym (flat_map-append journal_lines told front.0)
      ∙ (ap (flat_map journal_lines) front.1 ∙ floor_told journal legal lawful),
)
