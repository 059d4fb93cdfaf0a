use Rattle.std.proofs.Common.{rules, arith}
use Rattle.std.proofs.lemmas.Grind.{common_steps}
use Rattle.std.proofs.lemmas.List.Folds.{list_all_more}
use Rattle.floor_text.specs.Names.{is_name_byte}
use Rattle.floor_text.proofs.KeptNames.{padded-more}
use Rattle.floor_text.proofs.name.Name.read.Goals as goal

pub loop-index-preserved : goal.loop-index-preserved
loop-index-preserved c = record {
  are_name = grind (arith, list_all_more is_name_byte c.args.bytes.now c.loop-index.index 0 (omega arith));
  padded = rw c.loop-index.invariant.padded
      (padded-more 16 c.loop-index.index c.args.bytes.now (omega arith) (omega arith));
}

pub invariant_of-result : goal.invariant_of-result
invariant_of-result c = grind (arith, common_steps)

pub returns-clause-same : goal.returns-clause-same
returns-clause-same c = grind (arith, common_steps)

pub returns-clause-some : goal.returns-clause-some
returns-clause-some c = grind (arith, common_steps)

pub returns-in_default-clause-some : goal.returns-in_default-clause-some
returns-in_default-clause-some c = grind (arith, common_steps)

pub returns-then-eq-clause-some : goal.returns-then-eq-clause-some
returns-then-eq-clause-some c = search rules

pub returns-then-not-is_name_byte-clause-some : goal.returns-then-not-is_name_byte-clause-some
returns-then-not-is_name_byte-clause-some c = grind (arith, common_steps)
