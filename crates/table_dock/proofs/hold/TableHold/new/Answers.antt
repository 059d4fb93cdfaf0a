use Rattle.std.proofs.Common.{◌≡◌, rules, []}
use Rattle.dock_rules.proofs.Tables.{legal-nil, lying-nil, sound-legal}
use Rattle.table_dock.proofs.hold.TableHold.new.Goals as goal

pub invariant_of-result : goal.invariant_of-result
invariant_of-result c =
    let none : c.new.result.items ≡ [] = c.new.ensures.items in
    record { sound = rw none (sound-legal [] legal-nil); told = rw none lying-nil; room = search rules }
