use Rattle.std.proofs.Common.{rules, ◌≡◌, ◌∙◌, refl, sym, false, ◌++◌, ◌∷◌, [], arith}
use Rattle.entry_list.specs.Entries.{is_known}
use Rattle.entry_list.proofs.Added.{entries-added}
use Rattle.entry_list.proofs.entries.EntryList.add.Goals as goal

pub invariant_of-self-2 : goal.invariant_of-self-2
invariant_of-self-2 c =
    let old = c.self.inside.names.keys in
    let unknown : is_known old c.args.name ≡ false = sym c.contains.ensures ∙ c.if-contains.false in
    let keys : c.insert_full.new.self.keys ≡ old ++ c.args.name ∷ [] = c.in_ok-insert_full.ensures.keys
    ∙ rw unknown refl in
    rw keys (entries-added old c.args.name c.self.invariant unknown (omega arith))

pub returns-clause-lawful : goal.returns-clause-lawful
returns-clause-lawful c =
    let old = c.self.inside.names.keys in
    let unknown : is_known old c.args.name ≡ false = sym c.contains.ensures ∙ c.if-contains.false in
    let keys : c.insert_full.new.self.keys ≡ old ++ c.args.name ∷ [] = c.in_ok-insert_full.ensures.keys
    ∙ rw unknown refl in
    rw keys (entries-added old c.args.name c.self.invariant unknown (omega arith))

pub returns-then-player-ge-MOST_ENTRIES-clause-fault : goal.returns-then-player-ge-MOST_ENTRIES-clause-fault
returns-then-player-ge-MOST_ENTRIES-clause-fault c = search rules

pub returns-then-contains-clause-fault : goal.returns-then-contains-clause-fault
returns-then-contains-clause-fault c = search rules

pub returns-clause-number : goal.returns-clause-number
returns-clause-number c = search rules
