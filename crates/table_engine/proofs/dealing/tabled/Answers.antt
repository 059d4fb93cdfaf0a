use Rattle.std.proofs.Common.{refl}
use Rattle.table_engine.proofs.Tabled.{tabled-is}
use Rattle.table_engine.proofs.dealing.tabled.Goals as goal

pub returns : goal.returns
returns c =
    tabled-is c.args.start.now c.args.seat _ _ _ _ _ refl refl c.listed_card.ensures c.listed_card-2.ensures
    c.listed_card-3.ensures
    c.listed_card-4.ensures
