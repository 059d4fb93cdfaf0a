-- What an act puts in, and what it comes to.
use Rattle.std.specs.Prelude.{ℕ, ◌+◌, ◌-◌, Bool, true, false, ◌==◌, nat_le, min, if◌then◌else◌}
use Rattle.betting_round.specs.declared.act.Act.{Act}
use Rattle.betting_round.specs.declared.act.Act.TheVariants.{Fold, Check, Call, AllIn, Bet, Raise}
use Rattle.betting_round.specs.declared.act.Done.{Done}
use Rattle.betting_round.specs.declared.act.Done.TheVariants.{Folded, Checked, Called, BetTo, RaisedTo}
use Rattle.betting_round.specs.declared.facing.Facing.{Facing}

-- What an act puts in, from the bet level and what its player has put in and has behind. Robert's Rules of Poker: a
-- player who cannot meet the bet calls for all that he has.
abbrev pub amount : ℕ → ℕ → ℕ → Act → ℕ
amount level put behind Fold = 0
amount level put behind Check = 0
amount level put behind Call = min behind (level - put)
amount level put behind AllIn = behind
amount level put behind (Bet n) = n
amount level put behind (Raise n) = n - put

-- Whether an act is a fold.
abbrev pub is_fold : Act → Bool
is_fold Fold = true
is_fold act = false

-- What an accepted act comes to. To go all-in is a call up to the bet level, above it a bet where the level is 0, and
-- else a raise.
abbrev pub done_by : Facing → Act → Done
done_by facing Fold = Folded
done_by facing Check = Checked
done_by facing Call = Called (min facing.behind (facing.level - facing.put))
done_by facing AllIn =
    if nat_le (facing.put + facing.behind) facing.level then Called facing.behind
    else if facing.level == 0 then BetTo (facing.put + facing.behind)
    else RaisedTo (facing.put + facing.behind)
done_by facing (Bet n) = BetTo n
done_by facing (Raise n) = RaisedTo n
