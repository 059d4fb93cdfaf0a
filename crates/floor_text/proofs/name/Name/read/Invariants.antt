use Rattle.std.proofs.Common.{◌≡◌, ◌-◌, ◌++◌, take, replicate, true}
use Rattle.std.specs.List.{list_all}
use Rattle.floor_text.specs.Names.{is_name_byte}
use Rattle.floor_text.proofs.name.Name.read.Given as goal

-- The bytes so far are those of a name, and stand in front of zeros.
abbrev pub invariant-loop-index : goal.invariant-loop-index
invariant-loop-index l = record {
  are_name : list_all is_name_byte (take l.index l.bytes) ≡ true;
  padded : l.padded ≡ take l.index l.bytes ++ replicate (16 - l.index) 0;
}
