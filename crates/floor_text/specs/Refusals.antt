-- Refusals: the number and the name of each. This project's own.
use Rattle.std.specs.Prelude.{ℕ, List, codes}
use Rattle.floor_text.specs.declared.refusal.Refusal.{Refusal}
use Rattle.floor_text.specs.declared.refusal.Refusal.TheVariants.{Syntax, NoPlan, PlanLate, PlanWrong, Stopped, NameKnown, NameUnknown, NoTable, NoSeat, SeatTaken, NotFewest, LateClosed, Playing, NotPlaying, Lone, Halted, RaceDue, RoundDone, DeckWrong, NotDealt, NotTurn, HandOver, NotOver, CheckFacing, NothingToCall, BetFacing, NothingToRaise, TooSmall, PastStack, PastPot, NotReopened, NotUnit, NotFullest, NotShortest, EvenEnough, NotNextToBreak, NoRoom, DrawWrong, LastLevel, RoundOpen, SwitchWrong, NoRace, Over, ListFull, StillIn}

-- the number in an answer line
abbrev pub refusal_number : Refusal → ℕ
refusal_number Syntax = 1
refusal_number NoPlan = 2
refusal_number PlanLate = 3
refusal_number PlanWrong = 4
refusal_number Stopped = 5
refusal_number NameKnown = 6
refusal_number NameUnknown = 7
refusal_number NoTable = 8
refusal_number NoSeat = 9
refusal_number SeatTaken = 10
refusal_number NotFewest = 11
refusal_number LateClosed = 12
refusal_number Playing = 13
refusal_number NotPlaying = 14
refusal_number Lone = 15
refusal_number Halted = 16
refusal_number RaceDue = 17
refusal_number RoundDone = 18
refusal_number DeckWrong = 19
refusal_number NotDealt = 20
refusal_number NotTurn = 21
refusal_number HandOver = 22
refusal_number NotOver = 23
refusal_number CheckFacing = 24
refusal_number NothingToCall = 25
refusal_number BetFacing = 26
refusal_number NothingToRaise = 27
refusal_number TooSmall = 28
refusal_number PastStack = 29
refusal_number PastPot = 30
refusal_number NotReopened = 31
refusal_number NotUnit = 32
refusal_number NotFullest = 33
refusal_number NotShortest = 34
refusal_number EvenEnough = 35
refusal_number NotNextToBreak = 36
refusal_number NoRoom = 37
refusal_number DrawWrong = 38
refusal_number LastLevel = 39
refusal_number RoundOpen = 40
refusal_number SwitchWrong = 41
refusal_number NoRace = 42
refusal_number Over = 43
refusal_number ListFull = 44
refusal_number StillIn = 45

-- the name behind the number
abbrev pub refusal_name : Refusal → List ℕ
refusal_name Syntax = codes "Syntax"
refusal_name NoPlan = codes "NoPlan"
refusal_name PlanLate = codes "PlanLate"
refusal_name PlanWrong = codes "PlanWrong"
refusal_name Stopped = codes "Stopped"
refusal_name NameKnown = codes "NameKnown"
refusal_name NameUnknown = codes "NameUnknown"
refusal_name NoTable = codes "NoTable"
refusal_name NoSeat = codes "NoSeat"
refusal_name SeatTaken = codes "SeatTaken"
refusal_name NotFewest = codes "NotFewest"
refusal_name LateClosed = codes "LateClosed"
refusal_name Playing = codes "Playing"
refusal_name NotPlaying = codes "NotPlaying"
refusal_name Lone = codes "Lone"
refusal_name Halted = codes "Halted"
refusal_name RaceDue = codes "RaceDue"
refusal_name RoundDone = codes "RoundDone"
refusal_name DeckWrong = codes "DeckWrong"
refusal_name NotDealt = codes "NotDealt"
refusal_name NotTurn = codes "NotTurn"
refusal_name HandOver = codes "HandOver"
refusal_name NotOver = codes "NotOver"
refusal_name CheckFacing = codes "CheckFacing"
refusal_name NothingToCall = codes "NothingToCall"
refusal_name BetFacing = codes "BetFacing"
refusal_name NothingToRaise = codes "NothingToRaise"
refusal_name TooSmall = codes "TooSmall"
refusal_name PastStack = codes "PastStack"
refusal_name PastPot = codes "PastPot"
refusal_name NotReopened = codes "NotReopened"
refusal_name NotUnit = codes "NotUnit"
refusal_name NotFullest = codes "NotFullest"
refusal_name NotShortest = codes "NotShortest"
refusal_name EvenEnough = codes "EvenEnough"
refusal_name NotNextToBreak = codes "NotNextToBreak"
refusal_name NoRoom = codes "NoRoom"
refusal_name DrawWrong = codes "DrawWrong"
refusal_name LastLevel = codes "LastLevel"
refusal_name RoundOpen = codes "RoundOpen"
refusal_name SwitchWrong = codes "SwitchWrong"
refusal_name NoRace = codes "NoRace"
refusal_name Over = codes "Over"
refusal_name ListFull = codes "ListFull"
refusal_name StillIn = codes "StillIn"
