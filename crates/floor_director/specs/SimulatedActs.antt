-- What a simulated player does. This project's own.
use Rattle.std.specs.Prelude.{ℕ, ◌+◌, ◌%◌, Bool, ◌==◌, nat_le, List, [], ◌∷◌, find, is_none, unwrap_or, if◌then◌else◌}
use Rattle.rand_core.specs.Stream.{next_u32}
use Rattle.betting_round.specs.declared.act.Act.{Act}
use Rattle.betting_round.specs.declared.act.Act.TheVariants.{Fold, Check, Call, AllIn, Bet, Raise}
use Rattle.break_draw.specs.declared.random.DrawKind.TheVariants as kinds
use Rattle.break_draw.specs.Generator.{draw_generator, words_of}
use Rattle.table_engine.specs.Hands.{HandTerms, due_name, street_of}
use Rattle.table_engine.specs.Acts.{refusal_of_act}

-- The number that is drawn by a seed and a number: what the first word of the generator leaves when it is divided by
-- ten.
unfoldable pub act_number : List ℕ → ℕ → ℕ
act_number seed number = (next_u32 (words_of (draw_generator seed kinds.Act number))).0 % 10

-- The acts that such a number lists, in the order of preference, at this bet level and this full raise: 0 goes all-in,
-- 1 and 2 raise by a full raise or bet one, 3 to 7 call, and 8 and 9 check or fold.
abbrev pub listed_acts : ℕ → ℕ → ℕ → List Act
listed_acts number level full =
    if number == 0 then AllIn ∷ Call ∷ Check ∷ []
    else if nat_le number 2 then Raise (level + full) ∷ Bet full ∷ Call ∷ Check ∷ []
    else if nat_le number 7 then Call ∷ Check ∷ []
    else Check ∷ Fold ∷ []

-- A player's act is lawful where no check refuses it.
abbrev pub is_lawful_act : HandTerms → List ℕ → Act → Bool
is_lawful_act hand name act = is_none (refusal_of_act hand name act)

-- The act of the player who is due: the first lawful one of those that the drawn number lists.
unfoldable pub simulated_act : List ℕ → ℕ → HandTerms → Act
simulated_act seed number hand =
    let street = street_of hand in
    let due = unwrap_or (due_name hand) [] in
    unwrap_or (find (is_lawful_act hand due) (listed_acts (act_number seed number) street.level street.full)) Fold
