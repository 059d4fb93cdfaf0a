-- Checks in rising number, and a whole board at a showdown.
use Rattle.std.proofs.Common.{◌≡◌, ◌∙◌, ℕ, zero, suc, true, false, List, [], ◌∷◌, map, refl, sym, inl, inr, arith}
use Rattle.std.specs.Prelude.{not, ◌&&◌, reverse}
use Rattle.std.proofs.lemmas.Bool.{cases_Bool}
use Rattle.floor_text.specs.Refusals.{refusal_number}
use Rattle.rulebook.specs.Pairs.{are_rising}
use Rattle.betting_round.specs.StreetActs.{SeatAct}
use Rattle.betting_round.specs.declared.act.Act.{Act}
use Rattle.betting_round.specs.declared.act.Act.TheVariants.{Fold, Check, Call, AllIn, Bet, Raise}
use Rattle.table_engine.specs.declared.start.HandStart.{HandStart}
use Rattle.table_engine.specs.Acts.{act_checks}
use Rattle.table_engine.specs.Hands.{HandTerms, Streets, by_seat, dealt_on, first_streets, has_ended, is_over, street_now, streets_after, streets_of, with_act, with_next_street}
use Rattle.table_engine.specs.Results.{is_won_by_folds}

pub checks-rise : (hand : HandTerms) (name : List ℕ) (act : Act)
    → are_rising (map (λ check. refusal_number check.0) (act_checks hand name act)) ≡ true
unfolding act_checks
checks-rise hand name Fold = refl
checks-rise hand name Check = refl
checks-rise hand name Call = refl
checks-rise hand name AllIn = refl
checks-rise hand name (Bet n) = refl
checks-rise hand name (Raise n) = refl

dealt_on-whole : (start : HandStart) (left : ℕ) (streets : Streets) → streets.left ≡ left
    → has_ended (street_now (dealt_on start left streets)) ≡ true → (dealt_on start left streets).left ≡ 0
dealt_on-whole start zero streets is ended = is
dealt_on-whole start (suc left) streets is ended =
    elim (cases_Bool (has_ended (street_now streets))) [
      | inl more ↦
          rw more (dealt_on-whole start left (with_next_street start streets) (omega (arith, is)) (rw more at ended))
      | inr open_ ↦
          let never : false ≡ true = sym open_ ∙ (rw open_ at ended) in absurd cc
    ]

streets-whole : (start : HandStart) (acts : List SeatAct)
    → has_ended (street_now (streets_after start acts)) ≡ true → (streets_after start acts).left ≡ 0
unfolding streets_after
streets-whole start [] ended = dealt_on-whole start 3 (first_streets start) refl ended
streets-whole start (entry ∷ acts) ended =
    dealt_on-whole start (streets_after start acts).left (with_act (streets_after start acts) entry) refl ended

pub over-whole : (hand : HandTerms) → is_over hand ≡ true → is_won_by_folds hand ≡ false → (streets_of hand).left ≡ 0
over-whole hand over many =
    streets-whole hand.start (reverse (map (by_seat hand.start) hand.acts))
    (λ i. over i && not (many i))
