-- The streets that are open are those that have begun: where somebody is due after a hand began, or it is won by folds,
-- each of its streets began with somebody due.
use Rattle.std.proofs.Common.{◌≡◌, ◌∙◌, ℕ, suc, ◌-◌, ◌≤◌, Bool, true, false, cond, List, [], ◌∷◌, ◌++◌, length, map, take, Some, None, refl, ap, sym, inl, inr, arith}
use Rattle.std.specs.Prelude.{Option, ◌==◌, ◌&&◌, ◌⊎◌, count_by, is_none, is_some, nat_lt, not, option_map, slice_index_or}
use Rattle.std.specs.List.{list_any}
use Rattle.std.proofs.lemmas.Bool.{and_from, and_parts, cases_Bool, not-true, or_cases, or_from, or_parts, or_right}
use Rattle.rulebook.proofs.Found.{none-by_test}
use Rattle.rulebook.proofs.Tests.{count_by-cons}
use Rattle.betting_round.specs.declared.act.Act.{Act}
use Rattle.betting_round.specs.declared.bettor.Bettor.{Bettor}
use Rattle.betting_round.specs.declared.bettor.Player.{Player}
use Rattle.betting_round.specs.declared.street.Street.{Street}
use Rattle.betting_round.specs.ActChecks.{act_refusal}
use Rattle.betting_round.specs.Limits.{Limits}
use Rattle.betting_round.specs.StreetActs.{SeatAct, StreetStart, at_next_street, fresh, next_bettors, street_after}
use Rattle.betting_round.specs.WhoIsDue.{can_act, due_seat, has_put_most, is_closed, is_live, is_one_live, is_only_one_to_act, is_there, may_be_due, player_at}
use Rattle.betting_round.proofs.Steps.{map_at, street_start_is}
use Rattle.betting_round.proofs.Turns.{accepted-due, due-can_act, due-high, due-low}
use Rattle.table_engine.specs.declared.start.HandStart.{HandStart}
use Rattle.table_engine.specs.Acts.{limits_on}
use Rattle.table_engine.specs.Hands.{HandTerms, StreetPlayed, Streets, first_streets, has_ended, is_over, later_street, street_now, streets_of, with_act, with_next_street}
use Rattle.table_engine.specs.Plays.{IsLawfulPlay}
use Rattle.table_engine.specs.Results.{is_won_by_folds}
use Rattle.table_engine.specs.Starts.{IsLawfulStart}
use Rattle.table_engine.proofs.Along.{kept-play}
use Rattle.table_engine.proofs.DueSeats.{nobody-may}
use Rattle.table_engine.proofs.Rising.{over-whole}
use Rattle.view_rules.specs.Shown.{BoardStreet, Flop, Turn, River, due_streets, is_shown_down, open_streets, street_behind, was_due}
use Rattle.player_view.specs.OpenBy.{open_by}
use Rattle.player_view.proofs.Left.{three-behind}

-- A player as he stands when the next street has begun.
abbrev again : Player → Player
again player = fresh (at_next_street player)

-- The players of a street as they stand when the next has begun.
abbrev all_again : List (Option Player) → List (Option Player)
all_again slots = map (option_map fresh) (map (option_map at_next_street) slots)

-- As many pass a test that asks nothing of the street.
count-again : (test : Player → Bool) (slots : List (Option Player))
    → ((player : Player) → test (again player) ≡ test player)
    → count_by (is_there test) (all_again slots) ≡ count_by (is_there test) slots
count-again test [] same = refl
count-again test (None ∷ slots) same =
    let after = count_by-cons (is_there test) None (all_again slots) in
    let before = count_by-cons (is_there test) None slots in
    let later = count-again test slots same in
    omega arith
count-again test (Some player ∷ slots) same =
    let after = count_by-cons (is_there test) (Some (again player)) (all_again slots) in
    let before = count_by-cons (is_there test) (Some player) slots in
    let later = count-again test slots same in
    let here : cond {A = ℕ} (test (again player)) 1 0 ≡ cond (test player) 1 0 =
    ap (λ (passes : Bool). cond {A = ℕ} passes 1 0) (same player) in
    omega arith

-- Nobody has put in anything when a street has begun.
nothing-put : (slots : List (Option Player)) → has_put_most (all_again slots) 0 ≡ true
nothing-put [] = refl
nothing-put (None ∷ slots) = nothing-put slots
nothing-put (Some player ∷ slots) = and_from _ _ (none player.bettor.live) (nothing-put slots)
  where
    none : (live : Bool) → not (live && nat_lt 0 0) ≡ true
    none true = refl
    none false = refl

-- Who can act has put in as much as every other when a street has begun.
any-again : (test : Player → Bool) (most : ℕ → Bool) (slots : List (Option Player)) → most 0 ≡ true
    → list_any (is_there (λ player. can_act player && test player)) slots ≡ true
    → list_any (is_there (λ player. can_act player && most player.bettor.put)) (all_again slots) ≡ true
any-again test most [] none some = some
any-again test most (None ∷ slots) none some = any-again test most slots none some
any-again test most (Some player ∷ slots) none some =
    elim (or_cases (can_act player && test player)
    (list_any (is_there (λ other. can_act other && test other)) slots) some) [
      | inl here ↦ rw (and_parts (can_act player) (test player) here).0 (rw none refl)
      | inr later ↦ or_right _ _ (any-again test most slots none later)
    ]

-- Where one alone can act and has put in as much as every other, he alone can act when the next street has begun, and
-- nobody has put in more.
only-again : (slots : List (Option Player)) → is_only_one_to_act slots ≡ true
    → is_only_one_to_act (all_again slots) ≡ true
only-again slots only =
    let parts = and_parts (count_by (is_there can_act) slots == 1)
    (list_any (is_there (λ player. can_act player && has_put_most slots player.bettor.put)) slots) only in
    and_from _ _ (ap (λ n. n == 1) (count-again can_act slots (λ player. refl)) ∙ parts.0)
    (any-again (λ player. has_put_most slots player.bettor.put) (has_put_most (all_again slots)) slots
    (nothing-put slots) parts.1)

-- A player who can act as the next street begins could be due as this one did.
could-be-due : (level : ℕ) (slot : Option Bettor)
    → is_there can_act (option_map fresh (option_map at_next_street (option_map fresh slot))) ≡ true
    → is_there (may_be_due level) (option_map fresh slot) ≡ false → ⊥
could-be-due level None can never = absurd cc
could-be-due level (Some bettor) can never = let not_so = rw can at never in absurd cc

-- Where a street is not closed nobody is due.
due-open : (street : Street) (seat : ℕ) → due_seat street ≡ Some seat → is_closed street.players ≡ false
unfolding due_seat
due-open street seat due =
    elim (cases_Bool (is_closed street.players)) [
      | inl closed ↦ let never : None ≡ Some seat = rw closed at due in absurd cc
      | inr open_ ↦ open_
    ]

-- As many are live when the next street has begun.
lives-next : (street : Street) (next : StreetStart) → next.bettors ≡ next_bettors street
    → is_one_live (street_after next []).players ≡ is_one_live street.players
lives-next street next follow =
    ap (λ (s : Street). is_one_live s.players) (street_start_is next)
    ∙ ap (λ bettors. is_one_live (map (option_map fresh) bettors)) follow
    ∙ ap (λ (n : ℕ). n == 1) (count-again is_live street.players (λ player. refl))

-- Where nobody is due as a street begins, and two or more are live, nobody is due as the next one begins.
ended-next : (one two : StreetStart) → two.bettors ≡ next_bettors (street_after one [])
    → has_ended (street_after one []) ≡ true → has_ended (street_after two []) ≡ true
ended-next one two follow ended =
    let first = street_after one [] in
    let second = street_after two [] in
    let parts = and_parts (is_none (due_seat first)) (not (is_one_live first.players)) ended in
    let many : is_one_live first.players ≡ false = not-true (is_one_live first.players) parts.1 in
    let players : second.players ≡ all_again first.players =
    ap (λ (s : Street). s.players) (street_start_is two) ∙ ap (map (option_map fresh)) follow in
    let lives : is_one_live second.players ≡ false = lives-next first two follow ∙ many in
    and_from _ _ (by_due players many (due_seat second) refl) (ap not lives)
  where
    met : is_one_live (street_after one []).players ≡ false
        → (street_after two []).players ≡ all_again (street_after one []).players
        → (seat : ℕ) → due_seat (street_after two []) ≡ Some seat
        → is_only_one_to_act (street_after one []).players ≡ false → ⊥
    met many players seat due wide =
        let first = street_after one [] in
        let second = street_after two [] in
        let low = due-low second seat due in
        let high = due-high second seat due in
        let open_ : is_closed first.players ≡ false =
        or_from (is_one_live first.players) (is_only_one_to_act first.players) many wide in
        let index : suc (seat - 1) - 1 ≡ seat - 1 = omega arith in
        let none = nobody-may first (seat - 1) ended open_ (omega arith) in
        let can = due-can_act second seat due in
        let slot = slice_index_or one.bettors (seat - 1) None in
        let before : slice_index_or first.players (seat - 1) None ≡ option_map fresh slot =
        ap (λ (s : Street). slice_index_or s.players (seat - 1) None) (street_start_is one)
        ∙ map_at fresh (seat - 1) one.bettors in
        let after : player_at second.players seat
        ≡ option_map fresh (option_map at_next_street (option_map fresh slot)) =
        ap (λ (slots : List (Option Player)). slice_index_or slots (seat - 1) None) players
        ∙ map_at fresh (seat - 1) (map (option_map at_next_street) first.players)
        ∙ ap (option_map fresh) (map_at at_next_street (seat - 1) first.players)
        ∙ ap (λ (found : Option Player). option_map fresh (option_map at_next_street found)) before in
        let there : player_at first.players (suc (seat - 1)) ≡ option_map fresh slot =
        ap (λ (n : ℕ). slice_index_or first.players n None) index ∙ before in
        could-be-due first.level slot (sym (ap (is_there can_act) after) ∙ can)
        (sym (ap (is_there (may_be_due first.level)) there) ∙ none)

    by_due : (street_after two []).players ≡ all_again (street_after one []).players
        → is_one_live (street_after one []).players ≡ false
        → (due : Option ℕ) → due_seat (street_after two []) ≡ due → is_none (due_seat (street_after two [])) ≡ true
    by_due players many None is = ap is_none is
    by_due players many (Some seat) is =
        let first = street_after one [] in
        let second = street_after two [] in
        let open_ = or_parts (is_one_live second.players) (is_only_one_to_act second.players)
        (due-open second seat is) in
        elim (cases_Bool (is_only_one_to_act first.players)) [
          | inl only ↦
              let again_ : is_only_one_to_act second.players ≡ true =
              ap is_only_one_to_act players ∙ only-again first.players only in
              let never : true ≡ false = sym again_ ∙ open_.1 in
              absurd cc
          | inr wide ↦ absurd (met many players seat is wide)
        ]

-- The streets that bring cards, in the order of play.
abbrev three : List BoardStreet
three = Flop ∷ Turn ∷ River ∷ []

-- Nobody has acted on the last street, on which nobody was due as it began, and two or more are live.
record IsIdle (streets : Streets) : Type 0 where
  acts : streets.last.acts ≡ []
  ended : has_ended (street_now streets) ≡ true

-- Somebody was due on each street that has begun, or the last has ended before any act.
abbrev AreDue : Streets → Type 0
AreDue streets =
    length streets.before ≤ 3
    → (due_streets (streets.last ∷ streets.before) ≡ take (length streets.before) three) ⊎ IsIdle streets

-- One more street brings cards.
one-more : (before : List StreetPlayed) (last : StreetPlayed) → suc (length before) ≤ 3
    → take (length before) three ++ street_behind (last ∷ before) ≡ take (suc (length before)) three
one-more [] last few = refl
one-more (first ∷ []) last few = refl
one-more (second ∷ first ∷ []) last few = refl
one-more (third ∷ second ∷ first ∷ before) last few = absurd (omega arith)

due-first : (start : HandStart) → AreDue (first_streets start)
due-first start few = inl (none (was_due (first_streets start).last))
  where
    none : (due : Bool) → cond {A = List BoardStreet} due [] [] ≡ []
    none true = refl
    none false = refl

due-next : (start : HandStart) (streets : Streets) → has_ended (street_now streets) ≡ true → AreDue streets
    → AreDue (with_next_street start streets)
due-next start streets ended was few =
    elim (was (omega arith)) [
      | inl same ↦ by_due same (was_due (with_next_street start streets).last) refl
      | inr idle ↦
          let follow = ap (λ (acts : List SeatAct). next_bettors (street_after streets.last.start acts)) idle.acts in
          let before = ap (λ (acts : List SeatAct). has_ended (street_after streets.last.start acts)) idle.acts in
          inr (record {
            acts = refl;
            ended = ended-next streets.last.start (later_street start streets) follow (sym before ∙ ended);
          })
    ]
  where
    nobody : (due : Option ℕ) → is_some due ≡ false → is_none due ≡ true
    nobody None none = refl
    nobody (Some seat) none = absurd cc

    by_due : due_streets (streets.last ∷ streets.before) ≡ take (length streets.before) three → (due : Bool)
        → was_due (with_next_street start streets).last ≡ due
        → (due_streets ((with_next_street start streets).last ∷ streets.last ∷ streets.before)
        ≡ take (suc (length streets.before)) three) ⊎ IsIdle (with_next_street start streets)
    by_due same true due = inl (rw (due, same) (one-more streets.before streets.last few))
    by_due same false none =
        let later = street_now (with_next_street start streets) in
        let parts = and_parts (is_none (due_seat (street_now streets))) (not (is_one_live (street_now streets).players))
        ended in
        let lives = lives-next (street_now streets) (later_street start streets) refl in
        inr (record {
          acts = refl;
          ended = and_from _ _ (nobody (due_seat later) none) (ap not lives ∙ parts.1);
        })

due-act : (streets : Streets) (limits : Limits) (seat : ℕ) (act : Act)
    → act_refusal limits (street_now streets) seat act ≡ None → AreDue streets
    → AreDue (with_act streets (record { seat = seat; act = act }))
due-act streets limits seat act free was few =
    elim (was few) [
      | inl same ↦ inl same
      | inr idle ↦
          let due = accepted-due limits (street_now streets) seat act free in
          let nobody = and_parts (is_none (due_seat (street_now streets)))
          (not (is_one_live (street_now streets).players)) idle.ended in
          let none = none-by_test (due_seat (street_now streets)) nobody.0 in
          let never : None ≡ Some seat = sym none ∙ due in
          absurd cc
    ]

-- What holds of the streets of every lawful play.
due-play : (hand : HandTerms) → IsLawfulStart hand.start → IsLawfulPlay hand → AreDue (streets_of hand)
due-play hand lawful play =
    kept-play hand AreDue lawful play
    (record {
      first = due-first hand.start;
      next = λ streets acts sound ended was. due-next hand.start streets ended was;
      act = λ streets acts seat act sound free was.
          due-act streets (limits_on hand.start streets) seat act free was;
    })

-- The streets of a lawful play that are open are those that have begun.
pub open-begun : (hand : HandTerms) → IsLawfulStart hand.start → IsLawfulPlay hand
    → open_streets hand ≡ open_by (streets_of hand).left
unfolding open_streets
open-begun hand lawful play =
    let behind = three-behind hand in
    let few : length (streets_of hand).before ≤ 3 = omega (arith, behind) in
    let many : length (streets_of hand).before ≡ 3 - (streets_of hand).left = omega (arith, behind) in
    elim (cases_Bool (is_shown_down hand)) [
      | inl shown ↦
          let parts = and_parts (is_over hand) (not (is_won_by_folds hand)) shown in
          let none = over-whole hand parts.0 (not-true (is_won_by_folds hand) parts.1) in
          rw (shown, none) refl
      | inr hidden ↦
          elim (due-play hand lawful play few) [
            | inl same ↦ rw hidden (same ∙ ap (λ n. take n three) many)
            | inr idle ↦ let never : true ≡ false = sym idle.ended ∙ hidden in absurd cc
          ]
    ]
