-- Who is out stays out until he re-enters: while nobody does, the list of those who are out only grows.
use Rattle.std.proofs.Common.{◌≡◌, ◌∙◌, refl, sym, ap, subst, ℕ, zero, suc, ◌<◌, Bool, true, false, cond, ◌==◌, List, [], ◌∷◌, ◌++◌, length, map, take, get_or, arith}
use Rattle.std.specs.Prelude.{not, filter, slice_get, Option, Some, None, Contains}
use Rattle.std.specs.Option.{option_map_or}
use Rattle.std.proofs.lemmas.Bool.{ne_eqb}
use Rattle.std.proofs.lemmas.Option.{same_Some}
use Rattle.std.proofs.lemmas.List.Elements.{Contains-append_left}
use Rattle.std.proofs.lemmas.Slice.Eq.{bytes_eq-Decides}
use Rattle.std.proofs.lemmas.List.{append-nil, append_assoc}
use Rattle.place_list.specs.declared.bust.Bust.{Bust}
use Rattle.table_engine.specs.Hands.{HandTerms}
use Rattle.tournament_events.specs.declared.event.Event.{Event}
use Rattle.tournament_events.specs.declared.event.Event.TheVariants as events
use Rattle.tournament_rules.specs.Books.{BookState, number_in}
use Rattle.tournament_rules.specs.Effects.{bust_of, busted_by, settled}
use Rattle.tournament_rules.specs.Kinds.{is_reentry}
use Rattle.tournament_rules.specs.States.{State, PlayState, hand_at, refusal_of, play_effect, run}
use Rattle.tournament_rules.specs.Valid.{is_bust_of}
use Rattle.tournament_rules.proofs.Ends.{left-void_first}
use Rattle.tournament_rules.proofs.Names.{number_named}
use Rattle.tournament_rules.proofs.Passed.{passed-parts, reentry_passed}
use Rattle.tournament_laws.specs.Accepted.{is_any_accepted}
use Rattle.tournament_laws.specs.Named.{reenters_as}
use Rattle.tournament_laws.proofs.Kept.{run_keeps}

-- A list is another with more behind it.
pub record Extends (before after : List Bust) : Type 0 where
  pub more : List Bust
  pub is : after ≡ before ++ more

same_list : (busts : List Bust) → Extends busts busts
same_list busts = record { more = []; is = sym (append-nil busts) }

extends_twice : (one two three : List Bust) → Extends one two → Extends two three → Extends one three
extends_twice one two three first second = record {
  more = first.more ++ second.more;
  is = second.is ∙ (ap (λ (busts : List Bust). busts ++ second.more) first.is
      ∙ append_assoc one first.more second.more);
}

-- An accepted event that is no re-entry keeps those who are out, and may add some.
effect_extends : (play : PlayState) (event : Event) → is_reentry event ≡ false
    → Extends play.book.busts (play_effect play event).book.busts
effect_extends play (events.Reenter name table seat) kind = absurd cc
effect_extends play (events.Settle table) kind = by_hand (hand_at play table)
  where
    by_hand : (hand : Option HandTerms)
        → Extends play.book.busts (option_map_or (settled play.book) hand play.book).busts
    by_hand None = same_list play.book.busts
    by_hand (Some hand) = record { more = map (bust_of play.book.group) (busted_by hand); is = refl }
effect_extends play events.Stop kind = record {
  more = [];
  is = left-void_first (λ book. book.busts) (record { same = λ book table payees. refl }) play.book
      play.book.plan.tables ∙ sym (append-nil play.book.busts);
}
effect_extends play _ kind = same_list play.book.busts

-- Any list of events of which none is an accepted re-entry keeps those who are out, and may add some.
pub run_extends : (state : State) (events : List Event) (earlier later : PlayState) → state.play ≡ Some earlier
    → (run state events).play ≡ Some later → is_any_accepted is_reentry state events ≡ false
    → Extends earlier.book.busts later.book.busts
run_extends state events earlier later before after none =
    run_keeps (λ later. Extends earlier.book.busts later.book.busts) is_reentry
    (λ mid event kind free is. extends_twice earlier.book.busts mid.book.busts (play_effect mid event).book.busts is
    (effect_extends mid event kind))
    state events earlier later before after none (same_list earlier.book.busts)

-- The head of a list that another extends is that one.
pub head_stays : (before after : List Bust) → Extends before after → take (length before) after ≡ before
head_stays before after extends = rw extends.is (by_list before)
  where
    by_list : (before : List Bust) → take (length before) (before ++ extends.more) ≡ before
    by_list [] = refl
    by_list (bust ∷ before) = ap (◌∷◌ bust) (by_list before)

-- A player is out, with this row and under this name.
record IsOut (bust : Bust) (name : List ℕ) (book : BookState) : Type 0 where
  row : Contains book.busts bust
  named : slice_get book.entries bust.player ≡ Some name

get_more : {A : Type 0} (items : List A) (i : ℕ) (item new : A) → slice_get items i ≡ Some item
    → slice_get (items ++ new ∷ []) i ≡ Some item
get_more [] i item new is = cc
get_more (first ∷ items) zero item new is = is
get_more (first ∷ items) (suc i) item new is = get_more items i item new is

-- A row that passes is kept.
kept_row : (test : Bust → Bool) (busts : List Bust) (bust : Bust) (k : ℕ) → k < length busts
    → get_or busts k bust ≡ bust → test bust ≡ true → Contains (filter test busts) bust
kept_row test [] bust k within is passes = absurd (omega arith)
kept_row test (first ∷ busts) bust zero within is passes =
    let here : test first ≡ true = ap test is ∙ passes in
    rw here (0, omega arith, is)
kept_row test (first ∷ busts) bust (suc k) within is passes =
    by_test (test first) (kept_row test busts bust k (omega arith) is passes)
  where
    by_test : (b : Bool) → Contains (filter test busts) bust
        → Contains (cond b (first ∷ filter test busts) (filter test busts)) bust
    by_test true there = (suc there.0, (let low = there.1 in omega (arith, low)), there.2)
    by_test false there = there

-- He stays out at each accepted event but his re-entry.
out-kept : (bust : Bust) (name : List ℕ) (play : PlayState) (event : Event) → reenters_as name event ≡ false
    → refusal_of play event ≡ None → IsOut bust name play.book → IsOut bust name (play_effect play event).book
out-kept bust name play (events.Enter other table seat) kind free out = record {
  row = out.row;
  named = get_more play.book.entries bust.player name other out.named;
}
out-kept bust name play (events.Reenter other table seat) kind free out =
    let may = reentry_passed play.book other table seat (passed-parts play (events.Reenter other table seat) free).0 in
    let there = number_named play.book.entries other may.known in
    let apart : (bust.player == number_in play.book other) ≡ false = ne_eqb bust.player (number_in play.book other)
    (λ same.
    let one : Some name ≡ Some other = sym out.named ∙ (ap (slice_get play.book.entries) same ∙ there) in
    let names = (bytes_eq-Decides name other).1 (same_Some name other one) in
    absurd cc) in
    record {
      row = kept_row (λ bust. not (is_bust_of (number_in play.book other) bust)) play.book.busts bust out.row.0 out.row.1
          out.row.2 (ap not apart);
      named = out.named;
    }
out-kept bust name play (events.Settle table) kind free out = by_hand (hand_at play table)
  where
    by_hand : (hand : Option HandTerms) → IsOut bust name (option_map_or (settled play.book) hand play.book)
    by_hand None = out
    by_hand (Some hand) = record {
      row = Contains-append_left play.book.busts (map (bust_of play.book.group) (busted_by hand)) bust out.row;
      named = out.named;
    }
out-kept bust name play events.Stop kind free out = record {
  row = subst (λ (busts : List Bust). Contains busts bust) (sym (left-void_first (λ book. book.busts)
      (record { same = λ book table payees. refl }) play.book play.book.plan.tables)) out.row;
  named = subst (λ (entries : List (List ℕ)). slice_get entries bust.player ≡ Some name)
      (sym (left-void_first (λ book. book.entries) (record { same = λ book table payees. refl }) play.book
      play.book.plan.tables)) out.named;
}
out-kept bust name play _ kind free out = record { row = out.row; named = out.named }

-- So he does after any list of events of which none is an accepted re-entry of his.
pub stays_out : (state : State) (events : List Event) (earlier later : PlayState) (bust : Bust) (name : List ℕ)
    → state.play ≡ Some earlier → (run state events).play ≡ Some later → Contains earlier.book.busts bust
    → slice_get earlier.book.entries bust.player ≡ Some name
    → is_any_accepted (reenters_as name) state events ≡ false → Contains later.book.busts bust
stays_out state events earlier later bust name before after row named none =
    (run_keeps (λ play. IsOut bust name play.book) (reenters_as name)
    (λ play event kind free out. out-kept bust name play event kind free out)
    state events earlier later before after none (record { row = row; named = named })).row
