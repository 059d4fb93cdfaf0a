-- No group has players of two rounds.
use Rattle.std.proofs.Common.{◌≡◌, ◌∙◌, refl, sym, ap, subst, ℕ, ◌+◌, ◌<◌, ◌≤◌, ◌⊎◌, inl, inr, Bool, true, false, List, [], ◌++◌, map, get_or, arith}
use Rattle.std.specs.Prelude.{not, nat_le, filter, if◌then◌else◌, Option, Some, None, option_map, Contains}
use Rattle.std.specs.List.{list_all, All}
use Rattle.std.specs.Option.{option_map_or}
use Rattle.std.proofs.lemmas.Bool.{and_from, le-leb, leb-true}
use Rattle.std.proofs.lemmas.Option.{same_Some}
use Rattle.std.proofs.lemmas.List.{append-nil, append_assoc}
use Rattle.std.proofs.lemmas.List.Folds.{list_all-append}
use Rattle.std.proofs.lemmas.List.Elements.{All-append, All-contains, All-contains_itself, All-filter, All-map, All-weaker}
use Rattle.std.proofs.lemmas.List.Sums.{AllPass-from_list_all}
use Rattle.rulebook.proofs.Passing.{filter-always}
use Rattle.rulebook.proofs.Tests.{list_all-follows, some_there}
use Rattle.place_list.specs.declared.bust.Bust.{Bust}
use Rattle.table_engine.specs.declared.start.HandStart.{HandStart}
use Rattle.table_engine.specs.Hands.{HandTerms}
use Rattle.tournament_events.specs.declared.answer.Answer.TheVariants.{Ok}
use Rattle.tournament_events.specs.declared.event.Event.{Event}
use Rattle.tournament_events.specs.declared.event.Event.TheVariants as events
use Rattle.tournament_rules.specs.Books.{BookState, number_in, start_at}
use Rattle.tournament_rules.specs.Effects.{bust_of, busted_by, settled, book_effect, next_group}
use Rattle.tournament_rules.specs.Kinds.{ends_round, is_reentry}
use Rattle.tournament_laws.specs.Accepted.{is_any_accepted}
use Rattle.tournament_rules.specs.States.{State, PlayState, acts_at, hand_at, hand_about, refusal_of, answer_to, is_accepted, play_effect, state_after, run}
use Rattle.tournament_rules.specs.Valid.{IsValidPlay, is_bust_of}
use Rattle.tournament_rules.proofs.Ends.{next_or_same, left-void_first}
use Rattle.tournament_laws.proofs.Kept.{hands_kept, is_turn, run_keeps, run_keeps_all}
use Rattle.tournament_rules.proofs.MoveLaws.{not_refused}
use Rattle.tournament_rules.proofs.Passed.{passed-parts, settle_passed}
use Rattle.tournament_laws.proofs.RoundLaws.{no_turn}
use Rattle.tournament_rules.proofs.Stayed.{grouped_left, all_in_group, same_group}

-- More players are out than before, none of them in an earlier group than who went out next, and nor is who goes out
-- next now.
pub record Grows (earlier later : BookState) : Type 0 where
  pub more : List Bust
  pub is : later.busts ≡ earlier.busts ++ more
  pub least : list_all (λ bust. nat_le earlier.group bust.group) more ≡ true
  pub group : earlier.group ≤ later.group

grows_none : (earlier later : BookState) → later.busts ≡ earlier.busts → earlier.group ≤ later.group
    → Grows earlier later
grows_none earlier later same group = record {
  more = [];
  is = same ∙ sym (append-nil earlier.busts);
  least = refl;
  group = group;
}

no_earlier : (one other : ℕ) → one ≤ other → (busts : List Bust)
    → list_all (λ bust. nat_le other bust.group) busts ≡ true → list_all (λ bust. nat_le one bust.group) busts ≡ true
no_earlier one other most busts all =
    list_all-follows (λ (bust : Bust). nat_le other bust.group) (λ bust. nat_le one bust.group) busts
    (λ bust is. le-leb one bust.group (omega (arith, leb-true other bust.group is))) all

grows_twice : (one two three : BookState) → Grows one two → Grows two three → Grows one three
grows_twice one two three first second = record {
  more = first.more ++ second.more;
  is = second.is ∙ (ap (λ (busts : List Bust). busts ++ second.more) first.is
      ∙ append_assoc one.busts first.more second.more);
  least = list_all-append (λ (bust : Bust). nat_le one.group bust.group) first.more second.more
      ∙ and_from _ _ first.least (no_earlier one.group two.group first.group second.more second.least);
  group = let before = first.group in let after = second.group in omega (arith, before, after);
}

-- Each accepted event is so but a re-entry.
effect_grows : (book : BookState) (hand : Option HandTerms) (event : Event) → is_reentry event ≡ false
    → Grows book (book_effect book hand event)
effect_grows book hand (events.Reenter name table seat) kind = absurd cc
effect_grows book hand (events.Settle table) kind = by_hand hand
  where
    by_hand : (hand : Option HandTerms) → Grows book (option_map_or (settled book) hand book)
    by_hand None = grows_none book book refl (omega arith)
    by_hand (Some hand) = record {
      more = map (bust_of book.group) (busted_by hand);
      is = refl;
      least = all_in_group (λ other. nat_le book.group other) book.group (busted_by hand) (same_group book.group);
      group = (next_or_same book.seating.hands book.group).0;
    }
effect_grows book hand (events.Hands on) kind = grows_none book _ refl (next_or_same on book.group).0
effect_grows book hand events.Round kind = grows_none book _ refl (omega arith)
effect_grows book hand events.Stop kind = grows_none book _
    (left-void_first (λ book. book.busts) (record { same = λ book table payees. refl }) book book.plan.tables)
    (let same = left-void_first (λ book. book.group) (record { same = λ book table payees. refl }) book
    book.plan.tables in omega (arith, same))
effect_grows book hand _ kind = grows_none book _ refl (omega arith)

-- After events of which none is a re-entry more players are out, none of them in an earlier group than who went out
-- next before them.
pub run_grows : (state : State) (events : List Event) (play later : PlayState) → state.play ≡ Some play
    → (run state events).play ≡ Some later → is_any_accepted is_reentry state events ≡ false
    → Grows play.book later.book
run_grows state events play later at after none =
    run_keeps (λ later. Grows play.book later.book) is_reentry
    (λ mid event kind free is. grows_twice play.book mid.book (play_effect mid event).book is
    (effect_grows mid.book (hand_about mid event) event kind))
    state events play later at after none (grows_none play.book play.book refl (omega arith))

-- Who is out was out before or is in no earlier group than who went out next then, and nor is who goes out next now.
record Follows (earlier later : BookState) : Type 0 where
  rows : All (λ bust. Contains earlier.busts bust ⊎ (earlier.group ≤ bust.group)) later.busts
  group : earlier.group ≤ later.group

-- So it is where no row is new.
follows_kept : (earlier later : BookState) (keep : Bust → Bool) → later.busts ≡ filter keep earlier.busts
    → earlier.group ≤ later.group → Follows earlier later
follows_kept earlier later keep kept group = record {
  rows = subst (All (λ (bust : Bust). Contains earlier.busts bust ⊎ (earlier.group ≤ bust.group))) (sym kept)
      (All-filter keep (λ (bust : Bust). Contains earlier.busts bust ⊎ (earlier.group ≤ bust.group)) earlier.busts
      (All-weaker (Contains earlier.busts) (λ (bust : Bust). Contains earlier.busts bust ⊎ (earlier.group ≤ bust.group))
      (λ bust there. inl there) earlier.busts (All-contains_itself earlier.busts)));
  group = group;
}

follows_same : (earlier later : BookState) → later.busts ≡ earlier.busts → earlier.group ≤ later.group
    → Follows earlier later
follows_same earlier later same group = follows_kept earlier later (λ bust. true)
    (same ∙ sym (filter-always (λ bust. true) earlier.busts (λ bust. refl))) group

follows_twice : (one two three : BookState) → Follows one two → Follows two three → Follows one three
follows_twice one two three first second = record {
  rows = All-weaker (λ (bust : Bust). Contains two.busts bust ⊎ (two.group ≤ bust.group))
      (λ (bust : Bust). Contains one.busts bust ⊎ (one.group ≤ bust.group)) his three.busts second.rows;
  group = let before = first.group in let after = second.group in omega (arith, before, after);
}
  where
    his : (bust : Bust) → Contains two.busts bust ⊎ (two.group ≤ bust.group)
        → Contains one.busts bust ⊎ (one.group ≤ bust.group)
    his bust (inl there) = All-contains (λ (bust : Bust). Contains one.busts bust ⊎ (one.group ≤ bust.group)) two.busts
        bust first.rows there
    his bust (inr least) = inr (let before = first.group in omega (arith, before, least))

-- Each accepted event is so.
effect_follows : (book : BookState) (hand : Option HandTerms) (event : Event)
    → Follows book (book_effect book hand event)
effect_follows book hand (events.Reenter name table seat) =
    follows_kept book _ (λ bust. not (is_bust_of (number_in book name) bust)) refl (omega arith)
effect_follows book hand (events.Settle table) = by_hand hand
  where
    row : Bust → Type 0
    row bust = Contains book.busts bust ⊎ (book.group ≤ bust.group)

    by_hand : (hand : Option HandTerms) → Follows book (option_map_or (settled book) hand book)
    by_hand None = follows_same book book refl (omega arith)
    by_hand (Some hand) = record {
      rows = All-append row book.busts (map (bust_of book.group) (busted_by hand))
          (All-weaker (Contains book.busts) row (λ bust there. inl there) book.busts (All-contains_itself book.busts))
          (All-map row (bust_of book.group) (busted_by hand) (λ k d within. inr (omega arith)));
      group = (next_or_same book.seating.hands book.group).0;
    }
effect_follows book hand (events.Hands on) = follows_same book _ refl (next_or_same on book.group).0
effect_follows book hand events.Round = follows_same book _ refl (omega arith)
effect_follows book hand events.Stop = follows_same book _
    (left-void_first (λ book. book.busts) (record { same = λ book table payees. refl }) book book.plan.tables)
    (let same = left-void_first (λ book. book.group) (record { same = λ book table payees. refl }) book
    book.plan.tables in omega (arith, same))
effect_follows book hand _ = follows_same book _ refl (omega arith)

-- So is any list of events.
run_follows : (state : State) (events : List Event) (play later : PlayState) → state.play ≡ Some play
    → (run state events).play ≡ Some later → Follows play.book later.book
run_follows state events play later at after =
    run_keeps_all (λ later. Follows play.book later.book)
    (λ mid event is. follows_twice play.book mid.book (play_effect mid event).book is
    (effect_follows mid.book (hand_about mid event) event))
    state events play later at after (follows_same play.book play.book refl (omega arith))

-- While hand-for-hand is on and no round ends, the group of those who go out next is the same.
record IsInRound (group : ℕ) (play : PlayState) : Type 0 where
  on : play.book.seating.hands ≡ true
  same : play.book.group ≡ group

round_kept : (group : ℕ) (play : PlayState) (event : Event) → ends_round event ≡ false → refusal_of play event ≡ None
    → IsInRound group play → IsInRound group (play_effect play event)
round_kept group play event kind free is =
    let stays = no_turn play event kind free is.on in
    record {
      on = hands_kept play.book (hand_about play event) event stays ∙ is.on;
      same = by_event event stays ∙ is.same;
    }
  where
    by_event : (event : Event) → is_turn event ≡ false
        → (book_effect play.book (hand_about play event) event).group ≡ play.book.group
    by_event (events.Settle table) stays = by_hand (hand_at play table)
      where
        by_hand : (hand : Option HandTerms) → (option_map_or (settled play.book) hand play.book).group ≡ play.book.group
        by_hand None = refl
        by_hand (Some hand) =
            ap (λ (hands : Bool). if hands then play.book.group else play.book.group + 1) is.on
    by_event events.Stop stays = left-void_first (λ book. book.group) (record { same = λ book table payees. refl })
        play.book play.book.plan.tables
    by_event _ stays = cc

-- Who goes out in a round is in one group.
pub one_group : (state : State) (during : List Event) (play later : PlayState) → state.play ≡ Some play
    → (run state during).play ≡ Some later → IsValidPlay later → play.book.seating.hands ≡ true
    → is_any_accepted ends_round state during ≡ false
    → All (λ bust. Contains play.book.busts bust ⊎ (bust.group ≡ play.book.group)) later.book.busts
one_group state during play later at after valid on none =
    let follows = run_follows state during play later at after in
    let round = run_keeps (IsInRound play.book.group) ends_round (round_kept play.book.group) state during play later at
    after none (record { on = on; same = refl }) in
    λ k d within.
    his (get_or later.book.busts k d) round.same (follows.rows k d within)
    (AllPass-from_list_all (λ (bust : Bust). nat_le bust.group later.book.group) later.book.busts
    valid.book.busts.past k d within)
  where
    his : (bust : Bust) → later.book.group ≡ play.book.group
        → Contains play.book.busts bust ⊎ (play.book.group ≤ bust.group) → nat_le bust.group later.book.group ≡ true
        → Contains play.book.busts bust ⊎ (bust.group ≡ play.book.group)
    his bust same (inl there) past = inl there
    his bust same (inr least) past =
        inr (let most = leb-true bust.group later.book.group past in omega (arith, least, most, same))

-- Who goes out once the group has risen is in a later group than all who were out.
groups_apart : (group : ℕ) (mid later : BookState) → list_all (λ bust. nat_le bust.group group) mid.busts ≡ true
    → group < mid.group → Follows mid later
    → All (λ other. Contains mid.busts other ⊎ All (λ one. one.group < other.group) mid.busts) later.busts
groups_apart group mid later past risen follows =
    All-weaker (λ (other : Bust). Contains mid.busts other ⊎ (mid.group ≤ other.group))
    (λ (other : Bust). Contains mid.busts other ⊎ All (λ (one : Bust). one.group < other.group) mid.busts) his
    later.busts follows.rows
  where
    his : (other : Bust) → Contains mid.busts other ⊎ (mid.group ≤ other.group)
        → Contains mid.busts other ⊎ All (λ (one : Bust). one.group < other.group) mid.busts
    his other (inl there) = inl there
    his other (inr least) = inr (λ k d within.
        let most = leb-true (get_or mid.busts k d).group group
        (AllPass-from_list_all (λ (bust : Bust). nat_le bust.group group) mid.busts past k d within) in
        omega (arith, most, risen, least))

-- The end of a round raises the group, and nobody goes out by it.
record IsRaised (before after : BookState) : Type 0 where
  busts : after.busts ≡ before.busts
  group : after.group ≡ before.group + 1

round_raises : (play : PlayState) (event : Event) → ends_round event ≡ true
    → IsRaised play.book (play_effect play event).book
round_raises play (events.Hands true) kind = absurd cc
round_raises play (events.Hands false) kind = record { busts = refl; group = refl }
round_raises play events.Round kind = record { busts = refl; group = refl }
round_raises play _ kind = absurd cc

-- An accepted end of a round raises the group by one.
pub group_rises : (state : State) (event : Event) (play later : PlayState) → state.play ≡ Some play
    → ends_round event ≡ true → answer_to state event ≡ Ok → (state_after state event).play ≡ Some later
    → later.book.group ≡ play.book.group + 1
group_rises state event play later at kind taken after =
    let accepted = ap is_accepted taken in
    let next : (state_after state event).play ≡ Some (play_effect play event) = rw (accepted, at) refl in
    let same : play_effect play event ≡ later = same_Some (play_effect play event) later (sym next ∙ after) in
    ap (λ (play : PlayState). play.book.group) (sym same) ∙ (round_raises play event kind).group

-- Who goes out after the end of a round is in a later group than all who were out before.
pub rounds_apart : (state : State) (after : List Event) (event : Event) (play later : PlayState)
    → state.play ≡ Some play → IsValidPlay play → ends_round event ≡ true → answer_to state event ≡ Ok
    → (run (state_after state event) after).play ≡ Some later
    → All (λ other. Contains play.book.busts other ⊎ All (λ one. one.group < other.group) play.book.busts)
    later.book.busts
rounds_apart state after event play later at valid kind taken ends =
    let accepted = ap is_accepted taken in
    let next : (state_after state event).play ≡ Some (play_effect play event) = rw (accepted, at) refl in
    let mid = (play_effect play event).book in
    let raised = round_raises play event kind in
    let follows = run_follows (state_after state event) after (play_effect play event) later next ends in
    let past = ap (list_all (λ (bust : Bust). nat_le bust.group play.book.group)) raised.busts
    ∙ valid.book.busts.past in
    let apart = groups_apart play.book.group mid later.book past (let risen = raised.group in omega (arith, risen))
    follows in
    subst (λ (busts : List Bust). All (λ (other : Bust). Contains busts other
    ⊎ All (λ (one : Bust). one.group < other.group) busts) later.book.busts) raised.busts apart

-- Who goes out after a settle, while hand-for-hand is off, is in a later group than all who went out before and by it.
pub settles_apart : (state : State) (after : List Event) (table : ℕ) (play mid later : PlayState)
    → state.play ≡ Some play → IsValidPlay play → play.book.seating.hands ≡ false
    → answer_to state (events.Settle table) ≡ Ok → (state_after state (events.Settle table)).play ≡ Some mid
    → (run (state_after state (events.Settle table)) after).play ≡ Some later
    → All (λ other. Contains mid.book.busts other ⊎ All (λ one. one.group < other.group) mid.book.busts)
    later.book.busts
settles_apart state after table play mid later at valid off taken middle ends =
    let event = events.Settle table in
    let free = passed-parts play event (not_refused state play event at taken) in
    let playing = (settle_passed play.book table free.0).playing in
    let found = some_there (start_at play.book.started table) (sym (valid.book.tables.playing table) ∙ playing) in
    let hand : HandTerms = record { start = found.0; acts = acts_at play.acts table } in
    let is : hand_at play table ≡ Some hand =
    ap (λ (start : Option HandStart). option_map (λ start. record { start = start; acts = acts_at play.acts table })
    start) found.1 in
    let accepted = ap is_accepted taken in
    let next : (state_after state event).play ≡ Some (play_effect play event) = rw (accepted, at) refl in
    let same : play_effect play event ≡ mid = same_Some (play_effect play event) mid (sym next ∙ middle) in
    let book : (play_effect play event).book ≡ settled play.book hand =
    ap (λ (hand : Option HandTerms). option_map_or (settled play.book) hand play.book) is in
    let mid_is : settled play.book hand ≡ mid.book = sym book ∙ ap (λ (play : PlayState). play.book) same in
    let past = (grouped_left play.book.group play.book.group (busted_by hand) play.book.busts (omega arith)
    valid.book.busts).past in
    let follows = run_follows (state_after state event) after mid later middle ends in
    let raised : next_group play.book ≡ play.book.group + 1 =
    ap (λ (hands : Bool). if hands then play.book.group else play.book.group + 1) off in
    groups_apart play.book.group mid.book later.book
    (ap (λ (book : BookState). list_all (λ (bust : Bust). nat_le bust.group play.book.group) book.busts) (sym mid_is)
    ∙ past)
    (let group = ap (λ (book : BookState). book.group) mid_is in omega (arith, raised, group)) follows
