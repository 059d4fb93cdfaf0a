-- A worked hand: what bob and a stranger are told of it by the definitions, and which places of its deck are shown.
use Rattle.std.proofs.Common.{◌≡◌, refl, ℕ, List, [], ◌∷◌, ◌++◌, take, drop}
use Rattle.std.specs.Prelude.{codes, Some}
use Rattle.std.specs.Fmt.{digits}
use Rattle.std.specs.List.{flat_map}
use Rattle.floor_text.specs.Lines.{lines_of_bytes}
use Rattle.floor_text.specs.Numbers.{number_of}
use Rattle.card_set.specs.Cards.{card_of, cards_of, so_many_of, row_of}
use Rattle.hand_rank.specs.BestHigh.{best_high}
use Rattle.hand_rank.specs.Values.{ranks_that_occur, distinct_ranks, five_card_value}
use Rattle.pot_layers.specs.Layers.{height_pots, pots_to, layers}
use Rattle.pot_layers.specs.Shares.{units_to}
use Rattle.showdown.specs.Awards.{split, award_pot, awards_of}
use Rattle.showdown.specs.Hands.{hands_of}
use Rattle.showdown.specs.Winners.{winners}
use Rattle.betting_round.specs.ActChecks.{act_refusal}
use Rattle.betting_round.specs.StreetActs.{put_by_acts, street_after}
use Rattle.betting_round.specs.WhoIsDue.{due_seat}
use Rattle.table_engine.specs.Acts.{act_checks, done_of_act}
use Rattle.table_engine.specs.Deals.{dealt_seats, board_of, tabled}
use Rattle.table_engine.specs.Hands.{streets_after}
use Rattle.table_engine.specs.Results.{pots_in_hand, puts_in_hand, live_in_hand, showdown_awards}
use Rattle.line_words.specs.Fields.{next_by, last_by, act_of, amount_if_any}
use Rattle.line_words.specs.Rows.{read_fields}
use Rattle.floor_events.specs.Grammar.{item_of_words, item_of_bytes}
use Rattle.floor_events.specs.Spelling.{event_text}
use Rattle.tournament_rules.specs.Checks.{book_refusal}
use Rattle.replay_rules.specs.Replay.{events_of, items_of_bytes}
use Rattle.tournament_rules.specs.States.{first_state, refusal_of, run}
use Rattle.view_rules.specs.Agreeing.{places_shown_in}
use Rattle.view_rules.specs.Lines.{floor_lines, following_lines, opening_lines, act_lines, lines_of_event}
use Rattle.view_rules.specs.Seen.{winners_of, seen_hand}
use Rattle.view_rules.specs.Shown.{open_streets, tabled_players, hole_places, street_places}
use Rattle.view_rules.specs.Spelling.{line_text}
use Rattle.view_rules.specs.Views.{view_text}

-- lines, each with a line feed behind it
abbrev text_of : List (List ℕ) → List ℕ
text_of lines = flat_map (λ line. line ++ 10 ∷ []) lines

-- the plan, and two players
abbrev before : List (List ℕ)
before =
    codes "game holdem" ∷ codes "tables 1" ∷ codes "seats 6" ∷ codes "stack 1000" ∷ codes "buyin 100"
    ∷ codes "late 1" ∷ codes "blinds 100 200 100" ∷ codes "shares 700 300" ∷ codes "go"
    ∷ codes "enter ann 1 1" ∷ codes "enter bob 1 4" ∷ []

-- what all are told of that
abbrev before_told : List (List ℕ)
before_told =
    codes "# game holdem" ∷ codes "# tables 1" ∷ codes "# seats 6" ∷ codes "# stack 1000" ∷ codes "# buyin 100"
    ∷ codes "# late 1" ∷ codes "# blinds 100 200 100" ∷ codes "# shares 700 300" ∷ codes "# go"
    ∷ codes "# enter ann 1 1" ∷ codes "# enter bob 1 4" ∷ []

-- a hand begins with the sorted deck
abbrev sorted : List ℕ
sorted =
    codes "begin 1 2c2d2h2s3c3d3h3s4c4d4h4s5c5d5h5s6c6d6h6s7c7d7h7s8c8d8h8s9c9d9h9s" ++
    codes "TcTdThTsJcJdJhJsQcQdQhQsKcKdKhKsAcAdAhAs"

-- a hand begins with the sorted deck in which ann's twos and two aces are exchanged
abbrev aces : List ℕ
aces =
    codes "begin 1 2cAh2hAs3c3d3h3s4c4d4h4s5c5d5h5s6c6d6h6s7c7d7h7s8c8d8h8s9c9d9h9s" ++
    codes "TcTdThTsJcJdJhJsQcQdQhQsKcKdKhKsAcAd2d2s"

-- ann is all-in, and bob calls
abbrev called : List ℕ
called = text_of (before ++ aces ∷ codes "act 1 ann allin" ∷ codes "act 1 bob call" ∷ codes "settle 1" ∷ [])

-- ann folds
abbrev folded : List ℕ → List ℕ
folded begin = text_of (before ++ begin ∷ codes "act 1 ann fold" ∷ codes "settle 1" ∷ [])

-- what all are told of the opening
abbrev opening_told : List (List ℕ)
opening_told =
    codes "# begin 1 1" ∷ codes "1: hand 1 1 1 4" ∷ codes "1: seat 1 ann 1000" ∷ codes "1: seat 4 bob 1000"
    ∷ codes "1: post ann 100" ∷ codes "1: post bob 200" ∷ []

-- what all are told of the acts and of the end
abbrev called_told : List (List ℕ)
called_told =
    codes "1: ann raise 1000" ∷ codes "1: bob call 800" ∷ codes "1: show bob 2c2h" ∷ codes "1: show ann AhAs"
    ∷ codes "1: flop 3d3h3s" ∷ codes "1: turn 4d" ∷ codes "1: river 4s" ∷ codes "1: win ann 2000"
    ∷ codes "# settle 1" ∷ codes "# stack 1 1 ann 2000" ∷ codes "# stack 1 4 bob 0" ∷ []

bob_is_told : view_text (codes "bob") called
    ≡ text_of (before_told ++ opening_told ++ codes "1: hole 2c2h" ∷ called_told)
unfolding act_refusal put_by_acts street_after due_seat act_checks done_of_act dealt_seats board_of tabled streets_after puts_in_hand live_in_hand pots_in_hand showdown_awards split award_pot awards_of hands_of winners height_pots pots_to layers units_to best_high ranks_that_occur distinct_ranks five_card_value next_by last_by act_of amount_if_any read_fields item_of_words item_of_bytes event_text card_of cards_of so_many_of row_of book_refusal refusal_of floor_lines following_lines opening_lines act_lines lines_of_event winners_of seen_hand open_streets tabled_players hole_places street_places line_text view_text lines_of_bytes number_of digits
bob_is_told = refl

-- A name that never entered is told what all are told.
a_stranger_is_told : view_text (codes "zed") called ≡ text_of (before_told ++ opening_told ++ called_told)
unfolding act_refusal put_by_acts street_after due_seat act_checks done_of_act dealt_seats board_of tabled streets_after puts_in_hand live_in_hand pots_in_hand showdown_awards split award_pot awards_of hands_of winners height_pots pots_to layers units_to best_high ranks_that_occur distinct_ranks five_card_value next_by last_by act_of amount_if_any read_fields item_of_words item_of_bytes event_text card_of cards_of so_many_of row_of book_refusal refusal_of floor_lines following_lines opening_lines act_lines lines_of_event winners_of seen_hand open_streets tabled_players hole_places street_places line_text view_text lines_of_bytes number_of digits
a_stranger_is_told = refl

-- Where ann folds bob is told the same whatever her cards are.
bob_is_told_alike : view_text (codes "bob") (folded aces) ≡ view_text (codes "bob") (folded sorted)
unfolding act_refusal put_by_acts street_after due_seat act_checks done_of_act dealt_seats board_of tabled streets_after puts_in_hand live_in_hand pots_in_hand showdown_awards split award_pot awards_of hands_of winners height_pots pots_to layers units_to best_high ranks_that_occur distinct_ranks five_card_value next_by last_by act_of amount_if_any read_fields item_of_words item_of_bytes event_text card_of cards_of so_many_of row_of book_refusal refusal_of floor_lines following_lines opening_lines act_lines lines_of_event winners_of seen_hand open_streets tabled_players hole_places street_places line_text view_text lines_of_bytes number_of digits
bob_is_told_alike = refl

-- the places of the deck that come to be shown to bob
abbrev shown_to_bob : List ℕ → List ℕ
shown_to_bob bytes =
    let events = events_of (items_of_bytes bytes) in
    places_shown_in (Some (codes "bob")) (run first_state (take 12 events)) 1 (drop 12 events)

-- Where ann folds his own cards are shown to him, and no others.
shown_where_ann_folds : shown_to_bob (folded aces) ≡ 0 ∷ 2 ∷ []
unfolding act_refusal put_by_acts street_after due_seat act_checks dealt_seats streets_after puts_in_hand live_in_hand pots_in_hand showdown_awards next_by last_by act_of amount_if_any read_fields item_of_words item_of_bytes card_of cards_of so_many_of row_of book_refusal refusal_of open_streets tabled_players hole_places street_places lines_of_bytes number_of
shown_where_ann_folds = refl

-- Where he calls the board and both hands are shown too.
shown_where_bob_calls : shown_to_bob called ≡ 0 ∷ 2 ∷ 5 ∷ 6 ∷ 7 ∷ 9 ∷ 11 ∷ 0 ∷ 2 ∷ 1 ∷ 3 ∷ []
unfolding act_refusal put_by_acts street_after due_seat act_checks dealt_seats board_of tabled streets_after puts_in_hand live_in_hand pots_in_hand showdown_awards split award_pot awards_of hands_of winners height_pots pots_to layers units_to best_high ranks_that_occur distinct_ranks five_card_value next_by last_by act_of amount_if_any read_fields item_of_words item_of_bytes card_of cards_of so_many_of row_of book_refusal refusal_of open_streets tabled_players hole_places street_places lines_of_bytes number_of
shown_where_bob_calls = refl
