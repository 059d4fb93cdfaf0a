-- The text of the lines of a hand.
use Rattle.std.proofs.Common.{◌≡◌, ◌∙◌, ℕ, zero, suc, ◌≤◌, ◌<◌, Bool, true, false, List, [], ◌∷◌, ◌++◌, length, map, drop, Some, refl, ap, sym, inl, inr, append_assoc, append-nil, arith}
use Rattle.std.specs.Option.{option_map_or}
use Rattle.std.specs.Prelude.{Option, ◌==◌, ◌&&◌, codes, filter, nat_le, nat_lt}
use Rattle.std.specs.Fmt.{decimal}
use Rattle.std.specs.List.{flat_map}
use Rattle.std.proofs.lemmas.Bool.{cases_Bool, lt-ltb}
use Rattle.std.proofs.lemmas.Bool.Decides.{nat_tests}
use Rattle.std.proofs.lemmas.List.{drop_all, drop-map, length-map}
use Rattle.betting_round.specs.declared.act.Done.{Done}
use Rattle.card_set.specs.declared.card.Card.{Card}
use Rattle.card_set.specs.Cards.{cards_text}
use Rattle.line_words.specs.Words.{line_of_words}
use Rattle.table_engine.specs.declared.awards.Awards.{Awards}
use Rattle.table_engine.specs.declared.record.ActOf.{ActOf}
use Rattle.table_engine.specs.declared.start.HandStart.{HandStart}
use Rattle.table_engine.specs.declared.start.StartSeat.{StartSeat}
use Rattle.table_engine.specs.Acts.{done_of_act}
use Rattle.table_engine.specs.Awards.{award_in, awards_in_hand}
use Rattle.table_engine.specs.Hands.{HandTerms, ante_posted, is_live, is_over, player_of, posted, seat_of_name, streets_of}
use Rattle.table_engine.specs.Plays.{IsLawfulPlay}
use Rattle.table_engine.specs.Results.{award}
use Rattle.table_engine.specs.Starts.{IsLawfulStart}
use Rattle.table_engine.proofs.ChipsAfter.{award-is}
use Rattle.table_engine.proofs.NoCards.{done-deck}
use Rattle.view_rules.specs.Shown.{BoardStreet, Viewer, Flop, Turn, River, hole_places, is_shown_down, open_streets, street_places, own_places, players_clockwise, tabled_players}
use Rattle.view_rules.specs.Seen.{cards_at, opened, seen_hand, tabled, undealt, winners_of, won_by}
use Rattle.view_rules.specs.Spelling.{ActLine, HandLine, street_word, SeatLine, ShowLine, StreetLine, WinLine, Table, line_text}
use Rattle.view_rules.specs.Lines.{act_lines, ante_lines, following_lines, hole_lines, opening_lines, post_lines}
use Rattle.player_view.specs.Each.{shown_lines, street_lines, table_text, win_lines}
use Rattle.player_view.specs.OpenBy.{open_by, opened_since}
use Rattle.player_view.proofs.Cards.{hole-line}
use Rattle.player_view.proofs.OpenStreets.{open-begun}
use Rattle.player_view.proofs.Texts.{text-both, text-lines, text-halves}

-- The lines of those who are live, player by player.
shown-each : (hand : HandTerms) (players : List StartSeat)
    → flat_map (shown_lines hand) players ≡ map ShowLine (map (tabled hand.start) (filter (is_live hand) players))
shown-each hand [] = refl
shown-each hand (player ∷ players) =
    let later = shown-each hand players in
    elim (cases_Bool (is_live hand player)) [
      | inl live ↦ rw live (ap (λ rest. ShowLine (tabled hand.start player) ∷ rest) later)
      | inr folded ↦ rw folded later
    ]

-- The lines of those who get something, player by player.
wins-each : (hand : HandTerms) (players : List StartSeat)
    → flat_map (win_lines hand) players
    ≡ map WinLine (filter (λ won. nat_lt 0 won.chips) (map (won_by hand) players))
wins-each hand [] = refl
wins-each hand (player ∷ players) =
    let later = wins-each hand players in
    elim (cases_Bool (nat_lt 0 (award hand player))) [
      | inl some ↦ rw some (ap (λ rest. WinLine (won_by hand player) ∷ rest) later)
      | inr none ↦ rw none later
    ]

-- Where a hand is shown down, the lines of the hands that are tabled are those of its players who are live.
pub text-tabled : (table : ℕ) (hand : HandTerms) (first last : List StartSeat)
    → first ++ last ≡ players_clockwise hand.start → is_shown_down hand ≡ true
    → flat_map (λ player. table_text table (shown_lines hand player)) first
    ++ flat_map (λ player. table_text table (shown_lines hand player)) last
    ≡ table_text table (map ShowLine (map (tabled hand.start) (tabled_players hand)))
unfolding tabled_players
text-tabled table hand first last whole shown =
    rw shown
    (text-halves table (shown_lines hand) first last (players_clockwise hand.start) whole
    ∙ ap (table_text table) (shown-each hand (players_clockwise hand.start)))

-- Where a hand is not shown down no hand is tabled.
pub text-hidden : (table : ℕ) (hand : HandTerms) → is_shown_down hand ≡ false
    → [] ≡ table_text table (map ShowLine (map (tabled hand.start) (tabled_players hand)))
unfolding tabled_players
text-hidden table hand hidden = rw hidden refl

-- Where a hand is over, the lines of what its winners get are those of its players who get something.
pub text-won : (table : ℕ) (hand : HandTerms) (first last : List StartSeat)
    → first ++ last ≡ players_clockwise hand.start → is_over hand ≡ true
    → flat_map (λ player. table_text table (win_lines hand player)) first
    ++ flat_map (λ player. table_text table (win_lines hand player)) last
    ≡ table_text table (map WinLine (winners_of hand))
unfolding winners_of
text-won table hand first last whole over =
    rw over
    (text-halves table (win_lines hand) first last (players_clockwise hand.start) whole
    ∙ ap (table_text table) (wins-each hand (players_clockwise hand.start)))

-- Where a hand is not over nobody gets anything.
pub text-unwon : (table : ℕ) (hand : HandTerms) → is_over hand ≡ false
    → [] ≡ table_text table (map WinLine (winners_of hand))
unfolding winners_of
text-unwon table hand open_ = rw open_ refl

-- The lines of the streets that have begun since so many could still begin, street by street.
streets-each : (start : HandStart) (left_before left : ℕ) → left_before ≤ 3 → left ≤ left_before
    → street_lines start Flop 3 left_before left
    ++ (street_lines start Turn 2 left_before left ++ street_lines start River 1 left_before left)
    ≡ map StreetLine (map (opened start) (opened_since left_before left))
streets-each start zero zero most within = refl
streets-each start zero (suc left) most within = absurd (omega arith)
streets-each start (suc zero) zero most within = refl
streets-each start (suc zero) (suc zero) most within = refl
streets-each start (suc zero) (suc (suc left)) most within = absurd (omega arith)
streets-each start (suc (suc zero)) zero most within = refl
streets-each start (suc (suc zero)) (suc zero) most within = refl
streets-each start (suc (suc zero)) (suc (suc zero)) most within = refl
streets-each start (suc (suc zero)) (suc (suc (suc left))) most within = absurd (omega arith)
streets-each start (suc (suc (suc zero))) zero most within = refl
streets-each start (suc (suc (suc zero))) (suc zero) most within = refl
streets-each start (suc (suc (suc zero))) (suc (suc zero)) most within = refl
streets-each start (suc (suc (suc zero))) (suc (suc (suc zero))) most within = refl
streets-each start (suc (suc (suc zero))) (suc (suc (suc (suc left)))) most within = absurd (omega arith)
streets-each start (suc (suc (suc (suc left_before)))) left most within = absurd (omega arith)

-- The text of the streets that have begun since so many could still begin, street by street.
pub text-streets : (table : ℕ) (start : HandStart) (left_before left : ℕ) → left_before ≤ 3 → left ≤ left_before
    → table_text table (street_lines start Flop 3 left_before left)
    ++ (table_text table (street_lines start Turn 2 left_before left)
    ++ table_text table (street_lines start River 1 left_before left))
    ≡ table_text table (map StreetLine (map (opened start) (opened_since left_before left)))
text-streets table start left_before left most within =
    let flop = street_lines start Flop 3 left_before left in
    let turn = street_lines start Turn 2 left_before left in
    let river = street_lines start River 1 left_before left in
    ap (λ rest. table_text table flop ++ rest) (sym (text-both table turn river))
    ∙ sym (text-both table flop (turn ++ river))
    ∙ ap (table_text table) (streets-each start left_before left most within)

-- The text of what follows the opening of a hand or an act, part by part.
pub text-following : (table left_before : ℕ) (who : Viewer) (hand : HandTerms) → IsLawfulStart hand.start
    → IsLawfulPlay hand
    → table_text table (map ShowLine (map (tabled hand.start) (tabled_players hand)))
    ++ (table_text table
    (map StreetLine (map (opened hand.start) (opened_since left_before (streets_of hand).left)))
    ++ table_text table (map WinLine (winners_of hand)))
    ≡ table_text table (following_lines (length (open_by left_before)) (seen_hand who hand))
unfolding following_lines seen_hand
text-following table left_before who hand lawful play =
    let shows = map ShowLine (map (tabled hand.start) (tabled_players hand)) in
    let wins = map WinLine (winners_of hand) in
    let count = length (open_by left_before) in
    let begun = open_by (streets_of hand).left in
    let streets : map StreetLine (map (opened hand.start) (opened_since left_before (streets_of hand).left))
    ≡ map StreetLine (drop count (map (opened hand.start) (open_streets hand))) =
    ap (map StreetLine)
    (sym (drop-map (opened hand.start) count begun)
    ∙ ap (λ open_. drop count (map (opened hand.start) open_)) (sym (open-begun hand lawful play))) in
    let behind = map StreetLine (drop count (map (opened hand.start) (open_streets hand))) in
    ap (λ lines. table_text table shows ++ (table_text table lines ++ table_text table wins)) streets
    ∙ ap (λ rest. table_text table shows ++ rest) (sym (text-both table behind wins))
    ∙ sym (text-both table shows (behind ++ wins))

-- Where a hand goes on, and no street has begun since so many could still begin, nothing follows.
pub text-nothing : (table left_before : ℕ) (who : Viewer) (hand : HandTerms) → IsLawfulStart hand.start
    → IsLawfulPlay hand → (streets_of hand).left ≡ left_before → is_over hand ≡ false
    → [] ≡ table_text table (following_lines (length (open_by left_before)) (seen_hand who hand))
text-nothing table left_before who hand lawful play same goes_on =
    let hidden : is_shown_down hand ≡ false = rw goes_on refl in
    let begun : drop (length (open_by left_before)) (open_by (streets_of hand).left) ≡ [] =
    rw same (drop_all (length (open_by left_before)) (open_by left_before) (omega arith)) in
    let streets = ap (λ opened_. table_text table (map StreetLine (map (opened hand.start) opened_))) (sym begun) in
    (λ i. text-hidden table hand hidden i ++ (streets i ++ text-unwon table hand goes_on i))
    ∙ text-following table left_before who hand lawful play

-- The text of a hand that begins, part by part.
pub text-opening : (table : ℕ) (who : Viewer) (hand : HandTerms)
    → line_text (Table table (HandLine hand.start.serial hand.start.marks))
    ++ (flat_map (λ player. line_text (Table table (SeatLine player))) hand.start.seats
    ++ ((table_text table (post_lines hand.start hand.start.marks.small)
    ++ table_text table (post_lines hand.start hand.start.marks.big))
    ++ (table_text table (hole_lines (cards_at hand.start (own_places who hand.start)))
    ++ table_text table (following_lines 0 (seen_hand who hand)))))
    ≡ table_text table (opening_lines (seen_hand who hand))
unfolding opening_lines seen_hand
text-opening table who hand =
    let start = hand.start in
    let head = line_text (Table table (HandLine start.serial start.marks)) in
    let seats = map SeatLine start.seats in
    let small = post_lines start start.marks.small in
    let big = post_lines start start.marks.big in
    let own = hole_lines (cards_at start (own_places who start)) in
    let behind = following_lines 0 (seen_hand who hand) in
    let T = table_text table in
    ap (λ rest. head ++ rest)
    (ap (λ text. text ++ ((T small ++ T big) ++ (T own ++ T behind))) (text-lines table SeatLine start.seats)
    ∙ ap (λ rest. T seats ++ rest)
    (append_assoc (T small) (T big) (T own ++ T behind)
    ∙ ap (λ rest. T small ++ (T big ++ rest)) (sym (text-both table own behind))
    ∙ ap (λ rest. T small ++ rest) (sym (text-both table big (own ++ behind)))
    ∙ sym (text-both table small (big ++ (own ++ behind))))
    ∙ sym (text-both table seats (small ++ (big ++ (own ++ behind)))))

-- The text of an act, and of what follows it.
pub text-act : (table left_before : ℕ) (who : Viewer) (before after : HandTerms) (act : ActOf) (name : List ℕ)
    (done : Done)
    → IsLawfulStart before.start → IsLawfulPlay before → (streets_of before).left ≡ left_before
    → done_of_act before act.name act.act ≡ done → act.name ≡ name
    → line_text (Table table (ActLine name done))
    ++ table_text table (following_lines (length (open_by left_before)) (seen_hand who after))
    ≡ table_text table (act_lines (seen_hand who before) act (seen_hand who after))
unfolding act_lines seen_hand
text-act table left_before who before after act name done lawful play left comes called =
    let came : done ≡ done_of_act (undealt before) act.name act.act =
    sym comes ∙ sym (done-deck before [] act.name act.act) in
    let count : length (open_by left_before) ≡ length (map (opened before.start) (open_streets before)) =
    ap (λ (many : ℕ). length (open_by many)) (sym left)
    ∙ ap length (sym (open-begun before lawful play))
    ∙ sym (length-map (open_streets before) (opened before.start)) in
    λ i. line_text (Table table (ActLine (sym called i) (came i)))
    ++ table_text table (following_lines (count i) (seen_hand who after))

-- Where no ante is posted there is no line of it.
pub text-no_ante : (table : ℕ) (start : HandStart) (player : StartSeat) → ante_posted start player ≡ 0
    → [] ≡ table_text table (ante_lines start player)
text-no_ante table start player none = rw none refl

-- The text of the line of an ante that is posted.
pub text-ante : (table : ℕ) (start : HandStart) (player : StartSeat) → (ante_posted start player == 0) ≡ false
    → decimal table ++ (codes ": " ++ line_of_words
    (codes "ante" ∷ player.name ∷ decimal (ante_posted start player) ∷ []))
    ≡ table_text table (ante_lines start player)
unfolding line_text
text-ante table start player some = rw some (sym (append-nil _))

-- The text of the lines of what is posted from a mark's seat.
pub text-post : (table : ℕ) (start : HandStart) (seat : ℕ) (player : StartSeat) → player_of start seat ≡ Some player
    → (decimal table ++ (codes ": " ++ line_of_words
    (codes "post" ∷ player.name ∷ decimal (posted start player) ∷ []))) ++ table_text table (ante_lines start player)
    ≡ table_text table (post_lines start seat)
unfolding line_text
text-post table start seat player found = rw found refl

-- The text of the line of a player's own hole cards.
pub text-own : (table : ℕ) (who : Viewer) (start : HandStart) (name : List ℕ) (seat : ℕ) → who ≡ Some name
    → seat_of_name start name ≡ Some seat
    → decimal table ++ (codes ": " ++ line_of_words
    (codes "hole" ∷ cards_text (cards_at start (hole_places start seat)) ∷ []))
    ≡ table_text table (hole_lines (cards_at start (own_places who start)))
unfolding line_text
text-own table who start name seat is found =
    let places : own_places who start ≡ hole_places start seat =
    ap (λ (viewer : Viewer). own_places viewer start) is
    ∙ ap (λ (there : Option ℕ). option_map_or (hole_places start) there []) found in
    let lines = hole-line start seat ∙ ap (λ (shown : List ℕ). hole_lines (cards_at start shown)) (sym places) in
    sym (append-nil _) ∙ ap (table_text table) lines

-- The text of a line of a street that has begun.
pub text-street : (table : ℕ) (start : HandStart) (street : BoardStreet) (few left_before left : ℕ) (cards : List Card)
    → few ≤ left_before → left < few → cards ≡ cards_at start (street_places start street)
    → decimal table ++ (codes ": " ++ line_of_words (street_word street ∷ cards_text cards ∷ []))
    ≡ table_text table (street_lines start street few left_before left)
unfolding line_text
text-street table start street few left_before left cards some behind are =
    let begun : (nat_le few left_before && nat_lt left few) ≡ true = grind (arith, nat_tests) in
    rw (begun, are) (sym (append-nil _))

-- What a player gets of the awards of a hand is what he gets of the hand.
won-award : (hand : HandTerms) (player : StartSeat) (awards : Awards) (live : Bool) (won : ℕ)
    → awards ≡ awards_in_hand hand → live ≡ is_live hand player → won ≡ award_in awards player.seat live
    → won ≡ award hand player
won-award hand player awards live won are is gets =
    gets ∙ (λ i. award_in (are i) player.seat (is i)) ∙ award-is hand player

-- The text of a line of what a player gets, where he gets something.
pub text-win : (table : ℕ) (hand : HandTerms) (player : StartSeat) (awards : Awards) (live : Bool) (won : ℕ)
    → awards ≡ awards_in_hand hand → live ≡ is_live hand player → won ≡ award_in awards player.seat live
    → (won ≡ 0 → ⊥)
    → decimal table ++ (codes ": " ++ line_of_words (codes "win" ∷ player.name ∷ decimal won ∷ []))
    ≡ table_text table (win_lines hand player)
unfolding line_text
text-win table hand player awards live won are is gets some =
    let same = won-award hand player awards live won are is gets in
    let more : nat_lt 0 (award hand player) ≡ true =
    lt-ltb 0 (award hand player) (omega (arith, same, some)) in
    rw (more, same) (sym (append-nil _))
