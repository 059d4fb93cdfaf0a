-- A simulated tournament stays under way while players enter.
use Rattle.std.proofs.Common.{◌≡◌, ◌∙◌, sym, ap, ℕ, ◌+◌, ◌<◌, true, List, [], ◌∷◌, ◌++◌, map, length, length-append, arith}
use Rattle.std.specs.Prelude.{◌==◌, ◌&&◌, nat_lt}
use Rattle.std.specs.List.{range_with_len}
use Rattle.std.proofs.lemmas.List.FromFn.{map-range_with_len_more}
use Rattle.place_list.specs.declared.bust.Bust.{Bust}
use Rattle.tournament_rules.specs.Books.{BookState}
use Rattle.tournament_rules.specs.Effects.{entered}
use Rattle.simulation_rules.specs.declared.place.SimPlace.{SimPlace}
use Rattle.simulation_rules.specs.Course.{IsUnderWay}
use Rattle.simulation_rules.specs.Entrants.{entrants, entrant_name}

none_out : (busts : List Bust) (players : ℕ) → busts ≡ [] → (nat_lt 0 (length busts) && players == 1) ≡ true → ⊥
none_out [] players none over = cc
none_out (bust ∷ busts) players none over = cc

next_name : (entries : List (List ℕ)) → entries ≡ map entrant_name (range_with_len 0 (length entries))
    → entries ++ entrant_name (length entries) ∷ []
    ≡ map entrant_name (range_with_len 0 (length (entries ++ entrant_name (length entries) ∷ [])))
next_name entries are =
    let count = length entries in
    let size : count + 1 ≡ length (entries ++ entrant_name count ∷ []) =
    (let added = length-append entries (entrant_name count ∷ []) in omega (arith, added)) in
    ap (λ (names : List (List ℕ)). names ++ entrant_name count ∷ []) are
    ∙ (sym (map-range_with_len_more entrant_name 0 count count (omega arith))
    ∙ ap (λ (n : ℕ). map entrant_name (range_with_len 0 n)) size)

-- After an entry under the next name.
pub entered_on : (book : BookState) (place : SimPlace) (table seat : ℕ) → IsUnderWay book place
    → length book.entries < entrants book.plan
    → IsUnderWay (entered book (entrant_name (length book.entries)) table seat) place
entered_on book place table seat under few =
    let were = under.entering few in
    let players = length (entered book (entrant_name (length book.entries)) table seat).seating.players in
    record {
      from_first = under.from_first;
      to_last = under.to_last;
      rounds = under.rounds;
      own_hand = under.own_hand;
      any = under.any;
      hands_off = under.hands_off;
      turn = under.turn;
      races = under.races;
      few_hands = under.few_hands;
      last_hand = under.last_hand;
      done_played = under.done_played;
      between = under.between;
      over = λ over. absurd (none_out book.busts players were.busts over);
      over_at_table = λ over. absurd (none_out book.busts players were.busts over);
      entering = λ more. record {
        first = were.first;
        begun = were.begun;
        busts = were.busts;
        once = were.once;
        level = were.level;
        names = next_name book.entries were.names;
      };
    }
