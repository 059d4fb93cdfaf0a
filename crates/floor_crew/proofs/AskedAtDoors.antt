-- What the sessions at a door brought was asked for on the links that the door gave.
use Rattle.std.proofs.Common.{◌≡◌, ◌∙◌, refl, sym, ap, subst, ℕ, ◌+◌, ◌≤◌, Bool, true, false, List, [], ◌∷◌, ◌++◌, Option, Some, None, append-nil, append_assoc, length, map, arith}
use Rattle.std.specs.Prelude.{IfSome, drop, option_to_list, if◌then◌else◌}
use Rattle.std.specs.List.{AllByRecursion, flat_map, slice_split}
use Rattle.std.proofs.lemmas.Option.{same_Some}
use Rattle.std.proofs.lemmas.List.{map-append}
use Rattle.floor_text.specs.Lines.{all_but_last, cut_line, ended_lines, is_line_feed, lines_of_bytes, without_empty_last}
use Rattle.history_lock.proofs.Prefixes.{drop_append}
use Rattle.plan_files.specs.Words.{WordTerms}
use Rattle.links.specs.Telling.{DoorTelling, Telling}
use Rattle.session_lines.specs.declared.hello.Speaker.{Speaker}
use Rattle.session_lines.specs.Meanings.{meaning_of}
use Rattle.session_desk.specs.declared.session.SessionEnd.{SessionEnd}
use Rattle.session_desk.specs.declared.session.SessionEnd.TheVariants as ends
use Rattle.session_desk.specs.declared.desk.Asked.{Asked}
use Rattle.view_rules.specs.declared.entries.JournalEntry.{JournalEntry}
use Rattle.session_desk.specs.Desks.{Numbers, Sights}
use Rattle.session_desk.specs.Exchanges.{Exchange}
use Rattle.session_desk.specs.Standings.{is_quit, speaker_after}
use Rattle.session_desk.specs.Talks.{AreGoing, AreLinesOf, AreMomentsBehind, EndsBy, IsSpoken, Served, WasServed, brought_in, lines_in, lines_taken}
use Rattle.session_desk.specs.Works.{AreBack}
use Rattle.floor_crew.specs.Asks.{LineSaid, asks, asks_from, asks_on, asks_on_link, asks_told, both, bytes_between, said_by}
use Rattle.floor_crew.specs.Wishes.{Wish}
use Rattle.floor_crew.proofs.Weights.{weigh, weigh-append, weigh-both, weigh-flat}
use Rattle.floor_crew.proofs.AskedFor.{asked_weight, brought_weight, entry_weight, log_weight}

-- A session as exchanges of which none ends it, and perhaps one behind them.
record HasEnd (words : WordTerms) (count : ℕ) (log : List Exchange) : Type 0 where
  front : List Exchange
  last : Option Exchange
  log_is : log ≡ front ++ option_to_list last
  going : AreGoing words count front

end-of : (words : WordTerms) (count : ℕ) (end : SessionEnd) (log : List Exchange) → EndsBy words count end log
    → HasEnd words count log
end-of words count ends.Quit log is =
    record { front = is.before; last = Some is.last; log_is = is.log_is; going = is.going }
end-of words count ends.Closed log is =
    record { front = is.before; last = Some is.last; log_is = is.log_is; going = is.going }
end-of words count ends.LinkWrite log is =
    record { front = is.before; last = Some is.last; log_is = is.log_is; going = is.going }
end-of words count ends.NoMemory log is = record { front = []; last = None; log_is = is; going = tt }
end-of words count ends.Ended log is =
    record { front = log; last = None; log_is = sym (append-nil log); going = is }
end-of words count ends.LinkRead log is =
    record { front = log; last = None; log_is = sym (append-nil log); going = is }

-- The lines that line feeds end are the first of all lines.
parts-front : (parts : List (List ℕ)) → (rest : List (List ℕ)) × (all_but_last parts ++ rest ≡ without_empty_last parts)
parts-front [] = ([], refl)
parts-front ([] ∷ []) = ([], refl)
parts-front ((byte ∷ bytes) ∷ []) = ((byte ∷ bytes) ∷ [], refl)
parts-front (part ∷ next ∷ parts) =
    let later = parts-front (next ∷ parts) in (later.0, ap (λ (l : List (List ℕ)). part ∷ l) later.1)

ended-front : (bytes : List ℕ)
    → (rest : List (Option (List ℕ))) × (ended_lines bytes ++ rest ≡ lines_of_bytes bytes)
unfolding ended_lines lines_of_bytes
ended-front bytes =
    let front = parts-front (slice_split is_line_feed bytes) in (
      map cut_line front.0,
      sym (map-append cut_line (all_but_last (slice_split is_line_feed bytes)) front.0) ∙ ap (map cut_line) front.1,
    )

taken-front : (ended : Bool) (bytes : List ℕ)
    → (rest : List (Option (List ℕ))) × (lines_taken ended bytes ++ rest ≡ lines_of_bytes bytes)
taken-front true bytes = ([], append-nil (lines_of_bytes bytes))
taken-front false bytes = ended-front bytes

-- The lines that were handled are the first of all.
lines-front : (ended : Bool) (end : SessionEnd) (bytes : List ℕ) (lines : List (Option (List ℕ)))
    → AreLinesOf ended end bytes lines
    → (rest : List (Option (List ℕ))) × (lines ++ rest ≡ lines_of_bytes bytes)
lines-front ended end bytes lines are = by_end end are
  where
    all : lines ≡ lines_taken ended bytes
        → (rest : List (Option (List ℕ))) × (lines ++ rest ≡ lines_of_bytes bytes)
    all is =
        let front = taken-front ended bytes in
        (front.0, ap (λ (l : List (Option (List ℕ))). l ++ front.0) is ∙ front.1)

    some : (rest : List (Option (List ℕ))) × (lines ++ rest ≡ lines_taken ended bytes)
        → (rest : List (Option (List ℕ))) × (lines ++ rest ≡ lines_of_bytes bytes)
    some is =
        let front = taken-front ended bytes in (
          is.0 ++ front.0,
          sym (append_assoc lines is.0 front.0)
              ∙ (ap (λ (l : List (Option (List ℕ))). l ++ front.0) is.1 ∙ front.1),
        )

    by_end : (end : SessionEnd) → AreLinesOf ended end bytes lines
        → (rest : List (Option (List ℕ))) × (lines ++ rest ≡ lines_of_bytes bytes)
    by_end ends.Ended is = all is
    by_end ends.Closed is = all is
    by_end ends.LinkRead is = all is
    by_end ends.Quit is = some is
    by_end ends.LinkWrite is = some is
    by_end ends.NoMemory is = some is

-- Two lists that are there are one list.
pub record AreBoth {A : Type 0} (one other : Option (List A)) (all : List A) : Type 0 where
  pub first : List A
  pub second : List A
  pub one_is : one ≡ Some first
  pub other_is : other ≡ Some second
  pub all_is : all ≡ first ++ second

pub both-parts : {A : Type 0} (one other : Option (List A)) (all : List A) → both one other ≡ Some all
    → AreBoth one other all
both-parts None other all is = absurd cc
both-parts (Some one) None all is = absurd cc
both-parts (Some one) (Some other) all is = record {
  first = one;
  second = other;
  one_is = refl;
  other_is = refl;
  all_is = sym (same_Some (one ++ other) all is);
}

module _ (g : LineSaid → ℕ) where
  -- By more lines no less is said.
  asks-front : (words : WordTerms) (speaker : Option Speaker) (lines rest : List (Option (List ℕ)))
      → weigh g (asks_from words speaker lines)
      ≤ weigh g (asks_from words speaker (lines ++ rest))
  asks-front words speaker [] rest = omega arith
  asks-front words speaker (line ∷ lines) rest =
      let next : Option Speaker = speaker_after (Some (meaning_of words speaker line)) speaker in
      by_end (is_quit (Some (meaning_of words speaker line))) (said_by speaker line)
      (asks_from words next lines) (asks_from words next (lines ++ rest)) (asks-front words next lines rest)
    where
      by_end : (quits : Bool) (here some all : List LineSaid) → weigh g some ≤ weigh g all
          → weigh g (if quits then [] else here ++ some)
          ≤ weigh g (if quits then [] else here ++ all)
      by_end true here some all less = omega arith
      by_end false here some all less =
          let one = weigh-append g here some in
          let other = weigh-append g here all in
          omega (arith, one, other, less)

-- Some exchanges, of which none but one behind them ends the session, weigh no more than their lines say.
abbrev pub IsWithin : WordTerms → ℕ → (List Exchange → ℕ) → (LineSaid → ℕ) → Type 0
IsWithin words count size g =
    (numbers : Numbers) (start : Sights) (front : List Exchange) (last : Option Exchange)
    → AreMomentsBehind words count numbers start [] (front ++ option_to_list last) → AreGoing words count front
    → size (front ++ option_to_list last)
    ≤ weigh g (asks_from words None (lines_in (front ++ option_to_list last)))

module _ (words : WordTerms) (count : ℕ) (size : List Exchange → ℕ) (g : LineSaid → ℕ)
    (within : IsWithin words count size g) where
  -- The exchanges of a session bring no more than its bytes say.
  bytes-asked : (numbers : Numbers) (start : Sights) (end : SessionEnd) (log : List Exchange) (ended : Bool)
      (bytes : List ℕ) → AreMomentsBehind words count numbers start [] log → EndsBy words count end log
      → AreLinesOf ended end bytes (lines_in log)
      → size log ≤ weigh g (asks words bytes)
  unfolding asks
  bytes-asked numbers start end log ended bytes are ends lines =
      let parts = end-of words count end log ends in
      let inside = within numbers start parts.front parts.last
      (subst (AreMomentsBehind words count numbers start []) parts.log_is are) parts.going in
      let front = lines-front ended end bytes (lines_in log) lines in
      let here : size log ≤ weigh g (asks_from words None (lines_in log)) =
      subst (λ (l : List Exchange). size l ≤ weigh g (asks_from words None (lines_in l)))
      (sym parts.log_is) inside in
      let more = asks-front g words None (lines_in log) front.0 in
      let all : weigh g (asks_from words None (lines_in log ++ front.0))
      ≡ weigh g (asks_from words None (lines_of_bytes bytes)) =
      ap (λ (l : List (Option (List ℕ))). weigh g (asks_from words None l)) front.1 in
      omega (arith, here, more, all)

  link-asked : (numbers : Numbers) (start : Sights) (end : SessionEnd) (log : List Exchange)
      (before after : Option Telling) (said : List LineSaid)
      → AreMomentsBehind words count numbers start [] log → EndsBy words count end log
      → IfSome before (λ t. (u : Telling) × (after ≡ Some u) × IsSpoken count end log t u)
      → asks_on_link words before after ≡ Some said → size log ≤ weigh g said
  link-asked numbers start end log None after said are ends spoken is = absurd cc
  link-asked numbers start end log (Some t) after said are ends spoken is =
      let u : Telling = spoken.0 in
      let its = spoken.2 in
      let bytes : bytes_between t u ≡ its.bytes =
      ap (drop (length t.given)) its.given ∙ drop_append t.given its.bytes in
      let same : asks words its.bytes ≡ said =
      ap (asks words) (sym bytes)
      ∙ same_Some (asks words (bytes_between t u)) said (sym (ap (asks_on_link words (Some t)) spoken.1) ∙ is) in
      let inside = bytes-asked numbers start end log its.ended its.bytes are ends its.lines in
      let all : weigh g (asks words its.bytes) ≡ weigh g said =
      ap (weigh g) same in
      omega (arith, inside, all)

  module _ {L : Type 0} (told_by : L → Option Telling) (faults : L → ℕ) (numbers : Numbers) (first seen : Sights) where
    -- what sessions brought
    abbrev pub sessions_size : List (Served L) → ℕ
    sessions_size sessions = weigh (λ (one : Served L). size one.log) sessions

    links-asked : (sessions : List (Served L)) (said : List LineSaid)
        → AllByRecursion (WasServed told_by faults words count numbers first seen) sessions
        → asks_on told_by words (map (λ (one : Served L). one.came) sessions)
        (map (λ (one : Served L). one.left) sessions) ≡ Some said
        → sessions_size sessions ≤ weigh g said
    links-asked [] said each is = omega arith
    links-asked (one ∷ sessions) said each is =
        let parts = both-parts (asks_on_link words (told_by one.came) (told_by one.left))
        (asks_on told_by words (map (λ (one : Served L). one.came) sessions)
        (map (λ (one : Served L). one.left) sessions)) said is in
        let here = link-asked numbers one.began one.end one.log (told_by one.came) (told_by one.left) parts.first
        each.0.moments each.0.ends_by each.0.spoken parts.one_is in
        let later = links-asked sessions parts.second each.1 parts.other_is in
        let all : weigh g said ≡ weigh g (parts.first ++ parts.second) =
        ap (weigh g) parts.all_is in
        let sum = weigh-append g parts.first parts.second in
        omega (arith, here, later, all, sum)

    -- Sessions at a door bring no more than was said on its links.
    pub door-asked : (before after : Option (DoorTelling L)) (sessions : List (Served L)) (said : List LineSaid)
        → AllByRecursion (WasServed told_by faults words count numbers first seen) sessions
        → IfSome before (λ t. (u : DoorTelling L) × (after ≡ Some u) × AreBack sessions t u)
        → asks_told told_by words before after ≡ Some said → sessions_size sessions ≤ weigh g said
    door-asked None after sessions said each back is = absurd cc
    door-asked (Some t) after sessions said each back is =
        let u : DoorTelling L = back.0 in
        let its = back.2 in
        let came : drop (length t.given) u.given ≡ map (λ (one : Served L). one.came) sessions =
        ap (drop (length t.given)) its.given ∙ drop_append t.given (map (λ (one : Served L). one.came) sessions) in
        let left : drop (length t.back) u.back ≡ map (λ (one : Served L). one.left) sessions =
        ap (drop (length t.back)) its.back ∙ drop_append t.back (map (λ (one : Served L). one.left) sessions) in
        links-asked sessions said each
        ((λ i. asks_on told_by words (sym came i) (sym left i))
        ∙ (sym (ap (asks_told told_by words (Some t)) back.1) ∙ is))

module _ (f : Wish → ℕ) where
  -- what was brought in sessions, as one
  pub brought-weight : {L : Type 0} (sessions : List (Served L))
      → brought_weight f (brought_in (flat_map (λ (one : Served L). one.log) sessions))
      ≡ weigh (λ (one : Served L). log_weight f one.log) sessions
  brought-weight {L} sessions =
      let log = flat_map (λ (one : Served L). one.log) sessions in
      let acts : Exchange → List Asked = λ (said : Exchange). said.brought.acts in
      let orders : Exchange → List JournalEntry = λ (said : Exchange). said.brought.orders in
      let one : weigh (asked_weight f) (flat_map acts log)
      ≡ weigh (λ (said : Exchange). weigh (asked_weight f) (acts said)) log =
      weigh-flat (asked_weight f) acts log in
      let other : weigh (entry_weight f) (flat_map orders log)
      ≡ weigh (λ (said : Exchange). weigh (entry_weight f) (orders said)) log =
      weigh-flat (entry_weight f) orders log in
      let sum = weigh-both (λ (said : Exchange). weigh (asked_weight f) (acts said))
      (λ (said : Exchange). weigh (entry_weight f) (orders said)) log in
      let all : weigh (λ (said : Exchange). brought_weight f said.brought) log
      ≡ weigh (λ (one : Served L). log_weight f one.log) sessions =
      weigh-flat (λ (said : Exchange). brought_weight f said.brought) (λ (one : Served L). one.log) sessions in
      (λ i. one i + other i) ∙ (sym sum ∙ all)
