-- What a run has told of the lines that were handed out, step by step, and where it fails.
use Rattle.std.proofs.Common.{◌≡◌, ℕ, ◌+◌, ◌-◌, ◌<◌, ◌≤◌, Bool, true, false, refl, sym, ap, subst, ◌∙◌, inl, inr, List, [], ◌∷◌, ◌++◌, length, take, drop, get_or, arith, append_assoc, length-drop}
use Rattle.std.specs.Prelude.{◌↔◌, Option, Some, None, Ok, IfSome, map}
use Rattle.std.proofs.Math.Seq.{take-add, take-append_seam}
use Rattle.std.proofs.lemmas.Bool.{cases_lt}
use Rattle.std.proofs.lemmas.Bool.Decides.{nat_tests}
use Rattle.std.proofs.lemmas.List.{append-nil, drop-drop, drop_more, nil_from_length, take-append-drop, length-take-le, map-append}
use Rattle.std.proofs.lemmas.Option.{MatchOption-at_some, same_Some}
use Rattle.std.specs.List.{list_any}
use Rattle.floor_text.specs.Lines.{lines_of_bytes, is_line_feed, HasNoFeed}
use Rattle.floor_text.specs.LineReader.{Reads, GoesOn, lines_of_next}
use Rattle.floor_text.specs.Reading.{Reading, held_within}
use Rattle.floor_text.specs.declared.line_reader.Next.{Next}
use Rattle.floor_text.specs.declared.line_reader.Next.TheVariants.{Line, TooLong, End}
use Rattle.floor_text.specs.declared.line_reader.ReadEnd.{ReadEnd}
use Rattle.floor_text.specs.declared.line_reader.ReadEnd.TheVariants.{ReadFault, InputTooLong}
use Rattle.floor_text.proofs.CutLines.{handed_so_far, handed_are_ended, lines_of_bytes-nil}
use Rattle.floor_text.proofs.ReadLines.{HasNoFeed-take, whole_no_feed, held_on}
use Rattle.tournament_events.specs.declared.event.Item.{Item}
use Rattle.tournament_rules.specs.States.{State, first_state}
use Rattle.replay_rules.specs.Replay.{item_of_cut, state_after_item, state_after_items}
use Rattle.command_lines.specs.declared.fault.Fault.TheVariants as faults
use Rattle.command_lines.specs.Endings.{fault_of_read_end}
use Rattle.line_tellers.specs.Handed.{item_of_next}
use Rattle.line_tellers.specs.Limits.{input_limit}
use Rattle.line_tellers.specs.Told.{Telling, items_told, text_told, stream_told, lines_told}
use Rattle.line_tellers.specs.Promise.{IsTelling, HasTold, IsToldOf}

-- What is told of some items and then of others is told of them all.
told_of_both : (telling : Telling) (state : State) (items others : List (Option Item))
    → items_told telling state (items ++ others)
    ≡ items_told telling state items ++ items_told telling (state_after_items state items) others
told_of_both telling state [] others = refl
told_of_both telling state (item ∷ items) others =
    let next : State = state_after_item state item in
    ap (λ more. telling.of_item state item ++ more) (told_of_both telling next items others)
    ∙ sym (append_assoc (telling.of_item state item) (items_told telling next items)
    (items_told telling (state_after_items next items) others))

state_after_both : (state : State) (items others : List (Option Item))
    → state_after_items state (items ++ others) ≡ state_after_items (state_after_items state items) others
state_after_both state [] others = refl
state_after_both state (item ∷ items) others = state_after_both (state_after_item state item) items others

-- the state behind some lines
abbrev state_behind : List (Option (List ℕ)) → State
state_behind lines = state_after_items first_state (map item_of_cut lines)

lines_told-append : (telling : Telling) (lines others : List (Option (List ℕ)))
    → lines_told telling (lines ++ others)
    ≡ lines_told telling lines ++ items_told telling (state_behind lines) (map item_of_cut others)
lines_told-append telling lines others =
    ap (items_told telling first_state) (map-append item_of_cut lines others)
    ∙ told_of_both telling first_state (map item_of_cut lines) (map item_of_cut others)

state_behind-append : (lines others : List (Option (List ℕ)))
    → state_behind (lines ++ others) ≡ state_after_items (state_behind lines) (map item_of_cut others)
state_behind-append lines others =
    ap (state_after_items first_state) (map-append item_of_cut lines others)
    ∙ state_after_both first_state (map item_of_cut lines) (map item_of_cut others)

-- what is told of a stream whose lines are some, and then one more, and others
pub stream_of_lines : (telling : Telling) (bytes : List ℕ) (lines others : List (Option (List ℕ)))
    → lines_of_bytes bytes ≡ lines ++ others
    → stream_told telling bytes
    ≡ lines_told telling lines ++ text_told telling (state_behind lines) (map item_of_cut others)
stream_of_lines telling bytes lines others are =
    let end : State → List ℕ = λ state. telling.at_end state in
    ap (λ all. lines_told telling all ++ end (state_behind all)) are
    ∙ ap (λ told. told ++ end (state_behind (lines ++ others))) (lines_told-append telling lines others)
    ∙ ap
    (λ state. (lines_told telling lines ++ items_told telling (state_behind lines) (map item_of_cut others)) ++ end state)
    (state_behind-append lines others)
    ∙ append_assoc (lines_told telling lines) (items_told telling (state_behind lines) (map item_of_cut others))
    (end (state_after_items (state_behind lines) (map item_of_cut others)))

-- A text with others behind it is a front of both.
pub front_of : (text behind whole : List ℕ) → whole ≡ text ++ behind → (n : ℕ) × (text ≡ take n whole)
front_of text behind whole is =
    (length text, sym (ap (take (length text)) is ∙ take-append_seam text behind))

-- what the lines of the bytes taken are, with those that are still held
given_lines : (telling : Telling) (bytes before : List ℕ) (state : State) (left written : Option (List ℕ))
    (pending : List (Option (List ℕ))) (reader : Reading) (ended : Bool) → reader.ended ≡ ended
    → (telling_of : IsTelling telling bytes before state left written pending reader)
    → (others : List (Option (List ℕ)))
    × (lines_of_bytes (take reader.taken bytes) ≡ telling_of.handled ++ (pending ++ others))
given_lines telling bytes before state left written pending reader true is on = (
  [],
  on.all is ∙ ap (λ lines. on.handled ++ lines) (sym (append-nil pending)),
)
given_lines telling bytes before state left written pending reader false is on = (
  lines_of_bytes (reader.held ++ []),
  ap lines_of_bytes (sym (append-nil (take reader.taken bytes))) ∙ on.lines is [],
)

-- A run that stops between two lines, or before it told of one, has told of a front of the lines.
pub told_front : (telling : Telling) (bytes before : List ℕ) (state : State) (left written : Option (List ℕ))
    (pending : List (Option (List ℕ))) (reader : Reading)
    → IsTelling telling bytes before state left written pending reader
    → HasTold (IsToldOf faults.NoMemory telling) bytes before left written
told_front telling bytes before state left written pending reader on =
    let given = given_lines telling bytes before state left written pending reader reader.ended refl on in (
      reader.taken,
      lines_told telling on.handled,
      on.rest,
      on.told,
      (
        length on.handled,
        ap (lines_told telling) (sym (ap (take (length on.handled)) given.1
            ∙ take-append_seam on.handled (pending ++ given.0))),
      ),
    )

-- What was handed out that is no end is one line, whose item is its own.
one_cut : (next : Next) (bytes : List ℕ) → (next ≡ End → ⊥)
    → (cut : Option (List ℕ)) × (lines_of_next (Ok next) bytes ≡ cut ∷ []) × (item_of_next next bytes ≡ item_of_cut cut)
one_cut Line bytes some = (Some bytes, refl, refl)
one_cut TooLong bytes some = (None, refl, refl)
one_cut End bytes some = absurd (some refl)

tell_cut : (telling : Telling) (bytes before : List ℕ) (state : State) (left written now : Option (List ℕ))
    (cut : Option (List ℕ)) (reader : Reading)
    → IsTelling telling bytes before state left written (cut ∷ []) reader
    → IfSome written (λ text. now ≡ Some (text ++ telling.of_item state (item_of_cut cut)))
    → IsTelling telling bytes before (state_after_item state (item_of_cut cut)) left now [] reader
tell_cut telling bytes before state left written now cut reader on puts =
    let P : List ℕ → Type 0 = λ text. now ≡ Some (text ++ telling.of_item state (item_of_cut cut)) in
    let put : now ≡ Some ((before ++ lines_told telling on.handled) ++ telling.of_item state (item_of_cut cut)) =
    MatchOption-at_some (Unit {0}) P (before ++ lines_told telling on.handled) on.told puts in
    let one : List (Option (List ℕ)) = cut ∷ [] in
    let all : lines_told telling (on.handled ++ one)
    ≡ lines_told telling on.handled ++ telling.of_item state (item_of_cut cut) =
    lines_told-append telling on.handled one
    ∙ ap (λ told. lines_told telling on.handled ++ told)
    (append-nil (telling.of_item (state_behind on.handled) (item_of_cut cut))
    ∙ ap (λ now. telling.of_item now (item_of_cut cut)) (sym on.behind)) in
    record {
      handled = on.handled ++ one;
      within = on.within;
      rest = on.rest;
      told = put ∙ ap Some (append_assoc before (lines_told telling on.handled)
          (telling.of_item state (item_of_cut cut)) ∙ ap (λ told. before ++ told) (sym all));
      behind = ap (λ now. state_after_item now (item_of_cut cut)) on.behind
          ∙ sym (state_behind-append on.handled one);
      lines = λ going more. on.lines going more
          ∙ sym (append_assoc on.handled one (lines_of_bytes (reader.held ++ more)));
      all = λ ended. on.all ended ∙ sym (append-nil (on.handled ++ one));
      none_held = on.none_held;
    }

-- A line is told of: it is among those that were.
pub tell_line : (telling : Telling) (bytes before : List ℕ) (state after : State) (left written now : Option (List ℕ))
    (next : Next) (line : List ℕ) (reader : Reading) → (next ≡ End → ⊥)
    → IsTelling telling bytes before state left written (lines_of_next (Ok next) line) reader
    → after ≡ state_after_item state (item_of_next next line)
    → IfSome written (λ text. now ≡ Some (text ++ telling.of_item state (item_of_next next line)))
    → IsTelling telling bytes before after left now [] reader
tell_line telling bytes before state after left written now next line reader some on is puts =
    let one = one_cut next line some in
    let P : State → Type 0 = λ now_state. IsTelling telling bytes before now_state left now [] reader in
    let cut = subst (λ lines. IsTelling telling bytes before state left written lines reader) one.1 on in
    let put = subst (λ item. IfSome written (λ text. now ≡ Some (text ++ telling.of_item state item))) one.2 puts in
    subst P (sym (is ∙ ap (state_after_item state) one.2))
    (tell_cut telling bytes before state left written now one.0 reader cut put)

fail_cut : (telling : Telling) (bytes before : List ℕ) (state : State) (left written now : Option (List ℕ))
    (cut : Option (List ℕ)) (reader : Reading)
    → IsTelling telling bytes before state left written (cut ∷ []) reader
    → IfSome written (λ text. (n : ℕ) × (now ≡ Some (text ++ take n (telling.of_item state (item_of_cut cut)))))
    → HasTold (IsToldOf faults.Write telling) bytes before left now
fail_cut telling bytes before state left written now cut reader on puts =
    let item : List ℕ = telling.of_item state (item_of_cut cut) in
    let P : List ℕ → Type 0 = λ text. (n : ℕ) × (now ≡ Some (text ++ take n item)) in
    let put : P (before ++ lines_told telling on.handled) =
    MatchOption-at_some (Unit {0}) P (before ++ lines_told telling on.handled) on.told puts in
    let text : List ℕ = lines_told telling on.handled ++ take put.0 item in
    let given = given_lines telling bytes before state left written (cut ∷ []) reader reader.ended refl on in
    let behind : List ℕ = text_told telling (state_after_item state (item_of_cut cut)) (map item_of_cut given.0) in
    let more : text_told telling (state_behind on.handled) (item_of_cut cut ∷ map item_of_cut given.0) ≡ item ++ behind =
    ap (λ now. text_told telling now (item_of_cut cut ∷ map item_of_cut given.0)) (sym on.behind)
    ∙ append_assoc item (items_told telling (state_after_item state (item_of_cut cut)) (map item_of_cut given.0))
    (telling.at_end (state_after_items (state_after_item state (item_of_cut cut)) (map item_of_cut given.0))) in
    let whole : stream_told telling (take reader.taken bytes) ≡ text ++ (drop put.0 item ++ behind) =
    stream_of_lines telling (take reader.taken bytes) on.handled (cut ∷ given.0) given.1
    ∙ ap (λ told. lines_told telling on.handled ++ told) (more
    ∙ ap (λ told. told ++ behind) (sym (take-append-drop put.0 item))
    ∙ append_assoc (take put.0 item) (drop put.0 item) behind)
    ∙ sym (append_assoc (lines_told telling on.handled) (take put.0 item) (drop put.0 item ++ behind)) in (
      reader.taken,
      text,
      on.rest,
      put.1 ∙ ap Some (append_assoc before (lines_told telling on.handled) (take put.0 item)),
      front_of text (drop put.0 item ++ behind) (stream_told telling (take reader.taken bytes)) whole,
    )

-- Where the sink failed in the text of a line, a front of what is told was put.
pub fail_line : (telling : Telling) (bytes before : List ℕ) (state : State) (left written now : Option (List ℕ))
    (next : Next) (line : List ℕ) (reader : Reading) → (next ≡ End → ⊥)
    → IsTelling telling bytes before state left written (lines_of_next (Ok next) line) reader
    → IfSome written (λ text. (n : ℕ) × (now ≡ Some (text ++ take n (telling.of_item state (item_of_next next line)))))
    → HasTold (IsToldOf faults.Write telling) bytes before left now
fail_line telling bytes before state left written now next line reader some on puts =
    let one = one_cut next line some in
    let cut = subst (λ lines. IsTelling telling bytes before state left written lines reader) one.1 on in
    let put = subst
    (λ item. IfSome written (λ text. (n : ℕ) × (now ≡ Some (text ++ take n (telling.of_item state item))))) one.2 puts in
    fail_cut telling bytes before state left written now one.0 reader cut put

-- A reader that holds a line has not come to the end of its source.
pub holds_a_line : (reader : Reading) (ended : Bool) → reader.ended ≡ ended → (reader.ended ≡ true → reader.held ≡ [])
    → list_any is_line_feed (take (held_within reader) reader.held) ≡ true → reader.ended ≡ false
holds_a_line reader false is none some = is
holds_a_line reader true is none some =
    let no_bytes : List ℕ = [] in
    let nothing : HasNoFeed (take (held_within reader) no_bytes) = HasNoFeed-take (held_within reader) no_bytes refl in
    let never : true ≡ false = sym some
    ∙ ap (λ held. list_any is_line_feed (take (held_within reader) held)) (none is) ∙ nothing in
    absurd cc

-- a reader has not come to the end and come there
pub not_both : {P : Type 0} (ended : Bool) → ended ≡ false → ended ≡ true → P
not_both ended going is = let never : false ≡ true = sym going ∙ is in absurd cc

-- The next line is at hand: it is pending then.
pub hold_line : (telling : Telling) (bytes before : List ℕ) (state : State) (left written : Option (List ℕ))
    (handed : List (Option (List ℕ))) (old new : Reading) → new.taken ≡ old.taken → new.ended ≡ false
    → old.ended ≡ false → ((given : List ℕ) → GoesOn old new given (Some given) handed)
    → IsTelling telling bytes before state left written [] old
    → IsTelling telling bytes before state left written handed new
hold_line telling bytes before state left written handed old new taken going was goes on =
    let count : old.taken ≡ new.taken = sym taken in
    record {
      handled = on.handled;
      within = subst (λ n. n ≤ length bytes) count on.within;
      rest = on.rest ∙ ap (λ n. Some (drop n bytes)) count;
      told = on.told;
      behind = on.behind;
      lines = λ still more. ap (λ n. lines_of_bytes (take n bytes ++ more)) taken ∙ on.lines was more
          ∙ ap (λ lines. on.handled ++ lines) (held_on old new handed taken goes more);
      all = not_both new.ended going;
      none_held = not_both new.ended going;
    }

-- what a call of a reader that goes on, or that came to the end, hands out is pending then
pub next_handed : (telling : Telling) (bytes before : List ℕ) (state : State) (left rest written : Option (List ℕ))
    (handed : List (Option (List ℕ))) (old new : Reading) → old.ended ≡ false
    → IfSome left (λ given. Reads old new given rest handed)
    → (new.ended ≡ false → IfSome left (λ given. GoesOn old new given rest handed))
    → (new.ended ≡ true → new.held ≡ []) → (new.ended ≡ true → IfSome left (λ _. rest ≡ Some []))
    → IsTelling telling bytes before state left written [] old
    → IsTelling telling bytes before state rest written handed new
next_handed telling bytes before state left rest written handed old new was reads goes held ends on =
    let given : List ℕ = drop old.taken bytes in
    let read : Reads old new given rest handed =
    MatchOption-at_some (Unit {0}) (λ given. Reads old new given rest handed) given on.rest reads in
    let later : old.taken ≤ new.taken = read.later in
    let first : old.taken ≤ length bytes = on.within in
    let within : new.taken ≤ old.taken + length given = read.within in
    let count : old.taken + (new.taken - old.taken) ≡ new.taken = omega arith in
    let behind : drop (new.taken - old.taken) given ≡ drop new.taken bytes =
    drop-drop (new.taken - old.taken) old.taken bytes ∙ ap (λ n. drop n bytes) count in
    let both : take new.taken bytes ≡ take old.taken bytes ++ take (new.taken - old.taken) given =
    ap (λ n. take n bytes) (sym count) ∙ take-add old.taken (new.taken - old.taken) bytes in
    record {
      handled = on.handled;
      within = omega (arith, length-drop old.taken bytes);
      rest = read.rest ∙ ap Some behind;
      told = on.told;
      behind = on.behind;
      lines = λ going more.
          let go : GoesOn old new given rest handed =
          MatchOption-at_some (Unit {0}) (λ given. GoesOn old new given rest handed) given on.rest (goes going) in
          ap (λ taken. lines_of_bytes (taken ++ more)) both
          ∙ ap lines_of_bytes (append_assoc (take old.taken bytes) (take (new.taken - old.taken) given) more)
          ∙ on.lines was (take (new.taken - old.taken) given ++ more)
          ∙ ap (λ lines. on.handled ++ lines) (go.lines more);
      all = λ ended.
          let last : rest ≡ Some [] = MatchOption-at_some (Unit {0}) (λ _. rest ≡ Some []) given on.rest (ends ended) in
          let none : drop (new.taken - old.taken) given ≡ [] =
          same_Some (drop (new.taken - old.taken) given) [] (sym read.rest ∙ last) in
          let whole : take (new.taken - old.taken) given ≡ given =
          sym (append-nil (take (new.taken - old.taken) given))
          ∙ ap (λ more. take (new.taken - old.taken) given ++ more) (sym none)
          ∙ take-append-drop (new.taken - old.taken) given in
          ap lines_of_bytes (both ∙ ap (λ more. take old.taken bytes ++ more) whole) ∙ on.lines was given
          ∙ ap (λ lines. on.handled ++ lines) (read.lines
          ∙ ap (λ lines. handed ++ lines) (ap (λ more. lines_of_bytes (new.held ++ more)) none
          ∙ ap (λ held_still. lines_of_bytes (held_still ++ [])) (held ended) ∙ lines_of_bytes-nil)
          ∙ append-nil handed);
      none_held = held;
    }

-- Where the source failed, all lines that a line feed ends were told of.
pub read_failed : (telling : Telling) (bytes before : List ℕ) (state : State) (left written : Option (List ℕ))
    (reader : Reading) → reader.ended ≡ false → reader.taken ≤ reader.limit
    → HasNoFeed (take (held_within reader) reader.held)
    → IsTelling telling bytes before state left written [] reader
    → HasTold (IsToldOf faults.Read telling) bytes before left written
read_failed telling bytes before state left written reader going within none on = (
  reader.taken,
  lines_told telling on.handled,
  on.rest,
  on.told,
  ap (lines_told telling) (handed_so_far (take reader.taken bytes) reader.held on.handled
      (whole_no_feed reader within none) (on.lines going)),
)

-- a list with one element more than n is its first n and then that one
one_more : (n : ℕ) (xs : List ℕ) → length xs ≡ n + 1 → xs ≡ take n xs ++ get_or xs n 0 ∷ []
one_more n xs size =
    let within : n < length xs = omega arith in
    let none : drop (n + 1) xs ≡ [] = nil_from_length (drop (n + 1) xs) (omega (arith, length-drop (n + 1) xs)) in
    sym (take-append-drop n xs) ∙ ap (λ more. take n xs ++ more) (drop_more xs n 0 within
    ∙ ap (λ more. get_or xs n 0 ∷ more) none)

-- Where the source has too many bytes, all lines were told of that a line feed within the limit ends.
pub too_many : (telling : Telling) (bytes before : List ℕ) (state : State) (left written : Option (List ℕ))
    (reader : Reading) → reader.ended ≡ false → reader.limit < reader.taken → reader.taken ≤ reader.limit + 1
    → reader.limit ≡ input_limit → 0 < length reader.held → HasNoFeed (take (held_within reader) reader.held)
    → IsTelling telling bytes before state left written [] reader
    → HasTold (IsToldOf faults.InputTooLong telling) bytes before left written
too_many telling bytes before state left written reader going more most at_limit some none on =
    let taken : List ℕ = take reader.taken bytes in
    let within : reader.taken ≤ length bytes = on.within in
    let size : length taken ≡ input_limit + 1 = length-take-le reader.taken bytes within ∙ omega arith in
    let last : ℕ = length reader.held - 1 in
    let held : reader.held ≡ take last reader.held ++ get_or reader.held last 0 ∷ [] =
    one_more last reader.held (omega arith) in
    let inside : held_within reader ≡ last = grind (arith, nat_tests) in
    let begun : HasNoFeed (take last reader.held) = subst (λ n. HasNoFeed (take n reader.held)) inside none in
    let same : lines_of_bytes (take input_limit taken ++ get_or taken input_limit 0 ∷ [])
    ≡ on.handled ++ lines_of_bytes (take last reader.held ++ get_or reader.held last 0 ∷ []) =
    ap lines_of_bytes (sym (one_more input_limit taken size) ∙ sym (append-nil taken)) ∙ on.lines going []
    ∙ ap (λ bytes_held. on.handled ++ lines_of_bytes bytes_held) (append-nil reader.held ∙ held) in (
      reader.taken,
      lines_told telling on.handled,
      on.rest,
      on.told,
      ap (lines_told telling) (handed_are_ended (take input_limit taken) (take last reader.held)
          (get_or taken input_limit 0) (get_or reader.held last 0) on.handled begun same),
    )

-- Where no next line was handed out, the lines that were told of are those that the fault says.
pub next_failed : (telling : Telling) (bytes before : List ℕ) (state : State) (left written : Option (List ℕ))
    (end : ReadEnd) (reader : Reading) → reader.ended ≡ false → (end ≡ InputTooLong) ↔ (reader.limit < reader.taken)
    → reader.taken ≤ reader.limit + 1 → reader.limit ≡ input_limit
    → (reader.limit < reader.taken → 0 < length reader.held) → HasNoFeed (take (held_within reader) reader.held)
    → IsTelling telling bytes before state left written [] reader
    → HasTold (IsToldOf (fault_of_read_end end) telling) bytes before left written
next_failed telling bytes before state left written ReadFault reader going cause most at_limit some none on =
    elim (cases_lt reader.limit reader.taken) [
      | inl more ↦ let other : ReadFault ≡ InputTooLong = cause.1 more in absurd cc
      | inr within ↦ read_failed telling bytes before state left written reader going within none on
    ]
next_failed telling bytes before state left written InputTooLong reader going cause most at_limit some none on =
    let more : reader.limit < reader.taken = cause.0 refl in
    too_many telling bytes before state left written reader going more most at_limit (some more) none on

-- with nothing left, what was put is what is told of the stream
pub told_all : (telling : Telling) (bytes before : List ℕ) (state : State) (left written now : Option (List ℕ))
    (reader : Reading) → reader.ended ≡ true → left ≡ Some []
    → IsTelling telling bytes before state left written [] reader
    → IfSome written (λ text. now ≡ Some (text ++ telling.at_end state))
    → now ≡ Some (before ++ stream_told telling bytes)
told_all telling bytes before state left written now reader ended last on puts =
    let P : List ℕ → Type 0 = λ text. now ≡ Some (text ++ telling.at_end state) in
    let put : P (before ++ lines_told telling on.handled) =
    MatchOption-at_some (Unit {0}) P (before ++ lines_told telling on.handled) on.told puts in
    let none : drop reader.taken bytes ≡ [] = same_Some (drop reader.taken bytes) [] (sym on.rest ∙ last) in
    let whole : take reader.taken bytes ≡ bytes = sym (append-nil (take reader.taken bytes))
    ∙ ap (λ more. take reader.taken bytes ++ more) (sym none) ∙ take-append-drop reader.taken bytes in
    put ∙ ap Some (append_assoc before (lines_told telling on.handled) (telling.at_end state)
    ∙ ap (λ text. before ++ text) (ap (λ now_state. lines_told telling on.handled ++ telling.at_end now_state) on.behind
    ∙ sym (stream_of_lines telling (take reader.taken bytes) on.handled [] (on.all ended))
    ∙ ap (stream_told telling) whole))

-- where the sink failed at the end, a front of what is told was put
pub fail_end : (telling : Telling) (bytes before : List ℕ) (state : State) (left written now : Option (List ℕ))
    (reader : Reading) → reader.ended ≡ true
    → IsTelling telling bytes before state left written [] reader
    → IfSome written (λ text. (n : ℕ) × (now ≡ Some (text ++ take n (telling.at_end state))))
    → HasTold (IsToldOf faults.Write telling) bytes before left now
fail_end telling bytes before state left written now reader ended on puts =
    let end : List ℕ = telling.at_end state in
    let P : List ℕ → Type 0 = λ text. (n : ℕ) × (now ≡ Some (text ++ take n end)) in
    let put : P (before ++ lines_told telling on.handled) =
    MatchOption-at_some (Unit {0}) P (before ++ lines_told telling on.handled) on.told puts in
    let text : List ℕ = lines_told telling on.handled ++ take put.0 end in
    let whole : stream_told telling (take reader.taken bytes) ≡ text ++ drop put.0 end =
    stream_of_lines telling (take reader.taken bytes) on.handled [] (on.all ended)
    ∙ ap (λ now_state. lines_told telling on.handled ++ telling.at_end now_state) (sym on.behind)
    ∙ ap (λ told. lines_told telling on.handled ++ told) (sym (take-append-drop put.0 end))
    ∙ sym (append_assoc (lines_told telling on.handled) (take put.0 end) (drop put.0 end)) in (
      reader.taken,
      text,
      on.rest,
      put.1 ∙ ap Some (append_assoc before (lines_told telling on.handled) (take put.0 end)),
      front_of text (drop put.0 end) (stream_told telling (take reader.taken bytes)) whole,
    )
