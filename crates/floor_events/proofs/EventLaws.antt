-- What is read from a line is spelled as that line, and what is spelled so is read. No event is named here: all that is
-- said of single events is their rows and lines in Grammar.
use Rattle.std.proofs.Common.{◌≡◌, ◌∙◌, ℕ, ◌≤◌, Bool, true, false, not, ◌==◌, cond, leb, List, [], ◌∷◌, ◌++◌, length, Option, Some, None, option_map, refl, sym, ap, subst, arith, rules}
use Rattle.std.specs.Prelude.{codes}
use Rattle.std.specs.Fmt.{decimal}
use Rattle.std.specs.List.{join_with_byte, flat_map, AllByRecursion}
use Rattle.std.specs.Option.{IfSome}
use Rattle.std.specs.Prelude.{Result, IfOk}
use Rattle.std.proofs.lemmas.Bool.Decides.{nat_tests}
use Rattle.std.proofs.lemmas.Option.{same_Some}
use Rattle.std.proofs.lemmas.Result.{IfOk-weaker}
use Rattle.floor_text.specs.Limits.{longest_line}
use Rattle.floor_text.specs.Lines.{HasNoFeed, cut_line, lines_of_bytes}
use Rattle.floor_text.proofs.CutLines.{lines_of_bytes-line}
use Rattle.card_set.proofs.Steps.{map_found}
use Rattle.betting_round.specs.declared.act.Act.{Act}
use Rattle.line_words.specs.Fields.{act_words}
use Rattle.line_words.specs.Words.{words_of_line}
use Rattle.line_words.specs.Rows.{read_words, row_at, words_at}
use Rattle.line_words.proofs.FieldLaws.{test_found}
use Rattle.line_words.proofs.Growth.{join_with_byte-cons}
use Rattle.line_words.proofs.RowLaws as rows
use Rattle.level_plan.specs.declared.line.PlanLine.TheVariants as lines
use Rattle.tournament_events.specs.declared.event.Event.{Event}
use Rattle.tournament_events.specs.declared.event.Event.TheVariants as events
use Rattle.tournament_events.specs.declared.event.Item.{Item}
use Rattle.tournament_events.specs.declared.event.Item.TheVariants as found
use Rattle.floor_events.specs.Grammar.{grammar, line_of, is_note, item_of_words, item_of_bytes}
use Rattle.floor_events.specs.Spelling.{event_text, HasLineParts, IsWritable, IsNote, IsLineOf}

-- What each row makes has its line by that row, which is found row by row by computing.
own_rows : AllByRecursion (rows.IsOwn line_of) grammar
own_rows = search rules

-- a word begins with a byte that is none of a note
abbrev begins_otherwise : List ℕ → Bool
begins_otherwise [] = false
begins_otherwise (byte ∷ bytes) = not (byte == 42)

-- a line of such a first word is no note
no_note : (word : List ℕ) (words : List (List ℕ)) → begins_otherwise word ≡ true
    → is_note (join_with_byte 32 (word ∷ words)) ≡ false
no_note [] words h = absurd cc
no_note (byte ∷ bytes) [] h = grind (arith, nat_tests)
no_note (byte ∷ bytes) (next ∷ words) h = grind (arith, nat_tests)

-- The text of an event is no note.
pub event_text-no_note : (event : Event) → is_note (event_text event) ≡ false
unfolding event_text
event_text-no_note event =
    let own = line_of event in
    no_note own.word (words_at (row_at grammar own.word) own.values)
    (rows.first_passes line_of begins_otherwise refl event)

-- the text of an event whose parts may stand in a line is read as that event's words
read_again : (event : Event) → HasLineParts event → item_of_words (words_of_line (event_text event))
    ≡ Some (found.Event event)
unfolding item_of_words event_text HasLineParts
read_again event parts = ap (option_map found.Event) (rows.text_again line_of refl event parts)

-- What is read by the words of a line of at most 400 bytes is a writable event that is spelled so.
words_found : (line : List ℕ) (item : Item) → length line ≤ longest_line
    → item_of_words (words_of_line line) ≡ Some item → IsLineOf item line
unfolding item_of_words event_text HasLineParts
words_found line item short h =
    let read = map_found found.Event (read_words grammar (words_of_line line)) item h in
    let told = rows.text_found line_of own_rows line read.0 read.1 in
    let few : length (event_text read.0) ≤ longest_line = subst (λ (l : List ℕ). length l ≤ longest_line) told.0 short
    in
    subst (λ (i : Item). IsLineOf i line) read.2 (record { parts = told.1; short = few }, told.0)

note_or_words : (b : Bool) (line : List ℕ) (item : Item) → is_note line ≡ b → length line ≤ longest_line
    → cond b (Some found.Note) (item_of_words (words_of_line line)) ≡ Some item → IsLineOf item line
note_or_words true line item star short h =
    subst (λ (i : Item). IsLineOf i line) (same_Some found.Note item h) (record { star = star; short = short })
note_or_words false line item star short h = words_found line item short h

-- What is read from a line is what the line holds.
pub line_found : (line : List ℕ) (item : Item) → item_of_bytes line ≡ Some item → IsLineOf item line
unfolding item_of_bytes
line_found line item h =
    let test = test_found (leb (length line) longest_line)
    (cond (is_note line) (Some found.Note) (item_of_words (words_of_line line))) item h in
    note_or_words (is_note line) line item refl (grind (arith, nat_tests, test.0)) test.1

-- What is read from a line, if something is, is what the line holds.
pub found_in_line : (line : List ℕ) (read : Option Item) → read ≡ item_of_bytes line
    → IfSome read (λ item. IsLineOf item line)
found_in_line line None same = tt
found_in_line line (Some item) same = line_found line item (sym same)

-- A writable event is read from its text.
pub event_again : (event : Event) → IsWritable event → item_of_bytes (event_text event) ≡ Some (found.Event event)
unfolding item_of_bytes
event_again event writable =
    let short : leb (length (event_text event)) longest_line ≡ true = grind (arith, nat_tests, writable.short) in
    rw (short, event_text-no_note event) (read_again event writable.parts)

-- A note is read from each line that is one.
pub note_again : (line : List ℕ) → IsNote line → item_of_bytes line ≡ Some found.Note
unfolding item_of_bytes
note_again line is =
    let short : leb (length line) longest_line ≡ true = grind (arith, nat_tests, is.short) in rw (short, is.star) refl

-- What a line holds is read from it.
pub line_again : (item : Item) (line : List ℕ) → IsLineOf item line → item_of_bytes line ≡ Some item
line_again (found.Event event) line is = ap item_of_bytes is.1 ∙ event_again event is.0
line_again found.Note line is = note_again line is

-- What is read where it is what the line holds is spelled so.
pub found_there : {E : Type 0} (line : List ℕ) (read : Result (Option Item) E)
    → IfOk read (λ found. found ≡ item_of_bytes line) → IfOk read (λ found. IfSome found (λ item. IsLineOf item line))
found_there line read exact = IfOk-weaker read _ _ (λ found same. found_in_line line found same) exact

-- What is spelled so is read, where what the line holds is.
pub only_there : {E : Type 0} (line : List ℕ) (read : Result (Option Item) E)
    → IfOk read (λ found. found ≡ item_of_bytes line) → (item : Item) → IsLineOf item line
    → IfOk read (λ found. found ≡ Some item)
only_there line read exact item holds =
    IfOk-weaker read _ _ (λ found same. same ∙ line_again item line holds) exact

-- A line holds one item at most.
pub one_item : (line : List ℕ) (one other : Item) → IsLineOf one line → IsLineOf other line → one ≡ other
one_item line one other first second =
    same_Some one other (sym (line_again one line first) ∙ line_again other line second)

-- The text of a writable event has no line feed.
pub text_no_feed : (event : Event) → HasLineParts event → HasNoFeed (event_text event)
unfolding event_text HasLineParts
text_no_feed event parts = rows.text_no_feed line_of refl event parts

-- Two writable events with one text are one event.
pub one_text : (one other : Event) → IsWritable one → IsWritable other → event_text one ≡ event_text other
    → one ≡ other
one_text one other first second same =
    let items = one_item (event_text one) (found.Event one) (found.Event other) (first, refl) (second, same) in cc

-- The text of a writable event is cut at the line feed behind it.
pub text_cut : (event : Event) (behind : List ℕ) → IsWritable event
    → lines_of_bytes (event_text event ++ 10 ∷ behind) ≡ Some (event_text event) ∷ lines_of_bytes behind
text_cut event behind writable =
    let short : leb (length (event_text event)) longest_line ≡ true = grind (arith, nat_tests, writable.short) in
    let cut : cut_line (event_text event) ≡ Some (event_text event) = rw short refl in
    lines_of_bytes-line (event_text event) behind (text_no_feed event writable.parts)
    ∙ ap (λ (line : Option (List ℕ)). line ∷ lines_of_bytes behind) cut

-- The text of shares is their word, and each number behind a space.
pub shares_text : (shares : List ℕ)
    → event_text (events.Plan (lines.Shares shares)) ≡ codes "shares" ++ flat_map (λ share. 32 ∷ decimal share) shares
unfolding event_text
shares_text shares = sym (join_with_byte-cons decimal 32 (codes "shares") shares)

-- The text of an act is its word, the table, the name and the words of the act.
pub act_text : (table : ℕ) (name : List ℕ) (act : Act) → event_text (events.Act table name act)
    ≡ join_with_byte 32 (codes "act" ∷ decimal table ∷ name ∷ act_words act)
unfolding event_text
act_text table name act = refl
