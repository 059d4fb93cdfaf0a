-- What the grammar of the first edition reads is read by the grammar, and is an event of the first edition: no re-entry,
-- no fixed limit, and no level with an ante.
use Rattle.std.proofs.Common.{rules, ◌≡◌, ◌∙◌, refl, sym, ap, ℕ, Bool, true, false, cond, List, [], ◌∷◌, length}
use Rattle.std.specs.Prelude.{not, nat_le, nat_lt, codes, if◌then◌else◌, Option, Some, None, option_map, option_and_then}
use Rattle.std.specs.Bool.{then_some}
use Rattle.std.specs.List.{AllByRecursion}
use Rattle.std.specs.Str.{bytes_eq}
use Rattle.std.proofs.lemmas.Bool.{eqb-true}
use Rattle.std.proofs.lemmas.Option.{same_Some}
use Rattle.std.proofs.lemmas.Slice.Eq.{bytes_eq-Decides}
use Rattle.floor_text.specs.Limits.{longest_line}
use Rattle.floor_text.specs.Numbers.{number_of}
use Rattle.level_plan.specs.declared.line.PlanLine.TheVariants as lines
use Rattle.line_words.specs.Words.{no_word, words_of_line}
use Rattle.line_words.specs.Fields.{next_by, last_by, act_of, amount_if_any, few_of}
use Rattle.line_words.specs.Rows.{Field, Fields, no_field, last, ◌▸◌, a_number, a_name, an_act, if_any, few, Value, Values, Maker, made, Row, row_at, read_at, read_by, read_words, read_fields, value_of}
use Rattle.tournament_events.specs.declared.event.Event.{Event as EventOfLine}
use Rattle.tournament_events.specs.declared.event.Event.TheVariants as events
use Rattle.tournament_events.specs.declared.event.Item.{Item}
use Rattle.tournament_events.specs.declared.event.Item.TheVariants.{Event, Note}
use Rattle.floor_events.specs.Grammar.{grammar, is_note, item_of_words, item_of_bytes}
use Rattle.replay_rules.specs.Replay.{item_of_cut}
use Rattle.first_edition.specs.First.{without, with_row, first_blinds, first_grammar, is_first_event, is_first_item, first_item_of_cut}

-- For every other word the row is the same.
same_row : (word other : List ℕ) → bytes_eq other word ≡ false → (rows : List (Row EventOfLine))
    → row_at (without word rows) other ≡ row_at rows other
same_row word other differs [] = refl
same_row word other differs (row ∷ rows) = by_test (bytes_eq row.word word) refl (same_row word other differs rows)
  where
    by_test : (b : Bool) → bytes_eq row.word word ≡ b → row_at (without word rows) other ≡ row_at rows other
        → row_at (cond (not b) (row ∷ without word rows) (without word rows)) other ≡ row_at (row ∷ rows) other
    by_test true is rest =
        let same = (bytes_eq-Decides row.word word).0 is in
        let none : bytes_eq other row.word ≡ false = ap (bytes_eq other) same ∙ differs in
        rest ∙ ap (λ (b : Bool). cond b (Some row) (row_at rows other)) (sym none)
    by_test false is rest = ap (λ (found : Option (Row EventOfLine)). cond (bytes_eq other row.word) (Some row) found) rest

-- For that word there is none.
no_row : (word other : List ℕ) → bytes_eq other word ≡ true → (rows : List (Row EventOfLine))
    → row_at (without word rows) other ≡ None
no_row word other is [] = refl
no_row word other is (row ∷ rows) = by_test (bytes_eq row.word word) refl (no_row word other is rows)
  where
    apart : bytes_eq row.word word ≡ false → (b : Bool) → bytes_eq other row.word ≡ b → b ≡ false
    apart differs true same =
        let one = (bytes_eq-Decides other word).0 is in
        let two = (bytes_eq-Decides other row.word).0 same in
        let both = (bytes_eq-Decides row.word word).1 (sym two ∙ one) in
        absurd cc
    apart differs false same = refl

    by_test : (b : Bool) → bytes_eq row.word word ≡ b → row_at (without word rows) other ≡ None
        → row_at (cond (not b) (row ∷ without word rows) (without word rows)) other ≡ None
    by_test true differs rest = rest
    by_test false differs rest =
        ap (λ (b : Bool). cond b (Some row) (row_at (without word rows) other))
        (apart differs (bytes_eq other row.word) refl) ∙ rest

-- What is read without a row is read with it.
read_more : (word : List ℕ) (rows : List (Row EventOfLine)) (words : List (List ℕ)) (event : EventOfLine)
    → read_words (without word rows) words ≡ Some event → read_words rows words ≡ Some event
read_more word rows [] event read = absurd cc
read_more word rows (first ∷ words) event read = by_test (bytes_eq first word) refl
  where
    by_test : (b : Bool) → bytes_eq first word ≡ b → read_at (row_at rows first) words ≡ Some event
    by_test true is =
        let none = ap (λ (row : Option (Row EventOfLine)). read_at row words) (no_row word first is rows) in
        let never : None ≡ Some event = sym none ∙ read in
        absurd cc
    by_test false is =
        ap (λ (row : Option (Row EventOfLine)). read_at row words) (sym (same_row word first is rows)) ∙ read

-- a row makes such events alone
abbrev MakesFirst : Row EventOfLine → Type 0
MakesFirst row = (values : Values row.fields) → is_first_event (made row.fields row.make values) ≡ true

-- what fields read, they make, of one edition or not
first_made : (kind : Bool) (fields : Fields) (make : Maker fields EventOfLine) (words : List (List ℕ)) (event : EventOfLine)
    → ((values : Values fields) → is_first_event (made fields make values) ≡ kind)
    → read_fields fields make words ≡ Some event → is_first_event event ≡ kind
unfolding read_fields
first_made kind no_field make words event none read = by_test (no_word words) read
  where
    by_test : (b : Bool) → then_some b make ≡ Some event → is_first_event event ≡ kind
    by_test true is = ap is_first_event (sym (same_Some make event is)) ∙ none tt
    by_test false is = absurd cc
first_made kind (last field) make words event none read = by_value (last_by (value_of field) words) read
  where
    by_value : (found : Option (Value field)) → option_map make found ≡ Some event → is_first_event event ≡ kind
    by_value None is = absurd cc
    by_value (Some value) is = ap is_first_event (sym (same_Some (make value) event is)) ∙ none value
first_made kind (field ▸ fields) make words event none read =
    by_value (next_by (value_of field) words) read
    (λ value words. first_made kind fields (make value) words event (λ values. none (value, values)))
  where
    by_value : (found : Option (Value field × List (List ℕ)))
        → option_and_then (λ read. read_fields fields (make read.0) read.1) found ≡ Some event
        → ((value : Value field) (words : List (List ℕ)) → read_fields fields (make value) words ≡ Some event
        → is_first_event event ≡ kind)
        → is_first_event event ≡ kind
    by_value None is rest = absurd cc
    by_value (Some found) is rest = rest found.0 found.1 is
first_made kind an_act make words event none read = by_value (act_of words) read
  where
    by_value : (found : Option _) → option_map make found ≡ Some event → is_first_event event ≡ kind
    by_value None is = absurd cc
    by_value (Some value) is = ap is_first_event (sym (same_Some (make value) event is)) ∙ none value
first_made kind if_any make words event none read = by_value (amount_if_any words) read
  where
    by_value : (found : Option ℕ) → option_map make found ≡ Some event → is_first_event event ≡ kind
    by_value None is = absurd cc
    by_value (Some value) is = ap is_first_event (sym (same_Some (make value) event is)) ∙ none value
first_made kind (few most field) make words event none read = by_value (few_of most (value_of field) words) read
  where
    by_value : (found : Option (List (Value field))) → option_map make found ≡ Some event → is_first_event event ≡ kind
    by_value None is = absurd cc
    by_value (Some value) is = ap is_first_event (sym (same_Some (make value) event is)) ∙ none value

-- Each row of that grammar does.
all_in_first : AllByRecursion MakesFirst first_grammar
all_in_first = search rules

first_by_rows : (rows : List (Row EventOfLine)) (word : List ℕ) (words : List (List ℕ)) (event : EventOfLine)
    → AllByRecursion MakesFirst rows → read_by rows word words ≡ Some event → is_first_event event ≡ true
first_by_rows [] word words event none read = absurd cc
first_by_rows (row ∷ rows) word words event none read =
    by_test (bytes_eq word row.word) read (first_by_rows rows word words event none.1)
  where
    by_test : (b : Bool) → read_at (cond b (Some row) (row_at rows word)) words ≡ Some event
        → (read_by rows word words ≡ Some event → is_first_event event ≡ true) → is_first_event event ≡ true
    by_test true is rest = first_made true row.fields row.make words event none.0 is
    by_test false is rest = rest is

first_read : (words : List (List ℕ)) (event : EventOfLine) → read_words first_grammar words ≡ Some event
    → is_first_event event ≡ true
first_read [] event read = absurd cc
first_read (word ∷ words) event read = first_by_rows first_grammar word words event all_in_first read

-- A last field is read as before where an amount may stand behind it.
more_last : (field : Field) (old : Value field → EventOfLine) (new : Value field → ℕ → EventOfLine)
    → ((value : Value field) → old value ≡ new value 0) → (words : List (List ℕ)) (event : EventOfLine)
    → read_fields (last field) old words ≡ Some event → read_fields (field ▸ if_any) new words ≡ Some event
unfolding read_fields last_by next_by amount_if_any
more_last field old new same [] event read = absurd cc
more_last field old new same (word ∷ []) event read = by_value (value_of field word) read
  where
    by_value : (found : Option (Value field)) → option_map old found ≡ Some event
        → option_and_then (λ (read : Value field × List (List ℕ)). option_map (new read.0) (amount_if_any read.1))
        (option_map (λ value. (value, [])) found) ≡ Some event
    by_value None is = absurd cc
    by_value (Some value) is = ap Some (sym (same value)) ∙ is
more_last field old new same (word ∷ more ∷ words) event read = absurd cc

-- A field is read as before where those behind it are.
more_next : (field : Field) (one other : Fields) (old : Value field → Maker one EventOfLine)
    (new : Value field → Maker other EventOfLine) (words : List (List ℕ)) (event : EventOfLine)
    → ((value : Value field) (words : List (List ℕ)) → read_fields one (old value) words ≡ Some event
    → read_fields other (new value) words ≡ Some event)
    → read_fields (field ▸ one) old words ≡ Some event → read_fields (field ▸ other) new words ≡ Some event
unfolding read_fields
more_next field one other old new words event later read = by_value (next_by (value_of field) words) read
  where
    by_value : (found : Option (Value field × List (List ℕ)))
        → option_and_then (λ read. read_fields one (old read.0) read.1) found ≡ Some event
        → option_and_then (λ read. read_fields other (new read.0) read.1) found ≡ Some event
    by_value None is = absurd cc
    by_value (Some found) is = later found.0 found.1 is

-- what the row of blinds makes now
abbrev blinds_made : ℕ → ℕ → ℕ → ℕ → EventOfLine
blinds_made small big unit ante =
    events.Plan (lines.Blinds (record { small = small; big = big; unit = unit; ante = ante }))

-- Three numbers behind `blinds` are read now as they were.
blinds_read : (words : List (List ℕ)) (event : EventOfLine)
    → read_fields (a_number ▸ a_number ▸ last a_number) (λ small big unit. blinds_made small big unit 0) words
    ≡ Some event
    → read_fields (a_number ▸ a_number ▸ a_number ▸ if_any) blinds_made words ≡ Some event
blinds_read words event read =
    more_next a_number (a_number ▸ last a_number) (a_number ▸ a_number ▸ if_any)
    (λ small big unit. blinds_made small big unit 0) blinds_made words event
    (λ small words read. more_next a_number (last a_number) (a_number ▸ if_any)
    (λ big unit. blinds_made small big unit 0) (blinds_made small) words event
    (λ big words read. more_last a_number (λ unit. blinds_made small big unit 0) (blinds_made small big) (λ unit. refl)
    words event read) read) read

-- Where another row stands in place of one, the row of every other word is the same.
row_with : (new : Row EventOfLine) (other : List ℕ) → bytes_eq other new.word ≡ false
    → (rows : List (Row EventOfLine)) → row_at (with_row new rows) other ≡ row_at rows other
row_with new other differs [] = refl
row_with new other differs (old ∷ rows) = by_test (bytes_eq old.word new.word) refl (row_with new other differs rows)
  where
    by_test : (b : Bool) → bytes_eq old.word new.word ≡ b → row_at (with_row new rows) other ≡ row_at rows other
        → row_at (cond b new old ∷ with_row new rows) other ≡ row_at (old ∷ rows) other
    by_test true is rest =
        let same = (bytes_eq-Decides old.word new.word).0 is in
        let none : bytes_eq other old.word ≡ false = ap (bytes_eq other) same ∙ differs in
        ap (λ (b : Bool). cond b (Some new) (row_at (with_row new rows) other)) differs
        ∙ (rest ∙ ap (λ (b : Bool). cond b (Some old) (row_at rows other)) (sym none))
    by_test false is rest = ap (λ (found : Option (Row EventOfLine)). cond (bytes_eq other old.word) (Some old) found)
        rest

-- What that grammar reads is read now.
read_now : (words : List (List ℕ)) (event : EventOfLine) → read_words first_grammar words ≡ Some event
    → read_words grammar words ≡ Some event
read_now [] event read = absurd cc
read_now (first ∷ words) event read = by_test (bytes_eq first (codes "blinds")) refl
  where
    by_test : (b : Bool) → bytes_eq first (codes "blinds") ≡ b → read_words grammar (first ∷ words) ≡ Some event
    by_test true is =
        let same = (bytes_eq-Decides first (codes "blinds")).0 is in
        let old : read_at (row_at first_grammar (codes "blinds")) words ≡ Some event =
        ap (λ (word : List ℕ). read_at (row_at first_grammar word) words) (sym same) ∙ read in
        ap (λ (word : List ℕ). read_at (row_at grammar word) words) same ∙ blinds_read words event old
    by_test false is =
        let rest = without (codes "limit") (without (codes "reenter") grammar) in
        let old : read_words rest (first ∷ words) ≡ Some event =
        ap (λ (row : Option (Row EventOfLine)). read_at row words) (sym (row_with first_blinds first is rest))
        ∙ read in
        read_more (codes "reenter") grammar (first ∷ words) event
        (read_more (codes "limit") (without (codes "reenter") grammar) (first ∷ words) event old)

-- A last field reads what was read where an amount may stand behind it, where none does.
fewer_last : (field : Field) (old : Value field → EventOfLine) (new : Value field → ℕ → EventOfLine)
    → ((value : Value field) → old value ≡ new value 0)
    → ((value : Value field) (n : ℕ) → is_first_event (new value n) ≡ true → n ≡ 0)
    → (words : List (List ℕ)) (event : EventOfLine) → is_first_event event ≡ true
    → read_fields (field ▸ if_any) new words ≡ Some event → read_fields (last field) old words ≡ Some event
unfolding read_fields last_by next_by amount_if_any
fewer_last field old new same none [] event kind read = absurd cc
fewer_last field old new same none (word ∷ []) event kind read = by_value (value_of field word) read
  where
    by_value : (found : Option (Value field))
        → option_and_then (λ (read : Value field × List (List ℕ)). option_map (new read.0) (amount_if_any read.1))
        (option_map (λ value. (value, [])) found) ≡ Some event
        → option_map old found ≡ Some event
    by_value None is = absurd cc
    by_value (Some value) is = ap Some (same value) ∙ is
fewer_last field old new same none (word ∷ amount ∷ []) event kind read = by_value (value_of field word) read
  where
    by_test : (value : Value field) (n : ℕ) (b : Bool) → nat_lt 0 n ≡ b
        → option_map (new value) (if b then Some n else None) ≡ Some event → None ≡ Some event
    by_test value n true some is =
        let zero = none value n (ap is_first_event (same_Some (new value n) event is) ∙ kind) in
        let never : false ≡ true = ap (nat_lt 0) (sym zero) ∙ some in
        absurd cc
    by_test value n false some is = absurd cc

    by_amount : (value : Value field) (found : Option ℕ)
        → option_map (new value) (option_and_then (λ n. if nat_lt 0 n then Some n else None) found) ≡ Some event
        → None ≡ Some event
    by_amount value None is = absurd cc
    by_amount value (Some n) is = by_test value n (nat_lt 0 n) refl is

    by_value : (found : Option (Value field))
        → option_and_then (λ (read : Value field × List (List ℕ)). option_map (new read.0) (amount_if_any read.1))
        (option_map (λ value. (value, amount ∷ [])) found) ≡ Some event
        → None ≡ Some event
    by_value None is = absurd cc
    by_value (Some value) is = by_amount value (number_of amount) is
fewer_last field old new same none (word ∷ amount ∷ more ∷ words) event kind read =
    by_value (value_of field word) read
  where
    by_value : (found : Option (Value field))
        → option_and_then (λ (read : Value field × List (List ℕ)). option_map (new read.0) (amount_if_any read.1))
        (option_map (λ value. (value, amount ∷ more ∷ words)) found) ≡ Some event
        → None ≡ Some event
    by_value None is = absurd cc
    by_value (Some value) is = absurd cc

-- Blinds without an ante are read by three numbers.
blinds_kept : (words : List (List ℕ)) (event : EventOfLine) → is_first_event event ≡ true
    → read_fields (a_number ▸ a_number ▸ a_number ▸ if_any) blinds_made words ≡ Some event
    → read_fields (a_number ▸ a_number ▸ last a_number) (λ small big unit. blinds_made small big unit 0) words
    ≡ Some event
blinds_kept words event kind read =
    more_next a_number (a_number ▸ a_number ▸ if_any) (a_number ▸ last a_number) blinds_made
    (λ small big unit. blinds_made small big unit 0) words event
    (λ small words read. more_next a_number (a_number ▸ if_any) (last a_number) (blinds_made small)
    (λ big unit. blinds_made small big unit 0) words event
    (λ big words read. fewer_last a_number (λ unit. blinds_made small big unit 0) (blinds_made small big) (λ unit. refl)
    (λ unit ante kind. eqb-true ante 0 kind) words event kind read) read) read

-- What is read now is read by that grammar, where it is an event of the first edition.
read_kept : (words : List (List ℕ)) (event : EventOfLine) → is_first_event event ≡ true
    → read_words grammar words ≡ Some event → read_words first_grammar words ≡ Some event
read_kept [] event kind read = absurd cc
read_kept (first ∷ words) event kind read =
    by_reentry (bytes_eq first (codes "reenter")) refl
  where
    now : (word : List ℕ) → bytes_eq first word ≡ true → read_at (row_at grammar word) words ≡ Some event
    now word is = ap (λ (word : List ℕ). read_at (row_at grammar word) words)
        (sym ((bytes_eq-Decides first word).0 is)) ∙ read

    by_blinds : bytes_eq first (codes "reenter") ≡ false → bytes_eq first (codes "limit") ≡ false → (b : Bool)
        → bytes_eq first (codes "blinds") ≡ b → read_words first_grammar (first ∷ words) ≡ Some event
    by_blinds one two true is =
        ap (λ (word : List ℕ). read_at (row_at first_grammar word) words) ((bytes_eq-Decides first (codes "blinds")).0 is)
        ∙ blinds_kept words event kind (now (codes "blinds") is)
    by_blinds one two false is =
        let rest = without (codes "reenter") grammar in
        ap (λ (row : Option (Row EventOfLine)). read_at row words)
        (row_with first_blinds first is (without (codes "limit") rest)
        ∙ (same_row (codes "limit") first two rest ∙ same_row (codes "reenter") first one grammar)) ∙ read

    by_limit : bytes_eq first (codes "reenter") ≡ false → (b : Bool) → bytes_eq first (codes "limit") ≡ b
        → read_words first_grammar (first ∷ words) ≡ Some event
    by_limit one true is =
        let never : true ≡ false = sym kind ∙ first_made false (last a_number) (λ n. events.Plan (lines.Limit n)) words
        event (λ n. refl) (now (codes "limit") is) in
        absurd cc
    by_limit one false is = by_blinds one is (bytes_eq first (codes "blinds")) refl

    by_reentry : (b : Bool) → bytes_eq first (codes "reenter") ≡ b
        → read_words first_grammar (first ∷ words) ≡ Some event
    by_reentry true is =
        let never : true ≡ false = sym kind ∙ first_made false (a_name ▸ a_number ▸ last a_number) events.Reenter words
        event (λ values. refl) (now (codes "reenter") is) in
        absurd cc
    by_reentry false is = by_limit is (bytes_eq first (codes "limit")) refl

-- What an item of that grammar is now, and that its event is one of the first edition.
pub record IsFirst (cut : Option (List ℕ)) (item : Item) : Type 0 where
  pub now : item_of_cut cut ≡ Some item
  pub none : (event : EventOfLine) → item ≡ Event event → is_first_event event ≡ true

first_words : (line : List ℕ) (item : Item) (read : Option EventOfLine)
    → read_words first_grammar (words_of_line line) ≡ read → option_map Event read ≡ Some item
    → (item_of_words (words_of_line line) ≡ Some item)
    × ((event : EventOfLine) → item ≡ Event event → is_first_event event ≡ true)
unfolding item_of_words
first_words line item None is found = absurd cc
first_words line item (Some event) is found = (
  ap (option_map Event) (read_now (words_of_line line) event is) ∙ found,
  λ other same.
      let one : Event event ≡ Event other = same_Some (Event event) item found ∙ same in
      let equal : event ≡ other = cc in
      ap is_first_event (sym equal) ∙ first_read (words_of_line line) event is,
)

pub first_is : (cut : Option (List ℕ)) (item : Item) → first_item_of_cut cut ≡ Some item → IsFirst cut item
unfolding item_of_bytes
first_is None item is = absurd cc
first_is (Some line) item is = by_length (nat_le (length line) longest_line) refl is
  where
    by_note : (note : Bool) → is_note line ≡ note → nat_le (length line) longest_line ≡ true
        → (if note then Some Note else option_map Event (read_words first_grammar (words_of_line line))) ≡ Some item
        → IsFirst (Some line) item
    by_note true note short found = record {
      now = rw (short, note) found;
      none = λ event same. let both : Note ≡ Event event = same_Some Note item found ∙ same in absurd cc;
    }
    by_note false note short found =
        let told = first_words line item (read_words first_grammar (words_of_line line)) refl found in
        record { now = rw (short, note) told.0; none = told.1 }

    by_length : (short : Bool) → nat_le (length line) longest_line ≡ short
        → (if short then (if is_note line then Some Note
        else option_map Event (read_words first_grammar (words_of_line line))) else None) ≡ Some item
        → IsFirst (Some line) item
    by_length true short found = by_note (is_note line) refl short found
    by_length false short found = absurd cc

-- An item of now that is one of the first edition is one of that grammar.
first_kept : (cut : Option (List ℕ)) (item : Item) → item_of_cut cut ≡ Some item → is_first_item item ≡ true
    → first_item_of_cut cut ≡ Some item
unfolding item_of_bytes item_of_words
first_kept None item is kind = absurd cc
first_kept (Some line) item is kind = by_length (nat_le (length line) longest_line) is
  where
    by_read : (read : Option EventOfLine) → read_words grammar (words_of_line line) ≡ read
        → option_map Event read ≡ Some item
        → option_map Event (read_words first_grammar (words_of_line line)) ≡ Some item
    by_read None is found = absurd cc
    by_read (Some event) is found =
        let one = ap is_first_item (same_Some (Event event) item found) ∙ kind in
        ap (option_map Event) (read_kept (words_of_line line) event one is) ∙ found

    by_note : (note : Bool)
        → (if note then Some Note else option_map Event (read_words grammar (words_of_line line))) ≡ Some item
        → (if note then Some Note else option_map Event (read_words first_grammar (words_of_line line))) ≡ Some item
    by_note true found = found
    by_note false found = by_read (read_words grammar (words_of_line line)) refl found

    by_length : (short : Bool)
        → (if short then (if is_note line then Some Note
        else option_map Event (read_words grammar (words_of_line line))) else None) ≡ Some item
        → (if short then (if is_note line then Some Note
        else option_map Event (read_words first_grammar (words_of_line line))) else None) ≡ Some item
    by_length true found = by_note (is_note line) found
    by_length false found = absurd cc

-- The items of that grammar are those.
pub first_items : (cut : Option (List ℕ)) (item : Item)
    → (first_item_of_cut cut ≡ Some item → (item_of_cut cut ≡ Some item) × (is_first_item item ≡ true))
    × ((item_of_cut cut ≡ Some item) × (is_first_item item ≡ true) → first_item_of_cut cut ≡ Some item)
first_items cut item = (
  λ is. let his = first_is cut item is in (his.now, by_item item his),
  λ both. first_kept cut item both.0 both.1,
)
  where
    by_item : (item : Item) → IsFirst cut item → is_first_item item ≡ true
    by_item Note his = refl
    by_item (Event event) his = his.none event refl
