-- What a grammar reads is spelled so, and what is spelled so is read: once for all rows, by the kinds of their fields.
use Rattle.std.proofs.Common.{◌≡◌, ℕ, Bool, true, false, cond, List, [], ◌∷◌, Option, Some, None, refl, sym, ap, ◌∙◌, subst, arith}
use Rattle.std.specs.List.{list_all, join_with_byte, AllByRecursion}
use Rattle.std.specs.Str.{bytes_eq}
use Rattle.std.proofs.lemmas.Bool.{and_parts, and_from}
use Rattle.std.proofs.lemmas.List.Splits.{join_with_byte-slice_split}
use Rattle.std.proofs.lemmas.Option.{same_Some}
use Rattle.std.proofs.lemmas.Slice.Eq.{bytes_eq-Decides}
use Rattle.floor_text.specs.Lines.{HasNoFeed}
use Rattle.card_set.proofs.Steps.{bind_found, map_found}
use Rattle.line_words.specs.Limits.{most_members}
use Rattle.line_words.specs.Words.{words_of_line}
use Rattle.line_words.specs.Fields.{next_by, last_by, act_of, amount_if_any, few_of}
use Rattle.line_words.specs.Rows.{Field, a_number, a_name, a_row, a_game, a_switch, some_places, some_names, Fields, no_field, last, ◌▸◌, an_act, if_any, few, Values, value_of, field_word, IsLawful, field_words, AreLawful, Maker, made, read_fields, Row, row_at, read_at, read_by, read_words, ValuesAt, made_at, words_at, AreLawfulAt, Line, words_of, text_of, IsLawfulLine}
use Rattle.line_words.proofs.FieldLaws.{IsField, number_field, name_field, row_field, game_field, switch_field, act_rest, if_any_rest, next_found, next_again, last_field}
use Rattle.line_words.proofs.PieceLaws.{few_rest, place_member, name_member, members_field}
use Rattle.line_words.proofs.Spaces.{is_word, words_lack, pieces_again, line_no_feed}

-- Each field of one word reads exactly what it writes.
field_laws : (field : Field) → IsField (value_of field) (field_word field) (IsLawful field)
field_laws a_number = number_field
field_laws a_name = name_field
field_laws a_row = row_field
field_laws a_game = game_field
field_laws a_switch = switch_field
field_laws some_places = members_field place_member most_members
field_laws some_names = members_field name_member most_members

-- Words are the spelling of lawful values of the fields, which make what is told.
record IsMade {A : Type 0} (fields : Fields) (make : Maker fields A) (words : List (List ℕ)) (told : A) : Type 0 where
  values : Values fields
  spelling : words ≡ field_words fields values
  lawful : AreLawful fields values
  makes : made fields make values ≡ told

-- What fields read is what they spell.
fields_found : {A : Type 0} (fields : Fields) (make : Maker fields A) (words : List (List ℕ)) (told : A)
    → read_fields fields make words ≡ Some told → IsMade fields make words told
unfolding read_fields
fields_found no_field make [] told h =
    record { values = tt; spelling = refl; lawful = tt; makes = same_Some make told h }
fields_found no_field make (word ∷ words) told h = absurd cc
fields_found (last field) make words told h =
    let read = map_found make (last_by (value_of field) words) told h in
    let found = (last_field (field_laws field)).found words read.0 read.1 in
    record { values = read.0; spelling = found.0; lawful = found.1; makes = read.2 }
fields_found (field ▸ fields) make words told h =
    let first = bind_found (next_by (value_of field) words) (λ read. read_fields fields (make read.0) read.1) told h in
    let next = next_found (value_of field) (field_word field) (IsLawful field) (field_laws field) words first.0 first.1
    in
    let others = fields_found fields (make first.0.0) first.0.1 told first.2 in
    record {
      values = (first.0.0, others.values);
      spelling = next.spelling
          ∙ ap (λ (ws : List (List ℕ)). field_word field first.0.0 ∷ ws) others.spelling;
      lawful = (next.fits, others.lawful);
      makes = others.makes;
    }
fields_found an_act make words told h =
    let read = map_found make (act_of words) told h in
    let found = act_rest.found words read.0 read.1 in
    record { values = read.0; spelling = found.0; lawful = found.1; makes = read.2 }
fields_found if_any make words told h =
    let read = map_found make (amount_if_any words) told h in
    let found = if_any_rest.found words read.0 read.1 in
    record { values = read.0; spelling = found.0; lawful = found.1; makes = read.2 }
fields_found (few most field) make words told h =
    let read = map_found make (few_of most (value_of field) words) told h in
    let found = (few_rest (field_laws field) most).found words read.0 read.1 in
    record { values = read.0; spelling = found.0; lawful = found.1; makes = read.2 }

-- What fields spell is read.
fields_again : {A : Type 0} (fields : Fields) (make : Maker fields A) (values : Values fields)
    → AreLawful fields values → read_fields fields make (field_words fields values) ≡ Some (made fields make values)
unfolding read_fields
fields_again no_field make values lawful = refl
fields_again (last field) make values lawful = rw ((last_field (field_laws field)).again values lawful) refl
fields_again (field ▸ fields) make values lawful =
    let first = next_again (value_of field) (field_word field) (IsLawful field) (field_laws field) values.0
    (field_words fields values.1) lawful.0 in
    rw first (fields_again fields (make values.0) values.1 lawful.1)
fields_again an_act make values lawful = rw (act_rest.again values lawful) refl
fields_again if_any make values lawful = rw (if_any_rest.again values lawful) refl
fields_again (few most field) make values lawful =
    rw ((few_rest (field_laws field) most).again values lawful) refl

-- What fields spell are words.
fields_are_words : (fields : Fields) (values : Values fields) → AreLawful fields values
    → list_all is_word (field_words fields values) ≡ true
fields_are_words no_field values lawful = refl
fields_are_words (last field) values lawful = rw ((field_laws field).word values lawful) refl
fields_are_words (field ▸ fields) values lawful =
    and_from _ _ ((field_laws field).word values.0 lawful.0) (fields_are_words fields values.1 lawful.1)
fields_are_words an_act values lawful = act_rest.words values lawful
fields_are_words if_any values lawful = if_any_rest.words values lawful
fields_are_words (few most field) values lawful = (few_rest (field_laws field) most).words values lawful

module _ {A : Type 0} {rows : List (Row A)} (line_of : (told : A) → Line rows told) where
  -- Words are the line of what is told, which may stand in a line.
  pub record Spells (words : List (List ℕ)) (told : A) : Type 0 where
    pub spelling : words ≡ words_of (line_of told)
    pub lawful : IsLawfulLine (line_of told)

  -- What a row makes has its line by that row.
  abbrev pub IsOwn : Row A → Type 0
  IsOwn row = (values : Values row.fields) → AreLawful row.fields values
      → Spells (row.word ∷ field_words row.fields values) (made row.fields row.make values)

  own_found : (row : Row A) (words : List (List ℕ)) (told : A) → IsOwn row
      → read_fields row.fields row.make words ≡ Some told → Spells (row.word ∷ words) told
  own_found row words told own h =
      let read = fields_found row.fields row.make words told h in
      subst (λ (told : A). Spells (row.word ∷ words) told) read.makes (subst
      (λ (ws : List (List ℕ)). Spells (row.word ∷ ws) (made row.fields row.make read.values)) (sym read.spelling)
      (own read.values read.lawful))

  row_or_later : (b : Bool) (row : Row A) (later : Option (Row A)) (word : List ℕ) (words : List (List ℕ)) (told : A)
      → (b ≡ true → word ≡ row.word) → IsOwn row → (read_at later words ≡ Some told → Spells (word ∷ words) told)
      → read_at (cond b (Some row) later) words ≡ Some told → Spells (word ∷ words) told
  row_or_later true row later word words told same own others h =
      subst (λ (w : List ℕ). Spells (w ∷ words) told) (sym (same refl)) (own_found row words told own h)
  row_or_later false row later word words told same own others h = others h

  row_found : (among : List (Row A)) (word : List ℕ) (words : List (List ℕ)) (told : A)
      → AllByRecursion IsOwn among → read_by among word words ≡ Some told → Spells (word ∷ words) told
  row_found [] word words told own h = absurd cc
  row_found (row ∷ among) word words told own h =
      row_or_later (bytes_eq word row.word) row (row_at among word) word words told
      (bytes_eq-Decides word row.word).0 own.0 (row_found among word words told own.1) h

  words_found : (among : List (Row A)) (words : List (List ℕ)) (told : A) → AllByRecursion IsOwn among
      → read_words among words ≡ Some told → Spells words told
  words_found among [] told own h = absurd cc
  words_found among (word ∷ words) told own h = row_found among word words told own h

  -- What is read from a line is spelled so, and may stand in it.
  pub text_found : AllByRecursion IsOwn rows → (bytes : List ℕ) (told : A)
      → read_words rows (words_of_line bytes) ≡ Some told
      → (bytes ≡ text_of (line_of told)) × IsLawfulLine (line_of told)
  text_found own bytes told h =
      let found = words_found rows (words_of_line bytes) told own h in
      (sym (join_with_byte-slice_split 32 bytes) ∙ ap (join_with_byte 32) found.spelling, found.lawful)

  at_again : (row : Option (Row A)) (values : ValuesAt row) → AreLawfulAt row values
      → read_at row (words_at row values) ≡ Some (made_at row values)
  at_again None values lawful = absurd values
  at_again (Some row) values lawful = fields_again row.fields row.make values lawful

  at_words : (row : Option (Row A)) (values : ValuesAt row) → AreLawfulAt row values
      → list_all is_word (words_at row values) ≡ true
  at_words None values lawful = absurd values
  at_words (Some row) values lawful = fields_are_words row.fields values lawful

  first_or_later : (test : List ℕ → Bool) (b : Bool) (row : Row A) (later : Option (Row A)) (word : List ℕ)
      → (b ≡ true → word ≡ row.word) → test row.word ≡ true → (ValuesAt later → test word ≡ true)
      → ValuesAt (cond b (Some row) later) → test word ≡ true
  first_or_later test true row later word same first others values = ap test (same refl) ∙ first
  first_or_later test false row later word same first others values = others values

  first_among : (test : List ℕ → Bool) (among : List (Row A)) (word : List ℕ)
      → list_all (λ row. test row.word) among ≡ true → ValuesAt (row_at among word) → test word ≡ true
  first_among test [] word firsts values = absurd values
  first_among test (row ∷ among) word firsts values =
      let both = and_parts (test row.word) (list_all (λ row. test row.word) among) firsts in
      first_or_later test (bytes_eq word row.word) row (row_at among word) word (bytes_eq-Decides word row.word).0 both.0
      (first_among test among word both.1) values

  -- What the first word of each row passes, the first word of each line passes.
  pub first_passes : (test : List ℕ → Bool) → list_all (λ row. test row.word) rows ≡ true → (told : A)
      → test (line_of told).word ≡ true
  first_passes test firsts told = first_among test rows (line_of told).word firsts (line_of told).values

  all_words : list_all (λ row. is_word row.word) rows ≡ true → (told : A) → IsLawfulLine (line_of told)
      → list_all is_word (words_of (line_of told)) ≡ true
  all_words firsts told lawful =
      let own = line_of told in
      and_from _ _ (first_passes is_word firsts told)
      (at_words (row_at rows own.word) own.values lawful)

  -- What may stand in a line is read from its text.
  pub text_again : list_all (λ row. is_word row.word) rows ≡ true → (told : A) → IsLawfulLine (line_of told)
      → read_words rows (words_of_line (text_of (line_of told))) ≡ Some told
  text_again firsts told lawful =
      let own = line_of told in
      let lack = words_lack 32 (words_of own) (omega arith) (all_words firsts told lawful) in
      ap (read_words rows) (pieces_again 32 own.word (words_at (row_at rows own.word) own.values) lack)
      ∙ (at_again (row_at rows own.word) own.values lawful ∙ ap Some own.makes)

  -- A line's text has no line feed.
  pub text_no_feed : list_all (λ row. is_word row.word) rows ≡ true → (told : A) → IsLawfulLine (line_of told)
      → HasNoFeed (text_of (line_of told))
  text_no_feed firsts told lawful = line_no_feed (words_of (line_of told)) (all_words firsts told lawful)
