-- Who asks for what: a player for his own acts, and the floor for called times and orders.
use Rattle.std.proofs.Common.{◌≡◌, refl, subst, ℕ, Bool, true, false, cond, List, [], ◌∷◌, Some}
use Rattle.std.specs.List.{AllByRecursion}
use Rattle.std.specs.Str.{bytes_eq}
use Rattle.std.proofs.lemmas.Option.{same_Some}
use Rattle.card_set.proofs.Steps.{bind_found, map_found}
use Rattle.line_words.specs.Fields.{act_of, amount_if_any, few_of, last_by, next_by}
use Rattle.line_words.specs.Rows.{Fields, no_field, last, ◌▸◌, an_act, if_any, few, Maker, Row, read_at, read_fields, read_words, row_at, value_of}
use Rattle.line_words.specs.Words.{words_of_line}
use Rattle.session_lines.specs.declared.hello.Speaker.{Speaker}
use Rattle.session_lines.specs.declared.hello.Speaker.TheVariants.{Floor, Player}
use Rattle.session_lines.specs.declared.request.Request.{Request}
use Rattle.session_lines.specs.declared.request.Request.TheVariants as requests
use Rattle.session_lines.specs.Requests.{floor_rows, player_rows, request_of}

module _ {A : Type 0} (P : A → Type 0) where
  -- All that the fields of a row make is so.
  abbrev Makes : (fields : Fields) → Maker fields A → Type 0
  Makes no_field make = P make
  Makes (last field) make = (value : _) → P (make value)
  Makes (field ▸ fields) make = (value : _) → Makes fields (make value)
  Makes an_act make = (act : _) → P (make act)
  Makes if_any make = (n : _) → P (make n)
  Makes (few most field) make = (values : _) → P (make values)

  abbrev MakesAt : Row A → Type 0
  MakesAt row = Makes row.fields row.make

  fields-made : (fields : Fields) (make : Maker fields A) (words : List (List ℕ)) (told : A) → Makes fields make
      → read_fields fields make words ≡ Some told → P told
  unfolding read_fields
  fields-made no_field make [] told makes h = subst P (same_Some make told h) makes
  fields-made no_field make (word ∷ words) told makes h = absurd cc
  fields-made (last field) make words told makes h =
      let read = map_found make (last_by (value_of field) words) told h in subst P read.2 (makes read.0)
  fields-made (field ▸ fields) make words told makes h =
      let read = bind_found (next_by (value_of field) words) (λ read. read_fields fields (make read.0) read.1) told h in
      fields-made fields (make read.0.0) read.0.1 told (makes read.0.0) read.2
  fields-made an_act make words told makes h =
      let read = map_found make (act_of words) told h in subst P read.2 (makes read.0)
  fields-made if_any make words told makes h =
      let read = map_found make (amount_if_any words) told h in subst P read.2 (makes read.0)
  fields-made (few most field) make words told makes h =
      let read = map_found make (few_of most (value_of field) words) told h in subst P read.2 (makes read.0)

  row-made : (rows : List (Row A)) (word : List ℕ) (words : List (List ℕ)) (told : A) → AllByRecursion MakesAt rows
      → read_at (row_at rows word) words ≡ Some told → P told
  row-made [] word words told all h = absurd cc
  row-made (row ∷ rows) word words told all h = by_word (bytes_eq word row.word) h (row-made rows word words told all.1)
    where
      by_word : (is : Bool) → read_at (cond is (Some row) (row_at rows word)) words ≡ Some told
          → (read_at (row_at rows word) words ≡ Some told → P told) → P told
      by_word true h later = fields-made row.fields row.make words told all.0 h
      by_word false h later = later h

  -- All that the rows of a grammar make is so of what is read.
  words-made : (rows : List (Row A)) (words : List (List ℕ)) (told : A) → AllByRecursion MakesAt rows
      → read_words rows words ≡ Some told → P told
  words-made rows [] told all h = absurd cc
  words-made rows (word ∷ words) told all h = row-made rows word words told all h

-- Whoever asks for this may: a player asks for his own acts alone, and the floor for none.
abbrev pub IsOwn : Speaker → Request → Type 0
IsOwn who (requests.Watch table) = Unit {0}
IsOwn (Player player) (requests.Act table name act) = name ≡ player
IsOwn Floor (requests.Time table) = Unit {0}
IsOwn Floor (requests.Order ask) = Unit {0}
IsOwn who request = ⊥

-- Whoever speaks asks for such by any line.
pub own-request : (who : Speaker) (line : List ℕ) (request : Request) → request_of who line ≡ Some request
    → IsOwn who request
unfolding request_of
own-request (Player name) line request h =
    words-made (IsOwn (Player name)) (player_rows name) (words_of_line line) request
    (λ table. tt, (λ table act. refl, tt)) h
own-request Floor line request h =
    words-made (IsOwn Floor) floor_rows (words_of_line line) request (
      λ table. tt,
      (
        λ table. tt,
        (
          λ name table seat. tt,
          (
            λ name table seat. tt,
            (
              λ from to. tt,
              (
                λ table. tt,
                (
                  tt,
                  (
                    λ table. tt,
                    (
                      λ on. tt,
                      (
                        tt,
                        (tt, (tt, tt)),
                      ),
                    ),
                  ),
                ),
              ),
            ),
          ),
        ),
      ),
    ) h
