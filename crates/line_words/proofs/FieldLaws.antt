-- A field that is read is spelled so, and a field that is spelled so is read.
use Rattle.std.proofs.Common.{◌≡◌, ℕ, Bool, true, false, cond, List, [], ◌∷◌, Option, Some, None, refl, sym, ap, ◌∙◌, subst, inl, inr, arith}
use Rattle.std.specs.Prelude.{◌==◌, nat_lt}
use Rattle.std.specs.Fmt.{decimal}
use Rattle.std.proofs.lemmas.Bool.{cases_Bool, eqb-false, eqb-true, lt-ltb, ltb-true, ne_eqb}
use Rattle.std.specs.List.{list_all, AllByRecursion}
use Rattle.std.specs.Str.{bytes_eq}
use Rattle.std.proofs.lemmas.Option.{same_Some, cond_some}
use Rattle.std.proofs.lemmas.Slice.Eq.{bytes_eq-Decides}
use Rattle.floor_text.specs.Names.{is_name}
use Rattle.floor_text.specs.Numbers.{IsLineNumber, number_of}
use Rattle.floor_text.proofs.NumberLaws.{number_found, number_of-decimal}
use Rattle.card_set.specs.declared.card.CardRow.{CardRow}
use Rattle.card_set.specs.declared.game.Game.{Game}
use Rattle.card_set.specs.declared.game.Game.TheVariants.{Holdem, Omaha, Hilo}
use Rattle.card_set.specs.Cards.{row_text, row_of}
use Rattle.card_set.proofs.RowReading.{row_found, row_again}
use Rattle.card_set.proofs.Steps.{bind_found, map_found}
use Rattle.betting_round.specs.declared.act.Act.{Act}
use Rattle.betting_round.specs.declared.act.Act.TheVariants.{Fold, Check, Call, AllIn, Bet, Raise}
use Rattle.line_words.specs.Fields.{meaning, name_of, IsLineName, game_list, game_of, game_word, switch_list, switch_of, switch_word, act_list, amount_list, act_of, act_words, HasLineAmount, amount_if_any, words_if_any, next_by, last_by}
use Rattle.line_words.proofs.Spaces.{is_word, number_word, name_word, row_word}

-- a test that let something through
pub test_found : {A : Type 0} (b : Bool) (o : Option A) (x : A) → cond b o None ≡ Some x → (b ≡ true) × (o ≡ Some x)
test_found true o x h = (refl, h)
test_found false o x h = absurd cc

-- a field of one word reads exactly what it writes
pub record IsField {A : Type 0} (read : List ℕ → Option A) (write : A → List ℕ) (Fits : A → Type 0) : Type 0 where
  pub found : (word : List ℕ) (value : A) → read word ≡ Some value → (word ≡ write value) × Fits value
  pub again : (value : A) → Fits value → read (write value) ≡ Some value
  pub word : (value : A) → Fits value → is_word (write value) ≡ true

-- a field of all words that are left reads exactly what it writes
pub record IsRest {A : Type 0} (read : List (List ℕ) → Option A) (write : A → List (List ℕ)) (Fits : A → Type 0)
    : Type 0 where
  pub found : (words : List (List ℕ)) (value : A) → read words ≡ Some value → (words ≡ write value) × Fits value
  pub again : (value : A) → Fits value → read (write value) ≡ Some value
  pub words : (value : A) → Fits value → list_all is_word (write value) ≡ true

-- a number
pub number_field : IsField number_of decimal IsLineNumber
number_field = record {
  found = λ word n h. let found = number_found word n h in (found.1, found.0);
  again = number_of-decimal;
  word = number_word;
}

name_found : (word name : List ℕ) → name_of word ≡ Some name → (word ≡ name) × IsLineName name
name_found word name h =
    let both = cond_some (is_name word) word name h in
    (both.1, ap is_name (sym both.1) ∙ both.0)

name_again : (name : List ℕ) → IsLineName name → name_of name ≡ Some name
name_again name right = rw right refl

-- a player's name
pub name_field : IsField name_of (λ name. name) IsLineName
name_field = record { found = name_found; again = name_again; word = name_word }

meaning_here : {A : Type 0} (Spelled : List ℕ → A → Type 0) (b : Bool) (entry : List ℕ × A) (others : Option A)
    (word : List ℕ) (a : A) → (b ≡ true → word ≡ entry.0) → Spelled entry.0 entry.1
    → (others ≡ Some a → Spelled word a) → cond b (Some entry.1) others ≡ Some a → Spelled word a
meaning_here Spelled true entry others word a same spelled later h =
    subst (λ (word : List ℕ). Spelled word a) (sym (same refl))
    (subst (Spelled entry.0) (same_Some entry.1 a h) spelled)
meaning_here Spelled false entry others word a same spelled later h = later h

-- a word that was looked up is the spelling of what it stands for
meaning_found : {A : Type 0} (Spelled : List ℕ → A → Type 0) (entries : List (List ℕ × A)) (word : List ℕ) (a : A)
    → AllByRecursion (λ entry. Spelled entry.0 entry.1) entries → meaning entries word ≡ Some a → Spelled word a
meaning_found Spelled [] word a spelled h = absurd cc
meaning_found Spelled (entry ∷ entries) word a spelled h =
    meaning_here Spelled (bytes_eq word entry.0) entry (meaning entries word) word a
    (bytes_eq-Decides word entry.0).0 spelled.0 (meaning_found Spelled entries word a spelled.1) h

game_again : (game : Game) → Unit {0} → game_of (game_word game) ≡ Some game
game_again Holdem fits = refl
game_again Omaha fits = refl
game_again Hilo fits = refl

game_is_word : (game : Game) → Unit {0} → is_word (game_word game) ≡ true
game_is_word Holdem fits = refl
game_is_word Omaha fits = refl
game_is_word Hilo fits = refl

-- a game
pub game_field : IsField game_of game_word (λ game. Unit {0})
game_field = record {
  found = λ word game h.
      (meaning_found (λ word game. word ≡ game_word game) game_list word game (refl, (refl, (refl, tt))) h, tt);
  again = game_again;
  word = game_is_word;
}

switch_again : (on : Bool) → Unit {0} → switch_of (switch_word on) ≡ Some on
switch_again true fits = refl
switch_again false fits = refl

switch_is_word : (on : Bool) → Unit {0} → is_word (switch_word on) ≡ true
switch_is_word true fits = refl
switch_is_word false fits = refl

-- on or off
pub switch_field : IsField switch_of switch_word (λ on. Unit {0})
switch_field = record {
  found = λ word on h.
      (meaning_found (λ word on. word ≡ switch_word on) switch_list word on (refl, (refl, tt)) h, tt);
  again = switch_again;
  word = switch_is_word;
}

-- a row of cards
pub row_field : IsField row_of (λ (row : CardRow). row_text row.cards) (λ row. Unit {0})
row_field = record {
  found = λ word row h. (sym (row_found word row h), tt);
  again = λ row fits. row_again row;
  word = λ row fits. row_word row.cards;
}

-- words are the spelling of an act
abbrev SpellsAct : List (List ℕ) → Act → Type 0
SpellsAct words act = (words ≡ act_words act) × HasLineAmount act

-- a word with an amount behind it
with_amount : (word amount : List ℕ) (n : ℕ) (act : Act) → number_of amount ≡ Some n
    → meaning (amount_list n) word ≡ Some act → SpellsAct (word ∷ amount ∷ []) act
with_amount word amount n act read h =
    let number = number_found amount n read in
    subst (λ (amount : List ℕ). SpellsAct (word ∷ amount ∷ []) act) (sym number.1)
    (meaning_found (λ word act. SpellsAct (word ∷ decimal n ∷ []) act) (amount_list n) word act
    ((refl, number.0), ((refl, number.0), tt)) h)

act_found : (words : List (List ℕ)) (act : Act) → act_of words ≡ Some act → SpellsAct words act
unfolding act_of
act_found [] act h = absurd cc
act_found (word ∷ []) act h = meaning_found (λ word act. SpellsAct (word ∷ []) act) act_list word act
    ((refl, tt), ((refl, tt), ((refl, tt), ((refl, tt), tt)))) h
act_found (word ∷ amount ∷ []) act h =
    let read = bind_found (number_of amount) (λ n. meaning (amount_list n) word) act h in
    with_amount word amount read.0 act read.1 read.2
act_found (word ∷ amount ∷ more ∷ words) act h = absurd cc

act_again : (act : Act) → HasLineAmount act → act_of (act_words act) ≡ Some act
unfolding act_of
act_again Fold fits = refl
act_again Check fits = refl
act_again Call fits = refl
act_again AllIn fits = refl
act_again (Bet n) fits = rw (number_of-decimal n fits) refl
act_again (Raise n) fits = rw (number_of-decimal n fits) refl

act_are_words : (act : Act) → HasLineAmount act → list_all is_word (act_words act) ≡ true
act_are_words Fold fits = refl
act_are_words Check fits = refl
act_are_words Call fits = refl
act_are_words AllIn fits = refl
act_are_words (Bet n) fits = rw (number_word n fits) refl
act_are_words (Raise n) fits = rw (number_word n fits) refl

-- an act
pub act_rest : IsRest act_of act_words HasLineAmount
act_rest = record { found = act_found; again = act_again; words = act_are_words }

-- the amount of the words that are left
amount_found : (words : List (List ℕ)) (n : ℕ) → amount_if_any words ≡ Some n
    → (words ≡ words_if_any n) × IsLineNumber n
unfolding amount_if_any
amount_found [] n h =
    let none = same_Some 0 n h in
    (ap words_if_any none, subst IsLineNumber none (omega arith))
amount_found (word ∷ []) n h =
    let read = bind_found (number_of word) (λ n. cond (nat_lt 0 n) (Some n) None) n h in
    let some = cond_some (nat_lt 0 read.0) read.0 n read.2 in
    let number = number_found word read.0 read.1 in
    let above = ltb-true 0 read.0 some.0 in
    let more : (read.0 == 0) ≡ false = ne_eqb read.0 0 (λ none. omega (arith, above, none)) in
    let spelled : words_if_any read.0 ≡ decimal read.0 ∷ [] = rw more refl in (
      ap (λ (w : List ℕ). w ∷ []) number.1 ∙ sym spelled ∙ ap words_if_any some.1,
      subst IsLineNumber some.1 number.0,
    )
amount_found (word ∷ more ∷ words) n h = absurd cc

amount_again : (n : ℕ) → IsLineNumber n → amount_if_any (words_if_any n) ≡ Some n
unfolding amount_if_any
amount_again n fits =
    elim (cases_Bool (n == 0)) [
      | inl none ↦ let same : 0 ≡ n = sym (eqb-true n 0 none) in rw none (ap Some same)
      | inr some ↦
          let differs = eqb-false n 0 some in
          let above : nat_lt 0 n ≡ true = lt-ltb 0 n (omega (arith, differs)) in
          rw (some, number_of-decimal n fits, above) refl
    ]

amount_are_words : (n : ℕ) → IsLineNumber n → list_all is_word (words_if_any n) ≡ true
amount_are_words n fits =
    elim (cases_Bool (n == 0)) [
      | inl none ↦ rw none refl
      | inr some ↦ rw (some, number_word n fits) refl
    ]

-- an amount that is left out where it is 0
pub if_any_rest : IsRest amount_if_any words_if_any IsLineNumber
if_any_rest = record { found = amount_found; again = amount_again; words = amount_are_words }

-- the first word is the spelling of the field that is read, and the others are left
pub record IsNext {A : Type 0} (write : A → List ℕ) (Fits : A → Type 0) (words : List (List ℕ))
    (read : A × List (List ℕ)) : Type 0 where
  pub spelling : words ≡ write read.0 ∷ read.1
  pub fits : Fits read.0

-- a field that is read is the spelling of the first word
pub next_found : {A : Type 0} (read : List ℕ → Option A) (write : A → List ℕ) (Fits : A → Type 0)
    → IsField read write Fits → (words : List (List ℕ)) (found : A × List (List ℕ)) → next_by read words ≡ Some found
    → IsNext write Fits words found
unfolding next_by
next_found read write Fits field [] found h = absurd cc
next_found {A} read write Fits field (word ∷ words) found h =
    let value = map_found (λ (v : A). (v, words)) (read word) found h in
    let first = field.found word value.0 value.1 in
    subst (λ (r : A × List (List ℕ)). IsNext write Fits (word ∷ words) r) value.2
    (record { spelling = ap (λ (w : List ℕ). w ∷ words) first.0; fits = first.1 })

-- a field that is spelled is read, and the words behind it are left
pub next_again : {A : Type 0} (read : List ℕ → Option A) (write : A → List ℕ) (Fits : A → Type 0)
    → IsField read write Fits → (value : A) (words : List (List ℕ)) → Fits value → next_by read (write value ∷ words)
    ≡ Some (value, words)
unfolding next_by
next_again read write Fits field value words fits = rw (field.again value fits) refl

last_found : {A : Type 0} (read : List ℕ → Option A) (write : A → List ℕ) (Fits : A → Type 0)
    → IsField read write Fits → (words : List (List ℕ)) (value : A) → last_by read words ≡ Some value
    → (words ≡ write value ∷ []) × Fits value
unfolding last_by
last_found read write Fits field [] value h = absurd cc
last_found read write Fits field (word ∷ []) value h =
    let found = field.found word value h in (ap (λ (w : List ℕ). w ∷ []) found.0, found.1)
last_found read write Fits field (word ∷ more ∷ words) value h = absurd cc

-- a field of the only word that is left
pub last_field : {A : Type 0} {read : List ℕ → Option A} {write : A → List ℕ} {Fits : A → Type 0}
    → IsField read write Fits → IsRest (last_by read) (λ a. write a ∷ []) Fits
unfolding last_by
last_field {A} {read} {write} {Fits} field = record {
  found = last_found read write Fits field;
  again = field.again;
  words = λ a fits. rw (field.word a fits) refl;
}
