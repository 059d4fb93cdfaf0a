-- Values are read one after another, and so are the members of a table.
use Rattle.std.proofs.Common.{◌≡◌, ℕ, ◌+◌, ◌<◌, ◌≤◌, false, List, [], ◌∷◌, ◌++◌, length, drop, get_or, Option, Some, None, option_map, refl, sym, ap, ◌∙◌, arith, append_assoc, string_bytes}
use Rattle.std.specs.Prelude.{option_and_then}
use Rattle.toml.specs.Data.{Data}
use Rattle.toml.specs.View.{view, items_view, members_view}
use Rattle.toml.specs.declared.value.Value.{Value}
use Rattle.toml.proofs.Views.{Entry, items_view-drop}
use Rattle.plan_files.specs.declared.words.PlayerWord.{PlayerWord}
use Rattle.plan_files.specs.FileValues.{each_item, has_no_item, level_of_items}
use Rattle.plan_files.specs.Words.{player_of, each_player}

-- what is found behind a list, with the list before it
abbrev pub behind : {A : Type 0} → List A → Option (List A) → Option (List A)
behind list found = option_map (λ rest. list ++ rest) found

behind_one : {A : Type 0} (list : List A) (one : A) (found : Option (List A))
    → behind (list ++ one ∷ []) found ≡ behind list (option_and_then (λ rest. Some (one ∷ rest)) found)
behind_one list one None = refl
behind_one list one (Some rest) = ap Some (append_assoc list (one ∷ []) rest)

-- one value more
pub each_more : {A : Type 0} (said : Data → Option A) (values : List Value) (i : ℕ) (value : Value) (one : A)
    (list : List A) → i < length values → get_or values i value ≡ value → said (view value) ≡ Some one
    → behind list (each_item said (items_view (drop i values))) ≡ each_item said (items_view values)
    → behind (list ++ one ∷ []) (each_item said (items_view (drop (i + 1) values))) ≡ each_item said (items_view values)
each_more said values i value one list inside is says before =
    behind_one list one _
    ∙ sym (rw (items_view-drop values i value inside, is, says) refl)
    ∙ before

-- a value that says nothing of the kind
pub each_none : {A : Type 0} (said : Data → Option A) (values : List Value) (i : ℕ) (value : Value)
    (list : List A) → i < length values → get_or values i value ≡ value → said (view value) ≡ None
    → behind list (each_item said (items_view (drop i values))) ≡ each_item said (items_view values)
    → each_item said (items_view values) ≡ None
each_none said values i value list inside is says before =
    sym before ∙ rw (items_view-drop values i value inside, is, says)

-- a list that has a value
pub has_one : (seen values : List Value) → seen ≡ values → 1 ≤ length seen → false ≡ has_no_item (items_view values)
has_one seen [] is some = absurd (omega (arith, some, ap length is))
has_one seen (first ∷ values) is some = refl

-- too few values for a level
pub too_few : (seen values : List Value) → seen ≡ values → length seen < 3
    → None ≡ level_of_items (items_view values)
too_few seen [] is few = refl
too_few seen (first ∷ []) is few = refl
too_few seen (first ∷ second ∷ []) is few = refl
too_few seen (first ∷ second ∷ third ∷ values) is few = absurd (omega (arith, ap length is))

-- too many values for a level
pub too_many : (seen values : List Value) → seen ≡ values → 5 ≤ length seen
    → None ≡ level_of_items (items_view values)
too_many seen [] is many = refl
too_many seen (first ∷ []) is many = refl
too_many seen (first ∷ second ∷ []) is many = refl
too_many seen (first ∷ second ∷ third ∷ []) is many = absurd (omega (arith, ap length is))
too_many seen (first ∷ second ∷ third ∷ fourth ∷ []) is many = absurd (omega (arith, ap length is))
too_many seen (first ∷ second ∷ third ∷ fourth ∷ fifth ∷ values) is many = refl

-- one player more
pub player_more : (entry : Entry) (entries : List Entry) (player : PlayerWord) (list : List PlayerWord)
    (all : Option (List PlayerWord)) → player_of (string_bytes entry.0) (view entry.1) ≡ Some player
    → behind list (each_player (members_view (entry ∷ entries))) ≡ all
    → behind (list ++ player ∷ []) (each_player (members_view entries)) ≡ all
player_more entry entries player list all says before =
    by_rest (each_player (members_view entries)) ∙ sym (rw says refl) ∙ before
  where
    by_rest : (found : Option (List PlayerWord))
        → behind (list ++ player ∷ []) found ≡ behind list (option_map (λ players. player ∷ players) found)
    by_rest None = refl
    by_rest (Some rest) = ap Some (append_assoc list (player ∷ []) rest)

-- a member that is no player's word
pub player_none : (entry : Entry) (entries : List Entry) (list : List PlayerWord) (all : Option (List PlayerWord))
    → player_of (string_bytes entry.0) (view entry.1) ≡ None
    → behind list (each_player (members_view (entry ∷ entries))) ≡ all → all ≡ None
player_none entry entries list all says before = sym before ∙ rw says
