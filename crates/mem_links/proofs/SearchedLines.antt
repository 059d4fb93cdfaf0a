-- A line that is looked for among bytes to which more come.
use Rattle.std.proofs.Common.{◌≡◌, ℕ, ◌+◌, ◌-◌, ◌<◌, Bool, true, false, List, [], ◌∷◌, ◌++◌, length, take, drop, Option, MatchOption, refl, sym, ap, ◌∙◌, arith, append_assoc, append-nil, length-drop, length-append}
use Rattle.std.specs.Prelude.{◌||◌, position}
use Rattle.std.specs.List.{list_any, slice_split, onto_first}
use Rattle.std.proofs.lemmas.Bool.{or_parts}
use Rattle.std.proofs.lemmas.List.{drop-append-le, drop-drop, drop_more, take-append-drop, take_all}
use Rattle.std.proofs.lemmas.List.Splits.{slice_split-cons_no, length-slice_split}
use Rattle.floor_text.specs.HeldBytes.{IsFirstFeed}
use Rattle.floor_text.specs.Lines.{is_line_feed, HasNoFeed, all_but_last}
use Rattle.floor_text.proofs.HeldLists.{first_feed_found}
use Rattle.mem_links.specs.Lines.{begins_with, has_line, IsSearched}

splits_at : (line rest : List ℕ) → HasNoFeed line
    → slice_split is_line_feed (line ++ 10 ∷ rest) ≡ line ∷ slice_split is_line_feed rest
splits_at [] rest none = refl
splits_at (b ∷ bs) rest none =
    let parts = or_parts (is_line_feed b) (list_any is_line_feed bs) none in
    slice_split-cons_no is_line_feed b (bs ++ 10 ∷ rest) parts.0 ∙ ap (onto_first b) (splits_at bs rest parts.1)

is_whole : (bytes : List ℕ) → HasNoFeed bytes → slice_split is_line_feed bytes ≡ bytes ∷ []
is_whole [] none = refl
is_whole (b ∷ bs) none =
    let parts = or_parts (is_line_feed b) (list_any is_line_feed bs) none in
    slice_split-cons_no is_line_feed b bs parts.0 ∙ ap (onto_first b) (is_whole bs parts.1)

first_of_some : (part : List ℕ) (parts : List (List ℕ)) → 0 < length parts
    → all_but_last (part ∷ parts) ≡ part ∷ all_but_last parts
first_of_some part [] some = absurd (omega (arith, some))
first_of_some part (next ∷ parts) some = refl

-- where no line feed is there is no whole line
no_line : (front bytes : List ℕ) → HasNoFeed bytes → has_line front bytes ≡ false
unfolding has_line
no_line front bytes none =
    ap (λ (parts : List (List ℕ)). list_any (begins_with front) (all_but_last parts)) (is_whole bytes none)

-- the first line is looked at, and then those behind it
line_then : (front line rest : List ℕ) → HasNoFeed line
    → has_line front (line ++ 10 ∷ rest) ≡ begins_with front line || has_line front rest
unfolding has_line
line_then front line rest none =
    let some : 0 < length (slice_split is_line_feed rest) = omega (arith, length-slice_split is_line_feed rest) in
    ap (λ (parts : List (List ℕ)). list_any (begins_with front) (all_but_last parts)) (splits_at line rest none)
    ∙ ap (list_any (begins_with front)) (first_of_some line (slice_split is_line_feed rest) some)

-- what is left to search begins with a line, whatever comes behind
line_first : (bytes more : List ℕ) (at : ℕ) → IsFirstFeed bytes at
    → bytes ++ more ≡ take at bytes ++ 10 ∷ (drop (at + 1) bytes ++ more)
line_first bytes more at is =
    let tail : drop at bytes ≡ 10 ∷ drop (at + 1) bytes =
    drop_more bytes at 0 is.within ∙ ap (λ (b : ℕ). b ∷ drop (at + 1) bytes) is.feed in
    ap (λ (xs : List ℕ). xs ++ more) (sym (take-append-drop at bytes) ∙ ap (λ (xs : List ℕ). take at bytes ++ xs) tail)
    ∙ append_assoc (take at bytes) (10 ∷ drop (at + 1) bytes) more

-- Of what was searched, the line is there where it is behind.
behind_all : (front put : List ℕ) (n : ℕ) → IsSearched front put n → has_line front put ≡ has_line front (drop n put)
behind_all front put n is =
    ap (has_line front) (sym (append-nil put)) ∙ is.behind [] ∙ ap (has_line front) (append-nil (drop n put))

-- Before anything was searched.
pub searched_none : (front put : List ℕ) → IsSearched front put 0
searched_none front put = record { within = omega arith; behind = λ more. refl }

-- More bytes come.
pub searched_more : (front put bytes : List ℕ) (n : ℕ) → IsSearched front put n → IsSearched front (put ++ bytes) n
searched_more front put bytes n is = record {
  within = omega (arith, is.within, length-append put bytes);
  behind = λ more. ap (has_line front) (append_assoc put bytes more) ∙ is.behind (bytes ++ more)
      ∙ ap (has_line front) (sym (append_assoc (drop n put) bytes more)
      ∙ ap (λ (xs : List ℕ). xs ++ more) (sym (drop-append-le n put bytes is.within)));
}

-- A line that does not begin so is passed.
pub searched_on : (front put : List ℕ) (n at : ℕ) → IsSearched front put n → IsFirstFeed (drop n put) at
    → begins_with front (take at (drop n put)) ≡ false → IsSearched front put (n + at + 1)
searched_on front put n at is first other =
    let left = drop n put in
    let rest : drop (at + 1) left ≡ drop (n + at + 1) put =
    drop-drop (at + 1) n put ∙ ap (λ (k : ℕ). drop k put) (omega arith) in
    record {
      within = omega (arith, first.within, length-drop n put);
      behind = λ more. is.behind more ∙ ap (has_line front) (line_first left more at first)
          ∙ line_then front (take at left) (drop (at + 1) left ++ more) first.before
          ∙ ap (λ (b : Bool). b || has_line front (drop (at + 1) left ++ more)) other
          ∙ ap (λ (xs : List ℕ). has_line front (xs ++ more)) rest;
    }

-- A line that begins so is one.
pub found_at : (front put : List ℕ) (n at : ℕ) → IsSearched front put n → IsFirstFeed (drop n put) at
    → begins_with front (take at (drop n put)) ≡ true → has_line front put ≡ true
found_at front put n at is first this =
    let left = drop n put in
    ap (has_line front) (sym (append-nil put)) ∙ is.behind [] ∙ ap (has_line front) (line_first left [] at first)
    ∙ line_then front (take at left) (drop (at + 1) left ++ []) first.before
    ∙ ap (λ (b : Bool). b || has_line front (drop (at + 1) left ++ [])) this

-- Where no line feed is behind, the line is not there.
pub found_none : (front put : List ℕ) (n : ℕ) → IsSearched front put n → HasNoFeed (drop n put)
    → has_line front put ≡ false
found_none front put n is none = behind_all front put n is ∙ no_line front (drop n put) none

-- what is behind the first n of the bytes, as a slice
rest_is : (put : List ℕ) (n : ℕ) → take (length put - n) (drop n put) ≡ drop n put
rest_is put n = take_all (length put - n) (drop n put) (omega (arith, length-drop n put))

-- the line behind the first n of the bytes, as a slice
pub line_is : (put : List ℕ) (n at : ℕ) → take (n + at - n) (drop n put) ≡ take at (drop n put)
line_is put n at = ap (λ (k : ℕ). take k (drop n put)) (omega arith)

-- A search behind the first n finds the first line feed there, or says that there is none.
pub first_found : (put : List ℕ) (n : ℕ) (r : Option ℕ)
    → r ≡ position is_line_feed (take (length put - n) (drop n put))
    → MatchOption r (HasNoFeed (drop n put)) (λ at. IsFirstFeed (drop n put) at)
first_found put n r is = first_feed_found (drop n put) r (is ∙ ap (position is_line_feed) (rest_is put n))
