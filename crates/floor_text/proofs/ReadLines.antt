-- A reader takes bytes and hands lines out: what its states have to do with each other.
use Rattle.std.proofs.Common.{◌≡◌, ℕ, zero, suc, ◌+◌, ◌-◌, ◌<◌, ◌≤◌, List, [], ◌∷◌, ◌++◌, length, get_or, take, drop, Option, Some, None, MatchOption, IfSome, refl, sym, ap, ◌∙◌, subst, inl, inr, arith, append_assoc, length-drop, true}
use Rattle.std.specs.Prelude.{slice_range}
use Rattle.std.specs.List.{list_any}
use Rattle.std.proofs.Math.Seq.{take-add}
use Rattle.std.proofs.lemmas.Bool.{cases_lt}
use Rattle.std.proofs.lemmas.Bool.Decides.{nat_tests}
use Rattle.std.proofs.lemmas.List.{append-nil, drop-drop, drop_more, nil_from_length, take-append-drop, take-take, take_all, length-take-le}
use Rattle.std.proofs.lemmas.List.Edits.{length-between, get_or-between}
use Rattle.std.proofs.lemmas.Option.{MatchOption-at_some, same_Some}
use Rattle.floor_text.specs.HeldBytes.{IsFirstFeed, Fills}
use Rattle.floor_text.specs.LineReader.{Reads, GoesOn}
use Rattle.floor_text.specs.Lines.{is_line_feed, HasNoFeed, cut_line, lines_of_bytes}
use Rattle.floor_text.specs.Reading.{Reading, bytes_ahead, held_within}
use Rattle.floor_text.proofs.CutLines.{HasNoFeed-append, HasNoFeed-cons, first_other, rest_other, lines_of_bytes-line, lines_of_bytes-nil, lines_of_long}

-- a front of bytes without a line feed has none
pub HasNoFeed-take : (n : ℕ) (xs : List ℕ) → HasNoFeed xs → HasNoFeed (take n xs)
HasNoFeed-take zero xs none = refl
HasNoFeed-take (suc n) [] none = refl
HasNoFeed-take (suc n) (x ∷ xs) none =
    HasNoFeed-cons x (take n xs) (first_other x xs none) (HasNoFeed-take n xs (rest_other x xs none))

-- the bytes up to one index, and those from it on up to another
take_to : (held : List ℕ) (from to : ℕ) → from ≤ to → take to held ≡ take from held ++ slice_range held from to
take_to held from to order =
    let size : to ≡ from + (to - from) = omega arith in
    ap (λ (n : ℕ). take n held) size ∙ take-add from (to - from) held

none_up_to : (held : List ℕ) (from to : ℕ) → from ≤ to → HasNoFeed (take from held)
    → HasNoFeed (slice_range held from to) → HasNoFeed (take to held)
none_up_to held from to order before between =
    ap (list_any is_line_feed) (take_to held from to order)
    ∙ HasNoFeed-append (take from held) (slice_range held from to) before between

front_of_range : (held : List ℕ) (from at to : ℕ) → from ≤ at → at ≤ to
    → take (at - from) (slice_range held from to) ≡ slice_range held from at
front_of_range held from at to low high = take-take (at - from) (to - from) (drop from held) (omega arith)

first_from : (held : List ℕ) (from to at : ℕ) → from ≤ to → to ≤ length held → HasNoFeed (take from held)
    → IsFirstFeed (slice_range held from to) (at - from) → from ≤ at → (at < to) × IsFirstFeed held at
first_from held from to at order inside before is low =
    let within : at - from < length (slice_range held from to) = is.within in
    let below : at < to = omega (arith, length-between held from to inside) in
    let none : HasNoFeed (slice_range held from at) =
    ap (list_any is_line_feed) (sym (front_of_range held from at to low (omega arith))) ∙ is.before in
    let index : from + (at - from) ≡ at = omega arith in (
      below,
      record {
        within = omega arith;
        before = none_up_to held from at low before none;
        feed = ap (λ (k : ℕ). get_or held k 0) (sym index)
            ∙ sym (get_or-between held from to (at - from) 0 (omega arith)) ∙ is.feed;
      },
    )

-- the search goes on where an earlier one ended
pub feed_from_found : (held : List ℕ) (from to : ℕ) (r : Option ℕ) → from ≤ to → to ≤ length held
    → HasNoFeed (take from held)
    → MatchOption r (HasNoFeed (slice_range held from to))
    (λ at. IsFirstFeed (slice_range held from to) (at - from) × (from ≤ at))
    → MatchOption r (HasNoFeed (take to held)) (λ at. (at < to) × IsFirstFeed held at)
feed_from_found held from to None order inside before none = none_up_to held from to order before none
feed_from_found held from to (Some at) order inside before found =
    first_from held from to at order inside before found.0 found.1

within_is_all : (r : Reading) → r.taken ≤ r.limit → held_within r ≡ length r.held
within_is_all r within = grind (arith, nat_tests)

-- where no more bytes were taken than the limit, no line feed is held if none is among those held
-- within the limit
pub whole_no_feed : (r : Reading) → r.taken ≤ r.limit → HasNoFeed (take (held_within r) r.held) → HasNoFeed r.held
whole_no_feed r within none =
    ap (list_any is_line_feed)
    (sym (ap (λ (n : ℕ). take n r.held) (within_is_all r within) ∙ take_all (length r.held) r.held (omega arith)))
    ∙ none

-- the first 401 bytes of a line begun stand for it
pub lines_of_kept : (held rest : List ℕ) → HasNoFeed held
    → lines_of_bytes (held ++ rest) ≡ lines_of_bytes (take 401 held ++ rest)
lines_of_kept held rest none =
    elim (cases_lt (length held) 401) [
      | inl short ↦ ap (λ (xs : List ℕ). lines_of_bytes (xs ++ rest)) (sym (take_all 401 held (omega arith)))
      | inr long ↦ lines_of_long held (take 401 held) rest none (HasNoFeed-take 401 held none) (omega arith)
          (omega (arith, length-take-le 401 held long))
    ]

-- a call that took nothing, of a source that has left what it had
kept_at : (old new : Reading) (bytes : List ℕ) (left : Option (List ℕ)) → left ≡ Some bytes → new.taken ≡ old.taken
    → HasNoFeed old.held → new.held ≡ take 401 old.held → GoesOn old new bytes left []
kept_at old new bytes left same taken none held =
    let nothing : new.taken - old.taken ≡ 0 = omega arith in
    record {
      later = omega arith;
      within = omega arith;
      rest = same ∙ ap Some (sym (ap (λ (n : ℕ). drop n bytes) nothing));
      lines = λ more. ap (λ (n : ℕ). lines_of_bytes (old.held ++ (take n bytes ++ more))) nothing
          ∙ lines_of_kept old.held more none ∙ sym (ap (λ (xs : List ℕ). lines_of_bytes (xs ++ more)) held);
    }

-- where no line feed was held, a call that took nothing and kept the first 401 held bytes is right to hand out
-- no line
pub kept_reads : (old new : Reading) (before left : Option (List ℕ)) → left ≡ before → new.taken ≡ old.taken
    → HasNoFeed old.held → new.held ≡ take 401 old.held → IfSome before (λ bytes. GoesOn old new bytes left [])
kept_reads old new None left same taken none held = tt
kept_reads old new (Some bytes) left same taken none held = kept_at old new bytes left same taken none held

-- a call that took a block
filled_at : (old new : Reading) (bytes : List ℕ) (left : Option (List ℕ)) (ask n : ℕ)
    → Fills (take 401 old.held) bytes left new.held ask n → new.taken ≡ old.taken + n → HasNoFeed old.held
    → GoesOn old new bytes left []
filled_at old new bytes left ask n fills taken none =
    let count : new.taken - old.taken ≡ n = omega arith in
    let within : n ≤ length bytes = fills.within in
    record {
      later = omega arith;
      within = omega arith;
      rest = fills.rest ∙ ap Some (sym (ap (λ (k : ℕ). drop k bytes) count));
      lines = λ more. ap (λ (k : ℕ). lines_of_bytes (old.held ++ (take k bytes ++ more))) count
          ∙ lines_of_kept old.held (take n bytes ++ more) none
          ∙ sym (ap (λ (xs : List ℕ). lines_of_bytes (xs ++ more)) fills.behind
          ∙ ap lines_of_bytes (append_assoc (take 401 old.held) (take n bytes) more));
    }

-- where no line feed was held, a call that took a block behind the first 401 held bytes is right to hand out
-- no line
pub filled_reads : (old new : Reading) (before left : Option (List ℕ)) (ask n : ℕ)
    → IfSome before (λ bytes. Fills (take 401 old.held) bytes left new.held ask n) → new.taken ≡ old.taken + n
    → HasNoFeed old.held → IfSome before (λ bytes. GoesOn old new bytes left [])
filled_reads old new None left ask n fills taken none = tt
filled_reads old new (Some bytes) left ask n fills taken none =
    filled_at old new bytes left ask n fills taken none

-- no byte came of a source that tells, so it is at its end
pub filled_none : (kept held : List ℕ) (before left : Option (List ℕ)) (ask n : ℕ)
    → IfSome before (λ bytes. Fills kept bytes left held ask n) → 0 < ask → n ≡ 0 → IfSome before (λ _. left ≡ Some [])
filled_none kept held None left ask n fills asked none = tt
filled_none kept held (Some bytes) left ask n fills asked none =
    let empty : bytes ≡ [] = nil_from_length bytes (fills.at_end asked none) in
    fills.rest ∙ ap (λ (k : ℕ). Some (drop k bytes)) none ∙ ap Some empty

-- one call after another: the lines that both handed out, in their order
goes_then : (a b c : Reading) (bytes : List ℕ) (o1 o2 : Option (List ℕ)) (first second : List (Option (List ℕ)))
    → GoesOn a b bytes o1 first → GoesOn b c (drop (b.taken - a.taken) bytes) o2 second
    → GoesOn a c bytes o2 (first ++ second)
goes_then a b c bytes o1 o2 first second one two =
    let p : a.taken ≤ b.taken = one.later in
    let q : b.taken ≤ c.taken = two.later in
    let within : b.taken ≤ a.taken + length bytes = one.within in
    let inner : c.taken ≤ b.taken + length (drop (b.taken - a.taken) bytes) = two.within in
    let count : b.taken - a.taken + (c.taken - b.taken) ≡ c.taken - a.taken = omega arith in
    let rest : drop (c.taken - b.taken) (drop (b.taken - a.taken) bytes) ≡ drop (c.taken - a.taken) bytes =
    drop-drop (c.taken - b.taken) (b.taken - a.taken) bytes ∙ ap (λ (n : ℕ). drop n bytes) count in
    let both : take (c.taken - a.taken) bytes
    ≡ take (b.taken - a.taken) bytes ++ take (c.taken - b.taken) (drop (b.taken - a.taken) bytes) =
    ap (λ (n : ℕ). take n bytes) (sym count) ∙ take-add (b.taken - a.taken) (c.taken - b.taken) bytes in
    record {
      later = omega arith;
      within = omega (arith, length-drop (b.taken - a.taken) bytes);
      rest = two.rest ∙ ap Some rest;
      lines = λ more. ap (λ (xs : List ℕ). lines_of_bytes (a.held ++ (xs ++ more))) both
          ∙ ap (λ (xs : List ℕ). lines_of_bytes (a.held ++ xs)) (append_assoc (take (b.taken - a.taken) bytes)
          (take (c.taken - b.taken) (drop (b.taken - a.taken) bytes)) more)
          ∙ one.lines (take (c.taken - b.taken) (drop (b.taken - a.taken) bytes) ++ more)
          ∙ ap (λ (ls : List (Option (List ℕ))). first ++ ls) (two.lines more)
          ∙ sym (append_assoc first second (lines_of_bytes (c.held ++ more)));
    }

-- the same of a source that may tell
pub goes_on : (a b c : Reading) (o0 o1 o2 : Option (List ℕ)) (first second : List (Option (List ℕ)))
    → IfSome o0 (λ bytes. GoesOn a b bytes o1 first) → IfSome o1 (λ bytes. GoesOn b c bytes o2 second)
    → IfSome o0 (λ bytes. GoesOn a c bytes o2 (first ++ second))
goes_on a b c None o1 o2 first second one two = tt
goes_on a b c (Some bytes) o1 o2 first second one two =
    goes_then a b c bytes o1 o2 first second one
    (MatchOption-at_some (Unit {0}) (λ (bs : List ℕ). GoesOn b c bs o2 second)
    (drop (b.taken - a.taken) bytes) one.rest two)

-- what is right whatever comes is right of the bytes that are left
pub reads_on : (a b : Reading) (bytes : List ℕ) (left : Option (List ℕ)) (handed : List (Option (List ℕ)))
    → GoesOn a b bytes left handed → Reads a b bytes left handed
reads_on a b bytes left handed on =
    record {
      later = on.later;
      within = on.within;
      rest = on.rest;
      lines = ap (λ (xs : List ℕ). lines_of_bytes (a.held ++ xs)) (sym (take-append-drop (b.taken - a.taken) bytes))
          ∙ on.lines (drop (b.taken - a.taken) bytes);
    }

-- the same of a source that may tell
pub some_reads_on : (a b : Reading) (o left : Option (List ℕ)) (handed : List (Option (List ℕ)))
    → IfSome o (λ bytes. GoesOn a b bytes left handed) → IfSome o (λ bytes. Reads a b bytes left handed)
some_reads_on a b None left handed on = tt
some_reads_on a b (Some bytes) left handed on = reads_on a b bytes left handed on

-- the first call of none
pub begins : (a : Reading) (o : Option (List ℕ)) → IfSome o (λ bytes. GoesOn a a bytes o [])
begins a None = tt
begins a (Some bytes) =
    let nothing : a.taken - a.taken ≡ 0 = omega arith in
    record {
      later = omega arith;
      within = omega arith;
      rest = ap Some (sym (ap (λ (n : ℕ). drop n bytes) nothing));
      lines = λ more. ap (λ (n : ℕ). lines_of_bytes (a.held ++ (take n bytes ++ more))) nothing;
    }

-- what a call that took nothing is right to hand out, whatever comes behind what is held
pub held_on : (a b : Reading) (handed : List (Option (List ℕ))) → b.taken ≡ a.taken
    → ((bytes : List ℕ) → GoesOn a b bytes (Some bytes) handed)
    → (more : List ℕ) → lines_of_bytes (a.held ++ more) ≡ handed ++ lines_of_bytes (b.held ++ more)
held_on a b handed taken on more =
    let no_bytes : List ℕ = [] in
    let nothing : b.taken - a.taken ≡ 0 = omega arith in
    sym (ap (λ (n : ℕ). lines_of_bytes (a.held ++ (take n no_bytes ++ more))) nothing) ∙ (on no_bytes).lines more

-- a line handed out at its line feed
cut_at : (held rest : List ℕ) (at : ℕ) → IsFirstFeed held at
    → lines_of_bytes (held ++ rest) ≡ cut_line (take at held) ∷ lines_of_bytes (drop (at + 1) held ++ rest)
cut_at held rest at is =
    let tail : drop at held ≡ 10 ∷ drop (at + 1) held = drop_more held at 0 is.within
    ∙ ap (λ (b : ℕ). b ∷ drop (at + 1) held) is.feed in
    let split : held ++ rest ≡ take at held ++ 10 ∷ (drop (at + 1) held ++ rest) =
    ap (λ (xs : List ℕ). xs ++ rest) (sym (take-append-drop at held)
    ∙ ap (λ (xs : List ℕ). take at held ++ xs) tail) ∙ append_assoc (take at held) (10 ∷ drop (at + 1) held) rest in
    ap lines_of_bytes split ∙ lines_of_bytes-line (take at held) (drop (at + 1) held ++ rest) is.before

-- a line that is held handed out, whatever bytes the source has
pub handed_at : (b c : Reading) (bytes : List ℕ) (at : ℕ) (handed : List (Option (List ℕ))) → IsFirstFeed b.held at
    → handed ≡ cut_line (take at b.held) ∷ [] → c.held ≡ drop (at + 1) b.held → c.taken ≡ b.taken
    → GoesOn b c bytes (Some bytes) handed
handed_at b c bytes at handed is line held taken =
    let nothing : c.taken - b.taken ≡ 0 = omega arith in
    record {
      later = omega arith;
      within = omega arith;
      rest = ap Some (sym (ap (λ (n : ℕ). drop n bytes) nothing));
      lines = λ more. ap (λ (n : ℕ). lines_of_bytes (b.held ++ (take n bytes ++ more))) nothing
          ∙ cut_at b.held more at is ∙ sym (ap (λ (h : List (Option (List ℕ))). h ++ lines_of_bytes (c.held ++ more)) line
          ∙ ap (λ (xs : List ℕ). cut_line (take at b.held) ∷ lines_of_bytes (xs ++ more)) held);
    }

-- a call that took nothing and dropped what it held up to the first line feed is right to hand out the bytes before
-- that line feed as a line
pub handed_reads : (b c : Reading) (o : Option (List ℕ)) (at : ℕ) (handed : List (Option (List ℕ)))
    → IsFirstFeed b.held at → handed ≡ cut_line (take at b.held) ∷ [] → c.held ≡ drop (at + 1) b.held
    → c.taken ≡ b.taken → IfSome o (λ bytes. GoesOn b c bytes o handed)
handed_reads b c None at handed is line held taken = tt
handed_reads b c (Some bytes) at handed is line held taken = handed_at b c bytes at handed is line held taken

-- what is held handed out at the end of a source
last_at : (a b c : Reading) (bytes : List ℕ) (left : Option (List ℕ)) (handed : List (Option (List ℕ)))
    → GoesOn a b bytes left [] → left ≡ Some [] → handed ≡ lines_of_bytes b.held → c.held ≡ [] → c.taken ≡ b.taken
    → Reads a c bytes left handed
last_at a b c bytes left handed on end line held taken =
    let later : a.taken ≤ b.taken = on.later in
    let within : b.taken ≤ a.taken + length bytes = on.within in
    let none : drop (b.taken - a.taken) bytes ≡ [] =
    same_Some (drop (b.taken - a.taken) bytes) [] (sym on.rest ∙ end) in
    let rest : drop (c.taken - a.taken) bytes ≡ [] = ap (λ (n : ℕ). drop (n - a.taken) bytes) taken ∙ none in
    record {
      later = omega arith;
      within = omega arith;
      rest = end ∙ ap Some (sym rest);
      lines = (reads_on a b bytes left [] on).lines ∙ ap (λ (xs : List ℕ). lines_of_bytes (b.held ++ xs)) none
          ∙ ap lines_of_bytes (append-nil b.held) ∙ sym line
          ∙ sym (ap (λ (xs : List ℕ). handed ++ lines_of_bytes (xs ++ drop (c.taken - a.taken) bytes)) held
          ∙ ap (λ (xs : List ℕ). handed ++ lines_of_bytes xs) rest
          ∙ ap (λ (ls : List (Option (List ℕ))). handed ++ ls) lines_of_bytes-nil ∙ append-nil handed);
    }

-- a reader that came to the end of its source with no line handed out is right to hand out the lines of what it holds
-- and then hold nothing
pub last_reads : (a b c : Reading) (o0 o2 : Option (List ℕ)) (handed : List (Option (List ℕ)))
    → IfSome o0 (λ bytes. GoesOn a b bytes o2 []) → IfSome o0 (λ _. o2 ≡ Some []) → handed ≡ lines_of_bytes b.held
    → c.held ≡ [] → c.taken ≡ b.taken → IfSome o0 (λ bytes. Reads a c bytes o2 handed)
last_reads a b c None o2 handed reads end line held taken = tt
last_reads a b c (Some bytes) o2 handed reads end line held taken =
    last_at a b c bytes o2 handed reads end line held taken

-- where the source ended in a call that goes on from an earlier one
pub ends_then : (a b : Reading) (o0 o1 o2 : Option (List ℕ)) → IfSome o0 (λ bytes. GoesOn a b bytes o1 [])
    → IfSome o1 (λ _. o2 ≡ Some []) → IfSome o0 (λ _. o2 ≡ Some [])
ends_then a b None o1 o2 reads end = tt
ends_then a b (Some bytes) o1 o2 reads end =
    MatchOption-at_some (Unit {0}) (λ (_ : List ℕ). o2 ≡ Some []) (drop (b.taken - a.taken) bytes) reads.rest end

-- what was kept stands before the bytes that came, and was searched
pub searched_none : (kept held : List ℕ) (n : ℕ) → HasNoFeed kept → take (length kept) held ≡ kept
    → length held ≡ length kept + n → HasNoFeed (take (length held - n) held)
searched_none kept held n none front count =
    let before : length held - n ≡ length kept = omega arith in
    ap (λ (m : ℕ). list_any is_line_feed (take m held)) before ∙ ap (list_any is_line_feed) front ∙ none

-- what a search for the next line keeps true: it handed out nothing yet, and no line feed is where it searched; where
-- one was held at its start, it is still there
pub record IsSearching (a b : Reading) (o0 o1 : Option (List ℕ)) (f0 f1 searched : ℕ) (Same : Type 0) : Type 0 where
  pub reads : IfSome o0 (λ bytes. GoesOn a b bytes o1 [])
  pub later : a.taken ≤ b.taken
  pub limit : b.limit ≡ a.limit
  pub ahead : bytes_ahead b ≤ bytes_ahead a
  pub faults : f0 ≤ f1
  pub none : HasNoFeed (take searched b.held)
  pub within : searched ≤ held_within b
  pub untouched : list_any is_line_feed (take (held_within a) a.held) ≡ true → (b ≡ a) × Same
