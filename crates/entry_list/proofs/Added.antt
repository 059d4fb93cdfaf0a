-- A list that is longer by a name that was not in it.
use Rattle.std.proofs.Common.{◌≡◌, refl, sym, ap, ℕ, ◌≤◌, true, false, List, [], ◌∷◌, ◌++◌, length, length-append, arith}
use Rattle.std.specs.Prelude.{not}
use Rattle.std.specs.List.{list_all}
use Rattle.std.specs.Str.{bytes_eq}
use Rattle.std.proofs.lemmas.Bool.{and_from, both_ways, false_from_ne_true, or_parts}
use Rattle.std.proofs.lemmas.List.{append-nil}
use Rattle.std.proofs.lemmas.Slice.Eq.{bytes_eq-Decides}
use Rattle.rulebook.specs.Pairs.{are_distinct}
use Rattle.rulebook.proofs.Pairs.{is_pairwise-between}
use Rattle.entry_list.specs.Entries.{is_known, IsEntries}

-- Two names that differ differ whichever is looked at first.
pub other_way : (one other : List ℕ) → bytes_eq one other ≡ false → bytes_eq other one ≡ false
other_way one other differ = false_from_ne_true (bytes_eq other one) (λ same.
    both_ways (bytes_eq one other) differ
    ((bytes_eq-Decides one other).1 (sym ((bytes_eq-Decides other one).0 same))))

-- each name of a list differs from one that is not in it
all_differ : (entries : List (List ℕ)) (name : List ℕ) → is_known entries name ≡ false
    → list_all (λ earlier. not (bytes_eq earlier name)) entries ≡ true
all_differ [] name unknown = refl
all_differ (first ∷ entries) name unknown =
    let parts = or_parts (bytes_eq name first) (is_known entries name) unknown in
    and_from _ _ (ap not (other_way name first parts.0)) (all_differ entries name parts.1)

-- No two names are the same once one more was added that was not among them.
pub names-added : (entries : List (List ℕ)) (name : List ℕ) → is_known entries name ≡ false
    → are_distinct bytes_eq entries ≡ true → are_distinct bytes_eq (entries ++ name ∷ []) ≡ true
names-added entries name unknown apart =
    is_pairwise-between (λ one other. not (bytes_eq one other)) entries name [] (rw (append-nil entries) apart)
    (all_differ entries name unknown) refl

-- A lawful list stays so once a name was added that was not in it, where there was room.
pub entries-added : (entries : List (List ℕ)) (name : List ℕ) → IsEntries entries → is_known entries name ≡ false
    → length entries ≤ 639 → IsEntries (entries ++ name ∷ [])
entries-added entries name lawful unknown room = record {
  few = simp length-append (omega arith);
  distinct = names-added entries name unknown lawful.distinct;
}
