-- The first and the last item of a list.
use Rattle.std.proofs.Common.{◌≡◌, ◌∙◌, List, [], ◌∷◌, ◌++◌, ap, sym}
use Rattle.std.specs.Prelude.{reverse}
use Rattle.std.proofs.lemmas.List.{reverse-append}

-- The first item of a list is the last of the list reversed.
pub reverse-cons : {A : Type 0} (item : A) (more : List A) → reverse (item ∷ more) ≡ reverse more ++ item ∷ []
reverse-cons item more = reverse-append (item ∷ []) more

-- A list has one last item.
pub same-last : {A : Type 0} (items others : List A) (item other : A) → items ++ item ∷ [] ≡ others ++ other ∷ []
    → item ≡ other
same-last items others item other same =
    let turned : item ∷ reverse items ≡ other ∷ reverse others = sym (reverse-append items (item ∷ []))
    ∙ ap reverse same ∙ reverse-append others (other ∷ []) in
    cc
