-- What values of all choices come to, where their order does not count, as their greatest or their least.
use Rattle.std.proofs.Common.{◌≡◌, ℕ, zero, suc, Bool, true, false, ◌&&◌, List, [], ◌∷◌, ◌++◌, refl, sym, ap, ap₂, ◌∙◌, append_assoc}
use Rattle.std.specs.Prelude.{map}
use Rattle.std.specs.List.{flat_map, list_all}
use Rattle.card_set.specs.declared.card.Card.{Card}
use Rattle.card_choices.specs.Changes.{AreRenamed}
use Rattle.card_choices.specs.Choices.{choices}

-- values combined by an operation, from the last one on
abbrev pub combined : {A V : Type 0} → (V → V → V) → V → (A → V) → List A → V
combined op none value [] = none
combined op none value (x ∷ xs) = op (value x) (combined op none value xs)

-- neither the order of the values counts, nor which are combined first, nor none
pub record IsCombining {V : Type 0} (op : V → V → V) (none : V) : Type 0 where
  pub assoc : (a b c : V) → op (op a b) c ≡ op a (op b c)
  pub comm : (a b : V) → op a b ≡ op b a
  pub start : (a : V) → op none a ≡ a

pub combined-same : {A V : Type 0} (op : V → V → V) (none : V) (value other : A → V) (xs : List A)
    → ((x : A) → value x ≡ other x) → combined op none value xs ≡ combined op none other xs
combined-same op none value other [] same = refl
combined-same op none value other (x ∷ xs) same = ap₂ op (same x) (combined-same op none value other xs same)

combined-append : {A V : Type 0} (op : V → V → V) (none : V) → IsCombining op none → (value : A → V) (xs ys : List A)
    → combined op none value (xs ++ ys) ≡ op (combined op none value xs) (combined op none value ys)
combined-append op none is value [] ys = sym (is.start (combined op none value ys))
combined-append op none is value (x ∷ xs) ys = ap (op (value x)) (combined-append op none is value xs ys)
    ∙ sym (is.assoc (value x) (combined op none value xs) (combined op none value ys))

pub combined-map : {A B V : Type 0} (op : V → V → V) (none : V) (value : B → V) (f : A → B) (xs : List A)
    → combined op none value (map f xs) ≡ combined op none (λ x. value (f x)) xs
combined-map op none value f [] = refl
combined-map op none value f (x ∷ xs) = ap (op (value (f x))) (combined-map op none value f xs)

pub combined-flat_map : {A B V : Type 0} (op : V → V → V) (none : V) → IsCombining op none
    → (value : B → V) (f : A → List B) (xs : List A)
    → combined op none value (flat_map f xs) ≡ combined op none (λ x. combined op none value (f x)) xs
combined-flat_map op none is value f [] = refl
combined-flat_map op none is value f (x ∷ xs) =
    combined-append op none is value (f x) (flat_map f xs)
    ∙ ap (op (combined op none value (f x))) (combined-flat_map op none is value f xs)

-- the choices with the first thing, and those without it
pub choices-cons : {A V : Type 0} (op : V → V → V) (none : V) → IsCombining op none
    → (value : List A → V) (n : ℕ) (x : A) (xs : List A)
    → combined op none value (choices (suc n) (x ∷ xs)) ≡ op (combined op none (λ c. value (x ∷ c)) (choices n xs))
    (combined op none value (choices (suc n) xs))
choices-cons op none is value n x xs =
    combined-append op none is value (map (λ c. x ∷ c) (choices n xs)) (choices (suc n) xs)
    ∙ ap (λ v. op v (combined op none value (choices (suc n) xs)))
    (combined-map op none value (λ c. x ∷ c) (choices n xs))

-- two that change places
turned : {V : Type 0} (op : V → V → V) (none : V) → IsCombining op none → (a b c : V) → op a (op b c) ≡ op b (op a c)
turned op none is a b c = sym (is.assoc a b c) ∙ ap (λ v. op v c) (is.comm a b) ∙ is.assoc b a c

-- a value in which two neighbours may change places
abbrev pub AllowsExchange : {A V : Type 0} → (List A → V) → Type 0
AllowsExchange {A} value = (front : List A) (a b : A) (back : List A)
    → value (front ++ a ∷ b ∷ back) ≡ value (front ++ b ∷ a ∷ back)

and-turned : (x y z : Bool) → (x && (y && z)) ≡ (y && (x && z))
and-turned true true z = refl
and-turned true false z = refl
and-turned false true z = refl
and-turned false false z = refl

-- whether all things pass a test is such a value
pub list_all-exchange : {A : Type 0} (test : A → Bool) → AllowsExchange (list_all test)
list_all-exchange test [] a b back = and-turned (test a) (test b) (list_all test back)
list_all-exchange test (x ∷ front) a b back = ap (λ y. test x && y) (list_all-exchange test front a b back)

exchange-first : {A V : Type 0} (op : V → V → V) (none : V) → IsCombining op none → (value : List A → V)
    → AllowsExchange value → (n : ℕ) (a b : A) (back : List A)
    → combined op none value (choices (suc n) (a ∷ b ∷ back)) ≡ combined op none value (choices (suc n) (b ∷ a ∷ back))
exchange-first {A} op none is value may zero a b back =
    let rest = combined op none value (choices 1 back) in
    let only = λ (x : A). op (value (x ∷ [])) none in
    choices-cons op none is value zero a (b ∷ back) ∙ ap (op (only a)) (choices-cons op none is value zero b back)
    ∙ turned op none is (only a) (only b) rest
    ∙ sym (choices-cons op none is value zero b (a ∷ back)
    ∙ ap (op (only b)) (choices-cons op none is value zero a back))
exchange-first {A} op none is value may (suc m) a b back =
    let rest = combined op none value (choices (suc (suc m)) back) in
    let one = λ (x : A). combined op none (λ c. value (x ∷ c)) (choices (suc m) back) in
    let two = λ (x y : A). combined op none (λ c. value (x ∷ y ∷ c)) (choices m back) in
    let split = λ (x y : A). choices-cons op none is value (suc m) x (y ∷ back)
    ∙ ap₂ op (choices-cons op none is (λ c. value (x ∷ c)) m y back)
    (choices-cons op none is value (suc m) y back) in
    let same = combined-same op none (λ c. value (a ∷ b ∷ c)) (λ c. value (b ∷ a ∷ c)) (choices m back) (may [] a b) in
    split a b
    ∙ is.assoc (two a b) (one a) (op (one b) rest)
    ∙ ap₂ op same (turned op none is (one a) (one b) rest)
    ∙ sym (is.assoc (two b a) (one b) (op (one a) rest))
    ∙ sym (split b a)

-- two neighbours among the things that are chosen from may change places
pub choices-exchange : {A V : Type 0} (op : V → V → V) (none : V) → IsCombining op none → (value : List A → V)
    → AllowsExchange value → (n : ℕ)
    → AllowsExchange (λ xs. combined op none value (choices n xs))
choices-exchange op none is value may zero front a b back = refl
choices-exchange op none is value may (suc n) [] a b back = exchange-first op none is value may n a b back
choices-exchange op none is value may (suc n) (x ∷ front) a b back =
    choices-cons op none is value n x (front ++ a ∷ b ∷ back)
    ∙ ap₂ op (choices-exchange op none is (λ c. value (x ∷ c)) (λ f. may (x ∷ f)) n front a b back)
    (choices-exchange op none is value may (suc n) front a b back)
    ∙ sym (choices-cons op none is value n x (front ++ b ∷ a ∷ back))

-- values that are the same for renamed cards come to the same over the choices of renamed cards
pub choices-renamed : {V : Type 0} (op : V → V → V) (none : V) → IsCombining op none
    → (suit : ℕ → ℕ) (value other : List Card → V)
    → ((c d : List Card) → AreRenamed suit c d → value c ≡ other d) → (n : ℕ) (xs ys : List Card)
    → AreRenamed suit xs ys
    → combined op none value (choices n xs) ≡ combined op none other (choices n ys)
choices-renamed op none is suit value other same zero xs ys renamed = ap (λ v. op v none) (same [] [] tt)
choices-renamed op none is suit value other same (suc n) [] [] renamed = refl
choices-renamed op none is suit value other same (suc n) [] (y ∷ ys) renamed = absurd renamed
choices-renamed op none is suit value other same (suc n) (x ∷ xs) [] renamed = absurd renamed
choices-renamed op none is suit value other same (suc n) (x ∷ xs) (y ∷ ys) renamed =
    choices-cons op none is value n x xs
    ∙ ap₂ op (choices-renamed op none is suit (λ c. value (x ∷ c)) (λ d. other (y ∷ d))
    (λ c d are. same (x ∷ c) (y ∷ d) (renamed.0, renamed.1, are)) n xs ys renamed.2)
    (choices-renamed op none is suit value other same (suc n) xs ys renamed.2)
    ∙ sym (choices-cons op none is other n y ys)

-- where the cards of two lists are renamed in the same way, so are those of the two lists joined
pub renamed-append : (suit : ℕ → ℕ) (xs ys us vs : List Card) → AreRenamed suit xs ys → AreRenamed suit us vs
    → AreRenamed suit (xs ++ us) (ys ++ vs)
renamed-append suit [] [] us vs one other = other
renamed-append suit [] (y ∷ ys) us vs one other = absurd one
renamed-append suit (x ∷ xs) [] us vs one other = absurd one
renamed-append suit (x ∷ xs) (y ∷ ys) us vs one other = (one.0, one.1, renamed-append suit xs ys us vs one.2 other)

-- the choices of Omaha, pair by pair
omaha_value : {V : Type 0} (op : V → V → V) (none : V) → IsCombining op none
    → (value : List Card → V) (hole board : List Card)
    → combined op none value (flat_map (λ pair. map (λ three. pair ++ three) (choices 3 board)) (choices 2 hole))
    ≡ combined op none (λ pair. combined op none (λ three. value (pair ++ three)) (choices 3 board))
    (choices 2 hole)
omaha_value op none is value hole board =
    combined-flat_map op none is value (λ pair. map (λ three. pair ++ three) (choices 3 board)) (choices 2 hole)
    ∙ combined-same op none (λ pair. combined op none value (map (λ three. pair ++ three) (choices 3 board)))
    (λ pair. combined op none (λ three. value (pair ++ three)) (choices 3 board)) (choices 2 hole)
    (λ pair. combined-map op none value (λ three. pair ++ three) (choices 3 board))

-- where neighbours may change places in each value, neighbouring hole cards may in what the Omaha choices come to
pub omaha-exchange_hole : {V : Type 0} (op : V → V → V) (none : V) → IsCombining op none → (value : List Card → V)
    → AllowsExchange value → (board : List Card)
    → AllowsExchange (λ hole. combined op none value
    (flat_map (λ pair. map (λ three. pair ++ three) (choices 3 board)) (choices 2 hole)))
omaha-exchange_hole op none is value may board front a b back =
    omaha_value op none is value (front ++ a ∷ b ∷ back) board
    ∙ choices-exchange op none is (λ pair. combined op none (λ three. value (pair ++ three)) (choices 3 board))
    (λ f x y k. combined-same op none (λ three. value ((f ++ x ∷ y ∷ k) ++ three))
    (λ three. value ((f ++ y ∷ x ∷ k) ++ three)) (choices 3 board)
    (λ three. ap value (append_assoc f (x ∷ y ∷ k) three) ∙ may f x y (k ++ three)
    ∙ ap value (sym (append_assoc f (y ∷ x ∷ k) three)))) 2 front a b back
    ∙ sym (omaha_value op none is value (front ++ b ∷ a ∷ back) board)

-- where neighbours may change places in each value, neighbours on the board may in what the Omaha choices come to
pub omaha-exchange_board : {V : Type 0} (op : V → V → V) (none : V) → IsCombining op none → (value : List Card → V)
    → AllowsExchange value → (hole : List Card)
    → AllowsExchange (λ board. combined op none value
    (flat_map (λ pair. map (λ three. pair ++ three) (choices 3 board)) (choices 2 hole)))
omaha-exchange_board op none is value may hole front a b back =
    omaha_value op none is value hole (front ++ a ∷ b ∷ back)
    ∙ combined-same op none
    (λ pair. combined op none (λ three. value (pair ++ three)) (choices 3 (front ++ a ∷ b ∷ back)))
    (λ pair. combined op none (λ three. value (pair ++ three)) (choices 3 (front ++ b ∷ a ∷ back))) (choices 2 hole)
    (λ pair. choices-exchange op none is (λ three. value (pair ++ three))
    (λ f x y k. ap value (sym (append_assoc pair f (x ∷ y ∷ k))) ∙ may (pair ++ f) x y k
    ∙ ap value (append_assoc pair f (y ∷ x ∷ k))) 3 front a b back)
    ∙ sym (omaha_value op none is value hole (front ++ b ∷ a ∷ back))

-- values that are the same for renamed cards come to the same over the Omaha choices of renamed cards
pub omaha-renamed : {V : Type 0} (op : V → V → V) (none : V) → IsCombining op none
    → (suit : ℕ → ℕ) (value : List Card → V)
    → ((c d : List Card) → AreRenamed suit c d → value c ≡ value d) → (hole others board boards : List Card)
    → AreRenamed suit hole others → AreRenamed suit board boards
    → combined op none value (flat_map (λ pair. map (λ three. pair ++ three) (choices 3 board)) (choices 2 hole))
    ≡ combined op none value (flat_map (λ pair. map (λ three. pair ++ three) (choices 3 boards)) (choices 2 others))
omaha-renamed op none is suit value same hole others board boards of_hole of_board =
    omaha_value op none is value hole board
    ∙ choices-renamed op none is suit (λ pair. combined op none (λ three. value (pair ++ three)) (choices 3 board))
    (λ pair. combined op none (λ three. value (pair ++ three)) (choices 3 boards))
    (λ c d are. choices-renamed op none is suit (λ three. value (c ++ three)) (λ three. value (d ++ three))
    (λ e f also. same (c ++ e) (d ++ f) (renamed-append suit c d e f are also)) 3 board boards of_board) 2 hole
    others of_hole
    ∙ sym (omaha_value op none is value others boards)
