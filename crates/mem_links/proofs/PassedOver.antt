-- What a script says that is over.
use Rattle.std.proofs.Common.{◌≡◌, ℕ, ◌+◌, ◌-◌, ◌<◌, Bool, true, List, [], ◌∷◌, ◌++◌, length, get_or, take, drop, Option, Some, None, IfSome, min, sym, ap, ◌∙◌, if◌then◌else◌, append-nil, append_assoc, Vec, Global}
use Rattle.std.proofs.Math.Seq.{take-add, take-nil}
use Rattle.std.specs.List.{flat_map, slice_get}
use Rattle.std.specs.Option.{option_map_or}
use Rattle.std.proofs.lemmas.Bool.{leb-true}
use Rattle.std.proofs.lemmas.Grind.{flat_map-append}
use Rattle.std.proofs.lemmas.List.{drop_more, take_more, take_all}
use Rattle.std.proofs.lemmas.Option.{slice_get-get_or}
use Rattle.mem_links.specs.declared.say.Say.{Say}
use Rattle.mem_links.specs.declared.say.Say.TheVariants.{Give, WaitFor, Finish}
use Rattle.mem_links.specs.declared.script.Script.{Script}
use Rattle.mem_links.specs.Scripts.{Place, bytes_of, is_over, come_to, step_at, play, place_of, given_by, IsSearchedFor}
use Rattle.mem_links.proofs.SearchedLines.{searched_none}

-- A script whose next say is over comes to where it comes to without it.
pub passes : (put : List ℕ) (says : List Say) (at given waited : ℕ) (say : Say) → at < length says
    → say ≡ get_or says at say → is_over put say given waited ≡ true
    → come_to put (drop (at + 1) says) 0 0 ≡ come_to put (drop at says) given waited
passes put says at given waited say within is over =
    let rest = drop (at + 1) says in
    let here : drop at says ≡ say ∷ rest =
    drop_more says at say within ∙ ap (λ (next : Say). next ∷ rest) (sym is) in
    let stays : Place = record { says = say ∷ rest; given = given; waited = waited } in
    sym (ap (λ (left : List Say). come_to put left given waited) here
    ∙ ap (λ (b : Bool). if b then come_to put rest 0 0 else stays) over)

-- all bytes of what is over were given
all_given : (put : List ℕ) (say : Say) (given waited : ℕ) → is_over put say given waited ≡ true
    → take given (bytes_of say) ≡ bytes_of say
all_given put (Give bytes) given waited over =
    take_all given bytes.items (leb-true (length bytes.items) given over)
all_given put (WaitFor front turns) given waited over = take-nil given
all_given put Finish given waited over = take-nil given

-- To pass over what is over changes nothing of what was given.
pub given_past : (put : List ℕ) (says : List Say) (at given waited : ℕ) (say : Say) → at < length says
    → say ≡ get_or says at say → is_over put say given waited ≡ true
    → flat_map bytes_of (take (at + 1) says) ++ []
    ≡ flat_map bytes_of (take at says) ++ take given (option_map_or bytes_of (slice_get says at) [])
given_past put says at given waited say within is over =
    let before = flat_map bytes_of (take at says) in
    let more : take (at + 1) says ≡ take at says ++ say ∷ [] =
    take_more says at say within ∙ ap (λ (next : Say). take at says ++ next ∷ []) (sym is) in
    let here : slice_get says at ≡ Some say = slice_get-get_or says at say within ∙ ap Some (sym is) in
    append-nil (flat_map bytes_of (take (at + 1) says)) ∙ ap (flat_map bytes_of) more
    ∙ flat_map-append bytes_of (take at says) (say ∷ [])
    ∙ ap (λ (bytes : List ℕ). before ++ bytes) (append-nil (bytes_of say) ∙ sym (all_given put say given waited over)
    ∙ ap (λ (next : Option Say). take given (option_map_or bytes_of next [])) (sym here))

none_searched : (put : List ℕ) (say : Say) → IsSearchedFor say put 0
none_searched put (Give bytes) = tt
none_searched put (WaitFor front turns) = searched_none front.items put
none_searched put Finish = tt

-- Of what comes next nothing was searched yet.
pub next_searched : (put : List ℕ) (next : Option Say) → IfSome next (λ say. IsSearchedFor say put 0)
next_searched put None = tt
next_searched put (Some say) = none_searched put say

-- More bytes are given of a piece.
pub given_on : (s : Script) (bytes : Vec ℕ Global) (n : ℕ) → s.at < length s.says.items
    → Give bytes ≡ get_or s.says.items s.at (Give bytes)
    → given_by (record s { given = s.given + n }) ≡ given_by s ++ take n (drop s.given bytes.items)
given_on s bytes n within is =
    let before = flat_map bytes_of (take s.at s.says.items) in
    let piece : option_map_or bytes_of (slice_get s.says.items s.at) [] ≡ bytes.items =
    ap (λ (next : Option Say). option_map_or bytes_of next [])
    (slice_get-get_or s.says.items s.at (Give bytes) within ∙ ap Some (sym is)) in
    ap (λ (here : List ℕ). before ++ take (s.given + n) here) piece
    ∙ ap (λ (more : List ℕ). before ++ more) (take-add s.given n bytes.items)
    ∙ sym (append_assoc before (take s.given bytes.items) (take n (drop s.given bytes.items)))
    ∙ ap (λ (here : List ℕ). before ++ take s.given here ++ take n (drop s.given bytes.items)) (sym piece)

-- A take where a piece is given brings the next of its bytes.
pub brings : (room : ℕ) (put : List ℕ) (from : Place) (s : Script) (bytes : Vec ℕ Global)
    → place_of s ≡ come_to put from.says from.given from.waited → s.at < length s.says.items
    → Give bytes ≡ get_or s.says.items s.at (Give bytes)
    → (play room put from).bytes ≡ take (min (length bytes.items - s.given) room) (drop s.given bytes.items)
brings room put from s bytes comes within is =
    let rest = drop (s.at + 1) s.says.items in
    let here : drop s.at s.says.items ≡ Give bytes ∷ rest =
    drop_more s.says.items s.at (Give bytes) within ∙ ap (λ (next : Say). next ∷ rest) (sym is) in
    ap (λ (there : Place). (step_at room there there.says).bytes) (sym comes)
    ∙ ap (λ (left : List Say). (step_at room (place_of s) left).bytes) here
