-- What a link in memory says, one thing after another. This project's own.
use Rattle.std.specs.Prelude.{ℕ, ◌+◌, ◌-◌, nat_le, Bool, false, ◌||◌, List, [], ◌∷◌, ◌++◌, IfSome, length, take, drop, min, if◌then◌else◌}
use Rattle.std.specs.List.{flat_map, slice_get}
use Rattle.std.specs.Option.{option_map_or}
use Rattle.floor_text.specs.Memory.{count_up}
use Rattle.links.specs.declared.link.Taken.{Taken}
use Rattle.links.specs.declared.link.Taken.TheVariants.{Bytes, End, Idle}
use Rattle.mem_links.specs.declared.say.Say.{Say}
use Rattle.mem_links.specs.declared.say.Say.TheVariants.{Give, WaitFor, Finish}
use Rattle.mem_links.specs.declared.script.Script.{Script}
use Rattle.mem_links.specs.Lines.{has_line, IsSearched}

-- where a script is: what it has still to say, how many bytes of the first of that it has given, and how often it has
-- answered Idle there
pub record Place : Type 0 where
  pub says : List Say
  pub given : ℕ
  pub waited : ℕ

-- the bytes that something said gives
abbrev pub bytes_of : Say → List ℕ
bytes_of (Give bytes) = bytes.items
bytes_of (WaitFor front turns) = []
bytes_of Finish = []

-- Whether something said is over, where these bytes were put: all its bytes were given, or its line was put or its
-- turns are through. Finish is never over.
abbrev pub is_over : List ℕ → Say → ℕ → ℕ → Bool
is_over put (Give bytes) given waited = nat_le (length bytes.items) given
is_over put (WaitFor front turns) given waited = nat_le turns waited || has_line front.items put
is_over put Finish given waited = false

-- where a script comes to, where these bytes were put: what is over is passed over
abbrev pub come_to : List ℕ → List Say → ℕ → ℕ → Place
come_to put [] given waited = record { says = []; given = given; waited = waited }
come_to put (say ∷ says) given waited =
    if is_over put say given waited then come_to put says 0 0
    else record { says = say ∷ says; given = given; waited = waited }

-- a take: what it brings, with which bytes, and where the script is then
pub record Step : Type 0 where
  pub taken : Taken
  pub bytes : List ℕ
  pub place : Place

-- A take of at most so many bytes where something is said that is not over: Give gives the next of its bytes, WaitFor
-- answers Idle and counts a turn, and Finish answers End.
abbrev pub step_of : ℕ → Say → Place → Step
step_of room (Give bytes) place =
    let n = min (length bytes.items - place.given) room in
    record {
      taken = Bytes n;
      bytes = take n (drop place.given bytes.items);
      place = record place { given = place.given + n };
    }
step_of room (WaitFor front turns) place =
    record { taken = Idle; bytes = []; place = record place { waited = count_up place.waited } }
step_of room Finish place = record { taken = End; bytes = []; place = place }

-- the same at any place: a script that has run out answers Idle
abbrev pub step_at : ℕ → Place → List Say → Step
step_at room place [] = record { taken = Idle; bytes = []; place = place }
step_at room place (say ∷ says) = step_of room say place

-- a take of at most so many bytes, where these were put
abbrev pub play : ℕ → List ℕ → Place → Step
play room put place =
    let there = come_to put place.says place.given place.waited in step_at room there there.says

-- where a script is
abbrev pub place_of : Script → Place
place_of s = record { says = drop s.at s.says.items; given = s.given; waited = s.waited }

-- the bytes that a script has given
abbrev pub given_by : Script → List ℕ
given_by s =
    flat_map bytes_of (take s.at s.says.items)
    ++ take s.given (option_map_or bytes_of (slice_get s.says.items s.at) [])

-- of the bytes that were put the first n were searched for the line that something said waits for
abbrev pub IsSearchedFor : Say → List ℕ → ℕ → Type 0
IsSearchedFor (Give bytes) put n = Unit {0}
IsSearchedFor (WaitFor front turns) put n = IsSearched front.items put n
IsSearchedFor Finish put n = Unit {0}

-- the same of what a script says next
abbrev pub IsSearchedBy : Script → List ℕ → Type 0
IsSearchedBy s put = IfSome (slice_get s.says.items s.at) (λ say. IsSearchedFor say put s.searched)
