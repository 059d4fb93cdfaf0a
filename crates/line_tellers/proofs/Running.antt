-- What holds of a run between two lines, what it comes to at the end, and that nothing of it is held back.
use Rattle.std.proofs.Common.{◌≡◌, ℕ, ◌+◌, ◌<◌, ◌≤◌, true, false, refl, sym, ap, subst, ◌∙◌, List, [], ◌++◌, length, take, drop, arith}
use Rattle.std.specs.Prelude.{Option, Some, None, IfSome, IsSomeAnd, Result, Ok, Err, OnOk, IsErrAnd, IsErrOf, IfErr, MatchResult}
use Rattle.std.proofs.Math.Seq.{take-nil}
use Rattle.std.proofs.lemmas.List.{append-nil, take-append-drop}
use Rattle.std.proofs.lemmas.Option.{MatchOption-at_some}
use Rattle.floor_text.specs.Lines.{lines_of_bytes}
use Rattle.floor_text.specs.Outside.{Puts}
use Rattle.floor_text.specs.LineReader.{lines_of_next}
use Rattle.floor_text.specs.Reading.{Reading, bytes_ahead}
use Rattle.floor_text.specs.declared.line_reader.Next.{Next}
use Rattle.floor_text.specs.declared.line_reader.Next.TheVariants.{End}
use Rattle.tournament_rules.specs.States.{State, first_state}
use Rattle.command_lines.specs.declared.fault.Fault.{Fault}
use Rattle.command_lines.specs.declared.fault.Fault.TheVariants as faults
use Rattle.command_lines.specs.Limits.{GivesMore}
use Rattle.line_tellers.specs.Limits.{input_limit}
use Rattle.command_lines.specs.Endings.{IsOfReading, IsOfWriting}
use Rattle.tournament_rules.specs.Valid.{IsValidState}
use Rattle.tournament_rules.proofs.Steps.{valid_first_state}
use Rattle.line_tellers.specs.Promise.{Keeps, Counts, IsCounted, IsTelling, IsToldOf, TakesAndPuts}
use Rattle.line_tellers.specs.Told.{Telling, lines_told, stream_told}
use Rattle.line_tellers.proofs.Promises.{fail_end, front_of, stream_of_lines, told_all, told_front}

counts_none : (left : Option (List ℕ)) → Counts left left 0
counts_none None = tt
counts_none (Some bytes) = omega arith

-- What was told of lines is told of all that were handed out but the pending one, and whoever tells is the same. The
-- state is valid, the bytes taken are counted, no count of faults has fallen, and each accepted event took a byte.
pub record IsRunning (first_telling telling : Telling) (first_left left first_written written : Option (List ℕ))
    (next : Next) (reader : Reading) (first_input input first_out out : ℕ) (state : State) : Type 0 where
  pub tells : IfSome first_left (λ bytes. IfSome first_written (λ before.
      IsTelling first_telling bytes before state left written (lines_of_next (Ok next) reader.line) reader))
  pub same : telling ≡ first_telling
  pub valid : IsValidState state
  pub counted : IsCounted first_left left reader
  pub at_limit : reader.limit ≡ input_limit
  pub input_later : first_input ≤ input
  pub out_later : first_out ≤ out
  pub few : state.accepted + (bytes_ahead reader + length (lines_of_next (Ok next) reader.line)) ≤ reader.limit + 1
  pub end : next ≡ End → reader.ended ≡ true

-- What follows of any bytes and any text follows of those that are told.
pub both_from : (left written : Option (List ℕ)) {P Q : List ℕ → List ℕ → Type 0}
    → ((bytes before : List ℕ) → P bytes before → Q bytes before)
    → IfSome left (λ bytes. IfSome written (λ before. P bytes before))
    → IfSome left (λ bytes. IfSome written (λ before. Q bytes before))
both_from None written step holds = tt
both_from (Some bytes) None step holds = tt
both_from (Some bytes) (Some before) step holds = step bytes before holds

-- a reader that took nothing
abbrev pub IsFresh : Reading → Type 0
IsFresh reader = reader ≡ record { held = []; line = []; taken = 0; limit = input_limit; ended = false }

begun : (telling : Telling) (bytes before : List ℕ) (reader : Reading) → IsFresh reader
    → IsTelling telling bytes before first_state (Some bytes) (Some before) [] reader
begun telling bytes before reader fresh =
    let P : Reading → Type 0 = λ now. IsTelling telling bytes before first_state (Some bytes) (Some before) [] now in
    subst P (sym fresh) (record {
      handled = [];
      within = omega arith;
      rest = refl;
      told = ap Some (sym (append-nil before));
      behind = refl;
      lines = λ going more. refl;
      all = λ ended. let never : false ≡ true = ended in absurd cc;
      none_held = λ ended. refl;
    })

-- what follows of a run that told of nothing yet, with a reader that took nothing
pub begins_so : (telling : Telling) (state : State) (reader : Reading) (left written : Option (List ℕ))
    {Q : List ℕ → List ℕ → Type 0} → IsFresh reader → state ≡ first_state
    → ((bytes before : List ℕ) → IsTelling telling bytes before state left written [] reader → Q bytes before)
    → IfSome left (λ bytes. IfSome written (λ before. Q bytes before))
begins_so telling state reader None written fresh first step = tt
begins_so telling state reader (Some bytes) None fresh first step = tt
begins_so telling state reader (Some bytes) (Some before) fresh first step =
    let P : State → Type 0 = λ now. IsTelling telling bytes before now (Some bytes) (Some before) [] reader in
    step bytes before (subst P (sym first) (begun telling bytes before reader fresh))

-- A reader that took nothing counted nothing.
pub counts_first : (left : Option (List ℕ)) (reader : Reading) → IsFresh reader → IsCounted left left reader
counts_first left reader fresh =
    let P : Reading → Type 0 = λ now. IsCounted left left now in
    subst P (sym fresh) (record {
      counts = counts_none left;
      end = λ ended. let never : false ≡ true = ended in absurd cc;
      within = λ ended. omega arith;
    })

-- so it is once a reader that took nothing before has handed out the first line, in the first state
pub starts : (telling : Telling) (state : State) (old new : Reading) (next : Next) (left rest written : Option (List ℕ))
    (first_input input out : ℕ) → IsFresh old → state ≡ first_state
    → ((bytes before : List ℕ) → IsTelling telling bytes before state left written [] old
    → IsTelling telling bytes before state rest written (lines_of_next (Ok next) new.line) new)
    → bytes_ahead new + length (lines_of_next (Ok next) new.line) ≤ bytes_ahead old
    → ((first : Option (List ℕ)) → IsCounted first left old → IsCounted first rest new)
    → new.limit ≡ old.limit → (next ≡ End → new.ended ≡ true) → first_input ≤ input
    → IsRunning telling telling left rest written written next new first_input input out out state
starts telling state old new next left rest written first_input input out fresh first told ahead counts limit end later
    =
    let limited : old.limit ≡ input_limit = ap (λ (reader : Reading). reader.limit) fresh in
    let most : bytes_ahead old ≡ input_limit + 1 = ap bytes_ahead fresh in
    let none : state.accepted ≡ 0 = ap (λ (now : State). now.accepted) first in
    record {
      tells = begins_so telling state old left written fresh first told;
      same = refl;
      valid = subst IsValidState (sym first) valid_first_state;
      counted = counts left (counts_first left old fresh);
      at_limit = limit ∙ limited;
      input_later = later;
      out_later = omega arith;
      few = omega (arith, most, none, limit, limited, ahead);
      end = end;
    }

-- before anything was taken nothing is told
pub untold : (telling : Telling) (left written : Option (List ℕ))
    → TakesAndPuts (IsToldOf faults.NoMemory telling) left left written written
untold telling None written = tt
untold telling (Some bytes) None = tt
untold telling (Some bytes) (Some before) = (0, [], refl, ap Some (sym (append-nil before)), (0, refl))

-- at the end of all lines, what was put is what is told of the stream
pub ends_well : (telling : Telling) (first left before written now : Option (List ℕ)) (state : State) (reader : Reading)
    (ran : Result (Unit {0}) Fault) → reader.ended ≡ true → IfSome first (λ _. left ≡ Some [])
    → IfSome first (λ bytes. IfSome before (λ text. IsTelling telling bytes text state left written [] reader))
    → IfSome written (λ text. Puts text (telling.at_end state) now ran)
    → OnOk ran (IfSome first (λ bytes. IfSome before (λ text. now ≡ Some (text ++ stream_told telling bytes))))
ends_well telling None left before written now state reader (Ok value) ended last tells puts = tt
ends_well telling (Some bytes) left None written now state reader (Ok value) ended last tells puts = tt
ends_well telling (Some bytes) left (Some text) written now state reader (Ok value) ended last tells puts =
    told_all telling bytes text state left written now reader ended last tells puts
ends_well telling first left before written now state reader (Err fault) ended last tells puts = tt

-- and where the end was not told whole, what was put is told of the bytes taken
pub ends_in_fault : (telling : Telling) (first left before written now : Option (List ℕ)) (state : State)
    (reader : Reading) (ran : Result (Unit {0}) Fault) → reader.ended ≡ true
    → IfSome first (λ bytes. IfSome before (λ text. IsTelling telling bytes text state left written [] reader))
    → IfSome written (λ text. Puts text (telling.at_end state) now ran)
    → (IsErrOf ran faults.NoMemory → now ≡ written) → IfErr ran IsOfWriting
    → IfErr ran (λ fault. TakesAndPuts (IsToldOf fault telling) first left before now)
ends_in_fault telling first left before written now state reader (Ok value) ended tells puts memory others = tt
ends_in_fault telling first left before written now state reader (Err faults.Usage) ended tells puts memory others =
    absurd others
ends_in_fault telling first left before written now state reader (Err faults.Read) ended tells puts memory others =
    absurd others
ends_in_fault telling first left before written now state reader (Err faults.Write) ended tells puts memory others =
    both_from first before
    (λ bytes text on. fail_end telling bytes text state left written now reader ended on puts) tells
ends_in_fault telling first left before written now state reader (Err faults.NoMemory) ended tells puts memory others =
    rw (memory refl)
    (both_from first before (λ bytes text on. told_front telling bytes text state left written [] reader on) tells)
ends_in_fault telling first left before written now state reader (Err
    (faults.Plan item)) ended tells puts memory others =
    absurd others
ends_in_fault telling first left before written now state reader (Err faults.Hall) ended tells puts memory others =
    absurd others
ends_in_fault telling first left before written now state reader (Err faults.InputTooLong) ended tells puts memory
    others = absurd others

-- what was told of whole lines is a front of what is told of the bytes
front_told : (telling : Telling) (taken text : List ℕ) → IsToldOf faults.NoMemory telling taken text
    → IsToldOf faults.Write telling taken text
front_told telling taken text told =
    let lines : List (Option (List ℕ)) = take told.0 (lines_of_bytes taken) in
    let others : List (Option (List ℕ)) = drop told.0 (lines_of_bytes taken) in
    let whole = stream_of_lines telling taken lines others (sym (take-append-drop told.0 (lines_of_bytes taken))) in
    let front = front_of (lines_told telling lines) _ (stream_told telling taken) whole in
    (front.0, told.1 ∙ front.1)

-- where memory ran out, and the sink fails as it is to let go of what was told, that is a front still
pub closed_front : (telling : Telling) (first left before written now : Option (List ℕ)) → Keeps written now
    → TakesAndPuts (IsToldOf faults.NoMemory telling) first left before written
    → TakesAndPuts (IsToldOf faults.Write telling) first left before now
closed_front telling first left before written now keeps told =
    both_from first before
    (λ bytes text had. (
      had.0,
      had.1,
      had.2,
      MatchOption-at_some (Unit {0}) (λ all. now ≡ Some all) (text ++ had.1) had.3 keeps,
      front_told telling (take had.0 bytes) had.1 had.4,
    )) told

-- A failed put of no bytes keeps what was written.
pub none_put : (written now : Option (List ℕ))
    → IfSome written (λ text. (n : ℕ) × (now ≡ Some (text ++ take n []))) → Keeps written now
none_put None now put = tt
none_put (Some text) now put =
    put.1 ∙ ap (λ more. Some (text ++ more)) (take-nil put.0) ∙ ap Some (append-nil text)

more_given : (first left : Option (List ℕ)) (taken : ℕ) → Counts first left taken → input_limit < taken
    → GivesMore input_limit first left
more_given None left taken counts more = tt
more_given (Some bytes) None taken counts more = absurd counts
more_given (Some bytes) (Some rest) taken counts more = omega (arith, counts, more)

-- at the end as many bytes were taken as there were
pub within_at_end : (first left : Option (List ℕ)) (reader : Reading) → IsCounted first left reader
    → reader.ended ≡ true → reader.limit ≡ input_limit → IfSome first (λ bytes. length bytes ≤ input_limit)
within_at_end None left reader counted ended at_limit = tt
within_at_end (Some bytes) left reader counted ended at_limit =
    let P : Option (List ℕ) → Type 0 = λ known. IsSomeAnd known (λ rest. reader.taken + length rest ≡ length bytes) in
    let all : reader.taken + 0 ≡ length bytes = subst P (counted.end ended) counted.counts in
    omega (arith, all, at_limit, counted.within ended)

-- more bytes were taken than the limit
pub gives_more : (first left : Option (List ℕ)) (reader : Reading) → IsCounted first left reader
    → reader.limit ≡ input_limit → reader.limit < reader.taken → GivesMore input_limit first left
gives_more first left reader counted at_limit more = more_given first left reader.taken counted.counts (omega arith)

-- what is told of each stream, in other words
pub text_is : (telling : Telling) (text_of : List ℕ → List ℕ)
    → ((bytes : List ℕ) → stream_told telling bytes ≡ text_of bytes) → (left written all : Option (List ℕ))
    → IfSome left (λ bytes. IfSome written (λ text. all ≡ Some (text ++ stream_told telling bytes)))
    → IfSome left (λ bytes. IfSome written (λ text. all ≡ Some (text ++ text_of bytes)))
text_is telling text_of same None written all told = tt
text_is telling text_of same (Some bytes) None all told = tt
text_is telling text_of same (Some bytes) (Some text) all told = told ∙ ap (λ more. Some (text ++ more)) (same bytes)

-- what holds anyway holds at `Ok`, and so does what follows from what holds there
pub on_ok : {T E : Type 0} (result : Result T E) {P : Type 0} → P → OnOk result P
on_ok (Ok value) holds = holds
on_ok (Err fault) holds = tt

-- What follows from what holds at `Ok` holds at `Ok` too.
pub on_ok_from : {T E : Type 0} (result : Result T E) {P Q : Type 0} → (P → Q) → OnOk result P → OnOk result Q
on_ok_from (Ok value) step holds = step holds
on_ok_from (Err fault) step holds = tt

-- what holds of the error that a result is holds of it
pub on_err : {T E : Type 0} (result : Result T E) (error : E) (P : E → Type 0)
    → IsErrAnd result (λ other. other ≡ error) → P error → IfErr result P
on_err (Ok value) error P is holds = absurd is
on_err (Err other) error P is holds = subst P (sym is) holds

-- what holds of the error that a result is holds where it is matched
pub err_so : {T E : Type 0} (result : Result T E) (error : E) (P : T → Type 0) (Q : E → Type 0)
    → IsErrAnd result (λ other. other ≡ error) → Q error → MatchResult result P Q
err_so (Ok value) error P Q is holds = absurd is
err_so (Err other) error P Q is holds = subst Q (sym is) holds

-- a fault of writing is none of reading
pub no_reading : {T : Type 0} (result : Result T Fault) (P : Type 0) → IfErr result IsOfWriting
    → IfErr result (λ fault. IsOfReading fault → P)
no_reading (Ok value) P writing = tt
no_reading (Err faults.Usage) P writing = λ reading. absurd reading
no_reading (Err faults.Read) P writing = λ reading. absurd writing
no_reading (Err faults.Write) P writing = λ reading. absurd reading
no_reading (Err faults.NoMemory) P writing = λ reading. absurd reading
no_reading (Err (faults.Plan item)) P writing = λ reading. absurd reading
no_reading (Err faults.Hall) P writing = λ reading. absurd reading
no_reading (Err faults.InputTooLong) P writing = λ reading. absurd writing
