-- The hands that were played at a table by a legal history are lawful plays.
use Rattle.std.proofs.Common.{◌≡◌, refl, sym, subst, List, [], ◌∷◌, ◌++◌, fold}
use Rattle.std.specs.Prelude.{Option, Some, None, option_to_list}
use Rattle.std.specs.List.{AllByRecursion}
use Rattle.std.specs.Option.{ForSome}
use Rattle.table_engine.specs.Hands.{HandTerms}
use Rattle.table_engine.specs.Plays.{IsLawfulPlay}
use Rattle.table_engine.proofs.Plays.{lawful_play-more, lawful_play-none}
use Rattle.tournament_rules.proofs.Plays.{some_so}
use Rattle.view_rules.specs.declared.entries.TableEntry.{TableEntry}
use Rattle.view_rules.specs.declared.entries.TableEntry.TheVariants.{Opened, Acted, Closed}
use Rattle.view_rules.specs.Entries.{MayCome, begun, hand_told, with_act}
use Rattle.dock_rules.specs.Tables.{IsLegalTableHistory, MayComeInTurn}
use Rattle.dock_rules.specs.Whole.{TableHands, hands_after, hands_of, hands_played, no_hands}

-- All hands of a list are lawful plays.
abbrev pub AreLawful : List HandTerms → Type 0
AreLawful hands = AllByRecursion IsLawfulPlay hands

-- Two lists of lawful plays are one.
lawful-append : (one other : List HandTerms) → AreLawful one → AreLawful other → AreLawful (one ++ other)
lawful-append [] other front back = back
lawful-append (hand ∷ one) other front back = (front.0, lawful-append one other front.1 back)

-- The hands of a table are lawful plays: those that were closed, and the one that lies there.
record AreHandsLawful (hands : TableHands) : Type 0 where
  closed : AreLawful hands.closed
  lying : ForSome hands.lying IsLawfulPlay

-- The hand that lies there is the one that the history tells.
lying-after : (hands : TableHands) (entry : TableEntry)
    → (hands_after hands entry).lying ≡ hand_told hands.lying entry
lying-after hands (Opened start) = refl
lying-after hands (Acted caller act) = refl
lying-after hands Closed = refl

-- An entry that may come next leaves lawful plays.
lawful-after : (closed : List HandTerms) (lying : Option HandTerms) (entry : TableEntry) → AreLawful closed
    → ForSome lying IsLawfulPlay → MayCome lying entry
    → AreHandsLawful (hands_after (record { closed = closed; lying = lying }) entry)
lawful-after closed None (Opened start) ended lies may =
    record { closed = ended; lying = some_so IsLawfulPlay (begun start) (lawful_play-none start) }
lawful-after closed (Some hand) (Acted caller act) ended lies may = record {
  closed = ended;
  lying = some_so IsLawfulPlay (with_act act hand) (lawful_play-more hand act (lies hand refl) may.free may.timed);
}
lawful-after closed (Some hand) Closed ended lies may = record {
  closed = lawful-append closed (hand ∷ []) ended (lies hand refl, tt);
  lying = λ found is. absurd cc;
}
lawful-after closed (Some hand) (Opened start) ended lies may = absurd may
lawful-after closed None (Acted caller act) ended lies may = absurd may
lawful-after closed None Closed ended lies may = absurd may

-- So do entries that may come in turn.
lawful-through : (hands : TableHands) (history : List TableEntry) → AreHandsLawful hands
    → MayComeInTurn hands.lying history → AreHandsLawful (fold hands_after hands history)
lawful-through hands [] lawful may = lawful
lawful-through hands (entry ∷ history) lawful may =
    lawful-through (hands_after hands entry) history
    (lawful-after hands.closed hands.lying entry lawful.closed lawful.lying may.0)
    (subst (λ (hand : Option HandTerms). MayComeInTurn hand history) (sym (lying-after hands entry)) may.1)

lawful-played : (closed : List HandTerms) (lying : Option HandTerms) → AreLawful closed → ForSome lying IsLawfulPlay
    → AreLawful (closed ++ option_to_list lying)
lawful-played closed None ended lies = lawful-append closed [] ended tt
lawful-played closed (Some hand) ended lies = lawful-append closed (hand ∷ []) ended (lies hand refl, tt)

-- All hands that were opened by a legal history are lawful plays.
pub played-lawful : (history : List TableEntry) → IsLegalTableHistory history
    → AreLawful (hands_played (hands_of history))
unfolding IsLegalTableHistory hands_of
played-lawful history legal =
    let lawful = lawful-through no_hands history (record { closed = tt; lying = λ found is. absurd cc }) legal in
    let hands : TableHands = fold hands_after no_hands history in
    lawful-played hands.closed hands.lying lawful.closed lawful.lying
