-- The lines of a table's history are those of its hands, one after another.
use Rattle.std.proofs.Common.{◌≡◌, ◌∙◌, refl, sym, ap, ℕ, List, [], ◌∷◌, ◌++◌, map, fold, append_assoc, append-nil}
use Rattle.std.specs.Prelude.{Option, Some, None, option_to_list}
use Rattle.std.specs.List.{flat_map}
use Rattle.std.proofs.lemmas.Grind.{flat_map-append}
use Rattle.std.proofs.lemmas.List.{map-append}
use Rattle.table_engine.specs.declared.start.HandStart.{HandStart}
use Rattle.table_engine.specs.declared.record.ActOf.{ActOf}
use Rattle.table_engine.specs.Hands.{HandTerms}
use Rattle.view_rules.specs.declared.entries.TableEntry.{TableEntry}
use Rattle.view_rules.specs.declared.entries.TableEntry.TheVariants.{Opened, Acted, Closed}
use Rattle.view_rules.specs.Entries.{TableTold, begun, entry_lines, with_act}
use Rattle.view_rules.specs.Shown.{Viewer}
use Rattle.view_rules.specs.Spelling.{ViewLine}
use Rattle.dock_rules.specs.Tables.{IsLegalTableHistory, MayComeInTurn, entries_lines, told_through}
use Rattle.dock_rules.specs.Whole.{hands_after, hands_of, hands_played}
use Rattle.dock_rules.proofs.Tables.{lines-push}
use Rattle.session_desk.specs.Telling.{first_teller}

-- who tells of a table on which this hand was told so far, or none
abbrev pub teller : Viewer → ℕ → Option HandTerms → TableTold
teller who table hand = record { table = table; who = who; hand = hand }

-- the acts of a hand, as entries of a table; who made them does not matter to the lines
abbrev pub act_entries : List ActOf → List TableEntry
act_entries acts = map (λ act. Acted 0 act) acts

-- the lines of a hand: those of its opening and of its acts
abbrev pub hand_lines : Viewer → ℕ → HandTerms → List ViewLine
hand_lines who table hand =
    entries_lines (first_teller who table) (Opened hand.start ∷ act_entries hand.acts)

-- the lines of hands, one after another
abbrev pub hands_lines : Viewer → ℕ → List HandTerms → List ViewLine
hands_lines who table hands = flat_map (hand_lines who table) hands

-- The lines of one hand more.
pub hands_lines-push : (who : Viewer) (table : ℕ) (hands : List HandTerms) (hand : HandTerms)
    → hands_lines who table (hands ++ hand ∷ []) ≡ hands_lines who table hands ++ hand_lines who table hand
hands_lines-push who table hands hand =
    flat_map-append (hand_lines who table) hands (hand ∷ [])
    ∙ ap (λ (lines : List ViewLine). hands_lines who table hands ++ lines) (append-nil (hand_lines who table hand))

-- What comes behind some items makes others of them, and what comes behind those makes more.
pub behind-both : {A : Type 0} (before here rest now end : List A) → before ++ here ≡ now → now ++ rest ≡ end
    → before ++ (here ++ rest) ≡ end
behind-both before here rest now end first then =
    sym (append_assoc before here rest) ∙ (ap (λ items. items ++ rest) first ∙ then)

-- Whoever made an act, its lines are the same.
lines-any : (told : TableTold) (caller : ℕ) (act : ActOf)
    → entry_lines told (Acted 0 act) ≡ entry_lines told (Acted caller act)
unfolding entry_lines
lines-any told caller act = refl

-- After acts the hand has them.
told-acts : (who : Viewer) (table : ℕ) (start : HandStart) (front acts : List ActOf)
    → told_through (teller who table (Some (record { start = start; acts = front }))) (act_entries acts)
    ≡ teller who table (Some (record { start = start; acts = front ++ acts }))
told-acts who table start front [] =
    λ i. teller who table (Some (record { start = start; acts = sym (append-nil front) i }))
told-acts who table start front (act ∷ acts) =
    told-acts who table start (front ++ act ∷ []) acts
    ∙ (λ i. teller who table (Some (record { start = start; acts = append_assoc front (act ∷ []) acts i })))

-- The lines of a hand with one act more.
hand_lines-push : (who : Viewer) (table : ℕ) (hand : HandTerms) (caller : ℕ) (act : ActOf)
    → hand_lines who table (with_act act hand)
    ≡ hand_lines who table hand ++ entry_lines (teller who table (Some hand)) (Acted caller act)
hand_lines-push who table hand caller act =
    let entries : List TableEntry = Opened hand.start ∷ act_entries hand.acts in
    ap (λ (more : List TableEntry). entries_lines (first_teller who table) (Opened hand.start ∷ more))
    (map-append (λ (act : ActOf). Acted 0 act) hand.acts (act ∷ []))
    ∙ (lines-push (first_teller who table) entries (Acted 0 act)
    ∙ ((λ i. hand_lines who table hand ++ entry_lines (told-acts who table hand.start [] hand.acts i) (Acted 0 act))
    ∙ ap (λ (lines : List ViewLine). hand_lines who table hand ++ lines)
    (lines-any (teller who table (Some hand)) caller act)))

-- A hand that is opened has the lines of its opening.
opened-lines : (who : Viewer) (table : ℕ) (closed : List HandTerms) (start : HandStart)
    → hands_lines who table (closed ++ []) ++ entry_lines (first_teller who table) (Opened start)
    ≡ hands_lines who table (closed ++ begun start ∷ [])
opened-lines who table closed start =
    (λ i. hands_lines who table (append-nil closed i)
    ++ sym (append-nil (entry_lines (first_teller who table) (Opened start))) i)
    ∙ sym (hands_lines-push who table closed (begun start))

-- One in which an act is made has the lines of the act behind.
acted-lines : (who : Viewer) (table : ℕ) (closed : List HandTerms) (hand : HandTerms) (caller : ℕ) (act : ActOf)
    → hands_lines who table (closed ++ hand ∷ []) ++ entry_lines (teller who table (Some hand)) (Acted caller act)
    ≡ hands_lines who table (closed ++ with_act act hand ∷ [])
acted-lines who table closed hand caller act =
    let more : List ViewLine = entry_lines (teller who table (Some hand)) (Acted caller act) in
    ap (λ (lines : List ViewLine). lines ++ more) (hands_lines-push who table closed hand)
    ∙ (append_assoc (hands_lines who table closed) (hand_lines who table hand) more
    ∙ (ap (λ (lines : List ViewLine). hands_lines who table closed ++ lines)
    (sym (hand_lines-push who table hand caller act))
    ∙ sym (hands_lines-push who table closed (with_act act hand))))

-- The end of a hand has no line.
closed-lines : (who : Viewer) (table : ℕ) (closed : List HandTerms) (hand : HandTerms)
    → hands_lines who table (closed ++ hand ∷ []) ++ entry_lines (teller who table (Some hand)) Closed
    ≡ hands_lines who table ((closed ++ hand ∷ []) ++ [])
unfolding entry_lines
closed-lines who table closed hand =
    append-nil (hands_lines who table (closed ++ hand ∷ []))
    ∙ ap (hands_lines who table) (sym (append-nil (closed ++ hand ∷ [])))

-- The lines of entries that may come in turn, behind those of the hands before them.
lines-through : (who : Viewer) (table : ℕ) (closed : List HandTerms) (lying : Option HandTerms)
    (history : List TableEntry) → MayComeInTurn lying history
    → hands_lines who table (closed ++ option_to_list lying) ++ entries_lines (teller who table lying) history
    ≡ hands_lines who table
    (hands_played (fold hands_after (record { closed = closed; lying = lying }) history))
lines-through who table closed lying [] may = append-nil (hands_lines who table (closed ++ option_to_list lying))
lines-through who table closed None (Opened start ∷ history) may =
    behind-both _ _ (entries_lines (teller who table (Some (begun start))) history) _ _
    (opened-lines who table closed start) (lines-through who table closed (Some (begun start)) history may.1)
lines-through who table closed (Some hand) (Acted caller act ∷ history) may =
    behind-both _ _ (entries_lines (teller who table (Some (with_act act hand))) history) _ _
    (acted-lines who table closed hand caller act)
    (lines-through who table closed (Some (with_act act hand)) history may.1)
lines-through who table closed (Some hand) (Closed ∷ history) may =
    behind-both _ _ (entries_lines (first_teller who table) history) _ _ (closed-lines who table closed hand)
    (lines-through who table (closed ++ hand ∷ []) None history may.1)
lines-through who table closed (Some hand) (Opened start ∷ history) may = absurd may.0
lines-through who table closed None (Acted caller act ∷ history) may = absurd may.0
lines-through who table closed None (Closed ∷ history) may = absurd may.0

-- The lines of a legal history are those of its hands.
pub history-lines : (who : Viewer) (table : ℕ) (history : List TableEntry) → IsLegalTableHistory history
    → entries_lines (first_teller who table) history ≡ hands_lines who table (hands_played (hands_of history))
unfolding IsLegalTableHistory hands_of
history-lines who table history legal = lines-through who table [] None history legal
