-- The hands that were played at a table are those that were opened there.
use Rattle.std.proofs.Common.{◌≡◌, ◌∙◌, refl, sym, ap, List, [], ◌∷◌, ◌++◌, fold, map, append-nil, append_assoc}
use Rattle.std.specs.Prelude.{Option, None, Some, option_map, option_to_list}
use Rattle.std.proofs.lemmas.List.{map-append}
use Rattle.table_engine.specs.declared.start.HandStart.{HandStart}
use Rattle.table_engine.specs.Hands.{HandTerms}
use Rattle.view_rules.specs.declared.entries.TableEntry.{TableEntry}
use Rattle.view_rules.specs.declared.entries.TableEntry.TheVariants.{Acted, Closed, Opened}
use Rattle.view_rules.specs.Entries.{MayCome, begun, with_act}
use Rattle.dock_rules.specs.Tables.{IsLegalTableHistory, MayComeInTurn, openings}
use Rattle.dock_rules.specs.Whole.{TableHands, hands_after, hands_of, hands_played, no_hands}

-- The hands that were played at a table are those that were opened there.
played-from : (hands : TableHands) (history : List TableEntry) → MayComeInTurn hands.lying history
    → map (λ (hand : HandTerms). hand.start) (hands_played (fold hands_after hands history))
    ≡ map (λ (hand : HandTerms). hand.start) (hands_played hands) ++ openings history
played-from hands [] may = sym (append-nil _)
played-from hands (Opened start ∷ history) may =
    by_lying hands.lying refl may.0 (played-from (hands_after hands (Opened start)) history may.1)
  where
    by_lying : (found : Option HandTerms) → hands.lying ≡ found → MayCome found (Opened start)
        → map (λ (hand : HandTerms). hand.start)
        (hands_played (fold hands_after (hands_after hands (Opened start)) history))
        ≡ map (λ (hand : HandTerms). hand.start) (hands.closed ++ begun start ∷ []) ++ openings history
        → map (λ (hand : HandTerms). hand.start)
        (hands_played (fold hands_after (hands_after hands (Opened start)) history))
        ≡ map (λ (hand : HandTerms). hand.start) (hands_played hands) ++ start ∷ openings history
    by_lying None none comes later =
        later
        ∙ (ap (λ (starts : List HandStart). starts ++ openings history)
        (map-append (λ (hand : HandTerms). hand.start) hands.closed (begun start ∷ []))
        ∙ (append_assoc (map (λ (hand : HandTerms). hand.start) hands.closed) (start ∷ []) (openings history)
        ∙ ap (λ (starts : List HandStart). starts ++ start ∷ openings history)
        (sym (ap (λ (found : Option HandTerms). map (λ (hand : HandTerms). hand.start)
        (hands.closed ++ option_to_list found)) none
        ∙ ap (map (λ (hand : HandTerms). hand.start)) (append-nil hands.closed)))))
    by_lying (Some hand) there comes later = absurd comes
played-from hands (Acted by_ act ∷ history) may =
    played-from (hands_after hands (Acted by_ act)) history may.1
    ∙ ap (λ (starts : List HandStart). starts ++ openings history) (acted hands.lying)
  where
    acted : (found : Option HandTerms)
        → map (λ (hand : HandTerms). hand.start) (hands.closed ++ option_to_list (option_map (with_act act) found))
        ≡ map (λ (hand : HandTerms). hand.start) (hands.closed ++ option_to_list found)
    acted None = refl
    acted (Some hand) =
        map-append (λ (hand : HandTerms). hand.start) hands.closed (with_act act hand ∷ [])
        ∙ sym (map-append (λ (hand : HandTerms). hand.start) hands.closed (hand ∷ []))
played-from hands (Closed ∷ history) may =
    played-from (hands_after hands Closed) history may.1
    ∙ ap (λ (hands : List HandTerms). map (λ (hand : HandTerms). hand.start) hands ++ openings history)
    (append-nil (hands.closed ++ option_to_list hands.lying))

-- So it is of each legal history.
pub played-opened : (history : List TableEntry) → IsLegalTableHistory history
    → openings history ≡ map (λ (hand : HandTerms). hand.start) (hands_played (hands_of history))
unfolding IsLegalTableHistory hands_of
played-opened history legal = sym (played-from no_hands history legal)
