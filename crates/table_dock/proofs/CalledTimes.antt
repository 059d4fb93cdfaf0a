-- What a called time does.
use Rattle.std.proofs.Common.{◌≡◌, ◌∙◌, ℕ, List, [], ◌∷◌, ◌++◌, true, Option, Some, None, refl, ap, sym, subst}
use Rattle.std.specs.Prelude.{if◌then◌else◌, nat_lt, option_map, unwrap_or}
use Rattle.betting_round.specs.declared.act.Act.{Act}
use Rattle.betting_round.specs.declared.act.Act.TheVariants.{Check, Fold}
use Rattle.betting_round.specs.declared.facing.Facing.{Facing}
use Rattle.betting_round.specs.ActChecks.{facing_in}
use Rattle.table_engine.specs.declared.record.ActOf.{ActOf}
use Rattle.table_engine.specs.Acts.{time_act}
use Rattle.table_engine.specs.Hands.{HandTerms, due_in_hand, due_name, street_of}
use Rattle.table_engine.specs.Plays.{IsLawfulPlay}
use Rattle.table_engine.proofs.Plays.{lawful_play-each}
use Rattle.view_rules.specs.declared.entries.TableEntry.{TableEntry}
use Rattle.view_rules.specs.declared.entries.TableEntry.TheVariants.{Acted}
use Rattle.view_rules.specs.Entries.{IsLawfulAct, with_act}
use Rattle.dock_rules.specs.Tables.{IsSoundTable, lying_hand}
use Rattle.dock_rules.proofs.Tables.{sound-push}

-- what the player who is due faces
faced : (facing_at : ℕ → Facing) (due : Option ℕ) (facing : Facing) → option_map facing_at due ≡ Some facing
    → facing_at (unwrap_or due 0) ≡ facing
faced facing_at None facing is = absurd cc
faced facing_at (Some seat) facing is = cc

-- The act that a called time makes is of the player who is due, by what he faces.
pub called : (hand : HandTerms) (name : List ℕ) (facing : Facing) (act : Act) → due_name hand ≡ Some name
    → option_map (facing_in (street_of hand)) (due_in_hand hand) ≡ Some facing
    → act ≡ (if nat_lt facing.put facing.level then Fold else Check)
    → ◌≡◌ {A = ActOf} (record { name = name; act = act; by_time = true }) (time_act hand)
unfolding time_act
called hand name facing act named faces is =
    let at = faced (facing_in (street_of hand)) (due_in_hand hand) facing faces in λ i. record {
      name = ap (λ (found : Option (List ℕ)). unwrap_or found []) (sym named) i;
      act = (is ∙ ap (λ (found : Facing). if nat_lt found.put found.level then Fold else Check) (sym at)) i;
      by_time = true;
    }

-- An act that makes a lawful play of a hand is lawful there, where it came by no called time or is the one that a called
-- time makes.
lawful-made : (hand after : HandTerms) (act : ActOf) → after ≡ with_act act hand → IsLawfulPlay after
    → (act.by_time ≡ true → act ≡ time_act hand) → IsLawfulAct hand act
lawful-made hand after act is play timed =
    record { free = lawful_play-each (with_act act hand) hand.acts act [] (subst IsLawfulPlay is play) refl; timed = timed }

-- What an act leaves that was made in the hand that lies there.
pub made-push : (history : List TableEntry) (hand after : HandTerms) (caller : ℕ) (act : ActOf)
    (longer : List TableEntry)
    → IsSoundTable history → lying_hand history ≡ Some hand → after ≡ with_act act hand → IsLawfulPlay after
    → (act.by_time ≡ true → act ≡ time_act hand) → longer ≡ history ++ Acted caller act ∷ []
    → IsSoundTable longer × (lying_hand longer ≡ Some after)
made-push history hand after caller act longer sound told is play timed longer_is =
    let pushed = sound-push history (Some hand) (Acted caller act) longer sound told
    (lawful-made hand after act is play timed) longer_is in
    (pushed.0, pushed.1 ∙ ap (λ (found : HandTerms). Some found) (sym is))
