-- How far a session has come: who speaks, and which tables are watched. This project's own.
use Rattle.std.specs.Prelude.{ℕ, Bool, true, false, ◌&&◌, ◌||◌, ◌==◌, List, fold, Option, Some, None, option_map}
use Rattle.level_plan.specs.Items.{is_between}
use Rattle.plan_files.specs.Words.{WordTerms}
use Rattle.session_lines.specs.declared.hello.Speaker.{Speaker}
use Rattle.session_lines.specs.declared.meaning.Meaning.{Meaning}
use Rattle.session_lines.specs.declared.meaning.Meaning.TheVariants.{Hello, Asks, Quit}
use Rattle.session_lines.specs.declared.reply.Reply.{Reply}
use Rattle.session_lines.specs.declared.reply.Reply.TheVariants.{NoMemory}
use Rattle.session_lines.specs.declared.request.Request.TheVariants.{Act, Time, Watch}
use Rattle.session_lines.specs.Meanings.{meaning_of}
use Rattle.session_desk.specs.Exchanges.{Answered, Exchange}

-- Who speaks, nobody before a right hello, and whether each table is watched, by its number.
pub record Standing : Type 0 where
  pub speaker : Option Speaker
  pub watched : ℕ → Bool

-- before anything was said
abbrev pub first_standing : Standing
first_standing = record { speaker = None; watched = λ table. false }

-- what the line of an exchange means, if it has one
abbrev pub meaning_said : WordTerms → Option Speaker → Option Answered → Option Meaning
meaning_said words speaker answered = option_map (λ (a : Answered). meaning_of words speaker a.line) answered

-- whether a line means that the session ends
abbrev pub is_quit : Option Meaning → Bool
is_quit (Some Quit) = true
is_quit meaning = false

-- who speaks behind a line
abbrev pub speaker_after : Option Meaning → Option Speaker → Option Speaker
speaker_after (Some (Hello speaker)) before = Some speaker
speaker_after meaning before = before

-- whether a line asks to be told of a table, of so many
abbrev pub asks_to_watch : ℕ → Option Meaning → ℕ → Bool
asks_to_watch count (Some (Asks (Watch other))) table = is_between 1 count other && (other == table)
asks_to_watch count meaning table = false

-- whether an act or a called time is asked for at a table, of so many
abbrev pub is_asked_at : ℕ → ℕ → Meaning → Bool
is_asked_at count table (Asks (Act other name act)) = is_between 1 count other && (other == table)
is_asked_at count table (Asks (Time other)) = is_between 1 count other && (other == table)
is_asked_at count table meaning = false

-- whether memory ran out for a line
abbrev pub is_memory : Reply → Bool
is_memory NoMemory = true
is_memory reply = false

-- one where it is so, and else none
abbrev pub count_of : Bool → ℕ
count_of true = 1
count_of false = 0

-- the standing behind an exchange
abbrev pub standing_after : WordTerms → ℕ → Standing → Exchange → Standing
standing_after words count standing said =
    let meaning = meaning_said words standing.speaker said.answered in
    record {
      speaker = speaker_after meaning standing.speaker;
      watched = λ table. standing.watched table || asks_to_watch count meaning table;
    }

-- The standing behind all exchanges of a session.
abbrev pub standing_through : WordTerms → ℕ → List Exchange → Standing
standing_through words count log = fold (standing_after words count) first_standing log
