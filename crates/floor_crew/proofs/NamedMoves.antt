-- The balances and breaks that lines ask for by their names.
use Rattle.std.proofs.Common.{◌≡◌, refl, ap, ℕ, ◌+◌, ◌≤◌, Bool, true, false, List, [], ◌∷◌, ◌++◌, Option, Some, None, arith}
use Rattle.std.specs.Prelude.{codes, option_map, option_to_list, if◌then◌else◌}
use Rattle.std.specs.Option.{option_map_or}
use Rattle.std.specs.Str.{bytes_eq}
use Rattle.plan_files.specs.Words.{WordTerms}
use Rattle.dock_rules.specs.declared.asks.Ask.TheVariants as asks
use Rattle.session_lines.specs.declared.hello.Speaker.{Speaker}
use Rattle.session_lines.specs.declared.hello.Speaker.TheVariants.{Floor, Player}
use Rattle.session_lines.specs.declared.meaning.Meaning.{Meaning}
use Rattle.session_lines.specs.declared.meaning.Meaning.TheVariants as meanings
use Rattle.session_lines.specs.declared.request.Request.{Request}
use Rattle.session_lines.specs.declared.request.Request.TheVariants as requests
use Rattle.session_lines.specs.Hellos.{hello_of}
use Rattle.session_lines.specs.Meanings.{meaning_of}
use Rattle.session_lines.specs.Requests.{request_of}
use Rattle.session_desk.specs.Exchanges.{Answered, Exchange, line_answered}
use Rattle.session_desk.specs.Standings.{Standing, is_quit, meaning_said, speaker_after, standing_after}
use Rattle.session_desk.specs.Talks.{AreGoingFrom, lines_in, sum_from}
use Rattle.floor_crew.specs.Asks.{asks_from, said_by}
use Rattle.floor_crew.specs.Wishes.{Wish, is_move_asked, is_move_wished}
use Rattle.floor_crew.proofs.AskedFor.{said_weight}
use Rattle.floor_crew.proofs.Speakers.{IsOwn, own-request}
use Rattle.floor_crew.proofs.UnowedMoves.{is_named, named_of}
use Rattle.floor_crew.proofs.Weights.{one_if, weigh, weigh-append, weight_of}

-- one where a wish is for a balance or a break by its name
abbrev pub move_wished : Wish → ℕ
move_wished wish = one_if (is_move_wished wish)

-- Who asks for a balance or a break by its name wishes for it.
named-own : (who : Speaker) (request : Request) → IsOwn who request
    → one_if (is_named (Some (meanings.Asks request))) ≤ one_if (is_move_asked who request)
named-own who (requests.Watch table) own = omega arith
named-own who (requests.Act table name act) own = omega arith
named-own who (requests.Time table) own = omega arith
named-own (Player name) (requests.Order ask) own = absurd own
named-own Floor (requests.Order (asks.Enter name table seat)) own = omega arith
named-own Floor (requests.Order (asks.Reenter name table seat)) own = omega arith
named-own Floor (requests.Order (asks.Balance from to)) own = omega arith
named-own Floor (requests.Order (asks.Break table)) own = omega arith
named-own Floor (requests.Order asks.Level) own = omega arith
named-own Floor (requests.Order (asks.Race table)) own = omega arith
named-own Floor (requests.Order (asks.Hands on)) own = omega arith
named-own Floor (requests.Order asks.Round) own = omega arith
named-own Floor (requests.Order asks.Stop) own = omega arith
named-own Floor (requests.Order asks.NextOrder) own = omega arith

hello-named : (quits : Bool) (found : Option Speaker)
    → one_if (is_named (Some (if quits then meanings.Quit else option_map_or meanings.Hello found meanings.Stranger)))
    ≡ 0
hello-named true found = refl
hello-named false None = refl
hello-named false (Some speaker) = refl

asks-named : (who : Speaker) (quits : Bool) (found : Option Request)
    → ((request : Request) → found ≡ Some request → IsOwn who request)
    → one_if (is_named (Some (if quits then meanings.Quit else option_map_or meanings.Asks found meanings.Nonsense)))
    ≤ weight_of move_wished (option_map (λ (what : Request). record { who = who; what = what }) found)
asks-named who true found own = omega arith
asks-named who false None own = omega arith
asks-named who false (Some request) own = named-own who request (own request refl)

-- A line that asks for one says so.
line-named : (words : WordTerms) (speaker : Option Speaker) (line : Option (List ℕ))
    → one_if (is_named (Some (meaning_of words speaker line)))
    ≤ weigh (said_weight move_wished) (said_by speaker line)
unfolding meaning_of
line-named words None None = omega arith
line-named words None (Some line) =
    let none = hello-named (bytes_eq line (codes "quit")) (hello_of words line) in omega (arith, none)
line-named words (Some who) None = omega arith
line-named words (Some who) (Some line) =
    let most = asks-named who (bytes_eq line (codes "quit")) (request_of who line)
    (λ request h. own-request who line request h) in
    omega (arith, most)

quit-named : (meaning : Meaning) → is_quit (Some meaning) ≡ true → one_if (is_named (Some meaning)) ≡ 0
quit-named meanings.Quit quits = refl
quit-named meaning quits = absurd cc

exchange-named : (words : WordTerms) (speaker : Option Speaker) (answered : Option Answered)
    (rest : List (Option (List ℕ))) → is_quit (meaning_said words speaker answered) ≡ false
    → one_if (is_named (meaning_said words speaker answered))
    + weigh (said_weight move_wished)
    (asks_from words (speaker_after (meaning_said words speaker answered) speaker) rest)
    ≤ weigh (said_weight move_wished) (asks_from words speaker (line_answered answered ++ rest))
exchange-named words speaker None rest going = omega arith
exchange-named words speaker (Some answered) rest going =
    let meaning = meaning_of words speaker answered.line in
    let later = asks_from words (speaker_after (Some meaning) speaker) rest in
    let same : weigh (said_weight move_wished) (asks_from words speaker (answered.line ∷ rest))
    ≡ weigh (said_weight move_wished) (said_by speaker answered.line ++ later) =
    ap (λ (quits : Bool).
    weigh (said_weight move_wished) (if quits then [] else said_by speaker answered.line ++ later)) going in
    let parts = weigh-append (said_weight move_wished) (said_by speaker answered.line) later in
    let most = line-named words speaker answered.line in
    omega (arith, same, parts, most)

last-named : (words : WordTerms) (speaker : Option Speaker) (answered : Option Answered)
    → one_if (is_named (meaning_said words speaker answered))
    ≤ weigh (said_weight move_wished) (asks_from words speaker (line_answered answered ++ []))
last-named words speaker None = omega arith
last-named words speaker (Some answered) = by_end (is_quit (Some (meaning_of words speaker answered.line))) refl
  where
    by_end : (quits : Bool) → is_quit (Some (meaning_of words speaker answered.line)) ≡ quits
        → one_if (is_named (Some (meaning_of words speaker answered.line)))
        ≤ weigh (said_weight move_wished) (asks_from words speaker (answered.line ∷ []))
    by_end true quits =
        let none = quit-named (meaning_of words speaker answered.line) quits in omega (arith, none)
    by_end false going =
        let most = exchange-named words speaker (Some answered) [] going in omega (arith, most)

-- As many lines of a session ask for one as it says.
pub log-named : (words : WordTerms) (count : ℕ) (standing : Standing) (log : List Exchange) (last : Option Exchange)
    → AreGoingFrom words count standing log
    → sum_from words count (named_of words) standing (log ++ option_to_list last)
    ≤ weigh (said_weight move_wished) (asks_from words standing.speaker (lines_in (log ++ option_to_list last)))
log-named words count standing [] None going = omega arith
log-named words count standing [] (Some last) going =
    let most = last-named words standing.speaker last.answered in omega (arith, most)
log-named words count standing (said ∷ log) last going =
    let later = log-named words count (standing_after words count standing said) log last going.1 in
    let most = exchange-named words standing.speaker said.answered (lines_in (log ++ option_to_list last)) going.0 in
    omega (arith, later, most)
