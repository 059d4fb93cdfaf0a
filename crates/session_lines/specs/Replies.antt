-- The text of replies. This project's own.
use Rattle.std.specs.Prelude.{ℕ, Bool, true, false, List, [], ◌∷◌, ◌++◌, codes}
use Rattle.std.specs.Fmt.{decimal}
use Rattle.floor_text.specs.declared.refusal.Refusal.{Refusal}
use Rattle.floor_text.specs.Refusals.{refusal_number, refusal_name}
use Rattle.session_lines.specs.declared.reply.Reply.{Reply}
use Rattle.session_lines.specs.declared.reply.Reply.TheVariants.{Ok, Who, No, NoOrder, NoMemory}

-- the words of a refusal: `no`, its number and its name
abbrev pub refusal_words : Refusal → List ℕ
refusal_words refusal = codes "no " ++ (decimal (refusal_number refusal) ++ (codes " " ++ refusal_name refusal))

-- the words of a reply
abbrev pub reply_words : Reply → List ℕ
reply_words Ok = codes "ok"
reply_words Who = codes "who"
reply_words (No refusal) = refusal_words refusal
reply_words NoOrder = codes "none"
reply_words NoMemory = codes "memory"

-- what a reply says where its news is behind: nothing where memory ran out for the line itself
abbrev pub behind_words : Reply → Bool → List ℕ
behind_words NoMemory behind = []
behind_words reply true = codes " behind"
behind_words reply false = []

-- The line of a reply, with its line feed.
unfoldable pub reply_line : Reply → Bool → List ℕ
reply_line reply behind = codes "= " ++ (reply_words reply ++ (behind_words reply behind ++ 10 ∷ []))
