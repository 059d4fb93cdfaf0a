-- How long the words of a reply are at most.
use Rattle.std.proofs.Common.{◌<◌, ◌≤◌, ◌^◌, Bool, true, false, length, length-append, lit<, lit≤, arith}
use Rattle.std.proofs.lemmas.Fmt.{length-decimal-le}
use Rattle.floor_text.specs.declared.refusal.Refusal.{Refusal}
use Rattle.floor_text.specs.declared.refusal.Refusal.TheVariants.{Syntax}
use Rattle.floor_text.specs.Refusals.{refusal_number, refusal_name}
use Rattle.session_lines.specs.declared.reply.Reply.{Reply}
use Rattle.session_lines.specs.declared.reply.Reply.TheVariants.{No, NoMemory}
use Rattle.session_lines.specs.Replies.{refusal_words, reply_words, behind_words}

-- a refusal's number has two digits at most
number_fits : (refusal : Refusal) → refusal_number refusal < 10 ^ 2
number_fits Syntax = lit< tt
number_fits _ = lit< tt

-- its name has at most 16 bytes
name_fits : (refusal : Refusal) → length (refusal_name refusal) ≤ 16
name_fits Syntax = lit≤ tt
name_fits _ = lit≤ tt

-- its words have at most 22
refusal_fits : (refusal : Refusal) → length (refusal_words refusal) ≤ 22
refusal_fits refusal =
    let small = number_fits refusal in
    let name = name_fits refusal in
    let digits = length-decimal-le 2 (refusal_number refusal) (lit< tt) small (omega arith) in
    simp length-append (omega arith)

-- those of any reply have as many
pub words_fit : (reply : Reply) → length (reply_words reply) ≤ 22
words_fit (No refusal) = refusal_fits refusal
words_fit _ = lit≤ tt

-- what is said of news that is behind has at most 7
pub behind_fit : (reply : Reply) (behind : Bool) → length (behind_words reply behind) ≤ 7
behind_fit NoMemory behind = lit≤ tt
behind_fit _ true = lit≤ tt
behind_fit _ false = lit≤ tt
