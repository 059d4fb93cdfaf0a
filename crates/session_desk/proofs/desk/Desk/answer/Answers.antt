use Rattle.std.proofs.Common.{refl, inl, inr}
use Rattle.std.specs.Prelude.{vec_len}
use Rattle.floor_text.specs.declared.refusal.Refusal.TheVariants.{Syntax}
use Rattle.session_lines.specs.declared.meaning.Meaning.TheVariants as meanings
use Rattle.session_lines.specs.declared.reply.Reply.TheVariants as replies
use Rattle.session_desk.proofs.Carried.{answered-still}
use Rattle.session_desk.proofs.desk.Desk.answer.Goals as goal

pub returns-in-Quit : goal.returns-in-Quit
returns-in-Quit g c =
    elim c.in-Quit.is [
      | inl quit ↦
          rw quit (answered-still (vec_len c.args.docks.now) c.args.self meanings.Quit replies.Ok (λ table. refl)
          record { same = refl; none = refl })
      | inr hello ↦
          rw hello.1 (answered-still (vec_len c.args.docks.now) c.args.self (meanings.Hello hello.0) replies.Ok
          (λ table. refl) record { same = refl; none = refl })
    ]

pub returns-in-Stranger : goal.returns-in-Stranger
returns-in-Stranger g c =
    rw c.in-Stranger.is
    (answered-still (vec_len c.args.docks.now) c.args.self meanings.Stranger replies.Who (λ table. refl)
    record { same = refl; none = refl })

pub returns-in-Nonsense : goal.returns-in-Nonsense
returns-in-Nonsense g c =
    rw c.in-Nonsense.is
    (answered-still (vec_len c.args.docks.now) c.args.self meanings.Nonsense (replies.No Syntax) (λ table. refl)
    record { same = refl; none = refl })
