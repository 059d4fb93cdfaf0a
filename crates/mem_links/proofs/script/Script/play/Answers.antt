use Rattle.std.proofs.Common.{◌≡◌, ℕ, List, ◌-◌, ◌<◌, ◌++◌, ◌∙◌, sym, ap, length, get_or, take, drop, min, arith}
use Rattle.std.proofs.lemmas.Grind.{common_steps}
use Rattle.mem_links.specs.declared.say.Say.TheVariants.{Give}
use Rattle.mem_links.specs.Scripts.{place_of, given_by}
use Rattle.mem_links.proofs.PassedOver.{given_on, brings}
use Rattle.mem_links.proofs.script.Script.play.Goals as goal

pub returns-in-Some-Give-clause-given : goal.returns-in-Some-Give-clause-given
returns-in-Some-Give-clause-given c =
    let s = c.pass_over.new.self in let says = s.says.items in let piece = c.in-Some-Give.bytes in
    let room = length c.args.buffer.now in let found = c.in-Some-Give.ensures.lookup.3 in
    let within : s.at < length says = rw (← c.deref.ensures.value) found.0 in
    let is : Give piece ≡ get_or says s.at (Give piece) =
    sym c.in-Some-Give.field-0-is ∙ rw (← c.deref.ensures.value) (found.1 (Give piece)) in
    let count : c.min-n.result ≡ min (length piece.items - s.given) room =
    grind (arith, common_steps, c.min-n.ensures, c.deref-in-Some-Give.ensures.value) in
    given_on s piece c.min-n.result within is
    ∙ ap (λ (before : List ℕ). before ++ take c.min-n.result (drop s.given piece.items)) c.pass_over.ensures.given
    ∙ ap (λ (more : List ℕ). given_by c.args.self.now ++ more)
    (ap (λ (n : ℕ). take n (drop s.given piece.items)) count
    ∙ sym (brings room c.args.put.now (place_of c.args.self.now) s piece c.pass_over.ensures.place within is))

pub returns-in-None-clause-bytes : goal.returns-in-None-clause-bytes
returns-in-None-clause-bytes c = grind (arith, common_steps)

pub returns-in-None-clause-given : goal.returns-in-None-clause-given
returns-in-None-clause-given c = grind (arith, common_steps)

pub returns-in-None-clause-place : goal.returns-in-None-clause-place
returns-in-None-clause-place c = grind (arith, common_steps)

pub returns-in-None-clause-taken : goal.returns-in-None-clause-taken
returns-in-None-clause-taken c = grind (arith, common_steps)

pub returns-in-Some-Finish-clause-bytes : goal.returns-in-Some-Finish-clause-bytes
returns-in-Some-Finish-clause-bytes c = grind (arith, common_steps)

pub returns-in-Some-Finish-clause-given : goal.returns-in-Some-Finish-clause-given
returns-in-Some-Finish-clause-given c = grind (arith, common_steps)

pub returns-in-Some-Finish-clause-place : goal.returns-in-Some-Finish-clause-place
returns-in-Some-Finish-clause-place c = grind (arith, common_steps)

pub returns-in-Some-Finish-clause-taken : goal.returns-in-Some-Finish-clause-taken
returns-in-Some-Finish-clause-taken c = grind (arith, common_steps)

pub returns-in-Some-Give-clause-bytes : goal.returns-in-Some-Give-clause-bytes
returns-in-Some-Give-clause-bytes c = grind (arith, common_steps)

pub returns-in-Some-Give-clause-place : goal.returns-in-Some-Give-clause-place
returns-in-Some-Give-clause-place c = grind (arith, common_steps)

pub returns-in-Some-Give-clause-taken : goal.returns-in-Some-Give-clause-taken
returns-in-Some-Give-clause-taken c = grind (arith, common_steps)

pub returns-in-Some-WaitFor-clause-bytes : goal.returns-in-Some-WaitFor-clause-bytes
returns-in-Some-WaitFor-clause-bytes c = grind (arith, common_steps)

pub returns-in-Some-WaitFor-clause-given : goal.returns-in-Some-WaitFor-clause-given
returns-in-Some-WaitFor-clause-given c = grind (arith, common_steps)

pub returns-in-Some-WaitFor-clause-place : goal.returns-in-Some-WaitFor-clause-place
returns-in-Some-WaitFor-clause-place c = grind (arith, common_steps)

pub returns-in-Some-WaitFor-clause-taken : goal.returns-in-Some-WaitFor-clause-taken
returns-in-Some-WaitFor-clause-taken c = grind (arith, common_steps)
