use Rattle.std.proofs.Common.{arith, ◌≡◌, ◌+◌, ◌<◌, ◌≤◌, ◌∙◌, sym, length, get_or}
use Rattle.std.proofs.lemmas.Grind.{common_steps}
use Rattle.std.specs.List.{slice_get}
use Rattle.std.proofs.lemmas.Option.{slice_get_past}
use Rattle.mem_links.proofs.PassedOver.{passes, given_past, next_searched}
use Rattle.mem_links.proofs.script.Script.pass_over.Goals as goal

pub pass-preserved : goal.pass-preserved
pass-preserved c =
    let put = c.args.put.now in let s = c.pass.self in let says = s.says.items in let say = c.in-Some.say.now in
    let within : s.at < length says = rw (← c.deref.ensures.value) c.in-Some.ensures.lookup.3.0 in
    let is : say ≡ get_or says s.at say = rw (← c.deref.ensures.value) c.in-Some.ensures.lookup.1 in
    let over = sym c.is_over.ensures.over ∙ c.if-not-is_over.false in
    record {
      place = passes put says s.at s.given s.waited say within is over ∙ c.pass.invariant.place;
      given = given_past put says s.at s.given s.waited say within is over ∙ c.pass.invariant.given;
      searched = next_searched put (slice_get says (s.at + 1));
    }

pub returns-clause-rests : goal.returns-clause-rests
returns-clause-rests c =
    let s = c.pass.self in
    let past : length s.says.items ≤ s.at = rw (← c.deref.ensures.value) c.in_default.ensures.lookup.3 in
    rw (slice_get_past s.says.items s.at past) tt

pub returns-clause-place : goal.returns-clause-place
returns-clause-place c = grind (arith, common_steps)

pub returns-then-not-is_over-clause-place : goal.returns-then-not-is_over-clause-place
returns-then-not-is_over-clause-place c = grind (arith, common_steps)
