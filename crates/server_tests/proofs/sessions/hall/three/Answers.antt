use Rattle.std.proofs.Common.{◌≡◌, ◌∷◌, ◌++◌, [], List, length, slice_get, option_to_list, ap, ◌∙◌, arith}
use Rattle.std.proofs.Common.{length-append}
use Rattle.history_lock.specs.declared.pass.Pass.{Pass}
use Rattle.server_tests.proofs.sessions.hall.three.Goals as goal

-- a list of three, taken from its end
of-three : {A : Type 0} (xs ys zs ws : List A) (a b c : A) → length xs ≡ 3 → xs ≡ ys ++ c ∷ [] → ys ≡ zs ++ b ∷ []
    → zs ≡ ws ++ a ∷ [] → xs ≡ a ∷ b ∷ c ∷ []
of-three xs ys zs [] a b c len e f g = e ∙ ap (λ l. l ++ c ∷ []) (f ∙ ap (λ l. l ++ b ∷ []) g)
of-three xs ys zs (w ∷ ws) a b c len e f g =
    absurd (let l = ap length e in let m = ap length f in let n = ap length g in
    omega (arith, length-append ys (c ∷ []), length-append zs (b ∷ []), length-append (w ∷ ws) (a ∷ [])))

pub returns : goal.returns
returns g c = λ lock history all.
    let P : Type 0 = Pass g.row.V.Denot g.row.V-Entry.Denot g.V.Grows in
    let third : P = c.unwrap-third.result in let second : P = c.unwrap-second.result in
    let first : P = c.unwrap-first.result in
    let items : c.args.passes.items ≡ first ∷ second ∷ third ∷ [] =
    of-three c.args.passes.items c.pop.new.self.items c.pop-2.new.self.items c.pop-3.new.self.items first second third
    (let n = c.requires in omega (arith, c.args.passes.ok.0))
    (c.pop.ensures.items ∙ ap (λ r. c.pop.new.self.items ++ option_to_list r) c.unwrap-third.ensures)
    (c.pop-2.ensures.items ∙ ap (λ r. c.pop-2.new.self.items ++ option_to_list r) c.unwrap-second.ensures)
    (c.pop-3.ensures.items ∙ ap (λ r. c.pop-3.new.self.items ++ option_to_list r) c.unwrap-first.ensures) in (
      all 0 first (ap (λ l. slice_get l 0) items),
      (all 1 second (ap (λ l. slice_get l 1) items), all 2 third (ap (λ l. slice_get l 2) items)),
    )
