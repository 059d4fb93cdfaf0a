use Rattle.std.proofs.Common.{◌≡◌, ◌∷◌, ◌++◌, [], List, length, slice_get, option_to_list, ap, ◌∙◌, arith, length-append}
use Rattle.history_lock.specs.declared.pass.Pass.{Pass}
use Rattle.dock_tests.proofs.passes.both.Goals as goal

-- a list of two, taken from its end
two : {A : Type 0} (xs ys zs : List A) (a b : A) → length xs ≡ 2 → xs ≡ ys ++ b ∷ [] → ys ≡ zs ++ a ∷ []
    → xs ≡ a ∷ b ∷ []
two xs ys [] a b len e f = e ∙ ap (λ l. l ++ b ∷ []) f
two xs ys (z ∷ zs) a b len e f =
    absurd (let l = ap length e in let m = ap length f in omega (arith, length-append ys (b ∷ []), length-append (z ∷ zs) (a ∷ [])))

pub returns : goal.returns
returns g c = λ lock history all.
    let P : Type 0 = Pass g.row.V.Denot g.row.V-Entry.Denot g.V.Grows in
    let second : P = c.unwrap-second.result in let first : P = c.unwrap-first.result in
    let items : c.args.passes.items ≡ first ∷ second ∷ [] =
    two c.args.passes.items c.pop.new.self.items c.pop-2.new.self.items first second
    (let n = c.requires in omega (arith, c.args.passes.ok.0))
    (c.pop.ensures.items ∙ ap (λ r. c.pop.new.self.items ++ option_to_list r) c.unwrap-second.ensures)
    (c.pop-2.ensures.items ∙ ap (λ r. c.pop-2.new.self.items ++ option_to_list r) c.unwrap-first.ensures) in (
      all 0 first (ap (λ l. slice_get l 0) items),
      all 1 second (ap (λ l. slice_get l 1) items),
    )
