use Rattle.std.proofs.Common.{◌≡◌, ◌∷◌, [], ◌++◌, rules, arith, refl}
use Rattle.std.proofs.lemmas.List.{length-append}
use Rattle.place_list.specs.declared.bust.Bust.{Bust}
use Rattle.place_list.proofs.BustRows.{distinct-more}
use Rattle.place_list.proofs.place_list.PlaceList.bust.Goals as goal

pub invariant_of-self : goal.invariant_of-self
invariant_of-self c =
    let bust : Bust = record { player = c.args.player; stack = c.args.stack; group = c.args.group } in
    let items : c.push.new.self.items ≡ c.self.inside.busts.items ++ bust ∷ [] = search rules in
    let room = rw (← c.self.view_is) at c.requires.room in
    let once = rw (← c.self.view_is) at c.requires.once in
    let size = length-append c.self.inside.busts.items (bust ∷ []) in (
      omega (arith, c.push.ensures.capacity, c.self.invariant.0),
      rw items (omega (arith, size, room)),
      rw items (distinct-more c.args.player bust c.self.inside.busts.items refl once c.self.invariant.2),
    )
