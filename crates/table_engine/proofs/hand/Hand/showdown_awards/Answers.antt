use Rattle.std.proofs.Common.{◌≡◌, ◌∙◌, true, false, ap, arith}
use Rattle.pot_layers.specs.Layers.{is_contested, layers}
use Rattle.pot_layers.specs.Tallies.{Tally, total_told}
use Rattle.table_engine.specs.contracts.hand.Hand.{the_view}
use Rattle.table_engine.specs.Hands.{HandTerms, dead_chips, is_over}
use Rattle.table_engine.specs.Results.{is_won_by_folds, pots_in_hand, puts_in_hand}
use Rattle.table_engine.proofs.Showdowns.{are-pots, is-showdown, live-apart, live-is, showdown-is}
use Rattle.table_engine.proofs.Running.{lawful-unit}
use Rattle.table_engine.proofs.hand.Hand.showdown_awards.Goals as goal

-- The pots of the tally are those of the hand.
cut-pots : (hand : HandTerms) (tally : Tally) → tally ≡ record { puts = puts_in_hand hand; dead = dead_chips hand.start }
    → layers tally.puts tally.dead ≡ pots_in_hand hand
unfolding pots_in_hand
cut-pots hand tally told = ap (λ (t : Tally). layers t.puts t.dead) told

pub pots-requires : goal.pots-requires
pots-requires c =
    let hand = the_view c.self.inside in
    let over : is_over hand ≡ true = rw (← c.self.view_is) at c.requires.over in
    let many : is_won_by_folds hand ≡ false = rw (← c.self.view_is) at c.requires.many in
    let showdown = is-showdown hand c.self.invariant.lawful c.self.invariant.played over many in
    ap (λ (t : Tally). is_contested t.puts) c.self.invariant.told ∙ showdown.contested

pub award-requires : goal.award-requires
award-requires c =
    let hand = the_view c.self.inside in
    let over : is_over hand ≡ true = rw (← c.self.view_is) at c.requires.over in
    let many : is_won_by_folds hand ≡ false = rw (← c.self.view_is) at c.requires.many in
    let lawful = c.self.invariant.lawful in
    let showdown = is-showdown hand lawful c.self.invariant.played over many in
    let live = c.all_live-live.ensures ∙ live-is hand c.self.inside.betting.round c.self.invariant.at.round in
    let cut = c.pots.ensures.pots ∙ cut-pots hand c.self.inside.tally c.self.invariant.told in
    let pots = are-pots hand showdown in
    let told = ap total_told c.self.invariant.told in
    let fits = showdown.fits in
    let all = c.pots.ensures.sum in
    record {
      unit = lawful-unit c.self.inside.start lawful;
      some = lawful.some_seats;
      most = lawful.most_seats;
      button_low = lawful.marks.button.0;
      button_high = lawful.marks.button.1;
      table = rw live showdown.table;
      apart = rw (c.board_of.ensures.board, live) (live-apart hand c.board_of.ensures.deck lawful);
      live = rw (live, cut) pots.own;
      somebody = rw cut pots.somebody;
      units = rw cut pots.units;
      fits = omega arith;
    }

pub returns-clause-awards : goal.returns-clause-awards
returns-clause-awards c =
    let hand = the_view c.self.inside in
    let over : is_over hand ≡ true = rw (← c.self.view_is) at c.requires.over in
    let many : is_won_by_folds hand ≡ false = rw (← c.self.view_is) at c.requires.many in
    let lawful = c.self.invariant.lawful in
    let showdown = is-showdown hand lawful c.self.invariant.played over many in
    let live = c.all_live-live.ensures ∙ live-is hand c.self.inside.betting.round c.self.invariant.at.round in
    let cut = c.pots.ensures.pots ∙ cut-pots hand c.self.inside.tally c.self.invariant.told in
    let is = c.award.ensures.awards ∙ showdown-is hand c.board_of.result c.all_live-live.result c.pots.result
    c.board_of.ensures.board live cut in
    rw (← c.self.view_is) is

pub returns-clause-few : goal.returns-clause-few
returns-clause-few c =
    let hand = the_view c.self.inside in
    let over : is_over hand ≡ true = rw (← c.self.view_is) at c.requires.over in
    let many : is_won_by_folds hand ≡ false = rw (← c.self.view_is) at c.requires.many in
    let lawful = c.self.invariant.lawful in
    let showdown = is-showdown hand lawful c.self.invariant.played over many in
    let live = c.all_live-live.ensures ∙ live-is hand c.self.inside.betting.round c.self.invariant.at.round in
    let cut = c.pots.ensures.pots ∙ cut-pots hand c.self.inside.tally c.self.invariant.told in
    let told = ap total_told c.self.invariant.told in
    let fits = showdown.fits in
    let all = c.pots.ensures.sum in
    let given = c.award.ensures.sum in
    omega arith
