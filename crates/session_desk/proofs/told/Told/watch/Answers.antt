use Rattle.std.proofs.Common.{◌≡◌, ◌∙◌, true, false, refl, ℕ, ◌<◌, Some, None, Option, length, subst, sym, ap, arith}
use Rattle.std.specs.Prelude.{is_some, slice_get, vec_len}
use Rattle.std.proofs.lemmas.Option.{slice_get_read}
use Rattle.level_plan.specs.Items.{is_between}
use Rattle.view_rules.specs.Entries.{TableTold}
use Rattle.view_rules.specs.Shown.{Viewer}
use Rattle.session_desk.specs.declared.told.Watch.{Watch}
use Rattle.session_desk.specs.Telling.{reach_of, viewer_of}
use Rattle.session_desk.proofs.Carried.{number-at}
use Rattle.session_desk.proofs.Watching.{watched-new}
use Rattle.session_desk.proofs.told.Told.watch.Goals as goal

-- what is not there is none
none-of : (o : Option Watch) → is_some o ≡ false → o ≡ None
none-of None is = refl
none-of (Some watch) is = absurd (cc (is))

pub returns : goal.returns
returns c =
    let told = c.args.self.now in
    let there : is_between 1 (vec_len c.args.docks.now) c.args.table ≡ true =
    subst (λ (n : ℕ). is_between 1 n c.args.table ≡ true) c.len.ensures c.in-Some.ensures.between in
    let within : c.in-Some.index < length c.args.docks.now.items =
    omega (arith, c.in-Some.ensures.some.0, c.len.ensures, c.args.docks.now.ok.0) in
    let kept : c.in-Some.index < length told.watches.items =
    omega (arith, within, c.requires.count, c.args.docks.now.ok.0, told.watches.ok.0) in
    let number : c.table.result ≡ c.args.table =
    c.table.ensures ∙ (number-at c.args.docks.now.items c.in-Some.index c.index-2.result.now c.requires.docks
    within c.index-2.ensures
    ∙ sym c.in-Some.ensures.some.1) in
    let found : slice_get told.watches.items c.in-Some.index ≡ Some c.index.result.now =
    slice_get_read told.watches.items (length told.watches.items) c.in-Some.index c.index.result.now refl kept
    c.index.ensures in
    let free : c.index.result.now ≡ None = none-of c.index.result.now (sym c.is_some.ensures ∙ c.if-is_some.false) in
    let teller : TableTold → Watch = λ (t : TableTold). record { told = 0; teller = t } in
    let teller_is : c.new.result ≡ record { table = c.args.table; who = viewer_of told.speaker; hand = None } =
    c.new.ensures
    ∙ (ap (λ (t : ℕ). let r : TableTold = record { table = t; who = c.viewer_of-who.result; hand = None } in r) number
    ∙ ap (λ (w : Viewer). let r : TableTold = record { table = c.args.table; who = w; hand = None } in r)
    c.viewer_of-who.ensures) in
    watched-new (reach_of told) (vec_len c.args.docks.now) c.args.table c.in-Some.index (teller c.new.result) there
    c.in-Some.ensures.some.1 (found ∙ ap (λ (o : Option Watch). Some o) free) (ap teller teller_is)
