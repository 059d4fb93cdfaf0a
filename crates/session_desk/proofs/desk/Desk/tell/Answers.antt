use Rattle.std.proofs.Common.{◌≡◌, refl, sym, ap, subst, ℕ, ◌+◌, ◌<◌, ◌∙◌, List, None, Some, Option, Bool, length, length-set, set, arith}
use Rattle.std.specs.Prelude.{◌||◌, slice_get, vec_len}
use Rattle.std.proofs.lemmas.Grind.{common_steps}
use Rattle.std.proofs.lemmas.List.{set-get_or}
use Rattle.std.proofs.lemmas.Option.{slice_get_read}
use Rattle.view_rules.specs.Shown.{Viewer}
use Rattle.session_desk.specs.declared.told.Watch.{Watch}
use Rattle.session_desk.specs.Desks.{sights}
use Rattle.session_desk.specs.Telling.{HasToldNews, IsWatch, Reach, reach_of, viewer_of, watch_of}
use Rattle.session_desk.proofs.AllTold.{AreToldTo, told-more, told-none, told-skipped}
use Rattle.session_desk.proofs.Carried.{number-at}
use Rattle.session_desk.proofs.NewsTold.{AllNews, all-news, pass-so-far, watch-others, watch-set, watch-so-far}
use Rattle.session_desk.proofs.Watching.{watch-at}
use Rattle.session_desk.proofs.desk.Desk.tell.Given as given
use Rattle.session_desk.proofs.desk.Desk.tell.Goals as goal

pub loop-index-init : goal.loop-index-init
loop-index-init g c = record {
  told = told-none (viewer_of c.tell_floor-desk.new.told.speaker) c.tell_floor-desk.result.0
      (reach_of c.tell_floor-desk.new.told) c.tell_floor-desk.result.1.behind c.tell_floor-desk.new.out.items;
  stopped = refl;
}

pub tell_table-next-requires-clause-pass : goal.tell_table-next-requires-clause-pass
tell_table-next-requires-clause-pass g c =
    let so_far = c.loop-index.invariant.told in
    let floor = c.tell_floor-desk.ensures.told in
    let within : c.loop-index.index < length c.args.docks.now.items =
    omega (
      arith,
      c.loop-index-test.true,
      c.len-index-end.ensures,
      c.requires.count,
      ap length floor.watches,
      c.args.docks.now.ok.0,
      c.args.told.now.watches.ok.0,
      c.tell_floor-desk.new.told.watches.ok.0,
    ) in
    pass-so-far c.args.docks.now.items c.loop-index.index (viewer_of c.tell_floor-desk.new.told.speaker) c.args.self
    c.tell_floor-desk.result.0 c.loop-index.desk (reach_of c.tell_floor-desk.new.told) (reach_of c.loop-index.told)
    c.tell_floor-desk.result.1.behind c.loop-index.found.behind c.tell_floor-desk.new.out.items c.loop-index.out.items
    c.index.result.now c.requires.desk.passes c.tell_floor-desk.ensures.moved so_far within c.index.ensures

pub tell_table-next-requires-clause-table : goal.tell_table-next-requires-clause-table
tell_table-next-requires-clause-table g c =
    let floor = c.tell_floor-desk.ensures.told in
    let within : c.loop-index.index < length c.args.docks.now.items =
    omega (
      arith,
      c.loop-index-test.true,
      c.len-index-end.ensures,
      c.requires.count,
      ap length floor.watches,
      c.args.docks.now.ok.0,
      c.args.told.now.watches.ok.0,
      c.tell_floor-desk.new.told.watches.ok.0,
    ) in
    number-at c.args.docks.now.items c.loop-index.index c.index.result.now c.requires.docks within c.index.ensures

pub tell_table-next-requires-clause-watch : goal.tell_table-next-requires-clause-watch
tell_table-next-requires-clause-watch g c =
    let so_far = c.loop-index.invariant.told in
    let floor = c.tell_floor-desk.ensures.told in
    let now : Reach = reach_of c.loop-index.told in
    let watch : Option Watch = Some c.in-Some.watch in
    let within : c.loop-index.index < length now.watches =
    omega (
      arith,
      c.loop-index-test.true,
      c.len-index-end.ensures,
      so_far.watches,
      c.tell_floor-desk.new.told.watches.ok.0,
    ) in
    let found : slice_get now.watches c.loop-index.index ≡ Some watch =
    slice_get_read now.watches (length now.watches) c.loop-index.index c.index_mut.result.now refl within
    c.index_mut.ensures.value ∙ ap (λ (w : Option Watch). let o : Option (Option Watch) = Some w in o) c.in-Some.is in (
      viewer_of c.args.told.now.speaker,
      watch-so-far c.loop-index.index (viewer_of c.tell_floor-desk.new.told.speaker) c.args.self
          c.tell_floor-desk.result.0 c.loop-index.desk (reach_of c.args.told.now)
          (reach_of c.tell_floor-desk.new.told) now c.tell_floor-desk.result.1.behind c.loop-index.found.behind
          c.tell_floor-desk.new.out.items c.loop-index.out.items watch c.requires.told c.tell_floor-desk.ensures.moved
          floor.watches so_far (watch-at now c.loop-index.index watch found),
    )

pub loop-index-preserved-in_default : goal.loop-index-preserved-in_default
loop-index-preserved-in_default g c =
    let so_far = c.loop-index.invariant.told in
    let index : ℕ = c.loop-index.index in
    let now : Reach = reach_of c.loop-index.told in
    let watch : Option Watch = c.index_mut.result.now in
    let who : Viewer = viewer_of c.tell_floor-desk.new.told.speaker in
    let within : index < length now.watches =
    omega (
      arith,
      c.loop-index-test.true,
      c.len-index-end.ensures,
      so_far.watches,
      c.tell_floor-desk.new.told.watches.ok.0,
    ) in
    let found : slice_get now.watches index ≡ Some watch =
    slice_get_read now.watches (length now.watches) index watch refl within c.index_mut.ensures.value in
    let none : watch_of now (index + 1) ≡ None = watch-at now index watch found ∙ c.in_default.is in
    let same : set now.watches index watch ≡ now.watches =
    ap (λ (w : Option Watch). set now.watches index w) c.index_mut.ensures.value
    ∙ set-get_or now.watches index watch in
    record {
      told = subst (λ (row : List (Option Watch)). AreToldTo (index + 1) who c.tell_floor-desk.result.0
          c.loop-index.desk (reach_of c.tell_floor-desk.new.told) (record now { watches = row })
          c.tell_floor-desk.result.1.behind c.loop-index.found.behind c.tell_floor-desk.new.out.items
          c.loop-index.out.items) (sym same)
          (told-skipped index who c.tell_floor-desk.result.0 c.loop-index.desk (reach_of c.tell_floor-desk.new.told)
          now c.tell_floor-desk.result.1.behind c.loop-index.found.behind c.tell_floor-desk.new.out.items
          c.loop-index.out.items so_far none);
      stopped = c.loop-index.invariant.stopped;
    }

pub loop-index-preserved : goal.loop-index-preserved
loop-index-preserved g c =
    let so_far = c.loop-index.invariant.told in
    let floor = c.tell_floor-desk.ensures.told in
    let index : ℕ = c.loop-index.index in
    let now : Reach = reach_of c.loop-index.told in
    let before : Watch = c.in-Some.watch in
    let after : Watch = c.tell_table-next.new.watch in
    let who : Viewer = viewer_of c.tell_floor-desk.new.told.speaker in
    let within : index < length now.watches =
    omega (
      arith,
      c.loop-index-test.true,
      c.len-index-end.ensures,
      so_far.watches,
      c.tell_floor-desk.new.told.watches.ok.0,
    ) in
    let found : slice_get now.watches index ≡ Some (Some before) =
    slice_get_read now.watches (length now.watches) index c.index_mut.result.now refl within
    c.index_mut.ensures.value ∙ ap (λ (w : Option Watch). let o : Option (Option Watch) = Some w in o) c.in-Some.is in
    let was : watch_of now (index + 1) ≡ Some before = watch-at now index (Some before) found in
    let stands : IsWatch who (index + 1) ((sights c.loop-index.desk).tables (index + 1)) before =
    subst (λ (v : Viewer). IsWatch v (index + 1) ((sights c.loop-index.desk).tables (index + 1)) before)
    (ap viewer_of (sym floor.speaker))
    (watch-so-far index who c.args.self c.tell_floor-desk.result.0 c.loop-index.desk (reach_of c.args.told.now)
    (reach_of c.tell_floor-desk.new.told) now c.tell_floor-desk.result.1.behind c.loop-index.found.behind
    c.tell_floor-desk.new.out.items c.loop-index.out.items (Some before) c.requires.told
    c.tell_floor-desk.ensures.moved floor.watches so_far was) in
    let joined : (c.loop-index.found.behind || c.tell_table-next.result.1) ≡ c.if-found.found =
    grind (arith, common_steps) in
    record {
      told = subst (λ (behind : Bool). AreToldTo (index + 1) who c.tell_floor-desk.result.0 c.tell_table-next.result.0
          (reach_of c.tell_floor-desk.new.told) (record now { watches = set now.watches index (Some after) })
          c.tell_floor-desk.result.1.behind behind c.tell_floor-desk.new.out.items c.tell_table-next.new.out.items)
          joined
          (told-more index who c.tell_floor-desk.result.0 c.loop-index.desk c.tell_table-next.result.0
          (reach_of c.tell_floor-desk.new.told) now (record now { watches = set now.watches index (Some after) })
          c.tell_floor-desk.result.1.behind c.loop-index.found.behind c.tell_table-next.result.1
          c.tell_floor-desk.new.out.items c.loop-index.out.items c.tell_table-next.new.out.items before after so_far
          c.tell_table-next.ensures.moved c.tell_table-next.ensures.others c.tell_table-next.ensures.told
          (c.tell_table-next.ensures.watch who stands) was (watch-set now index (Some after) within)
          (watch-others now index (Some after)) (length-set now.watches index (Some after)) refl refl);
      stopped = c.loop-index.invariant.stopped;
    }

-- all tables were told of, once the loop is over
counted : (g : given.Over) (c : goal.After-loop-index g)
    → c.loop-index.index ≡ length c.args.told.now.watches.items
counted g c =
    omega (
      arith,
      c.loop-index-test.false,
      c.loop-index.auto.index-end,
      c.len-index-end.ensures,
      ap length c.tell_floor-desk.ensures.told.watches,
      c.tell_floor-desk.new.told.watches.ok.0,
    )

-- and so all news were told
told-all : (g : given.Over) (c : goal.After-loop-index g)
    → AllNews c.loop-index.index (viewer_of c.tell_floor-desk.new.told.speaker) c.args.self c.loop-index.desk
    (reach_of c.args.told.now) (reach_of c.loop-index.told) c.loop-index.found.behind c.args.out.now.items
    c.loop-index.out.items
told-all g c =
    all-news c.loop-index.index (viewer_of c.tell_floor-desk.new.told.speaker) c.args.self
    c.tell_floor-desk.result.0 c.loop-index.desk (reach_of c.args.told.now) (reach_of c.tell_floor-desk.new.told)
    (reach_of c.loop-index.told) c.tell_floor-desk.result.1.behind c.loop-index.found.behind c.args.out.now.items
    c.tell_floor-desk.new.out.items c.loop-index.out.items c.tell_floor-desk.ensures.moved
    c.tell_floor-desk.ensures.told c.loop-index.invariant.told (counted g c)

pub returns-clause-moved : goal.returns-clause-moved
returns-clause-moved g c = (told-all g c).moved

pub returns-clause-told : goal.returns-clause-told
returns-clause-told g c =
    let whole : c.loop-index.index ≡ vec_len c.args.docks.now =
    omega (arith, counted g c, c.requires.count, c.args.told.now.watches.ok.0) in
    subst (λ (n : ℕ). HasToldNews n (sights c.loop-index.desk) (reach_of c.args.told.now) (reach_of c.loop-index.told)
    c.loop-index.found.behind c.args.out.now.items c.loop-index.out.items) whole (told-all g c).told

pub returns-clause-kept : goal.returns-clause-kept
returns-clause-kept g c =
    (told-all g c).kept (ap viewer_of c.tell_floor-desk.ensures.told.speaker) c.requires.told.stranger
