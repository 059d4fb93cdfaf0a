use Rattle.std.proofs.Common.{◌≡◌, ◌≤◌, ◌-◌, ◌+◌, ℕ, Bool, List, length, take, IfSome, sym, ap, ◌∙◌, subst, arith, length-take}
use Rattle.std.specs.Prelude.{if◌then◌else◌}
use Rattle.floor_text.specs.Lines.{HasNoFeed}
use Rattle.floor_text.specs.HeldBytes.{Fills}
use Rattle.floor_text.specs.Reading.{Reading}
use Rattle.floor_text.proofs.ReadLines.{HasNoFeed-take, whole_no_feed, kept_reads, filled_reads, filled_none, searched_none}
use Rattle.floor_text.proofs.line_reader.LineReader.take_more.Goals as goal
use Rattle.floor_text.proofs.line_reader.LineReader.take_more.Goals.{then-self-2, else-self-2}

pub returns-in_default-clause-reads : goal.returns-in_default-clause-reads
returns-in_default-clause-reads g c =
    let within : c.args.self.now.taken ≤ c.args.self.now.limit = grind arith in
    let held = ap (λ (r : Reading). r.held) c.self.view_is in
    kept_reads c.args.self.now _ (g.S.Source.left c.args.source.now)
    (g.S.Source.left c.fill.new.source) c.in_default.ensures.left (grind arith)
    (whole_no_feed c.args.self.now within c.requires) (c.in_default.ensures.kept ∙ ap (take 401) held)

pub returns-in_default-clause-no_line : goal.returns-in_default-clause-no_line
returns-in_default-clause-no_line g c =
    let within : c.args.self.now.taken ≤ c.args.self.now.limit = grind arith in
    let held = ap (λ (r : Reading). r.held) c.self.view_is in
    let none = subst HasNoFeed (sym held) (whole_no_feed c.args.self.now within c.requires) in
    HasNoFeed-take _ c.fill.new.self.held
    (subst HasNoFeed (sym c.in_default.ensures.kept) (HasNoFeed-take 401 c.self.inside.bytes.held none))

pub returns-in_default-clause-ahead : goal.returns-in_default-clause-ahead
returns-in_default-clause-ahead g c =
    let taken : c.args.self.now.taken ≡ c.self.inside.limit - c.self.inside.within = grind arith in
    let limit : c.args.self.now.limit ≡ c.self.inside.limit = grind arith in
    let held = ap (λ (r : Reading). length r.held) c.self.view_is in
    let flag : Bool → ℕ = λ b. if b then 1 else 0 in
    let over : flag c.self.inside.over ≡ 0 = ap flag c.if-self.false in
    let kept = ap length c.in_default.ensures.kept in
    omega (arith, length-take 401 c.self.inside.bytes.held)

pub returns-then-taken-self-clause-reads : goal.returns-then-taken-self-clause-reads
returns-then-taken-self-clause-reads g c =
    let within : c.args.self.now.taken ≤ c.args.self.now.limit = grind arith in
    let held = ap (λ (r : Reading). r.held) c.self.view_is in
    let P : List ℕ → Type 0 =
    λ xs. IfSome (g.S.Source.left c.args.source.now)
    (λ bytes. Fills (take 401 xs) bytes (g.S.Source.left c.fill.new.source) c.fill.new.self.held c.if-self-2.ask
    c.in-Ok.taken) in
    filled_reads c.args.self.now _ (g.S.Source.left c.args.source.now)
    (g.S.Source.left c.fill.new.source) c.if-self-2.ask c.in-Ok.taken (subst P held c.in-Ok.ensures.bytes)
    (grind arith) (whole_no_feed c.args.self.now within c.requires)

pub returns-then-taken-self-clause-ahead : goal.returns-then-taken-self-clause-ahead
returns-then-taken-self-clause-ahead g c =
    let taken : c.args.self.now.taken ≡ c.self.inside.limit - c.self.inside.within = grind arith in
    let limit : c.args.self.now.limit ≡ c.self.inside.limit = grind arith in
    let held = ap (λ (r : Reading). length r.held) c.self.view_is in
    let ask : c.if-self-2.ask ≤ c.self.inside.within + 1 =
    elim c.if-self-2.branch [ then-self-2 w ↦ omega arith | else-self-2 w ↦ omega arith ] in
    omega (arith, length-take 401 c.self.inside.bytes.held, c.in-Ok.ensures.count.0, c.in-Ok.ensures.count.1)

pub returns-then-taken-self-clause-searched : goal.returns-then-taken-self-clause-searched
returns-then-taken-self-clause-searched g c =
    let within : c.args.self.now.taken ≤ c.args.self.now.limit = grind arith in
    let held = ap (λ (r : Reading). r.held) c.self.view_is in
    let none = whole_no_feed c.args.self.now within c.requires in
    let kept : HasNoFeed (take 401 c.self.inside.bytes.held) =
    HasNoFeed-take 401 c.self.inside.bytes.held (subst HasNoFeed (sym held) none) in
    searched_none (take 401 c.self.inside.bytes.held) c.fill.new.self.held c.in-Ok.taken kept c.in-Ok.ensures.front
    c.in-Ok.ensures.count.1

pub returns-else-taken-self-clause-reads : goal.returns-else-taken-self-clause-reads
returns-else-taken-self-clause-reads g c =
    let within : c.args.self.now.taken ≤ c.args.self.now.limit = grind arith in
    let held = ap (λ (r : Reading). r.held) c.self.view_is in
    let P : List ℕ → Type 0 =
    λ xs. IfSome (g.S.Source.left c.args.source.now)
    (λ bytes. Fills (take 401 xs) bytes (g.S.Source.left c.fill.new.source) c.fill.new.self.held c.if-self-2.ask
    c.in-Ok.taken) in
    filled_reads c.args.self.now _ (g.S.Source.left c.args.source.now)
    (g.S.Source.left c.fill.new.source) c.if-self-2.ask c.in-Ok.taken (subst P held c.in-Ok.ensures.bytes)
    (grind arith) (whole_no_feed c.args.self.now within c.requires)

pub returns-else-taken-self-clause-ahead : goal.returns-else-taken-self-clause-ahead
returns-else-taken-self-clause-ahead g c =
    let taken : c.args.self.now.taken ≡ c.self.inside.limit - c.self.inside.within = grind arith in
    let limit : c.args.self.now.limit ≡ c.self.inside.limit = grind arith in
    let held = ap (λ (r : Reading). length r.held) c.self.view_is in
    let flag : Bool → ℕ = λ b. if b then 1 else 0 in
    let over : flag c.self.inside.over ≡ 0 = ap flag c.if-self.false in
    let ask : c.if-self-2.ask ≤ c.self.inside.within + 1 =
    elim c.if-self-2.branch [ then-self-2 w ↦ omega arith | else-self-2 w ↦ omega arith ] in
    omega (arith, length-take 401 c.self.inside.bytes.held, c.in-Ok.ensures.count.0, c.in-Ok.ensures.count.1)

pub returns-else-taken-self-clause-searched : goal.returns-else-taken-self-clause-searched
returns-else-taken-self-clause-searched g c =
    let within : c.args.self.now.taken ≤ c.args.self.now.limit = grind arith in
    let held = ap (λ (r : Reading). r.held) c.self.view_is in
    let none = whole_no_feed c.args.self.now within c.requires in
    let kept : HasNoFeed (take 401 c.self.inside.bytes.held) =
    HasNoFeed-take 401 c.self.inside.bytes.held (subst HasNoFeed (sym held) none) in
    searched_none (take 401 c.self.inside.bytes.held) c.fill.new.self.held c.in-Ok.taken kept c.in-Ok.ensures.front
    c.in-Ok.ensures.count.1

pub returns-else-taken-self-clause-source_end : goal.returns-else-taken-self-clause-source_end
returns-else-taken-self-clause-source_end g c =
    λ none. filled_none (take 401 c.self.inside.bytes.held) c.fill.new.self.held (g.S.Source.left c.args.source.now)
    (g.S.Source.left c.fill.new.source) c.if-self-2.ask c.in-Ok.taken c.in-Ok.ensures.bytes (grind arith)
    (grind arith)
