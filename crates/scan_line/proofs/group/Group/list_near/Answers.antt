use Rattle.std.proofs.{Common.{◌≡◌, ℕ, List, ap, subst, sym, arith}, lemmas.{Int.ints, List.Elements.All-same}}
use Rattle.std.specs.List.{All}
use Rattle.scan_line.specs.{declared.level.Level.Level, Levels.IsLevelOf, Lanes.IsListNear}
use Rattle.scan_line.proofs.NearAcross.{order_near, lane_near}
use Rattle.sym_items.specs.Sides.{Sides}
use Rattle.pair_rules.specs.{Bound.item_at, Candidates.sides_at}
use Rattle.scan_line.proofs.group.Group.list_near.Goals as goal

pub returns-in-Some : goal.returns-in-Some
returns-in-Some c =
    let group = c.args.self.now in
    let item = item_at c.args.items.now c.args.j in
    let b : Sides = sides_at c.args.axis c.args.coords.now item in
    let bottom : c.box_along.result.y.lo ≡ b.bottom = ap (λ (s : Sides). s.bottom) c.box_along.ensures.sides in
    let top : c.box_along.result.y.hi ≡ b.top = ap (λ (s : Sides). s.top) c.box_along.ensures.sides in
    let placed = c.box_along.ensures.placed in
    let P : Level → Type 0 = IsLevelOf c.args.axis c.args.coords.now c.args.items.now group.order.items in
    let levels : All P c.deref-level-items.result.now =
    All-same P c.deref-level-items.result.now group.levels.items c.deref-level-items.ensures.value
    c.requires.group.levels in
    let made : P c.level-item.result =
    subst P (sym c.level-item.is) (levels c.loop-level.level-index c.level-item.result c.loop-level-test.true) in
    lane_near c.args.axis c.args.coords.now c.args.items.now item.class group c.level-item.result b c.args.reach _ _
    c.in-Some.list.now c.requires.group made c.in-Some.ensures
    (omega (arith, ints, bottom, placed.1, c.requires.reach))
    (omega (arith, ints, top, placed.1, c.requires.reach))

pub returns : goal.returns
returns c =
    let item = item_at c.args.items.now c.args.j in
    let b : Sides = sides_at c.args.axis c.args.coords.now item in
    let near = order_near c.args.axis c.args.coords.now c.args.items.now item.class c.args.self.now b c.args.reach
    c.requires.group in
    subst (λ (list : List ℕ). IsListNear c.args.axis c.args.coords.now c.args.items.now item.class b c.args.reach
    list) (sym c.deref.ensures.value) near
