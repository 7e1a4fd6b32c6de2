use Rattle.std.proofs.Common.{◌≡◌, ℕ, ◌<◌, ◌++◌, ◌∷◌, [], length, get_or, ap, ◌∙◌, arith}
use Rattle.flat_check.proofs.SecondBoxes.{listed_all, listed_cut, listed_more}
use Rattle.flat_check.proofs.listing.list_at.Goals as goal

pub returns-then-len-most : goal.returns-then-len-most
returns-then-len-most c =
    let tech = c.args.flat.now.tech.now in let boxes = c.args.flat.now.boxes.now in
    let full : length c.loop-b.list.items ≡ c.args.most =
    omega (arith, c.len.ensures, c.if-len-most.true, c.loop-b.list.ok.0) in
    listed_cut tech boxes c.args.rule c.args.a c.args.found.now c.requires.partners c.args.most c.loop-b.b-index
    c.loop-b.list.items c.loop-b-test.true c.if-b-a.false full c.loop-b.invariant

pub loop-b-preserved : goal.loop-b-preserved
loop-b-preserved c =
    let tech = c.args.flat.now.tech.now in let boxes = c.args.flat.now.boxes.now in let a = c.args.a in let b =
    get_or c.args.found.now c.loop-b.b-index 0 in let list = c.loop-b.list.items in
    let few = c.loop-b.invariant.few in
    let room : length list < c.args.most = omega (arith, c.len.ensures, c.if-len-most.false, c.loop-b.list.ok.0, few) in
    let is = c.in_ok-push.ensures.items
    ∙ ap (λ (n : ℕ). list ++ record { rule = n; a = a; b = b } ∷ []) c.number.ensures in
    listed_more tech boxes c.args.rule a c.args.found.now c.requires.partners c.args.most c.loop-b.b-index list
    c.push.new.self.items c.loop-b-test.true c.if-b-a.false room is c.loop-b.invariant

pub returns : goal.returns
returns c =
    let tech = c.args.flat.now.tech.now in let boxes = c.args.flat.now.boxes.now in let inv = c.loop-b.invariant in (
      listed_all tech boxes c.args.rule c.args.a c.args.found.now c.requires.partners c.args.most c.loop-b.b-index
          c.loop-b.list.items c.loop-b-test.false inv,
      inv.few,
    )
