use Rattle.std.proofs.Common.{◌+◌, Bool, false, true, Contains, sym, subst, take}
use Rattle.net_extract.specs.Nearby.{AreFound, query_of}
use Rattle.net_extract.proofs.Nearby.{found_some, found_tree, taken_from}
use Rattle.net_extract.proofs.over.find_near.Goals as goal

pub returns-then-not-branch : goal.returns-then-not-branch
returns-then-not-branch c =
    let trees = c.args.trees.now in
    let i = c.loop-parts.parts-index in
    let lt = c.loop-parts-test.true in
    let F : Bool → Type 0 = λ all. AreFound (Contains c.parts-item.result.now.entries.items) (query_of c.args.near.now) all
    c.loop-parts.found.items c.find_on.new.found.items in
    found_some trees (take (i + 1) trees) (query_of c.args.near.now) c.args.found.now.items c.find_on.new.found.items
    (λ t h. taken_from trees (i + 1) t h)
    (found_tree trees i (query_of c.args.near.now) false c.args.found.now.items c.loop-parts.found.items
    c.find_on.new.found.items c.parts-item.result lt (sym c.parts-item.is) c.loop-parts.invariant
    (subst F c.if-not-branch.true c.in_ok-find_on.ensures))

pub loop-parts-preserved : goal.loop-parts-preserved
loop-parts-preserved c =
    let F : Bool → Type 0 = λ all. AreFound (Contains c.parts-item.result.now.entries.items) (query_of c.args.near.now) all
    c.loop-parts.found.items c.find_on.new.found.items in
    found_tree c.args.trees.now c.loop-parts.parts-index (query_of c.args.near.now) true c.args.found.now.items
    c.loop-parts.found.items c.find_on.new.found.items c.parts-item.result c.loop-parts-test.true (sym c.parts-item.is)
    c.loop-parts.invariant (subst F c.if-not-branch.false c.in_ok-find_on.ensures)
