use Rattle.std.proofs.Common.{arith, [], ◌≡◌, ℕ, ◌+◌, ◌<◌, ◌≤◌, Bool, true, List, sym, ◌∙◌, subst}
use Rattle.box_tree.specs.{Queries.Holds, UnvisitedTrees.{IsLeft, IsRunExhausted, entry_in}}
use Rattle.box_tree.proofs.{Within.too_far, Walk.{flag_read, exhausted_barren, walked_past, walked_leaf, walked_into}}
use Rattle.box_tree.proofs.Walk.{walked_all, exhausted_set, run_exhausted_visited}
use Rattle.box_tree.proofs.unvisited_trees.walk.Goals.{then-index, else-index}
use Rattle.box_tree.proofs.unvisited_trees.walk.Goals as goal

pub loop-at-preserved-then-is_far : goal.loop-at-preserved-then-is_far
loop-at-preserved-then-is_far c =
    let parts = c.args.parts.now in
    let query = c.args.query.now in
    let marks = c.args.marks.now in
    let at = c.loop-at.at in
    let group = c.group_of-group.result.now in
    let g = c.group_of-group.ensures in
    let inv = c.loop-at.invariant in
    let n = inv.exhausted.counted in
    let barren : (p : ℕ) → group.start ≤ p → p < group.start + group.count → Holds query (entry_in parts p)
    → IsLeft marks (entry_in parts p).tag → ⊥ = elim c.if-index.branch [
      | then-index w ↦ exhausted_barren parts query marks c.loop-at.exhausted.items at group g inv.exhausted
          (flag_read c.loop-at.exhausted.items at c.index.result.now (omega arith) c.index.ensures w.if-index.true)
      | else-index w ↦
          (let yes : w.is_far.result ≡ true = sym w.value-is ∙ c.if-is_far.true in
          let far = w.is_far.ensures.0 yes in
          λ p low high holds none. too_far query.question query.area group.outer (entry_in parts p) _
          c.reach_of-reach.ensures far (g.bounded p low high).outer holds)
    ] in
    record {
      walked = walked_past parts query marks [] at (at + (1 + group.inside)) group c.loop-at.found.items (omega arith)
          g barren inv.walked;
      exhausted = inv.exhausted;
    }

pub loop-at-preserved-then-group-eq0 : goal.loop-at-preserved-then-group-eq0
loop-at-preserved-then-group-eq0 c =
    let parts = c.args.parts.now in
    let query = c.args.query.now in
    let marks = c.args.marks.now in
    let at = c.loop-at.at in
    let group = c.group_of-group.result.now in
    let g = c.group_of-group.ensures in
    let inv = c.loop-at.invariant in
    record {
      walked = walked_leaf parts query marks [] at group (group.start + group.count) c.loop-at.found.items
          c.look_through.new.found.items g c.if-group-eq0.true (omega arith) c.in_ok-exhausted.ensures.found
          inv.walked;
      exhausted = exhausted_set parts marks c.loop-at.exhausted.items at group c.in_ok-exhausted.field-0 g
          c.in_ok-exhausted.ensures.all inv.exhausted;
    }

pub loop-at-preserved : goal.loop-at-preserved
loop-at-preserved c =
    let parts = c.args.parts.now in
    let query = c.args.query.now in
    let marks = c.args.marks.now in
    let at = c.loop-at.at in
    let group = c.group_of-group.result.now in
    let g = c.group_of-group.ensures in
    let inv = c.loop-at.invariant in
    let R : List Bool → Type 0 = λ xs. IsRunExhausted parts.groups.items xs at in
    record {
      walked = walked_into parts query marks [] at group c.loop-at.found.items g c.if-group-eq0.false inv.walked;
      exhausted = exhausted_set parts marks c.loop-at.exhausted.items at group c.is_exhausted_inside.result g
          (λ t. run_exhausted_visited parts marks c.loop-at.exhausted.items at group g inv.exhausted
          (subst R c.as_slice.ensures.value (c.is_exhausted_inside.ensures t))) inv.exhausted;
    }

pub returns-clause-found : goal.returns-clause-found
returns-clause-found c = walked_all c.args.parts.now c.args.query.now c.args.marks.now [] c.loop-at.at
    c.loop-at.found.items (omega arith) c.loop-at.invariant.walked
