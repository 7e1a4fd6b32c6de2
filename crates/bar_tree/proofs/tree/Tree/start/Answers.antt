use Rattle.std.proofs.Common.{◌≡◌, ◌≢◌, ◌<◌, ℕ, List, Bool, length, set, true, sym, subst, ◌∙◌, arith}
use Rattle.std.proofs.lemmas.List.{length-set, get_or-set_other, Elements.AllWithin-more_set}
use Rattle.bar_tree.specs.{declared.tree.Level.Level, Trees.IsLevelOf}
use Rattle.bar_tree.proofs.tree.Tree.start.Goals as goal

pub loop-level-preserved : goal.loop-level-preserved
loop-level-preserved c =
    let bars = c.args.bars.now in
    let started : List Bool = c.args.self.now.started.items in
    let levels : List Level = c.loop-level.level-items in
    let i : ℕ = c.loop-level.level-index in
    let new : Level = c.start.new.self in
    let lt : i < length levels = omega arith in
    let same : length (set levels i new) ≡ length levels = length-set levels i new in
    let before = c.loop-level.invariant.left i c.level-item.result (omega arith) lt in
    let after : IsLevelOf bars (set started c.args.place true) new =
    record { over = c.start.ensures.over; covers = c.start.ensures.covers started before.covers } in
    record {
      counted = same ∙ c.loop-level.invariant.counted;
      come = AllWithin-more_set levels i new lt (IsLevelOf bars (set started c.args.place true))
          c.loop-level.invariant.come after;
      left = λ k d le below. let ne : k ≢ i = omega arith in
          subst (IsLevelOf bars started) (sym (get_or-set_other levels i k new d ne))
          (c.loop-level.invariant.left k d (omega arith) (omega (arith, same, below)));
    }
