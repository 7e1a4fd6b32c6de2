use Rattle.std.proofs.Common.{◌≡◌, ◌*◌, ◌%◌, ◌^◌, ◌-◌, ℕ, arith}
use Rattle.std.proofs.lemmas.{Nat.one_shl, List.Elements.{All-push, All-same}}
use Rattle.bar_tree.specs.Trees.{IsLevelOver}
use Rattle.bar_tree.proofs.Levels.{few_more}
use Rattle.bar_tree.proofs.tree.Tree.new.Goals as goal

pub loop-shift-preserved : goal.loop-shift-preserved
loop-shift-preserved c =
    let s : ℕ = c.loop-shift.shift in
    let whole : (1 * 2 ^ (s - 3)) % 2 ^ 64 ≡ 2 ^ (s - 3) =
    one_shl (s - 3) 64 (omega (arith, c.loop-shift.invariant.few)) in
    record {
      least = omega (arith, c.loop-shift.invariant.least);
      few = few_more s c.args.places c.requires.few (omega (arith, whole, c.loop-shift-test.true));
      levels = All-same (IsLevelOver c.args.places) _ _ c.in_ok-push.ensures.items
          (All-push (IsLevelOver c.args.places) c.loop-shift.levels.items c.in_ok-over.field-0
          c.loop-shift.invariant.levels c.in_ok-over.ensures);
    }
