use Rattle.std.proofs.Common.{◌≡◌, ◌<◌, ℕ, length, inl, inr, sym, subst, arith}
use Rattle.std.proofs.lemmas.{Bool.cases_lt, List.get_or_default}
use Rattle.box_tree.specs.{declared.entries.Group.Group, UnvisitedTrees.no_group}
use Rattle.flat_check.{specs.Clear.{group_in}, proofs.Clear.{IsRunClear, is_group_in, read}}
use Rattle.flat_check.proofs.pairs.are_runs_clear.Goals.{else-group-eq0-via-then-group-eq0+else-not-is_run_clear}
use Rattle.flat_check.proofs.pairs.are_runs_clear.Goals.{else-group-eq0-via-else-group-eq0}
use Rattle.flat_check.proofs.pairs.are_runs_clear.Goals as goal

pub is_run_clear-requires-clause-group : goal.is_run_clear-requires-clause-group
is_run_clear-requires-clause-group c =
    is_group_in c.args.own.now c.loop-at.at c.index-own-at.result c.requires.own
    (omega (arith, c.loop-at-test.true, c.requires.within))

pub loop-at-preserved : goal.loop-at-preserved
loop-at-preserved c =
    let own = c.args.own.now in let at = c.loop-at.at in
    let lt : at < length own.groups.now = omega (arith, c.loop-at-test.true, c.requires.within) in
    let is : read own at c.index-own-at.result ≡ group_in own at =
    get_or_default own.groups.now at c.index-own-at.result no_group lt in
    let here : (group_in own at).inside ≡ 0 → IsRunClear own c.args.others.now c.args.question (group_in own at) =
    λ inside. (elim c.else-group-eq0.branch [
      | else-group-eq0-via-then-group-eq0+else-not-is_run_clear w ↦
          subst (IsRunClear own c.args.others.now c.args.question) is
          (w.is_run_clear.ensures w.if-not-is_run_clear.false)
      | else-group-eq0-via-else-group-eq0 w ↦
          let none = subst (λ (g : Group). g.inside ≡ 0) (sym is) inside in
          absurd (omega (arith, w.if-group-eq0.false))
    ]) in
    λ k low high inside. elim (cases_lt k at) [
      | inl less ↦ c.loop-at.invariant k low less inside
      | inr more ↦
          (let same : k ≡ at = omega arith in
          let P : ℕ → Type 0 = λ n. (group_in own n).inside ≡ 0
          → IsRunClear own c.args.others.now c.args.question (group_in own n) in
          subst P (sym same) here inside)
    ]
