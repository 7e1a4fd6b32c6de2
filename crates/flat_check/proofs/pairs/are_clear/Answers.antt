use Rattle.std.proofs.Common.{◌≡◌, ◌≤◌, ℕ, List, Some, Bool, IsTrue, All, w64, length, sym, ap, ◌∙◌, subst}
use Rattle.std.proofs.lemmas.Int.{to_z-of_z}
use Rattle.box_tree.specs.declared.entries.Entry.{Entry}
use Rattle.par_phase.specs.{declared.ranges.Range.Range, Ranges.AreRanges}
use Rattle.par_phase.proofs.{Answers.answers_have, InRanges.{ranges_within, true_in_all}}
use Rattle.flat_check.{specs.Clear.{AreClear, AreRunsClear, group_in}, proofs.Clear.{IsRunClear, all_clear, tree_read}}
use Rattle.flat_check.proofs.pairs.are_clear.Goals as goal

pub map_split-requires-clause-accepts : goal.map_split-requires-clause-accepts
map_split-requires-clause-accepts g c = λ κs le k d lt p is.
    let own = c.parts-own.result in let others = c.parts-others.result in let len = length own.groups.now in
    let are = subst (λ (rs : List Range). AreRanges 0 rs len) (sym c.deref.ensures.value)
    c.in_ok-ranges.ensures.ranges in
    let within = (ranges_within 0 len c.deref.result.now are).1 k d lt in (
      tree_read own c.args.from.now c.parts-own.ensures.entries c.parts-own.ensures.tree,
      tree_read others c.args.to.now c.parts-others.ensures.entries c.parts-others.ensures.tree,
      c.requires.question,
      c.requires.reach ∙ ap Some (sym (to_z-of_z w64 c.args.reach c.ranges.reach)),
      subst (λ (r : Range). r.to ≤ len) (sym is) within,
    )

pub returns : goal.returns
returns g c = λ yes.
    let own = c.parts-own.result in let others = c.parts-others.result in let len = length own.groups.now in
    let from = c.args.from.now in let to = c.args.to.now in let question = c.args.question in
    let found = c.in_ok-clear.clear.items in
    let are = subst (λ (rs : List Range). AreRanges 0 rs len) (sym c.deref.ensures.value)
    c.in_ok-ranges.ensures.ranges in
    let tree = tree_read own from c.parts-own.ensures.entries c.parts-own.ensures.tree in
    let all : All IsTrue found = subst (All IsTrue) c.deref-2.ensures.value (c.are_all.ensures yes) in
    let P : ℕ → Type 0 = λ k. (group_in own k).inside ≡ 0 → IsRunClear own others question (group_in own k) in
    let Q : Range → Bool → Type 0 = λ range clear. IsTrue clear
    → AreRunsClear own others question range.from range.to in
    let clear = true_in_all P c.deref.result.now found 0 len are
    (answers_have _ _ Q (λ p r says. says) c.deref.result.now found c.in_ok-clear.ensures.answers) all in
    subst (λ (ss : List Entry). AreClear question ss to) c.parts-own.ensures.entries
    (all_clear own others question to tree c.parts-others.ensures.entries clear)
