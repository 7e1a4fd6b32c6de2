use Rattle.std.proofs.{Common.{◌≡◌, ℕ, ◌≤◌, sym, subst, arith}, lemmas.Result.IfOk-weaker}
use Rattle.checked_cells.specs.{CheckedCell.{known_at, cell_of}, Tables.known_of, Counts.weight_of}
use Rattle.expand.specs.{declared.master.Master.Master, Masters.IsMaster}
use Rattle.par_phase.proofs.Answers.{answers_have}
use Rattle.design_masters.{specs.Limits.most_items, proofs.Counting.{are_images, all_second}}
use Rattle.design_masters.proofs.masters.made.Goals as goal

pub map_split-requires-clause-accepts : goal.map_split-requires-clause-accepts
map_split-requires-clause-accepts g c = λ κs le k d lt p is.
    let cells = known_of c.args.cells.now in
    let L : ℕ → Type 0 = λ n. weight_of (known_at cells n) ≤ most_items in
    let among = c.requires.among k d lt in
    (c.requires.resolved, c.requires.technology, omega arith, subst L (sym is) (c.requires.light k d lt))

pub returns-clause-cells : goal.returns-clause-cells
returns-clause-cells g c =
    let cells = known_of c.args.cells.now in
    IfOk-weaker c.map_split.result _ _ (λ ms zipped.
    are_images (λ (m : Master). m.cell) (λ k. cell_of (known_at cells k)) c.args.numbers.now ms.items
    (answers_have _ _ (λ k (m : Master). m.cell ≡ cell_of (known_at cells k)) (λ p m says. says.0) c.args.numbers.now
    ms.items zipped)) c.map_split.ensures.answers

pub returns-clause-masters : goal.returns-clause-masters
returns-clause-masters g c =
    IfOk-weaker c.map_split.result _ _ (λ ms zipped.
    all_second (IsMaster c.args.tech.now) c.args.numbers.now ms.items
    (answers_have _ _ (λ k (m : Master). IsMaster c.args.tech.now m) (λ p m says. says.1) c.args.numbers.now ms.items
    zipped)) c.map_split.ensures.answers
