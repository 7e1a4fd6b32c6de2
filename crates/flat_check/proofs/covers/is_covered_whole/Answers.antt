use Rattle.std.proofs.{Common.{◌↔◌, ℤ, of_z, to_z, w64, IsTrue, subst}, lemmas.Int.to_z-of_z}
use Rattle.crossing_model.specs.Boxes.{IsCovered}
use Rattle.flat_check.proofs.Wholes.{covered_by_whole}
use Rattle.flat_check.proofs.covers.is_covered_whole.Goals as goal

pub returns : goal.returns
returns c = λ flat layer is uncut are.
    let area = c.args.area.now in
    subst (λ (m : ℤ). IsTrue c.any.result ↔ IsCovered flat.boxes.now layer area m)
    (to_z-of_z w64 c.args.margin c.ranges.margin)
    (covered_by_whole flat layer area (to_z w64 (of_z w64 c.args.margin)) c.args.tree.now c.any.result c.any.ensures
    is uncut are)
