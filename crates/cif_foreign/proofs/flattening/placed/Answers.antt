use Rattle.std.proofs.Common.{◌+◌, ◌^◌, sym, subst, arith}
use Rattle.cif_read.{specs.{Files.{drawn_of, IsSolidWithin}, Hierarchies.placed_box}, proofs.Solid.solid_more}
use Rattle.cif_foreign.proofs.Placing.{placed_is, placed_solid}
use Rattle.cif_foreign.proofs.flattening.placed.Goals as goal

pub returns-clause-value : goal.returns-clause-value
returns-clause-value c =
    placed_is c.args.place (drawn_of c.args.mask) c.image-left.result c.image-right.result _ _ _ _
    c.image-left.ensures c.image-right.ensures c.requires.near c.requires.solid c.spanning.ensures.low
    c.spanning.ensures.high
    c.spanning-2.ensures.low c.spanning-2.ensures.high

pub returns-clause-solid : goal.returns-clause-solid
returns-clause-solid c =
    subst (IsSolidWithin (2 ^ 55)) (sym (returns-clause-value c))
    (solid_more (2 ^ 54 + 2 ^ 50) (2 ^ 55) (placed_box c.args.place (drawn_of c.args.mask)) (omega arith)
    (placed_solid c.args.place (2 ^ 54) (2 ^ 50) (drawn_of c.args.mask) c.requires.near c.requires.solid))
