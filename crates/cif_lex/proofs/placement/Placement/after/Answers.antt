use Rattle.std.proofs.Common.{◌+◌, sym, subst}
use Rattle.cif_lex.specs.Transformations.{Point, shift_of, IsNear}
use Rattle.cif_lex.proofs.Turning.{placed_after, composed_at, placed_near, by_words}
use Rattle.cif_lex.proofs.placement.Placement.after.Goals as goal

pub returns-clause-same : goal.returns-clause-same
returns-clause-same c =
    placed_after c.args.self c.args.inner c.turn_after.result (by_words c.image-x.result) c.turn_after.ensures.same
    (composed_at c.args.self c.args.inner c.image-x.result c.image-x.ensures c.requires.outer_near
    c.requires.inner_near)

pub returns-clause-near : goal.returns-clause-near
returns-clause-near c = λ r s hr hs.
    subst (λ (p : Point). IsNear (r + s) p)
    (sym (composed_at c.args.self c.args.inner c.image-x.result c.image-x.ensures c.requires.outer_near
    c.requires.inner_near))
    (placed_near c.args.self r s (shift_of c.args.inner) hr hs)
