use Rattle.lam_geom.specs.declared.boxes.MaskLayer.TheVariants.{ND, NP, NM}
use Rattle.flat_check.proofs.NetTags.{numbers_have_nets, pieces_netted}
use Rattle.flat_check.proofs.trees.net_trees.Goals as goal

pub with_nets-requires : goal.with_nets-requires
with_nets-requires c = record {
  parts = c.requires.layers.metal.stands;
  tags = numbers_have_nets c.args.flat.now NM c.args.layers.metal c.requires.flat c.requires.layers.metal;
}

pub with_nets-requires-2 : goal.with_nets-requires-2
with_nets-requires-2 c = record {
  parts = c.requires.layers.poly.stands;
  tags = numbers_have_nets c.args.flat.now NP c.args.layers.poly c.requires.flat c.requires.layers.poly;
}

pub with_nets-requires-3 : goal.with_nets-requires-3
with_nets-requires-3 c = record {
  parts = c.requires.layers.diffusion.stands;
  tags = numbers_have_nets c.args.flat.now ND c.args.layers.diffusion c.requires.flat c.requires.layers.diffusion;
}

pub returns : goal.returns
returns c =
    let flat = c.args.flat.now in let layers = c.args.layers in let is = c.requires.flat in let shown =
    c.requires.layers in
    record {
      metal = pieces_netted flat NM layers.metal c.in_ok-metal.metal is shown.metal c.in_ok-metal.ensures;
      poly = pieces_netted flat NP layers.poly c.in_ok-poly.poly is shown.poly c.in_ok-poly.ensures;
      pieces = pieces_netted flat ND layers.diffusion c.in_ok-pieces.pieces is shown.diffusion c.in_ok-pieces.ensures;
    }
