use Rattle.net_extract.proofs.nets.nets_of.Goals as goal

pub nets_by-requires : goal.nets_by-requires
nets_by-requires g c = record {
  ground = record {
    searchable = c.requires.searchable;
    windows = c.requires.windows;
    pieces = c.requires.pieces;
  };
  in_order = c.requires.in_order;
  search = c.in_ok-search.ensures;
}

pub returns : goal.returns
returns g c =
    let shown = c.in_ok-nets.ensures.search in
    record {
      nets = c.in_ok-nets.ensures.nets;
      count = c.in_ok-nets.ensures.count;
      trees = record {
        diffusion = record { stands = shown.diffusion.stands.parts; shows = shown.diffusion.shows };
        poly = record { stands = shown.poly.stands.parts; shows = shown.poly.shows };
        metal = record { stands = shown.metal.stands.parts; shows = shown.metal.shows };
      };
      cuts = c.in_ok-cuts.ensures;
    }
