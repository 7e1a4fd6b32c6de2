use Rattle.flat_check.proofs.listing.breaks.Goals as goal

pub returns : goal.returns
returns g c = rw (c.in_ok-known.ensures.tech, c.in_ok-known.ensures.boxes) at c.list_all.ensures
