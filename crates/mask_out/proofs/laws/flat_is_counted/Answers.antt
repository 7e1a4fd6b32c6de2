use Rattle.std.proofs.Common.{map}
use Rattle.mask_out.{specs.Pictures.drawing_of, proofs.FlatCounted.flat_counted}
use Rattle.mask_out.proofs.laws.flat_is_counted.Goals as goal

pub returns : goal.returns
returns c = flat_counted (map drawing_of c.args.picture.now.symbols) c.args.picture.now.calls
