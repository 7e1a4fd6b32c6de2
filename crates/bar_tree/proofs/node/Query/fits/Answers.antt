use Rattle.std.proofs.Common.{rules}
use Rattle.bar_tree.proofs.Ends.{turned}
use Rattle.bar_tree.proofs.node.Query.fits.Goals as goal

pub returns : goal.returns
returns c =
    let apart = turned c.share.result c.share.ensures in (
      λ t. record {
        ends = search rules;
        starts = search rules;
        first = search rules;
        second = search rules;
        apart = apart.0 t;
      },
      λ f. apart.1 f.apart,
    )
