use Rattle.stick_text.proofs.Shapes.{design_read}
use Rattle.stick_print.{specs.{Canonical.canonical, ReadBack.laid_out}, proofs.Whole.said_by_canonical}
use Rattle.design_sizes.proofs.Numbered.{same_text, set_once}
use Rattle.design_sizes.proofs.numbered_designs_are_read_back.Goals as goal

pub returns : goal.returns
returns c =
    let design = c.args.design.now in
    record {
      read = design_read (canonical design) (laid_out design) (said_by_canonical design c.requires);
      same = same_text design;
      once = set_once design;
    }
