use Rattle.cif_text.specs.Calls.{cif_of}
use Rattle.written_masks.specs.TextMeanings.{hierarchy_of_picture}
use Rattle.written_masks.proofs.meanings.texts_mean_their_pictures_to_others.Goals as goal

pub returns : goal.returns
returns c = λ unit drawings calls writable.
    let mean = c.texts_mean_their_pictures.ensures in
    let hierarchy = hierarchy_of_picture unit drawings calls in (
      hierarchy,
      c.meanings_stay.ensures (cif_of unit drawings calls) hierarchy
          (mean.means unit drawings calls writable),
      mean.flat unit drawings calls writable,
    )
