use Rattle.written_masks.proofs.{MeantPictures.picture_meant, FlatPictures.flat_picture}
use Rattle.written_masks.proofs.meanings.texts_mean_their_pictures.Goals as goal

pub returns : goal.returns
returns c = record { means = picture_meant; flat = flat_picture }
