use Rattle.std.proofs.{Common.{length, sym, subst, ap, ◌∙◌, arith}, lemmas.List.length-map}
use Rattle.cif_read.specs.{declared.file.CifFile.CifFile, Meaning.Means, Files.{hierarchy_of, NamesInOrder}}
use Rattle.cif_read.specs.{Files.CanBeFlattened, Foreign.{foreign_step, foreign_hierarchy}, Narrow.IsPlain}
use Rattle.cif_read.proofs.{PlainTexts.plain_hierarchy, Narrowing.{Fits, plain_fits}, NotTooDeep.handed_on}
use Rattle.cif_read.proofs.plain.read_cif.Goals as goal

pub returns-in_err-file-clause-shallow : goal.returns-in_err-file-clause-shallow
returns-in_err-file-clause-shallow c =
    handed_on c.args.bytes.now c.from_residual.result c.in_err-file.field-0.0 c.from_residual.ensures.1
    c.in_err-file.ensures.fault

pub plain_file-requires : goal.plain_file-requires
plain_file-requires c =
    let text = c.args.bytes.now in
    let file = c.in_ok-file.file in
    let plain : IsPlain (length text) (foreign_hierarchy file) =
    plain_hierarchy text (foreign_hierarchy file) c.in_ok-file.ensures.means in
    let few = plain.top.few in
    let text_few = c.requires.few in
    omega (arith, few, text_few, length-map file.top foreign_step)

pub returns-in-Ok-clause-means : goal.returns-in-Ok-clause-means
returns-in-Ok-clause-means c =
    let text = c.args.bytes.now in
    let file = c.in_ok-file.file in
    let plain : IsPlain (length text) (foreign_hierarchy file) =
    plain_hierarchy text (foreign_hierarchy file) c.in_ok-file.ensures.means in
    let fits : Fits file = plain_fits (length text) file c.requires.few c.in_ok-file.ensures.flat plain in
    subst (Means text) (sym (ap hierarchy_of c.in-Ok.ensures ∙ fits.drawn)) c.in_ok-file.ensures.means

pub returns-in-Ok-clause-named : goal.returns-in-Ok-clause-named
returns-in-Ok-clause-named c =
    let text = c.args.bytes.now in
    let file = c.in_ok-file.file in
    let plain : IsPlain (length text) (foreign_hierarchy file) =
    plain_hierarchy text (foreign_hierarchy file) c.in_ok-file.ensures.means in
    let fits : Fits file = plain_fits (length text) file c.requires.few c.in_ok-file.ensures.flat plain in
    let named = λ (f : CifFile). NamesInOrder f.order (length f.boxes) in
    subst named (sym c.in-Ok.ensures) fits.named

pub returns-in-Ok-clause-flat : goal.returns-in-Ok-clause-flat
returns-in-Ok-clause-flat c =
    let text = c.args.bytes.now in
    let file = c.in_ok-file.file in
    let plain : IsPlain (length text) (foreign_hierarchy file) =
    plain_hierarchy text (foreign_hierarchy file) c.in_ok-file.ensures.means in
    let fits : Fits file = plain_fits (length text) file c.requires.few c.in_ok-file.ensures.flat plain in
    subst CanBeFlattened (sym c.in-Ok.ensures) fits.flat
