use Rattle.lam_geom.specs.declared.boxes.MaskLayer.TheVariants.{ND, NM, NP}
use Rattle.crossing_model.specs.Crossings.{AreProper}
use Rattle.flat_check.{proofs.Clear.{by_name, cuts_kept, cuts_off, kept_where}}
use Rattle.flat_check.proofs.Clear.{implants_off, nets_kept, poly_apart, proper_kept, proper_where, windows_off}
use Rattle.rule_breaks.specs.Order.{IsKept}
use Rattle.std.proofs.lemmas.Result.{IfOk-weaker}
use Rattle.flat_check.proofs.kept.is_kept.Goals as goal

pub returns-in-ProperCrossing : goal.returns-in-ProperCrossing
returns-in-ProperCrossing g c =
    let flat = c.args.flat.now in let proper = c.args.trees.now.proper in
    by_name c.in-ProperCrossing.is (λ r. AreProper flat.tech.now flat.boxes.now)
    (IsKept flat.tech.now flat.boxes.now) proper (proper_kept flat.tech.now flat.boxes.now)
    (proper_where flat.tech.now flat.boxes.now proper c.requires.trees.proper)

pub returns-in-PolyToDiffusion : goal.returns-in-PolyToDiffusion
returns-in-PolyToDiffusion g c =
    let flat = c.args.flat.now in let trees = c.args.trees.now in let are = c.requires.trees in
    kept_where flat c.is_clear.result c.in-PolyToDiffusion.is trees.poly trees.boxes.diffusion
    (poly_apart flat c.requires.flat trees.poly trees.boxes.diffusion are.poly are.boxes.diffusion) c.is_clear.ensures

pub returns-in-MetalSpacing : goal.returns-in-MetalSpacing
returns-in-MetalSpacing g c =
    IfOk-weaker c.are_nets_clear.result _ _ (λ kept clear.
    nets_kept c.args.flat.now c.requires.flat c.in-MetalSpacing.is NM c.args.trees.now.metal (λ a b h. h)
    c.requires.trees.metal kept clear) c.are_nets_clear.ensures

pub returns-in-PolySpacing : goal.returns-in-PolySpacing
returns-in-PolySpacing g c =
    IfOk-weaker c.are_nets_clear-in-PolySpacing.result _ _ (λ kept clear.
    nets_kept c.args.flat.now c.requires.flat c.in-PolySpacing.is NP c.args.trees.now.poly (λ a b h. h)
    c.requires.trees.poly kept clear) c.are_nets_clear-in-PolySpacing.ensures

pub returns-in-DiffusionSpacing : goal.returns-in-DiffusionSpacing
returns-in-DiffusionSpacing g c =
    IfOk-weaker c.are_nets_clear-in-DiffusionSpacing.result _ _ (λ kept clear.
    nets_kept c.args.flat.now c.requires.flat c.in-DiffusionSpacing.is ND c.args.trees.now.pieces (λ a b h. h)
    c.requires.trees.pieces kept clear) c.are_nets_clear-in-DiffusionSpacing.ensures

pub returns-in-CutSpacing : goal.returns-in-CutSpacing
returns-in-CutSpacing g c =
    let flat = c.args.flat.now in let cuts = c.args.trees.now.cuts in let call = c.is_clear-in-CutSpacing in
    kept_where flat call.result c.in-CutSpacing.is cuts cuts
    (cuts_kept flat.tech.now flat.boxes.now cuts c.requires.trees.cuts) call.ensures

pub returns-in-CutToChannel : goal.returns-in-CutToChannel
returns-in-CutToChannel g c =
    let flat = c.args.flat.now in let trees = c.args.trees.now in let are = c.requires.trees in
    let call = c.is_clear-in-CutToChannel in
    kept_where flat call.result c.in-CutToChannel.is trees.cuts trees.channels
    (cuts_off flat.tech.now flat.boxes.now trees.channels are.channels trees.cuts are.cuts) call.ensures

pub returns-in-ImplantToChannel : goal.returns-in-ImplantToChannel
returns-in-ImplantToChannel g c =
    let flat = c.args.flat.now in let trees = c.args.trees.now in let are = c.requires.trees in
    let call = c.is_clear-in-ImplantToChannel in let implants = trees.boxes.implants in
    kept_where flat call.result c.in-ImplantToChannel.is implants trees.channels
    (implants_off flat.tech.now flat.boxes.now trees.channels are.channels implants are.boxes.implants) call.ensures

pub returns-in-WindowToChannel : goal.returns-in-WindowToChannel
returns-in-WindowToChannel g c =
    let flat = c.args.flat.now in let trees = c.args.trees.now in let are = c.requires.trees in
    let call = c.is_clear-in-WindowToChannel in let windows = trees.boxes.windows in
    kept_where flat call.result c.in-WindowToChannel.is windows trees.channels
    (windows_off flat.tech.now flat.boxes.now trees.channels are.channels windows are.boxes.windows) call.ensures
