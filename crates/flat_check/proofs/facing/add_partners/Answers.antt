use Rattle.std.proofs.Common.{◌≡◌, inl, inr, false, true, IsTrue, sym, ◌∙◌, subst}
use Rattle.lam_geom.specs.declared.boxes.MaskLayer.TheVariants.{NB, NC, ND, NI, NM, NP}
use Rattle.rule_table.specs.Technology.{has_buried_of}
use Rattle.box_tree.specs.Found.{AreGathered}
use Rattle.crossings.specs.Pairs.{IsBadWith}
use Rattle.rule_breaks.specs.{declared.rule.Rule.Rule, Breaks.{ArePiecesTooNear, IsNarrow, IsOddCut, IsUncovered}}
use Rattle.rule_breaks.specs.Reaches.{spacing_of_rule}
use Rattle.flat_check.{specs.Partners.WithOther, proofs.Together.{BesideBox, BesideChannel, Broken, channel_together}}
use Rattle.flat_check.proofs.Together.{crossing_together, cut_together, implant_together, itself, net_together}
use Rattle.flat_check.proofs.Together.{no_windows, one_found, poly_together, two_found, window_together}
use Rattle.flat_check.proofs.facing.add_partners.Goals as goal

pub returns-in-Width : goal.returns-in-Width
returns-in-Width c =
    let flat = c.args.flat.now in let a = c.args.a in
    one_found c.add_itself.result flat a c.in-Width.is (λ r b. IsTrue c.is_narrow.result × (b ≡ a)) _ _
    (itself (IsNarrow flat.tech.now flat.boxes.now) a c.is_narrow.result c.is_narrow.ensures) c.add_itself.ensures

pub returns-in-CutSize : goal.returns-in-CutSize
returns-in-CutSize c =
    let flat = c.args.flat.now in let a = c.args.a in
    one_found c.add_itself-in-CutSize.result flat a c.in-CutSize.is (λ r b. IsTrue c.is_odd_cut.result × (b ≡ a)) _ _
    (itself (IsOddCut flat.tech.now flat.boxes.now) a c.is_odd_cut.result c.is_odd_cut.ensures)
    c.add_itself-in-CutSize.ensures

pub returns-in-ProperCrossing : goal.returns-in-ProperCrossing
returns-in-ProperCrossing c =
    let flat = c.args.flat.now in let a = c.args.a in
    one_found c.add_improper.result flat a c.in-ProperCrossing.is (λ r. IsBadWith flat.tech.now flat.boxes.now a) _ _
    (crossing_together flat.tech.now flat.boxes.now a) c.add_improper.ensures

pub returns-in-CutCover : goal.returns-in-CutCover
returns-in-CutCover c =
    let flat = c.args.flat.now in let a = c.args.a in
    one_found c.add_itself-in-CutCover.result flat a c.in-CutCover.is (λ r b. IsTrue c.is_uncovered.result × (b ≡ a))
    _ _
    (itself (IsUncovered flat.tech.now flat.boxes.now) a c.is_uncovered.result c.is_uncovered.ensures)
    c.add_itself-in-CutCover.ensures

pub returns-in_ok-add_beside_box-in-PolyToDiffusion : goal.returns-in_ok-add_beside_box-in-PolyToDiffusion
returns-in_ok-add_beside_box-in-PolyToDiffusion c =
    let flat = c.args.flat.now in let a = c.args.a in let trees = c.args.trees.now in let are = c.requires.trees in
    two_found c.add_beside_box-in-PolyToDiffusion.result flat a c.in-PolyToDiffusion.is
    (BesideBox flat NP trees.boxes.diffusion a) (BesideBox flat ND trees.poly a) _ _ _
    (poly_together flat trees.boxes.diffusion trees.poly c.requires.flat are.boxes.diffusion are.poly a)
    c.in_ok-add_beside_box-in-PolyToDiffusion.ensures
    c.add_beside_box-in-PolyToDiffusion.ensures

pub returns-in-MetalSpacing : goal.returns-in-MetalSpacing
returns-in-MetalSpacing c =
    let flat = c.args.flat.now in let a = c.args.a in
    let is = c.in-MetalSpacing.is in let call = c.add_near_nets in
    one_found call.result flat a is (λ r. WithOther (ArePiecesTooNear flat.tech.now flat.boxes.now NM
    (spacing_of_rule flat.tech.now r)) a) _ _
    (net_together flat NM _ c.requires.flat (c.requires.shapes (inl is)) a) call.ensures

pub returns-in-PolySpacing : goal.returns-in-PolySpacing
returns-in-PolySpacing c =
    let flat = c.args.flat.now in let a = c.args.a in
    let is = c.in-PolySpacing.is in let call = c.add_near_nets-in-PolySpacing in
    one_found call.result flat a is (λ r. WithOther (ArePiecesTooNear flat.tech.now flat.boxes.now NP
    (spacing_of_rule flat.tech.now r)) a) _ _
    (net_together flat NP _ c.requires.flat (c.requires.shapes (inr (inl is))) a) call.ensures

pub returns-in-DiffusionSpacing : goal.returns-in-DiffusionSpacing
returns-in-DiffusionSpacing c =
    let flat = c.args.flat.now in let a = c.args.a in
    let is = c.in-DiffusionSpacing.is in let call = c.add_near_nets-in-DiffusionSpacing in
    one_found call.result flat a is (λ r. WithOther (ArePiecesTooNear flat.tech.now flat.boxes.now ND
    (spacing_of_rule flat.tech.now r)) a) _ _
    (net_together flat ND _ c.requires.flat (c.requires.shapes (inr (inr is))) a) call.ensures

pub returns-in-CutSpacing : goal.returns-in-CutSpacing
returns-in-CutSpacing c =
    let flat = c.args.flat.now in let a = c.args.a in let trees = c.args.trees.now in let are = c.requires.trees in
    let call = c.add_beside_box-in-CutSpacing in
    one_found call.result flat a c.in-CutSpacing.is (BesideBox flat NC trees.cuts a) _ _
    (cut_together flat.tech.now flat.boxes.now trees.cuts are.cuts a) call.ensures

pub returns-in_ok-add_beside_box-in-CutToChannel : goal.returns-in_ok-add_beside_box-in-CutToChannel
returns-in_ok-add_beside_box-in-CutToChannel c =
    let flat = c.args.flat.now in let a = c.args.a in let trees = c.args.trees.now in let are = c.requires.trees in
    let call = c.add_beside_channel in two_found call.result flat a c.in-CutToChannel.is
    (BesideBox flat NC trees.channels a) (BesideChannel flat trees.cuts a) _ _ _
    (λ b. channel_together flat.tech.now flat.boxes.now trees.channels trees.cuts are.channels a b are.cuts)
    c.in_ok-add_beside_box-in-CutToChannel.ensures call.ensures

pub returns-in_ok-add_beside_box-in-ImplantToChannel : goal.returns-in_ok-add_beside_box-in-ImplantToChannel
returns-in_ok-add_beside_box-in-ImplantToChannel c =
    let flat = c.args.flat.now in let a = c.args.a in let trees = c.args.trees.now in let are = c.requires.trees in
    let call = c.add_beside_channel-in-ImplantToChannel in two_found call.result flat a c.in-ImplantToChannel.is
    (BesideBox flat NI trees.channels a) (BesideChannel flat trees.boxes.implants a) _ _ _
    (λ b. implant_together flat.tech.now flat.boxes.now trees.channels trees.boxes.implants are.channels a b
    are.boxes.implants)
    c.in_ok-add_beside_box-in-ImplantToChannel.ensures call.ensures

pub returns-then-not-has_buried : goal.returns-then-not-has_buried
returns-then-not-has_buried c =
    let flat = c.args.flat.now in let a = c.args.a in let old = c.args.found.now.items in
    let none : has_buried_of flat.tech.now ≡ false = sym c.has_buried.ensures ∙ c.if-not-has_buried.true in
    subst (λ (r : Rule). AreGathered (Broken flat a r) old old) (sym c.in-WindowToChannel.is)
    (no_windows flat.tech.now flat.boxes.now none a old)

pub returns-in_ok-add_beside_box-in-WindowToChannel : goal.returns-in_ok-add_beside_box-in-WindowToChannel
returns-in_ok-add_beside_box-in-WindowToChannel c =
    let flat = c.args.flat.now in let a = c.args.a in let trees = c.args.trees.now in let are = c.requires.trees in
    let has : has_buried_of flat.tech.now ≡ true = sym c.has_buried.ensures ∙ c.if-not-has_buried.false in
    let call = c.add_beside_channel-in-WindowToChannel in two_found call.result flat a c.in-WindowToChannel.is
    (BesideBox flat NB trees.channels a) (BesideChannel flat trees.boxes.windows a) _ _ _
    (λ b. window_together flat.tech.now flat.boxes.now trees.channels trees.boxes.windows are.channels a b has
    are.boxes.windows)
    c.in_ok-add_beside_box-in-WindowToChannel.ensures call.ensures
