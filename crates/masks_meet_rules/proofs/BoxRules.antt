-- Boxes that show the items of all instances keep each rule.
use Rattle.std.proofs.Common.{◌≡◌, ℕ, ℤ, List, Some, refl, arith, inl, inr}
use Rattle.lam_geom.specs.declared.boxes.{MaskBox.MaskBox, MaskLayer.{MaskLayer, TheVariants.{ND, NP, NM}}}
use Rattle.rule_table.specs.{declared.technology.Tech.Tech, Technology.numbers_of}
use Rattle.sym_items.specs.declared.items.Coords.{Coords}
use Rattle.expand.specs.declared.master.Master.{Master}
use Rattle.plan_model.specs.declared.plan.Plan.{Plan}
use Rattle.rule_breaks.specs.declared.rule.Rule.TheVariants.{Width, CutSize, ProperCrossing, PolyToDiffusion, CutCover}
use Rattle.rule_breaks.specs.declared.rule.Rule.TheVariants.{MetalSpacing, PolySpacing, DiffusionSpacing, CutSpacing}
use Rattle.rule_breaks.specs.declared.rule.Rule.TheVariants.{CutToChannel, ImplantToChannel, WindowToChannel}
use Rattle.rule_breaks.specs.Breaks.{AtEither, AtNets, KeepRules}
use Rattle.instance_laws.proofs.{NetlistPieces.conducting, NetlistShapes.class_of_layer, Gaps.IsDone}
use Rattle.instance_laws.specs.{Shapes.AreShapes, Sticks.NetsAreTheSticks}
use Rattle.masks_meet_rules.proofs.ShapeCuts.{cuts_are_square, cuts_are_covered, owners_have_one_cut}
use Rattle.masks_meet_rules.proofs.{ShapeWidths.conductors_are_wide, SpacingRules.{poly_keeps, nets_keep, cuts_keep}}
use Rattle.masks_meet_rules.proofs.SpacingRules.{cuts_keep_off_channels, implants_keep, windows_keep}
use Rattle.masks_meet_rules.proofs.BoxPlain.{none_narrow, none_odd, none_uncovered, poly_keeps_off, cuts_keep_off}
use Rattle.masks_meet_rules.proofs.{BoxPieces.pieces_keep_off, BoxChannels.{cuts_off_channels, implants_off_channels}}
use Rattle.masks_meet_rules.{proofs.BoxChannels.windows_off_channels, specs.Items.spacing_of_class}

neither : (IsBadTo : ℕ → ℕ → Type 0) → ((k d : ℕ) → IsBadTo k d → ⊥) → (a b : ℕ) → AtEither IsBadTo a b → ⊥
neither IsBadTo none a b (lt, inl h) = none a b h
neither IsBadTo none a b (lt, inr h) = none b a h

module _ (tech : Tech) (plan : Plan) (masters : List Master) (layouts : List Coords)
    (done : IsDone tech plan masters layouts) (boxes : List MaskBox)
    (shapes : AreShapes tech plan masters layouts boxes)
    (sticks : NetsAreTheSticks tech plan masters layouts boxes) where
  pieces_keep : (layer : MaskLayer) (spacing : ℤ)
      → spacing_of_class tech (conducting (class_of_layer layer)) ≡ Some spacing
      → (a b : ℕ) → AtNets tech boxes layer spacing a b → ⊥
  pieces_keep layer spacing ruled a b h =
      pieces_keep_off tech plan masters layouts boxes done shapes sticks (nets_keep tech plan masters layouts done)
      layer spacing ruled a b h.1.0 h.1.1

  pub boxes_keep : KeepRules tech boxes
  boxes_keep Width a b h = none_narrow tech plan masters layouts boxes shapes
      (conductors_are_wide tech plan masters layouts done) a h.0
  boxes_keep CutSize a b h = none_odd tech plan masters layouts boxes shapes
      (cuts_are_square tech plan masters layouts done) a h.0
  boxes_keep ProperCrossing a b (lt, inl h) = h.improper (sticks.proper a b h.meeting)
  boxes_keep ProperCrossing a b (lt, inr h) = h.improper (sticks.proper b a h.meeting)
  boxes_keep PolyToDiffusion a b h = poly_keeps_off tech plan masters layouts boxes shapes
      (poly_keeps tech plan masters layouts done) a b h.1
  boxes_keep CutCover a b h = none_uncovered tech plan masters layouts boxes shapes
      (cuts_are_covered tech plan masters layouts done) a h.0
  boxes_keep MetalSpacing a b h = pieces_keep NM (numbers_of tech).spacing_metal refl a b h
  boxes_keep PolySpacing a b h = pieces_keep NP (numbers_of tech).spacing_poly refl a b h
  boxes_keep DiffusionSpacing a b h = pieces_keep ND (numbers_of tech).spacing_diffusion refl a b h
  boxes_keep CutSpacing a b h =
      let keep = cuts_keep tech plan masters layouts done (owners_have_one_cut tech plan masters layouts done) in
      let lt = h.0 in cuts_keep_off tech plan masters layouts boxes shapes keep a b (λ e. omega (arith, lt, e)) h.1
  boxes_keep CutToChannel a b h =
      neither _ (cuts_off_channels tech plan masters layouts boxes done shapes
      (cuts_keep_off_channels tech plan masters layouts done)) a b h
  boxes_keep ImplantToChannel a b h =
      neither _ (implants_off_channels tech plan masters layouts boxes done shapes
      (implants_keep tech plan masters layouts done)) a b h
  boxes_keep WindowToChannel a b h =
      neither _ (windows_off_channels tech plan masters layouts boxes done shapes
      (windows_keep tech plan masters layouts done)) a b h
