-- Boxes that keep off the channels of all transistors, or go past them.
use Rattle.std.proofs.Common.{◌≡◌, ℕ, ℤ, List, subst, inl, inr}
use Rattle.lam_geom.specs.declared.boxes.{BoxXY.BoxXY, MaskBox.MaskBox, MaskLayer.{MaskLayer, TheVariants.{NC, NI, NB}}}
use Rattle.rule_table.specs.{declared.{technology.Tech.Tech, classes.Class.TheVariants.G}, Technology.numbers_of}
use Rattle.sym_items.specs.{declared.items.Coords.Coords, Sides.{Sides, sides_of}}
use Rattle.expand.specs.declared.master.Master.{Master}
use Rattle.plan_model.specs.declared.plan.Plan.{Plan}
use Rattle.crossing_model.specs.Boxes.{area_at}
use Rattle.rule_breaks.specs.Breaks.{IsChannel, IsNearChannel, IsCutNearChannel, IsImplantTooNear, IsWindowTooNear}
use Rattle.instance_laws.proofs.{Gaps.IsDone, NetlistBoxes.{encloses_there, sides_at, on_item}}
use Rattle.instance_laws.proofs.{NetlistCrossings.crossing_is, NetlistShapes.class_of_layer}
use Rattle.instance_laws.specs.{Conductors.{InstanceItem, sides_of_drawn}, Meetings.{at, IsOfClass}}
use Rattle.instance_laws.specs.Shapes.{sides_in_grains, AreShapes}
use Rattle.masks_meet_rules.specs.Items.{KeepOff, CutsKeepOffChannels, ImplantsCoverOrKeepOff, WindowsKeepOff}
use Rattle.masks_meet_rules.proofs.BoxPlain.{not_nearer}

module _ (tech : Tech) (plan : Plan) (masters : List Master) (layouts : List Coords) (boxes : List MaskBox)
    (done : IsDone tech plan masters layouts) (shapes : AreShapes tech plan masters layouts boxes) where
  abbrev Lies : InstanceItem → Sides
  Lies a = sides_of_drawn tech plan masters layouts a

  -- an item lies, in grains, where an area is
  abbrev LiesAt : BoxXY → InstanceItem → Type 0
  LiesAt area a = sides_of area ≡ sides_in_grains tech (Lies a)

  -- a channel shows the item of a transistor
  channel_item : (d : ℕ) (channel : BoxXY) → IsChannel tech boxes d channel
      → (b : InstanceItem) × IsOfClass plan masters G b × LiesAt channel b
  channel_item d channel h =
      let t = crossing_is tech plan masters layouts boxes done shapes h.crossing h.is_crossing in (
        at t.spot t.channel,
        record { drawn = t.is_channel.drawn; of_class = t.is_channel.of_class },
        subst
            (λ (area : BoxXY). LiesAt area (at t.spot t.channel)) h.there t.there,
      )

  -- boxes of a layer whose items keep their spacing from channels
  keeps_off : (layer : MaskLayer) (spacing : ℤ) → KeepOff tech plan masters layouts (class_of_layer layer) G spacing
      → (k d : ℕ) → IsNearChannel tech boxes layer spacing k d → ⊥
  keeps_off layer spacing off k d h =
      let first = on_item tech plan masters layouts boxes shapes layer k h.on in
      let second = channel_item d h.channel h.is_channel in
      not_nearer tech (area_at boxes k) h.channel (Lies first.0) (Lies second.0)
      (sides_at tech plan masters layouts boxes shapes k first.0 first.1) second.2 spacing
      (off first.0 second.0 first.2 second.1) h.near

  pub cuts_off_channels : CutsKeepOffChannels tech plan masters layouts → (k d : ℕ) → IsCutNearChannel tech boxes k d
      → ⊥
  cuts_off_channels off = keeps_off NC (numbers_of tech).spacing_cut_channel off

  pub windows_off_channels : WindowsKeepOff tech plan masters layouts → (k d : ℕ) → IsWindowTooNear tech boxes k d → ⊥
  windows_off_channels off k d h = keeps_off NB (numbers_of tech).spacing_buried_channel (off h.0) k d h.1

  pub implants_off_channels : ImplantsCoverOrKeepOff tech plan masters layouts → (k d : ℕ)
      → IsImplantTooNear tech boxes k d → ⊥
  implants_off_channels off k d h =
      let near = h.near in
      let first = on_item tech plan masters layouts boxes shapes NI k near.on in
      let second = channel_item d near.channel near.is_channel in
      let there = sides_at tech plan masters layouts boxes shapes k first.0 first.1 in
      elim (off first.0 second.0 first.2 second.1) [
        | inl past ↦
            h.short (encloses_there tech (area_at boxes k) near.channel (Lies first.0) (Lies second.0)
            (numbers_of tech).extension_implant there second.2 past)
        | inr far ↦ not_nearer tech (area_at boxes k) near.channel (Lies first.0) (Lies second.0) there second.2
            (numbers_of tech).spacing_implant_channel far near.near
      ]
