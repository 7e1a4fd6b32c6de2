-- Items of all instances keep the spacings that the rules on boxes ask for.
use Rattle.std.proofs.Common.{◌≡◌, ◌≢◌, ℕ, ℤ, pos, ◌≤ℤ◌, ◌<ℤ◌, Bool, true, false, List, Some, refl, sym, ap, ◌∙◌, subst}
use Rattle.std.{proofs.{Common.{arith, inl, inr}, lemmas.{Bool.cases_eq, Int.{ints, by_lt_z}}}, specs.Prelude.IsTrue}
use Rattle.rule_table.specs.declared.{technology.Tech.Tech, classes.Class.{Class, TheVariants.{M, P, Dc, Dm, C, I, G}}}
use Rattle.rule_table.specs.{declared.classes.{Class.TheVariants.B, Rule.Rule}, Spacing.spacing_in}
use Rattle.rule_table.specs.Technology.{numbers_of, has_buried_of, spacing_of}
use Rattle.cell_model.specs.declared.cell.Nets.{Nets}
use Rattle.sym_items.specs.{declared.items.{Coords.Coords, Item.Item}, Sides.gap_of_sides, Standing.StandTogether}
use Rattle.pair_rules.specs.Bound.{is_poly_on_diffusion}
use Rattle.expand.specs.declared.master.Master.{Master}
use Rattle.plan_model.specs.{declared.plan.Plan.Plan, Instances.InstancePlace}
use Rattle.instance_laws.specs.{Rules.{AreNetsOf, sides_at_spot}, Conductors.{InstanceItem, AreOfOneNet, item_of}}
use Rattle.instance_laws.specs.{Conductors.{sides_of_drawn, gap_of_drawn}, Meetings.{master_of, at, IsOfClass}}
use Rattle.instance_laws.{specs.Meetings.{EnclosesBy, OwnersHaveOne}, proofs.{Apart.all_apart, Gaps.IsDone}}
use Rattle.instance_laws.proofs.{Meeting.{master_is, spots_differ}, MeetingGaps.{layout_of, x_of, y_of, nets_there}}
use Rattle.instance_laws.proofs.MeetingPoly.{contacts_are_buried}
use Rattle.masks_meet_rules.specs.Items.{PolyKeepsOff, spacing_of_class, NetsKeepOff, CutsKeepOff, CutsKeepOffChannels}
use Rattle.masks_meet_rules.{specs.Items.{WindowsKeepOff, ImplantsCoverOrKeepOff}, proofs.SpacingOwners.HoldsInBlocks}
use Rattle.masks_meet_rules.proofs.SpacingOwners.{of_one_owner, OfClasses, no_cut_with_channel, no_window_with_channel}
use Rattle.masks_meet_rules.proofs.SpacingOwners.{GoesPast, implant_past_channel, DoCross, poly_crosses_diffusion}
use Rattle.buried_contacts.proofs.Contacts.{of_classes}

-- ---- the rules of classes

-- a spacing, from which items of one net are free or not
abbrev rule_with : ℤ → Bool → Rule
rule_with s exempt = record { s = s; net_exempt = exempt }

-- conductors of one class
class_ruled : (tech : Tech) (c : Class) (s : ℤ) → spacing_of_class tech c ≡ Some s
    → spacing_of tech c c ≡ Some (rule_with s true)
unfolding spacing_in
class_ruled tech M s e = (let same : (numbers_of tech).spacing_metal ≡ s = cc in ap
    (λ (z : ℤ). Some (rule_with z true)) same)
class_ruled tech P s e = (let same : (numbers_of tech).spacing_poly ≡ s = cc in ap
    (λ (z : ℤ). Some (rule_with z true)) same)
class_ruled tech Dc s e = (let same : (numbers_of tech).spacing_diffusion ≡ s = cc in ap
    (λ (z : ℤ). Some (rule_with z true)) same)
class_ruled tech c s e = absurd cc

-- poly on diffusion is of two classes
poly_alone : (tech : Tech) (c : Class) (s : ℤ) → spacing_of_class tech c ≡ Some s → IsTrue (is_poly_on_diffusion c c)
    → ⊥
poly_alone tech M s e h = absurd cc
poly_alone tech c s e h = absurd cc

module _ (tech : Tech) (plan : Plan) (masters : List Master) (layouts : List Coords)
    (done : IsDone tech plan masters layouts) where
  abbrev Gap : InstanceItem → InstanceItem → ℤ
  Gap a b = gap_of_drawn tech plan masters layouts a b

  abbrev Owner : InstanceItem → ℕ
  Owner a = (item_of plan masters a).owner

  -- ---- bound items

  -- items of different owners, told apart by instance, which no net frees and no buried contact joins
  keep : (nets : ℕ → Nets) → AreNetsOf masters nets → (c d : Class) (a b : InstanceItem) → IsOfClass plan masters c a
      → IsOfClass plan masters d b → (s : ℤ) (exempt : Bool)
      → spacing_of tech c d ≡ Some (rule_with s exempt) → (a.spot ≡ b.spot → Owner a ≢ Owner b)
      → (IsTrue exempt → AreOfOneNet nets plan masters a b → ⊥)
      → (IsTrue (is_poly_on_diffusion c d) → a.spot ≡ b.spot
      → StandTogether (item_of plan masters a) (item_of plan masters b) → ⊥) → s ≤ℤ Gap a b
  keep nets are c d a b is_a is_b s exempt is owners unjoined apart =
      let first : Class = (item_of plan masters a).class in
      let second : Class = (item_of plan masters b).class in
      let on_diffusion : is_poly_on_diffusion first second ≡ is_poly_on_diffusion c d =
      ap (λ (x : Class). is_poly_on_diffusion x second) is_a.of_class
      ∙ ap (is_poly_on_diffusion c) is_b.of_class in
      all_apart tech plan masters layouts done nets are a.spot b.spot is_a.drawn.spot is_b.drawn.spot a.item b.item
      is_a.drawn.among is_b.drawn.among s (record {
        owners = owners;
        rule = rule_with s exempt;
        ruled = of_classes tech first second c d (Some (rule_with s exempt)) is_a.of_class is_b.of_class is;
        spacing = refl;
        unjoined = unjoined;
        apart = λ lies. apart (sym on_diffusion ∙ lies);
      })

  -- whatever their nets
  keep_always : (c d : Class) (a b : InstanceItem) → IsOfClass plan masters c a → IsOfClass plan masters d b → (s : ℤ)
      → spacing_of tech c d ≡ Some (rule_with s false) → (a.spot ≡ b.spot → Owner a ≢ Owner b)
      → (IsTrue (is_poly_on_diffusion c d) → a.spot ≡ b.spot
      → StandTogether (item_of plan masters a) (item_of plan masters b) → ⊥) → s ≤ℤ Gap a b
  keep_always c d a b is_a is_b s is owners apart =
      let nets = nets_there tech masters done.planned.each in
      keep nets.0 nets.1 c d a b is_a is_b s false is owners (λ exempt one. absurd cc) apart

  -- ---- items of one owner

  -- what holds of items of two classes in one block holds of those of one owner
  of_one : (c d : Class) (R : Item → Item → Type 0) → HoldsInBlocks tech (OfClasses c d R) → (a b : InstanceItem)
      → IsOfClass plan masters c a → IsOfClass plan masters d b → a.spot ≡ b.spot → Owner a ≡ Owner b
      → R (item_of plan masters a) (item_of plan masters b)
  of_one c d R holds a b is_a is_b same e =
      let Q : InstancePlace → Type 0 = λ s. IsOfClass plan masters d (at s b.item) → Owner a ≡ Owner (at s b.item)
      → R (item_of plan masters a) (item_of plan masters (at s b.item)) in
      let own = master_is tech plan masters a.spot done.planned is_a.drawn.spot in
      subst Q same (λ is one. of_one_owner tech (OfClasses c d R) holds (master_of plan masters a.spot) own a.item
      b.item
      is_a.drawn.among is.drawn.among one is_a.of_class is.of_class) is_b e

  -- ---- the spacings

  abbrev Layout : InstanceItem → Coords
  Layout a = layout_of plan layouts a.spot

  poly_crosses : (a b : InstanceItem) → IsOfClass plan masters P a → IsOfClass plan masters Dm b → a.spot ≡ b.spot
      → Owner a ≡ Owner b → Gap a b <ℤ pos 0
  poly_crosses a b is_a is_b same e =
      let x : ℤ = x_of tech plan layouts a.spot in let y : ℤ = y_of plan layouts a.spot in
      subst (λ (s : InstancePlace). gap_of_sides (sides_of_drawn tech plan masters layouts a)
      (sides_at_spot tech plan layouts s (item_of plan masters b)) <ℤ pos 0) same
      (of_one P Dm (DoCross tech x y (Layout a)) (poly_crosses_diffusion tech x y (Layout a)) a b is_a is_b same e)

  pub poly_keeps : PolyKeepsOff tech plan masters layouts
  unfolding spacing_in
  poly_keeps a b is_a is_b = by_lt_z (Gap a b) (pos 0) (λ lt. inl lt) (λ le. inr (
      keep_always P Dm a b is_a is_b (numbers_of tech).spacing_poly_diffusion refl
      (λ same e. (let lies = poly_crosses a b is_a is_b same e in absurd (omega (arith, ints, le, lies))))
      (λ lies same together.
      let buried = contacts_are_buried tech plan masters layouts done a b is_a is_b
      (record { spot = same; together = together }) in
      let over = buried.overlap in absurd (omega (arith, ints, le, over)))
      ))

  pub nets_keep : NetsKeepOff tech plan masters layouts
  nets_keep nets are c s e a b is_a is_b apart_box apart_net =
      keep nets are c c a b is_a is_b s true (class_ruled tech c s e)
      (λ same owner. apart_box (record { spot = same; owner = owner; class = is_a.of_class ∙ sym is_b.of_class }))
      (λ exempt. apart_net) (λ lies same together. poly_alone tech c s e lies)

  pub cuts_keep : OwnersHaveOne plan masters C → CutsKeepOff tech plan masters layouts
  unfolding spacing_in
  cuts_keep one a b is_a is_b differ =
      keep_always C C a b is_a is_b (numbers_of tech).spacing_cut refl
      (λ same owner. differ (one_item same owner)) (λ lies same together. absurd cc)
    where
      one_item : a.spot ≡ b.spot → Owner a ≡ Owner b → a ≡ b
      one_item same owner =
          let Q : InstancePlace → Type 0 = λ s. IsOfClass plan masters C (at s b.item) → Owner a ≡ Owner (at s b.item)
          → a ≡ at s b.item in
          subst Q same (λ is e. ap (at a.spot) (one a.spot (Owner a) a.item b.item
          (record { drawn = is_a.drawn; of_class = is_a.of_class; owned = refl })
          (record { drawn = is.drawn; of_class = is.of_class; owned = sym e }))) is_b owner

  pub cuts_keep_off_channels : CutsKeepOffChannels tech plan masters layouts
  unfolding spacing_in
  cuts_keep_off_channels a b is_a is_b =
      keep_always C G a b is_a is_b (numbers_of tech).spacing_cut_channel refl
      (of_one C G (λ i j. ⊥) (no_cut_with_channel tech) a b is_a is_b) (λ lies same together. absurd cc)

  pub windows_keep : WindowsKeepOff tech plan masters layouts
  unfolding spacing_in
  windows_keep some a b is_a is_b =
      keep_always B G a b is_a is_b (numbers_of tech).spacing_buried_channel (rw some refl)
      (of_one B G (λ i j. ⊥) (no_window_with_channel tech) a b is_a is_b) (λ lies same together. absurd cc)

  -- an implant and a channel of one owner
  implant_covers : (a b : InstanceItem) → IsOfClass plan masters I a → IsOfClass plan masters G b → a.spot ≡ b.spot
      → Owner a ≡ Owner b
      → EnclosesBy (sides_of_drawn tech plan masters layouts a) (sides_of_drawn tech plan masters layouts b)
      (numbers_of tech).extension_implant
  implant_covers a b is_a is_b same e =
      let x : ℤ = x_of tech plan layouts a.spot in let y : ℤ = y_of plan layouts a.spot in
      subst (λ (s : InstancePlace). EnclosesBy (sides_of_drawn tech plan masters layouts a)
      (sides_at_spot tech plan layouts s (item_of plan masters b)) (numbers_of tech).extension_implant) same
      (of_one I G (GoesPast tech x y (Layout a)) (implant_past_channel tech x y (Layout a)) a b is_a is_b same e)

  pub implants_keep : ImplantsCoverOrKeepOff tech plan masters layouts
  unfolding spacing_in
  implants_keep a b is_a is_b = elim (spots_differ a.spot b.spot) [
    | inr elsewhere ↦ inr (others (λ same owner. elsewhere same))
    | inl same ↦ elim (cases_eq (Owner a) (Owner b)) [
      | inl owner ↦ inl (implant_covers a b is_a is_b same owner)
      | inr differ ↦ inr (others (λ same owner. differ owner))
    ]
  ]
    where
      others : (a.spot ≡ b.spot → Owner a ≢ Owner b) → (numbers_of tech).spacing_implant_channel ≤ℤ Gap a b
      others owners = keep_always I G a b is_a is_b (numbers_of tech).spacing_implant_channel refl owners
          (λ lies same together. absurd cc)
