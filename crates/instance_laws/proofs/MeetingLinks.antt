-- What is linked is of one net.
use Rattle.std.proofs.Common.{◌≡◌, ◌≢◌, ℕ, ℤ, pos, ◌≤ℤ◌, ◌<ℤ◌, Bool, true, false, List, Some, refl, sym, ap, ◌∙◌, subst}
use Rattle.std.proofs.{Common.{arith, inl, inr}, lemmas.{Bool.cases_eq, Int.ints, List.Elements.Contains-get_or}}
use Rattle.rule_table.specs.declared.{technology.Tech.Tech, classes.Class.{Class, TheVariants.{M, P, Dc, Dm, C}}}
use Rattle.rule_table.specs.{declared.classes.Rule.Rule, Spacing.spacing_in, Technology.{numbers_of, spacing_of}}
use Rattle.sym_items.specs.{declared.items.Coords.Coords, Standing.StandsAt}
use Rattle.cell_model.specs.declared.cell.{Axis2.Axis2, NodeKind.TheVariants.{Contact, Fet}, Nets.Nets}
use Rattle.pair_rules.specs.Bound.{no_item, is_poly_on_diffusion}
use Rattle.expand.specs.declared.master.Master.{Master}
use Rattle.buried_contacts.specs.Contacts.{kind_of}
use Rattle.plan_model.specs.{declared.plan.Plan.Plan, GridNets.{IsOneNet, the_same}, Instances.InstancePlace}
use Rattle.plan_model.specs.Plan.{grids_of}
use Rattle.pitch_join.specs.Masters.{ports_of_masters}
use Rattle.instance_laws.specs.{Rules.{AreNetsOf, item_in, items_at}, Conductors.{InstanceItem, IsInstanceItem}}
use Rattle.instance_laws.specs.Conductors.{item_of, sides_of_drawn, gap_of_drawn, Conducts, IsConductor, AreOfOneBox}
use Rattle.instance_laws.specs.Conductors.{AreOfOneNet, AreAtOneContact, by_touch, by_cut, by_contact, by_contact_back}
use Rattle.instance_laws.specs.{Conductors.LinksKeepNets, Meetings.{master_of, at, IsOfClass, EnclosesBy}}
use Rattle.instance_laws.{specs.Meetings.IsTransistorAt, proofs.Gaps.{IsDone, IsItemAt, ruled, sides_turned}}
use Rattle.instance_laws.proofs.{Meeting.{master_is, spots_differ}, OneNet.{one_net_then, one_net_back}}
use Rattle.instance_laws.proofs.MeetingCuts.{IsRoundCut, LowerBoxes, on_poly, on_diffusion, ContactOf, contact_of}
use Rattle.instance_laws.proofs.{MeetingCuts.under_mask, MeetingGaps.nearer, MeetingNets.contact_net}
use Rattle.instance_laws.proofs.{MeetingPoly.poly_meets, MeetingTouch.{AreRuled, apart_or_one_net}}

-- ---- rules of conductors

record HasRule (tech : Tech) (c : Class) : Type 0 where
  rule : Rule
  ruled : spacing_of tech c c ≡ Some rule
  apart : is_poly_on_diffusion c c ≡ false

conducts_ruled : (tech : Tech) (c : Class) → Conducts c → HasRule tech c
unfolding spacing_in
conducts_ruled tech M h =
    record { rule = record { s = (numbers_of tech).spacing_metal; net_exempt = true }; ruled = refl; apart = refl }
conducts_ruled tech P h =
    record { rule = record { s = (numbers_of tech).spacing_poly; net_exempt = true }; ruled = refl; apart = refl }
conducts_ruled tech Dc h =
    record {
      rule = record { s = (numbers_of tech).spacing_diffusion; net_exempt = true };
      ruled = refl;
      apart = refl;
    }
conducts_ruled tech _ h = absurd h

-- ---- a contact is no transistor, and stands at no buried contact

no_transistor : {tech : Tech} {plan : Plan} {masters : List Master} {layouts : List Coords} (cut : InstanceItem)
    → ContactOf tech plan masters layouts cut → (k : ℕ) (depletion : Bool) (gate : Axis2) (w l : ℤ)
    → IsTransistorAt plan masters cut.spot k depletion gate w l → (item_of plan masters cut).owner ≡ k → ⊥
no_transistor {plan = plan} {masters = masters} cut contact k depletion gate w l fet own =
    let same : contact.k ≡ k = sym contact.owner ∙ own in
    let both : Contact contact.lower ≡ Fet depletion gate w l = sym contact.kind
    ∙ (ap (kind_of (master_of plan masters cut.spot)) same ∙ fet.kind) in
    absurd cc

stands_nowhere : {tech : Tech} {plan : Plan} {masters : List Master} {layouts : List Coords} (cut : InstanceItem)
    (c : Class) (own : IsRoundCut tech plan masters layouts cut c) (k : ℕ)
    → StandsAt (item_of plan masters (at cut.spot own.item)) k → ⊥
stands_nowhere cut c own k (ne, inl e) = ne (sym e ∙ own.at_low)
stands_nowhere cut c own k (ne, inr e) = ne (sym e ∙ own.at_high)

module _ (tech : Tech) (plan : Plan) (masters : List Master) (layouts : List Coords)
    (done : IsDone tech plan masters layouts) (nets : ℕ → Nets) (are : AreNetsOf masters nets) where
  abbrev OneNet : InstanceItem → InstanceItem → Type 0
  OneNet a b = AreOfOneNet nets plan masters a b

  abbrev Gap : InstanceItem → InstanceItem → ℤ
  Gap a b = gap_of_drawn tech plan masters layouts a b

  then : (a b c : InstanceItem) → OneNet a b → OneNet b c → OneNet a c
  then a b c h k = one_net_then (ports_of_masters masters) nets (grids_of plan) a.spot (item_of plan masters a).net
      b.spot (item_of plan masters b).net c.spot (item_of plan masters c).net h k

  back : (a b : InstanceItem) → OneNet a b → OneNet b a
  back a b h = one_net_back (ports_of_masters masters) nets (grids_of plan) a.spot (item_of plan masters a).net b.spot
      (item_of plan masters b).net h

  -- items of one instance with equal nets
  in_one : (a b : InstanceItem) → a.spot ≡ b.spot → (item_of plan masters a).net ≡ (item_of plan masters b).net
      → OneNet a b
  in_one a b spot same =
      let Q : InstancePlace → Type 0 =
      λ s. IsOneNet (ports_of_masters masters) nets (grids_of plan) a.spot (item_of plan masters a).net s
      (item_of plan masters a).net in
      let there : Q b.spot = subst Q spot the_same in
      subst (IsOneNet (ports_of_masters masters) nets (grids_of plan) a.spot (item_of plan masters a).net b.spot) same
      there

  -- ---- conductors that touch

  touching : (a b : InstanceItem) → IsInstanceItem plan masters a → IsInstanceItem plan masters b
      → Conducts (item_of plan masters a).class → (item_of plan masters a).class ≡ (item_of plan masters b).class
      → (a.spot ≡ b.spot → (item_of plan masters a).owner ≢ (item_of plan masters b).owner) → Gap a b ≤ℤ pos 0
      → OneNet a b
  touching a b in_a in_b conducts same owners touch =
      let c : Class = (item_of plan masters a).class in
      let has = conducts_ruled tech c conducts in
      let rule_is : spacing_of tech c (item_of plan masters b).class ≡ Some has.rule =
      ap (spacing_of tech c) (sym same) ∙ has.ruled in
      let off : is_poly_on_diffusion c (item_of plan masters b).class ≡ false = ap (is_poly_on_diffusion c) (sym same)
      ∙ has.apart in
      let h : AreRuled tech a.spot (item_of plan masters a) b.spot (item_of plan masters b) has.rule.s =
      record {
        owners = owners;
        rule = has.rule;
        ruled = rule_is;
        spacing = refl;
        apart = λ lies spot together. absurd cc;
      } in
      let item_a : IsItemAt plan masters a.spot (item_of plan masters a) =
      record {
        at = in_a.spot;
        among = Contains-get_or (items_at plan masters a.spot) a.item no_item
            in_a.among;
      } in
      let item_b : IsItemAt plan masters b.spot (item_of plan masters b) =
      record {
        at = in_b.spot;
        among = Contains-get_or (items_at plan masters b.spot) b.item no_item
            in_b.among;
      } in
      let low = (ruled tech c (item_of plan masters b).class has.rule has.rule.s rule_is refl).positive in
      elim (apart_or_one_net tech plan masters layouts nets done are a.spot b.spot (item_of plan masters a)
      (item_of plan masters b) has.rule.s item_a item_b h) [
        | inl far ↦ absurd (omega (arith, ints, far, low, touch))
        | inr joined ↦ joined
      ]

  of_touch : (a b : InstanceItem) → IsConductor plan masters a → IsConductor plan masters b
      → (AreOfOneBox plan masters a b → ⊥) → (item_of plan masters a).class ≡ (item_of plan masters b).class
      → Gap a b ≤ℤ pos 0 → OneNet a b
  of_touch a b is_a is_b apart same touch =
      touching a b is_a.drawn is_b.drawn is_a.conducts same
      (λ spot owner. apart (record { spot = spot; owner = owner; class = same })) touch

  -- ---- conductors that overlap a cut

  -- nearer to what covers another
  covered : (a b c : InstanceItem)
      → EnclosesBy (sides_of_drawn tech plan masters layouts b) (sides_of_drawn tech plan masters layouts c) (pos 0)
      → Gap a c <ℤ pos 0 → Gap a b <ℤ pos 0
  covered a b c over lies =
      let near = nearer (sides_of_drawn tech plan masters layouts a) (sides_of_drawn tech plan masters layouts b)
      (sides_of_drawn tech plan masters layouts c) over in
      omega (arith, ints, near, lies)

  turned : (a b : InstanceItem) → Gap a b <ℤ pos 0 → Gap b a <ℤ pos 0
  turned a b lies =
      subst (λ (z : ℤ). z <ℤ pos 0)
      (sides_turned (sides_of_drawn tech plan masters layouts a) (sides_of_drawn tech plan masters layouts b)) lies

  -- the contact's own box of the class, unless the item is one of the contact
  by_own : (a cut : InstanceItem) → (contact : ContactOf tech plan masters layouts cut) → (c : Class) → Conducts c
      → IsRoundCut tech plan masters layouts cut c → IsOfClass plan masters c a → Gap a cut <ℤ pos 0 → OneNet a cut
  by_own a cut contact c conducts own is_a lies = elim (spots_differ a.spot cut.spot) [
    | inr differ ↦ joined (λ spot owner. differ spot)
    | inl spot ↦ elim (cases_eq (item_of plan masters a).owner (item_of plan masters cut).owner) [
      | inr others ↦ joined (λ spot owner. others (owner ∙ own.owned.owned))
      | inl owner ↦
          let Q : InstancePlace → Type 0 = λ s. IsOfClass plan masters c (at s a.item)
          → (item_in plan masters s a.item).owner ≡ (item_of plan masters cut).owner
          → (item_in plan masters s a.item).net ≡ (item_of plan masters cut).net in
          in_one a cut spot (subst Q (sym spot) (λ is own. contact.one_net a.item is.drawn.among own) is_a owner)
    ]
  ]
    where
      joined : (a.spot ≡ cut.spot
          → (item_of plan masters a).owner ≢ (item_of plan masters (at cut.spot own.item)).owner) → OneNet a cut
      joined owners =
          let b : InstanceItem = at cut.spot own.item in
          let over = covered a b cut own.covers lies in
          let one = touching a b is_a.drawn own.owned.drawn (subst Conducts (sym is_a.of_class) conducts)
          (is_a.of_class ∙ sym own.owned.of_class) owners (omega (arith, ints, over)) in
          then a b cut one (in_one b cut refl own.net)

  -- poly and diffusion of the mask of which one is a contact's
  no_contact_poly : (a cut : InstanceItem) → ContactOf tech plan masters layouts cut → IsOfClass plan masters P a
      → (own : IsRoundCut tech plan masters layouts cut Dm) → Gap a (at cut.spot own.item) <ℤ pos 0 → ⊥
  no_contact_poly a cut contact is_a own lies =
      let b : InstanceItem = at cut.spot own.item in
      elim (poly_meets tech plan masters layouts done a b is_a
      (record { drawn = own.owned.drawn; of_class = own.owned.of_class }) lies) [
        | inl one ↦
            let fet =
            subst (λ (s : InstancePlace). IsTransistorAt plan masters s one.k one.depletion one.gate one.w one.l)
            one.spot one.transistor in
            no_transistor cut contact one.k one.depletion one.gate one.w one.l fet (sym own.owned.owned ∙ one.second)
        | inr at_one ↦ stands_nowhere cut Dm own at_one.together.0 at_one.together.2
      ]

  no_contact_mask : (cut b : InstanceItem) → ContactOf tech plan masters layouts cut → IsOfClass plan masters Dm b
      → (own : IsRoundCut tech plan masters layouts cut P) → Gap (at cut.spot own.item) b <ℤ pos 0 → ⊥
  no_contact_mask cut b contact is_b own lies =
      let a : InstanceItem = at cut.spot own.item in
      elim (poly_meets tech plan masters layouts done a b
      (record { drawn = own.owned.drawn; of_class = own.owned.of_class }) is_b lies) [
        | inl one ↦ no_transistor cut contact one.k one.depletion one.gate one.w one.l one.transistor
            (sym own.owned.owned ∙ one.first)
        | inr at_one ↦ stands_nowhere cut P own at_one.together.0 at_one.together.1
      ]

  of_cut : (a cut : InstanceItem) → IsConductor plan masters a → IsOfClass plan masters C cut → Gap a cut <ℤ pos 0
      → OneNet a cut
  of_cut a cut is_a is_cut lies = by_class (item_of plan masters a).class refl is_a.conducts contact.boxes
    where
      contact : ContactOf tech plan masters layouts cut
      contact = contact_of tech plan masters layouts done cut is_cut

      by_class : (c : Class) → (item_of plan masters a).class ≡ c → Conducts c
          → LowerBoxes tech plan masters layouts cut → OneNet a cut
      by_class M e conducts boxes =
          by_own a cut contact M tt contact.metal (record { drawn = is_a.drawn; of_class = e }) lies
      by_class P e conducts (on_poly own) =
          by_own a cut contact P tt own (record { drawn = is_a.drawn; of_class = e }) lies
      by_class P e conducts (on_diffusion mask piece) =
          absurd (no_contact_poly a cut contact (record { drawn = is_a.drawn; of_class = e }) mask
          (covered a (at cut.spot mask.item) cut mask.covers lies))
      by_class Dc e conducts (on_diffusion mask piece) =
          by_own a cut contact Dc tt piece (record { drawn = is_a.drawn; of_class = e }) lies
      by_class Dc e conducts (on_poly own) =
          let under = under_mask tech plan masters layouts done a (record { drawn = is_a.drawn; of_class = e }) in
          let b : InstanceItem = at a.spot under.mask in
          let p : InstanceItem = at cut.spot own.item in
          let over = covered p b a under.covers (turned a p (covered a p cut own.covers lies)) in
          absurd (no_contact_mask cut b contact
          (record { drawn = under.owned.drawn; of_class = under.owned.of_class }) own over)
      by_class _ e conducts boxes = absurd conducts

  -- ---- at one contact

  of_contact : (a b : InstanceItem) → IsConductor plan masters a → IsConductor plan masters b
      → AreAtOneContact plan masters a b → OneNet a b
  of_contact a b is_a is_b h =
      let m = master_is tech plan masters a.spot done.planned is_a.drawn.spot in
      let k : ℕ = h.together.0 in
      let net_a = contact_net tech (master_of plan masters a.spot) m a.item k is_a.drawn.among h.together.1 in
      let Q : InstancePlace → Type 0 = λ s. IsInstanceItem plan masters (at s b.item)
      → StandsAt (item_in plan masters s b.item) k
      → (item_of plan masters a).net ≡ (item_in plan masters s b.item).net in
      let here : Q a.spot =
      λ in_b stands.
      (net_a ∙ sym (contact_net tech (master_of plan masters a.spot) m b.item k in_b.among stands)) in
      in_one a b h.spot (subst Q h.spot here is_b.drawn h.together.2)

pub links_keep : (tech : Tech) (plan : Plan) (masters : List Master) (layouts : List Coords)
    → IsDone tech plan masters layouts → LinksKeepNets tech plan masters layouts
links_keep tech plan masters layouts done nets are a b is_a is_b (by_touch apart same touch) =
    of_touch tech plan masters layouts done nets are a b is_a is_b apart same touch
links_keep tech plan masters layouts done nets are a b is_a is_b (by_cut cut apart drawn of_class lies_a lies_b) =
    let is_cut : IsOfClass plan masters C cut = record { drawn = drawn; of_class = of_class } in
    let first = of_cut tech plan masters layouts done nets are a cut is_a is_cut lies_a in
    let second = of_cut tech plan masters layouts done nets are b cut is_b is_cut lies_b in
    then tech plan masters layouts done nets are a cut b first
    (back tech plan masters layouts done nets are b cut second)
links_keep tech plan masters layouts done nets are a b is_a is_b (by_contact h) =
    of_contact tech plan masters layouts done nets are a b is_a is_b h
links_keep tech plan masters layouts done nets are a b is_a is_b (by_contact_back h) =
    back tech plan masters layouts done nets are b a
    (of_contact tech plan masters layouts done nets are b a is_b is_a h)
