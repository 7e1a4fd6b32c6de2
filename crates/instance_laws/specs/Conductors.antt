-- Conducting items of all instances: metal, poly and conducting pieces of diffusion. Which of them are linked by
-- where they lie, and that these links make the nets of the sticks.
use Rattle.std.specs.Prelude.{◌≡◌, ℕ, ◌<◌, ℤ, pos, ◌≤ℤ◌, ◌<ℤ◌, List, length}
use Rattle.rule_table.specs.declared.{technology.Tech.Tech, classes.Class.{Class, TheVariants.{M, P, Dc, Dm, C, I, G}}}
use Rattle.rule_table.specs.declared.classes.Class.TheVariants.{B}
use Rattle.cell_model.specs.declared.cell.Nets.{Nets}
use Rattle.sym_items.specs.{declared.items.{Coords.Coords, Item.Item}, Sides.{Sides, gap_of_sides}}
use Rattle.sym_items.specs.Standing.{StandTogether}
use Rattle.expand.specs.declared.master.Master.{Master}
use Rattle.plan_model.specs.{declared.plan.Plan.Plan, GridNets.IsOneNet, Instances.{InstancePlace, IsInstancePlace}}
use Rattle.plan_model.specs.Plan.{grids_of}
use Rattle.pitch_join.specs.Masters.{ports_of_masters}
use Rattle.instance_laws.specs.Rules.{sides_at_spot, item_in, items_at, AreNetsOf}

-- an item of an instance, by its number
pub record InstanceItem : Type 0 where
  pub spot : InstancePlace
  pub item : ℕ

pub record IsInstanceItem (plan : Plan) (masters : List Master) (a : InstanceItem) : Type 0 where
  pub spot : IsInstancePlace (grids_of plan) a.spot
  pub among : a.item < length (items_at plan masters a.spot)

abbrev pub item_of : Plan → List Master → InstanceItem → Item
item_of plan masters a = item_in plan masters a.spot a.item

-- where it lies
abbrev pub sides_of_drawn : Tech → Plan → List Master → List Coords → InstanceItem → Sides
sides_of_drawn tech plan masters layouts a = sides_at_spot tech plan layouts a.spot (item_of plan masters a)

abbrev pub gap_of_drawn : Tech → Plan → List Master → List Coords → InstanceItem → InstanceItem → ℤ
gap_of_drawn tech plan masters layouts a b =
    gap_of_sides (sides_of_drawn tech plan masters layouts a) (sides_of_drawn tech plan masters layouts b)

-- ---- conductors

abbrev pub Conducts : Class → Type 0
Conducts M = Unit {0}
Conducts P = Unit {0}
Conducts Dc = Unit {0}
Conducts Dm = ⊥
Conducts C = ⊥
Conducts I = ⊥
Conducts G = ⊥
Conducts B = ⊥

pub record IsConductor (plan : Plan) (masters : List Master) (a : InstanceItem) : Type 0 where
  pub drawn : IsInstanceItem plan masters a
  pub conducts : Conducts (item_of plan masters a).class

-- Two conductors are drawn as one box, or as parts of one: one owner's, on one layer.
pub record AreOfOneBox (plan : Plan) (masters : List Master) (a b : InstanceItem) : Type 0 where
  pub spot : a.spot ≡ b.spot
  pub owner : (item_of plan masters a).owner ≡ (item_of plan masters b).owner
  pub class : (item_of plan masters a).class ≡ (item_of plan masters b).class

-- of one net of the sticks, through ports that meet
abbrev pub AreOfOneNet : (ℕ → Nets) → Plan → List Master → InstanceItem → InstanceItem → Type 0
AreOfOneNet nets plan masters a b =
    IsOneNet (ports_of_masters masters) nets (grids_of plan) a.spot (item_of plan masters a).net b.spot
    (item_of plan masters b).net

-- ---- links by where they lie

-- poly and diffusion at one buried contact of an instance
pub record AreAtOneContact (plan : Plan) (masters : List Master) (a b : InstanceItem) : Type 0 where
  pub spot : a.spot ≡ b.spot
  pub poly : (item_of plan masters a).class ≡ P
  pub diffusion : (item_of plan masters b).class ≡ Dc
  pub together : StandTogether (item_of plan masters a) (item_of plan masters b)

-- Two conductors of different boxes are linked where they are of one class and touch, where both overlap one cut, or
-- where they are poly and diffusion at one buried contact.
pub data AreLinked (tech : Tech) (plan : Plan) (masters : List Master) (layouts : List Coords)
    (a b : InstanceItem) : Type 0 where
  by_touch : (AreOfOneBox plan masters a b → ⊥) → (item_of plan masters a).class ≡ (item_of plan masters b).class
      → gap_of_drawn tech plan masters layouts a b ≤ℤ pos 0 → AreLinked tech plan masters layouts a b
  by_cut : (cut : InstanceItem) → (AreOfOneBox plan masters a b → ⊥) → IsInstanceItem plan masters cut
      → (item_of plan masters cut).class ≡ C
      → gap_of_drawn tech plan masters layouts a cut <ℤ pos 0 → gap_of_drawn tech plan masters layouts b cut <ℤ pos 0
      → AreLinked tech plan masters layouts a b
  by_contact : AreAtOneContact plan masters a b → AreLinked tech plan masters layouts a b
  by_contact_back : AreAtOneContact plan masters b a → AreLinked tech plan masters layouts a b

-- a chain of links leads from one conductor to another
pub data AreConnected (tech : Tech) (plan : Plan) (masters : List Master) (layouts : List Coords)
    (a : InstanceItem) : InstanceItem → Type 0 where
  here : AreConnected tech plan masters layouts a a
  further : (b c : InstanceItem) → AreConnected tech plan masters layouts a b → IsConductor plan masters c
      → AreLinked tech plan masters layouts b c
      → AreConnected tech plan masters layouts a c

-- ---- the two theorems on nets

-- What is linked is of one net: nothing is joined that the sticks do not join.
abbrev pub LinksKeepNets : Tech → Plan → List Master → List Coords → Type 0
LinksKeepNets tech plan masters layouts =
    (nets : ℕ → Nets) → AreNetsOf masters nets → (a b : InstanceItem) → IsConductor plan masters a
    → IsConductor plan masters b
    → AreLinked tech plan masters layouts a b → AreOfOneNet nets plan masters a b

-- What is of one net is connected: all that the sticks join is joined.
abbrev pub NetsAreConnected : Tech → Plan → List Master → List Coords → Type 0
NetsAreConnected tech plan masters layouts =
    (nets : ℕ → Nets) → AreNetsOf masters nets → (a b : InstanceItem) → IsConductor plan masters a
    → IsConductor plan masters b
    → AreOfOneNet nets plan masters a b → AreConnected tech plan masters layouts a b
