-- What the rules on boxes ask of the items of all instances. Lengths are in u.
use Rattle.std.specs.Prelude.{◌≡◌, ◌⊎◌, ℕ, ℤ, pos, ◌-ℤ◌, ◌≤ℤ◌, ◌<ℤ◌, IsTrue, Option, Some, None, List}
use Rattle.rule_table.specs.declared.{technology.Tech.Tech, classes.Class.{Class, TheVariants.{M, P, Dc, Dm, C, I, G}}}
use Rattle.rule_table.specs.{declared.classes.Class.TheVariants.B, Technology.{numbers_of, has_buried_of}}
use Rattle.cell_model.specs.declared.cell.Nets.{Nets}
use Rattle.sym_items.specs.{declared.items.Coords.Coords, Sides.Sides}
use Rattle.expand.specs.declared.master.Master.{Master}
use Rattle.plan_model.specs.declared.plan.Plan.{Plan}
use Rattle.instance_laws.specs.{Rules.AreNetsOf, Conductors.{InstanceItem, AreOfOneBox, AreOfOneNet, sides_of_drawn}}
use Rattle.instance_laws.specs.{Conductors.gap_of_drawn, Meetings.{IsOfClass, EnclosesBy, OwnersHaveOne}}

-- ---- shapes

-- how wide diffusion, poly and metal of masks are at least
abbrev pub width_of_class : Tech → Class → Option ℤ
width_of_class tech Dm = Some (numbers_of tech).width_diffusion
width_of_class tech P = Some (numbers_of tech).width_poly
width_of_class tech M = Some (numbers_of tech).width_metal
width_of_class tech class = None

-- a box is at least so long on both axes
pub record IsWide (width : ℤ) (sides : Sides) : Type 0 where
  pub across : width ≤ℤ (sides.right -ℤ sides.left)
  pub up : width ≤ℤ (sides.top -ℤ sides.bottom)

-- a box is exactly so long on both axes
pub record IsSquare (side : ℤ) (sides : Sides) : Type 0 where
  pub across : (sides.right -ℤ sides.left) ≡ side
  pub up : (sides.top -ℤ sides.bottom) ≡ side

abbrev pub ConductorsAreWide : Tech → Plan → List Master → List Coords → Type 0
ConductorsAreWide tech plan masters layouts =
    (class : Class) (a : InstanceItem) (width : ℤ) → IsOfClass plan masters class a
    → width_of_class tech class ≡ Some width
    → IsWide width (sides_of_drawn tech plan masters layouts a)

abbrev pub CutsAreSquare : Tech → Plan → List Master → List Coords → Type 0
CutsAreSquare tech plan masters layouts =
    (a : InstanceItem) → IsOfClass plan masters C a
    → IsSquare (numbers_of tech).cut_size (sides_of_drawn tech plan masters layouts a)

-- an item of this class goes past a cut by the enclosure on all sides
pub record IsCoveredBy (tech : Tech) (plan : Plan) (masters : List Master) (layouts : List Coords) (class : Class)
    (cut : InstanceItem) : Type 0 where
  pub cover : InstanceItem
  pub of_class : IsOfClass plan masters class cover
  pub covers : EnclosesBy (sides_of_drawn tech plan masters layouts cover)
      (sides_of_drawn tech plan masters layouts cut) (numbers_of tech).cut_enclosure

-- each cut lies inside metal, and inside poly or diffusion of the mask
abbrev pub CutsAreCovered : Tech → Plan → List Master → List Coords → Type 0
CutsAreCovered tech plan masters layouts =
    (cut : InstanceItem) → IsOfClass plan masters C cut
    → IsCoveredBy tech plan masters layouts M cut
    × (IsCoveredBy tech plan masters layouts P cut ⊎ IsCoveredBy tech plan masters layouts Dm cut)

abbrev pub OwnersHaveOneCut : Plan → List Master → Type 0
OwnersHaveOneCut plan masters = OwnersHaveOne plan masters C

-- ---- spacings

-- poly overlaps diffusion of the mask, or keeps its spacing
abbrev pub PolyKeepsOff : Tech → Plan → List Master → List Coords → Type 0
PolyKeepsOff tech plan masters layouts =
    (a b : InstanceItem) → IsOfClass plan masters P a → IsOfClass plan masters Dm b
    → (gap_of_drawn tech plan masters layouts a b <ℤ pos 0)
    ⊎ ((numbers_of tech).spacing_poly_diffusion ≤ℤ gap_of_drawn tech plan masters layouts a b)

-- how far conductors of different nets lie apart at least
abbrev pub spacing_of_class : Tech → Class → Option ℤ
spacing_of_class tech M = Some (numbers_of tech).spacing_metal
spacing_of_class tech P = Some (numbers_of tech).spacing_poly
spacing_of_class tech Dc = Some (numbers_of tech).spacing_diffusion
spacing_of_class tech class = None

-- Conductors of one class, of different boxes and different nets, keep their spacing.
abbrev pub NetsKeepOff : Tech → Plan → List Master → List Coords → Type 0
NetsKeepOff tech plan masters layouts =
    (nets : ℕ → Nets) → AreNetsOf masters nets → (class : Class) (spacing : ℤ)
    → spacing_of_class tech class ≡ Some spacing
    → (a b : InstanceItem) → IsOfClass plan masters class a → IsOfClass plan masters class b
    → (AreOfOneBox plan masters a b → ⊥) → (AreOfOneNet nets plan masters a b → ⊥)
    → spacing ≤ℤ gap_of_drawn tech plan masters layouts a b

-- items of two classes that are always of different owners
abbrev pub KeepOff : Tech → Plan → List Master → List Coords → Class → Class → ℤ → Type 0
KeepOff tech plan masters layouts class other spacing =
    (a b : InstanceItem) → IsOfClass plan masters class a → IsOfClass plan masters other b
    → spacing ≤ℤ gap_of_drawn tech plan masters layouts a b

abbrev pub CutsKeepOff : Tech → Plan → List Master → List Coords → Type 0
CutsKeepOff tech plan masters layouts =
    (a b : InstanceItem) → IsOfClass plan masters C a → IsOfClass plan masters C b → (a ≡ b → ⊥)
    → (numbers_of tech).spacing_cut ≤ℤ gap_of_drawn tech plan masters layouts a b

abbrev pub CutsKeepOffChannels : Tech → Plan → List Master → List Coords → Type 0
CutsKeepOffChannels tech plan masters layouts =
    KeepOff tech plan masters layouts C G (numbers_of tech).spacing_cut_channel

abbrev pub WindowsKeepOff : Tech → Plan → List Master → List Coords → Type 0
WindowsKeepOff tech plan masters layouts = IsTrue (has_buried_of tech)
    → KeepOff tech plan masters layouts B G (numbers_of tech).spacing_buried_channel

-- an implant goes past a channel by the extension on all sides, or keeps its spacing from it
abbrev pub ImplantsCoverOrKeepOff : Tech → Plan → List Master → List Coords → Type 0
ImplantsCoverOrKeepOff tech plan masters layouts =
    (a b : InstanceItem) → IsOfClass plan masters I a → IsOfClass plan masters G b
    → EnclosesBy (sides_of_drawn tech plan masters layouts a) (sides_of_drawn tech plan masters layouts b)
    (numbers_of tech).extension_implant
    ⊎ ((numbers_of tech).spacing_implant_channel ≤ℤ gap_of_drawn tech plan masters layouts a b)
