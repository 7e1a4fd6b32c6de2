-- What the numbers of a technology meet, fact by fact.
use Rattle.std.specs.Prelude.{◌≡◌, ◌⊎◌, ℤ, pos, ◌+ℤ◌, ◌*ℤ◌, ◌≤ℤ◌, ◌<ℤ◌, int_div}
use Rattle.rule_table.specs.{Spacing.pad_in, declared.keys.Numbers.Numbers}

-- a number from 0 to 4096
abbrev pub IsLength : ℤ → Type 0
IsLength z = (pos 0 ≤ℤ z) × (z ≤ℤ pos 4096)

-- an even number from 2 to 4096: twice its half
pub record IsSize (z : ℤ) : Type 0 where
  pub low : pos 2 ≤ℤ z
  pub high : z ≤ℤ pos 4096
  pub even : (pos 2 *ℤ int_div z (pos 2)) ≡ z

-- each number is from 0 to 4096
pub record IsInRange (n : Numbers) : Type 0 where
  pub version : IsLength n.version
  pub unit : IsLength n.unit
  pub width_diffusion : IsLength n.width_diffusion
  pub width_poly : IsLength n.width_poly
  pub width_metal : IsLength n.width_metal
  pub spacing_diffusion : IsLength n.spacing_diffusion
  pub spacing_poly : IsLength n.spacing_poly
  pub spacing_metal : IsLength n.spacing_metal
  pub spacing_poly_diffusion : IsLength n.spacing_poly_diffusion
  pub spacing_cut : IsLength n.spacing_cut
  pub spacing_cut_channel : IsLength n.spacing_cut_channel
  pub spacing_implant_channel : IsLength n.spacing_implant_channel
  pub extension_poly : IsLength n.extension_poly
  pub extension_diffusion : IsLength n.extension_diffusion
  pub extension_implant : IsLength n.extension_implant
  pub cut_size : IsLength n.cut_size
  pub cut_enclosure : IsLength n.cut_enclosure
  pub extension_buried : IsLength n.extension_buried
  pub spacing_buried_channel : IsLength n.spacing_buried_channel

-- each spacing is at least 1, that of buried contacts in version 2
pub record HasSpacings (n : Numbers) : Type 0 where
  pub diffusion : pos 1 ≤ℤ n.spacing_diffusion
  pub poly : pos 1 ≤ℤ n.spacing_poly
  pub metal : pos 1 ≤ℤ n.spacing_metal
  pub poly_diffusion : pos 1 ≤ℤ n.spacing_poly_diffusion
  pub cut : pos 1 ≤ℤ n.spacing_cut
  pub cut_channel : pos 1 ≤ℤ n.spacing_cut_channel
  pub implant_channel : pos 1 ≤ℤ n.spacing_implant_channel
  pub buried_channel : n.version ≡ pos 2 → pos 1 ≤ℤ n.spacing_buried_channel

-- the numbers are those of a technology
pub record IsTechnology (n : Numbers) : Type 0 where
  -- each number is in range, and the version is 1 or 2
  pub in_range : IsInRange n
  pub version : (n.version ≡ pos 1) ⊎ (n.version ≡ pos 2)
  -- in version 1 the numbers of buried contacts are 0
  pub no_buried : n.version ≡ pos 1 → (n.extension_buried ≡ pos 0) × (n.spacing_buried_channel ≡ pos 0)
  -- the unit is even and not 0
  pub unit : IsSize n.unit
  -- the widths and the size of a cut are even and not 0
  pub width_diffusion : IsSize n.width_diffusion
  pub width_poly : IsSize n.width_poly
  pub width_metal : IsSize n.width_metal
  pub cut_size : IsSize n.cut_size
  -- no spacing is 0
  pub spacings : HasSpacings n
  -- diffusion on both sides of the shortest channel keeps its spacing
  pub channel : n.spacing_diffusion ≤ℤ (n.width_poly +ℤ n.spacing_poly_diffusion)
  -- the poly and the diffusion of a transistor reach past what keeps off its channel
  pub gate_reaches : n.spacing_poly_diffusion <ℤ n.extension_poly
  pub diffusion_reaches : n.spacing_poly_diffusion <ℤ n.extension_diffusion
  -- no box of the least transistor is narrower than its layer allows
  pub fet_poly : n.width_poly ≤ℤ (n.width_diffusion +ℤ (pos 2 *ℤ n.extension_poly))
  pub fet_diffusion : n.width_diffusion ≤ℤ (n.width_poly +ℤ (pos 2 *ℤ n.extension_diffusion))
  -- the pad of a contact is no narrower than a layer allows
  pub pad_diffusion : n.width_diffusion ≤ℤ pad_in n
  pub pad_poly : n.width_poly ≤ℤ pad_in n
  pub pad_metal : n.width_metal ≤ℤ pad_in n
