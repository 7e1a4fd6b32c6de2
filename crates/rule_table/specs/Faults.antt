-- The eight conditions that the numbers of a technology meet, and the first that they break.
use Rattle.std.specs.Prelude.{ℤ, pos, ◌+ℤ◌, ◌*ℤ◌, Bool, ◌||◌, int_lt, int_le, if◌then◌else◌, List, [], ◌∷◌, Option}
use Rattle.std.specs.{Prelude.{Some, None, option_map}, List.list_any, Ordering.int_eq}
use Rattle.rule_table.specs.{Keys.{sizes, spacings, first_key, first_outside, is_no_size, is_zero}, Spacing.pad_in}
use Rattle.rule_table.specs.declared.{keys.Numbers.Numbers, faults.TechFault.{TechFault, TheVariants.OutOfRange}}
use Rattle.rule_table.specs.declared.faults.TechFault.TheVariants.{OddGrid, OddWidth, ZeroSpacing, ShortChannel}
use Rattle.rule_table.specs.declared.faults.TechFault.TheVariants.{ShortExtension, NarrowFet, PadTooSmall}

-- the fault, where the test passes
abbrev pub fault_if : Bool → TechFault → Option TechFault
fault_if test fault = if test then Some fault else None

-- the version is 1 or 2
abbrev pub is_version : ℤ → Bool
is_version z = int_eq z (pos 1) || int_eq z (pos 2)

-- a number is below 0 or above the most that it may be, or the version is other than 1 or 2
unfoldable pub range_fault : Numbers → Option TechFault
range_fault n = if is_version n.version then option_map OutOfRange (first_outside n) else Some (OutOfRange 0)

-- poly width plus poly to diffusion spacing is below diffusion spacing: the diffusion on both sides of the shortest
-- channel would be too near
unfoldable pub has_short_channel : Numbers → Bool
has_short_channel n = int_lt (n.width_poly +ℤ n.spacing_poly_diffusion) n.spacing_diffusion

-- an extension is at most the poly to diffusion spacing: the wires that keep off the channel would not meet it
unfoldable pub has_short_extension : Numbers → Bool
has_short_extension n =
    int_le n.extension_poly n.spacing_poly_diffusion || int_le n.extension_diffusion n.spacing_poly_diffusion

-- the length along the gate of the narrowest transistor, and along its diffusion
unfoldable pub gate_length : Numbers → ℤ
gate_length n = n.width_diffusion +ℤ (pos 2 *ℤ n.extension_poly)

unfoldable pub diffusion_length : Numbers → ℤ
diffusion_length n = n.width_poly +ℤ (pos 2 *ℤ n.extension_diffusion)

-- a box of the narrowest transistor would be narrower than its layer allows
unfoldable pub has_narrow_fet : Numbers → Bool
has_narrow_fet n = int_lt (gate_length n) n.width_poly || int_lt (diffusion_length n) n.width_diffusion

-- the pad of a contact would be narrower than one of the layers allows
unfoldable pub has_small_pad : Numbers → Bool
has_small_pad n = list_any (λ width. int_lt (pad_in n) width) (n.width_diffusion ∷ n.width_poly ∷ n.width_metal ∷ [])

-- the eight tests, in their order
abbrev pub tests : Numbers → List (Option TechFault)
tests n =
    range_fault n
    ∷ fault_if (is_no_size n.unit) OddGrid
    ∷ option_map OddWidth (first_key is_no_size (sizes n))
    ∷ option_map ZeroSpacing (first_key is_zero (spacings n))
    ∷ fault_if (has_short_channel n) ShortChannel
    ∷ fault_if (has_short_extension n) ShortExtension
    ∷ fault_if (has_narrow_fet n) NarrowFet
    ∷ fault_if (has_small_pad n) PadTooSmall
    ∷ []

-- the first fault that some tests find
abbrev pub first_fault : List (Option TechFault) → Option TechFault
first_fault [] = None
first_fault (None ∷ rest) = first_fault rest
first_fault (Some fault ∷ rest) = Some fault

-- the first fault of the numbers, or none where they are those of a technology
unfoldable pub fault_of : Numbers → Option TechFault
fault_of n = first_fault (tests n)
