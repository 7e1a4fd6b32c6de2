-- The shipped numbers are those of a technology.
use Rattle.std.proofs.Common.{◌≡◌, None, refl}
use Rattle.rule_table.specs.{Keys.{first_key, first_outside, has_buried, is_no_size}, Spacing.pad_in, Faults.fault_of}
use Rattle.rule_table.specs.Faults.{range_fault, has_short_channel, has_short_extension, has_narrow_fet, has_small_pad}
use Rattle.rule_table.specs.{Faults.{gate_length, diffusion_length}, Technology.{shipped_numbers, shipped2_numbers}}

pub shipped_sound : fault_of shipped_numbers ≡ None
unfolding fault_of range_fault has_short_channel has_short_extension has_narrow_fet has_small_pad gate_length
    diffusion_length first_key first_outside has_buried is_no_size pad_in
shipped_sound = refl

pub shipped2_sound : fault_of shipped2_numbers ≡ None
unfolding fault_of range_fault has_short_channel has_short_extension has_narrow_fet has_small_pad gate_length
    diffusion_length first_key first_outside has_buried is_no_size pad_in
shipped2_sound = refl
