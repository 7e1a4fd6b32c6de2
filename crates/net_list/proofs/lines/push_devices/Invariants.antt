use Rattle.std.proofs.Common.{◌≡◌, ◌++◌, drop}
use Rattle.net_list.specs.Lines.{device_lines}
use Rattle.net_list.proofs.lines.push_devices.Given as goal

abbrev pub invariant-loop-number : goal.invariant-loop-number
invariant-loop-number l = l.out.items ++ device_lines l.number (drop l.number l.devices) ≡ l.initial.out.items
    ++ device_lines 0 l.devices
