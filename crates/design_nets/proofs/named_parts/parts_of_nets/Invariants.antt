use Rattle.std.proofs.Common.{◌≡◌, ℕ, ◌<◌, length}
use Rattle.design_nets.specs.{declared.named_parts.NamedPart.NamedPart, Connections.number_in, Firsts.together}
use Rattle.design_nets.specs.{Listing.list_in, NamedParts.{parts_in, own_net_of, parts_of_net}}
use Rattle.design_nets.proofs.named_parts.parts_of_nets.Given as goal

abbrev pub invariant-loop-s : goal.invariant-loop-s
invariant-loop-s l = record {
  counted : length l.lists.items ≡ l.sticks.count;
  each : (net : ℕ) → net < l.sticks.count
      → list_in l.lists.items net ≡ parts_of_net
      (λ (p : NamedPart). number_in l.sticks.numbers
      (own_net_of l.masters l.sticks.nets.items l.sticks.instances.items p)) (together
      (parts_in l.masters l.sticks.instances.items) l.s) net;
}
