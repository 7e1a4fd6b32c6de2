use Rattle.std.proofs.Common.{◌≡◌, option_map, fold}
use Rattle.toml.specs.View.{members_view}
use Rattle.tech_file.specs.Unknown.{unknown_in, lesser}
use Rattle.tech_file.proofs.unknown.or_unknown_in.Given as goal

-- what is left brings the key to the same least one
abbrev pub invariant-members : goal.invariant-members
invariant-members l =
    fold lesser (option_map (λ k. k.items) l.least) (unknown_in l.buried l.name (members_view l.key-iterator))
    ≡ fold lesser (option_map (λ k. k.items) l.initial.least)
    (unknown_in l.buried l.name (members_view l.table.entries))
