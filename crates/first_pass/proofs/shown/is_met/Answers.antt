use Rattle.std.proofs.{Common.{◌^◌, w64, ℤ, pos, neg_ℤ, ◌-ℤ◌, ◌≤ℤ◌, to_z, of_z, arith, get_or}, lemmas.Int.ints}
use Rattle.first_pass.proofs.shown.is_met.Goals as goal

-- a value within 2^60 of 0
abbrev IsSmall : ℤ → Type 0
IsSmall a = (neg_ℤ (pos (2 ^ 60)) ≤ℤ a) × (a ≤ℤ pos (2 ^ 60))

-- the code's comparison says the inequality of whole numbers
exact : (a b len : ℤ) → IsSmall a → IsSmall b → IsSmall len
    → to_z w64 (of_z w64 len) ≤ℤ to_z w64 (of_z w64 (to_z w64 (of_z w64 a) -ℤ to_z w64 (of_z w64 b)))
    → len ≤ℤ (a -ℤ b)
exact a b len p q r h = omega (arith, ints)

pub returns : goal.returns
returns c =
    let e = c.args.edge.now in
    let among = c.requires.among in
    let head = c.requires.small e.to (pos 0) among.to_in_range in
    let tail = c.requires.small e.from (pos 0) among.from_in_range in
    λ t. exact (get_or c.args.x.now e.to (pos 0)) (get_or c.args.x.now e.from (pos 0)) e.len
    (omega (arith, ints, head.0, head.1), omega (arith, ints, head.0, head.1))
    (omega (arith, ints, tail.0, tail.1), omega (arith, ints, tail.0, tail.1))
    (omega (arith, ints, among.length_low), omega (arith, ints, among.length_high)) (c.is_at_most.ensures t)
