use Rattle.std.proofs.{Common.{◌^◌, w64, ℤ, pos, neg_ℤ, ◌-ℤ◌, ◌≤ℤ◌, to_z, of_z, arith, get_or}, lemmas.Int.ints}
use Rattle.cons_graph.proofs.constraint_graph.meets.Goals as goal

-- a value that the condition puts within 2^60 of 0
abbrev Is_small : ℤ → Type 0
Is_small a = (neg_ℤ (pos (2 ^ 60)) ≤ℤ a) × (a ≤ℤ pos (2 ^ 60))

-- the code's comparison is the inequality over whole numbers
exact : (a b len : ℤ) → Is_small a → Is_small b → Is_small len
    → (to_z w64 (of_z w64 len) ≤ℤ to_z w64 (of_z w64 (to_z w64 (of_z w64 a) -ℤ to_z w64 (of_z w64 b)))
    → len ≤ℤ (a -ℤ b)) × (len ≤ℤ (a -ℤ b)
    → to_z w64 (of_z w64 len) ≤ℤ to_z w64 (of_z w64 (to_z w64 (of_z w64 a) -ℤ to_z w64 (of_z w64 b))))
exact a b len p q r = (λ h. omega (arith, ints), λ h. omega (arith, ints))

pub returns : goal.returns
returns c =
    let e = c.args.edge.now in
    let among = c.requires.among in
    let says = exact (get_or c.args.x.now e.to (pos 0)) (get_or c.args.x.now e.from (pos 0)) e.len
    (c.requires.low e.to (pos 0) among.to_in_range, c.requires.high e.to (pos 0) among.to_in_range)
    (c.requires.low e.from (pos 0) among.from_in_range, c.requires.high e.from (pos 0) among.from_in_range)
    (omega (arith, ints, among.length_low), omega (arith, ints, among.length_high)) in
    (λ t. says.0 (c.is_at_most.ensures.0 t), λ h. c.is_at_most.ensures.1 (says.1 h))
