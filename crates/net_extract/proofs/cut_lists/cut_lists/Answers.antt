use Rattle.std.proofs.Common.{arith, ◌≡◌, ℕ, length, subst}
use Rattle.net_extract.specs.{CutLists.AreChains, Grounds.placed_on, Lists.IsListed}
use Rattle.net_extract.proofs.cut_lists.cut_lists.Goals as goal

pub chains_of-requires-clause-below : goal.chains_of-requires-clause-below
chains_of-requires-clause-below g c = λ k a h.
    let over = ((c.in_ok-put_lists.ensures.each k h.0).sound a h.1).1 in
    let among = over.among in
    omega (arith, among, c.len.ensures, c.args.ground.now.pieces.now.placed.ok.0)

pub returns : goal.returns
returns g c =
    let pieces = placed_on c.args.ground.now in
    let C : ℕ → Type 0 = λ count. AreChains (IsListed c.put_lists.new.lists) count c.in_ok-chains.chains in
    let count : c.len.result ≡ length pieces = omega (arith, c.len.ensures, c.args.ground.now.pieces.now.placed.ok.0) in
    record { over = c.in_ok-put_lists.ensures; chains = subst C count c.in_ok-chains.ensures }
