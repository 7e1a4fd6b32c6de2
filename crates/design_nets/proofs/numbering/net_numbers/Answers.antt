use Rattle.std.proofs.{Common.{◌≡◌, ℕ, List, length, get_or, Contains, ◌∙◌, sym, subst, arith}, lemmas.List.get_or_read}
use Rattle.std.{proofs.lemmas.List.Elements.Contains-get_or, specs.Prelude.slice_index}
use Rattle.smallvec.specs.SmallVec.{SmallVec}
use Rattle.graph_search.specs.{Netting.IsNetting, Search.{AreMutual, AreNeighbours}}
use Rattle.graph_search.proofs.Neighbours.{mutual_neighbours}
use Rattle.design_nets.{specs.Linking.AreAllLinks, proofs.Joined.{link_within, numbers_are, piece_same}}
use Rattle.design_nets.proofs.numbering.net_numbers.Goals as goal

pub neighbours-requires : goal.neighbours-requires
neighbours-requires c = λ k d lt. (
    let firsts : List ℕ = c.in_ok-firsts.firsts.items in
    let instances = c.args.instances.now in
    let own = c.in_ok-firsts.ensures.counted in
    let count = get_or_read firsts (length instances) c.index.result.now (omega (arith, own)) c.index.ensures 0 in
    let all : AreAllLinks c.args.plan.now c.args.nets.now instances firsts c.args.owners.now c.in_ok-links.links.items =
    subst (λ (fs : List ℕ). AreAllLinks c.args.plan.now c.args.nets.now instances fs c.args.owners.now
    c.in_ok-links.links.items) c.deref.ensures.value c.in_ok-links.ensures in
    let link : ℕ × ℕ = get_or c.deref-2.result.now k d in
    let there : Contains c.in_ok-links.links.items link =
    subst (λ (ls : List (ℕ × ℕ)). Contains ls link) c.deref-2.ensures.value
    (Contains-get_or c.deref-2.result.now k d lt) in
    let within = link_within c.args.plan.now c.args.nets.now instances c.requires.nets c.args.owners.now
    c.requires.owners firsts c.in_ok-firsts.ensures link.0 link.1 (all.sound link.0 link.1 there) in
    (omega (arith, within.0, count), omega (arith, within.1, count)))

pub numbers-requires-clause-both_ways : goal.numbers-requires-clause-both_ways
numbers-requires-clause-both_ways c =
    subst AreMutual (sym c.deref-3.ensures.value)
    (mutual_neighbours c.index.result.now c.deref-2.result.now c.in_ok-lists.lists.items c.in_ok-lists.ensures)

pub returns : goal.returns
returns c =
    let firsts : List ℕ = c.in_ok-firsts.firsts.items in
    let plan = c.args.plan.now in
    let nets = c.args.nets.now in
    let instances = c.args.instances.now in
    let owners = c.args.owners.now in
    let links : List (ℕ × ℕ) = c.in_ok-links.links.items in
    let numbers : List ℕ = c.in_ok-all.all.items in
    let own = c.in_ok-firsts.ensures.counted in
    let count : c.index.result.now ≡ slice_index firsts (length instances) =
    get_or_read firsts (length instances) c.index.result.now (omega (arith, own)) c.index.ensures 0 in
    let all : AreAllLinks plan nets instances firsts owners links =
    subst (λ (fs : List ℕ). AreAllLinks plan nets instances fs owners links) c.deref.ensures.value
    c.in_ok-links.ensures in
    let lists : AreNeighbours c.index.result.now links c.deref-3.result.now =
    subst (λ (ls : List (ℕ × ℕ)). AreNeighbours c.index.result.now ls c.deref-3.result.now) c.deref-2.ensures.value
    (subst (λ (vs : List (SmallVec ℕ)). AreNeighbours c.index.result.now c.deref-2.result.now vs)
    (sym c.deref-3.ensures.value) c.in_ok-lists.ensures) in
    let counted : length c.deref-3.result.now ≡ slice_index firsts (length instances) = lists.counted ∙ count in
    let long : AreNeighbours (length c.deref-3.result.now) links c.deref-3.result.now =
    subst (λ (n : ℕ). AreNeighbours n links c.deref-3.result.now) (sym lists.counted) lists in
    let netting : IsNetting (slice_index firsts (length instances)) links numbers =
    subst (λ (n : ℕ). IsNetting n links numbers) counted (c.in_ok-all.ensures.netting links long) in
    record {
      pieces = numbers_are plan nets instances c.requires.nets owners c.requires.owners firsts c.in_ok-firsts.ensures
          links all numbers netting c.in_ok-all.ensures.numbers.in_order;
      firsts = c.in_ok-firsts.ensures;
      counted = netting.counted;
      same = piece_same plan nets instances c.requires.nets owners c.requires.owners firsts c.in_ok-firsts.ensures
          links all numbers netting;
    }
