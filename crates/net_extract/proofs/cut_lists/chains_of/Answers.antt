use Rattle.std.proofs.Common.{arith, rules, ℕ, ◌+◌, ◌<◌, List, length, inl, inr, refl, sym, ap, subst}
use Rattle.std.proofs.Common.{[], get_or}
use Rattle.std.proofs.lemmas.List.{Elements.Contains-get_or}
use Rattle.graph_search.proofs.Neighbours.{none_in_empty}
use Rattle.net_extract.specs.{declared.cut_lists.Chains.Chains, CutLists.{AreChains, IsListedBefore}, Lists.IsListed}
use Rattle.net_extract.proofs.{Entering.{chains_as, chains_none, none_entered}, Runs.has_below}
use Rattle.net_extract.proofs.cut_lists.chains_of.Goals.{in-Some+in_ok-add_entries, in_default}
use Rattle.net_extract.proofs.cut_lists.chains_of.Goals as goal

pub loop-k-init : goal.loop-k-init
loop-k-init c = record {
  chains = chains_none (IsListedBefore c.args.over.now 0) c.args.count _ (λ k a h. (let lt = h.0 in omega arith))
      (c.in_ok-vec.ensures.items_if_clones_equal (λ y e. search rules)) c.in_ok-with_capacity.ensures.items
      c.in_ok-with_capacity-2.ensures.items;
  few = (let none = ap (λ (xs : List ℕ). length xs) c.in_ok-with_capacity-2.ensures.items in omega arith);
}

pub add_entries-requires : goal.add_entries-requires
add_entries-requires c =
    let h = c.loop-k.invariant.chains in
    let few = c.loop-k.invariant.few in
    let told = c.in-Some.ensures in
    let counted = h.linked.one_head_each in
    let runs = c.args.over.now.runs.ok.0 in
    record {
      pieces = λ i d lt.
          (let a : ℕ = get_or c.in-Some.pieces.now i d in
          let below : a < c.args.count = elim (told.1.sound a (Contains-get_or c.in-Some.pieces.now i d lt)) [
            | inl none ↦ absurd (none_in_empty a [] refl none)
            | inr is ↦ c.requires.below c.loop-k.k a is
          ] in
          omega (arith, below, counted));
      few = omega (arith, few, told.2, c.loop-k-test.true, c.len-k-end.ensures, runs, c.requires.few);
    }

pub loop-k-preserved : goal.loop-k-preserved
loop-k-preserved c =
    let over = c.args.over.now in
    let k = c.loop-k.k in
    let inv = c.loop-k.invariant in
    let Chained : Chains → Type 0 = AreChains (IsListedBefore over (k + 1)) c.args.count in
    elim c.match-list_of.branch [
      | in-Some+in_ok-add_entries w ↦
          (let is = ap (λ (x : Chains). length x.cuts.items) w.chains-is in
          let told = w.in-Some.ensures in
          let more = w.in_ok-add_entries.ensures in
          record {
            chains = subst Chained (sym w.chains-is) (more.chains over c.args.count told.1 inv.chains);
            few = omega (arith, is, more.counted, told.2, inv.few);
          })
      | in_default w ↦
          (let is = ap (λ (x : Chains). length x.cuts.items) w.chains-is in
          record {
            chains = subst Chained (sym w.chains-is)
                (chains_as (IsListedBefore over k) (IsListedBefore over (k + 1)) c.args.count c.loop-k.chains
                (λ j a h. (let lt = h.0 in (omega arith, h.1)))
                (λ j a h. none_entered over k j a w.in_default.ensures h) inv.chains);
            few = omega (arith, is, inv.few);
          })
    ]

pub returns : goal.returns
returns c =
    let over = c.args.over.now in
    let past = c.loop-k-test.false in
    let end = c.loop-k.auto.k-end in
    chains_as (IsListedBefore over c.loop-k.k) (IsListed over) c.args.count c.loop-k.chains (λ k a h. h.1)
    (λ k a h. (let lt = has_below over k h.0 in (omega (arith, c.len-k-end.ensures, over.runs.ok.0), h)))
    c.loop-k.invariant.chains
