use Rattle.std.proofs.Common.{All, ◌≤◌, List, length, sym, subst, ℕ}
use Rattle.par_phase.specs.{declared.ranges.Range.Range, Ranges.AreRanges}
use Rattle.par_phase.proofs.{Answers.answers_all, InRanges.ranges_within}
use Rattle.net_extract.specs.declared.{listing.Sides.Sides, lists.Portion.Portion}
use Rattle.net_extract.specs.{Grounds.placed_on, Listing.{IsInOf, count_in}, Lists.{IsNoted, IsPortion}}
use Rattle.net_extract.proofs.listing.put_lists.Goals as goal

abbrev IsMade : Sides → Portion → Type 0
IsMade sides portion = All (IsNoted (count_in sides)) portion.lists.items × IsPortion (IsInOf sides) portion

pub map_split-requires-clause-accepts : goal.map_split-requires-clause-accepts
map_split-requires-clause-accepts g c = λ κs le k d lt p is.
    let len : ℕ = length c.args.sides.now.own.groups.now in
    let are = subst (λ (rs : List Range). AreRanges 0 rs len) (sym c.deref.ensures.value)
    c.in_ok-ranges.ensures.ranges in
    let within = (ranges_within 0 len c.deref.result.now are).1 k d lt in
    (c.requires.sides, subst (λ (r : Range). r.to ≤ len) (sym is) within)

pub loop-portion-init : goal.loop-portion-init
loop-portion-init g c =
    let Made : Portion → Type 0 = IsMade c.args.sides.now in
    let made : All Made c.in_ok-portions.portions.items =
    answers_all _ _ Made (λ p r says. says) c.deref.result.now c.in_ok-portions.portions.items
    c.in_ok-portions.ensures.answers in
    record { lists = c.requires.lists; each = subst (All Made) (sym c.deref-portion-items.ensures.value) made }

pub put_in-requires : goal.put_in-requires
put_in-requires g c =
    let sides = c.args.sides.now in
    let Made : Portion → Type 0 = IsMade sides in
    let N : ℕ → Type 0 = λ count. All (IsNoted count) c.portion-item.result.lists.items in
    let made = subst Made (sym c.portion-item.is)
    (c.loop-portion.invariant.each c.loop-portion.portion-index c.portion-item.result c.loop-portion-test.true) in
    subst N (sym c.loop-portion.invariant.lists.counted) made.0

pub loop-portion-preserved : goal.loop-portion-preserved
loop-portion-preserved g c =
    let sides = c.args.sides.now in
    let Made : Portion → Type 0 = IsMade sides in
    let made = subst Made (sym c.portion-item.is)
    (c.loop-portion.invariant.each c.loop-portion.portion-index c.portion-item.result c.loop-portion-test.true) in
    record {
      lists = c.in_ok-put_in.ensures sides.kind sides.ground.boxes.now (placed_on sides.ground) (count_in sides) made.1
          c.loop-portion.invariant.lists;
      each = c.loop-portion.invariant.each;
    }
