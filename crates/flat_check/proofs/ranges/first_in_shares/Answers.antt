use Rattle.std.proofs.Common.{◌≤◌, List, length, sym, ap, ◌∙◌, subst}
use Rattle.par_phase.{specs.{declared.ranges.Range.Range, Ranges.AreRanges}, proofs.InRanges.ranges_within}
use Rattle.flat_check.{specs.Ranges.{IsFirstUnlessBefore, first_some}, proofs.InRanges.{first_in_all, from_first}}
use Rattle.flat_check.proofs.ranges.first_in_shares.Goals as goal

pub map_split-requires-clause-accepts : goal.map_split-requires-clause-accepts
map_split-requires-clause-accepts g c = λ κs le k d lt p is.
    let len = length c.args.flat.now.boxes.now in
    let are = subst (λ (rs : List Range). AreRanges 0 rs len) (sym c.deref.ensures.value)
    c.in_ok-ranges.ensures.ranges in
    let within = (ranges_within 0 len c.deref.result.now are).1 k d lt in
    (c.requires.flat, c.requires.shapes, c.requires.trees, subst (λ (r : Range). r.to ≤ len) (sym is) within)

pub returns : goal.returns
returns g c =
    let tech = c.args.flat.now.tech.now in let boxes = c.args.flat.now.boxes.now in let rule =
    c.args.rule in let len = length boxes in
    let are = subst (λ (rs : List Range). AreRanges 0 rs len) (sym c.deref.ensures.value)
    c.in_ok-ranges.ensures.ranges in
    let all = first_in_all tech boxes rule _ (λ range first h.
    let I : Range → Type 0 = λ r. IsFirstUnlessBefore tech boxes rule r.from r.to first in
    subst I h.shows h.says.met) c.deref.result.now c.in_ok-found.found.items 0 len are c.in_ok-found.ensures.answers in
    from_first tech boxes rule len c.first_of_all.result (subst (IsFirstUnlessBefore tech boxes rule 0 len)
    (sym (c.first_of_all.ensures ∙ ap first_some c.deref-2.ensures.value)) all)
