use Rattle.std.proofs.{Common.{◌≡◌, false, true, sym, ap}, lemmas.List.get_or_default}
use Rattle.lam_geom.specs.declared.boxes.MaskBox.{MaskBox}
use Rattle.crossing_model.specs.{Boxes.no_box, Crossings.{CrossProperly, IsBuriedPair}}
use Rattle.crossings.proofs.Improper.{IsOnlyPair, along_alike, only_bad, only_crosses, several_improper}
use Rattle.crossings.proofs.standings.standing_with.Goals as goal

pub returns-in-Several : goal.returns-in-Several
returns-in-Several c =
    let tech = c.args.tech.now in
    let boxes = c.args.boxes.now in
    let pair = c.pair_of-pair in
    let p = pair.result.poly in
    let d = pair.result.diffusion in
    let unburied = λ (h : IsBuriedPair tech boxes p d). let t : false ≡ true =
    c.if-is_buried.ensures.1 h in let none : ⊥ = cc in none in
    let only : IsOnlyPair tech boxes c.args.number c.args.partner p d =
    record {
      pair = pair.ensures.pair;
      overlap = pair.ensures.overlap;
      only = c.requires.only;
      unburied = unburied;
    } in
    only_bad tech boxes c.args.number c.args.partner p d only
    (several_improper tech boxes c.args.number c.args.partner p d pair.ensures.pair pair.ensures.overlap
    c.in-Several.ensures)

pub returns-in-Some : goal.returns-in-Some
returns-in-Some c =
    let tech = c.args.tech.now in
    let boxes = c.args.boxes.now in
    let pair = c.pair_of-pair in
    let p = pair.result.poly in
    let d = pair.result.diffusion in
    let axis = c.in-Some.axis in
    let unburied = λ (h : IsBuriedPair tech boxes p d). let t : false ≡ true =
    c.if-is_buried.ensures.1 h in let none : ⊥ = cc in none in
    let only : IsOnlyPair tech boxes c.args.number c.args.partner p d =
    record {
      pair = pair.ensures.pair;
      overlap = pair.ensures.overlap;
      only = c.requires.only;
      unburied = unburied;
    } in
    let p_is =
    ap (λ (b : MaskBox). b.area)
    (get_or_default boxes p c.index-boxes-pair.result no_box pair.ensures.overlap.poly.among) in
    let d_is =
    ap (λ (b : MaskBox). b.area)
    (get_or_default boxes d c.index-boxes-pair-2.result no_box pair.ensures.overlap.diffusion.among) in
    only_crosses tech boxes axis c.args.number c.args.partner p d c.partners_of.result only c.partners_of.ensures
    c.in_default.not-Several (along_alike tech axis _ _ _ _ p_is d_is c.in-Some.ensures)

pub returns-in-None : goal.returns-in-None
returns-in-None c =
    let tech = c.args.tech.now in
    let boxes = c.args.boxes.now in
    let pair = c.pair_of-pair in
    let p = pair.result.poly in
    let d = pair.result.diffusion in
    let unburied = λ (h : IsBuriedPair tech boxes p d). let t : false ≡ true =
    c.if-is_buried.ensures.1 h in let none : ⊥ = cc in none in
    let only : IsOnlyPair tech boxes c.args.number c.args.partner p d =
    record {
      pair = pair.ensures.pair;
      overlap = pair.ensures.overlap;
      only = c.requires.only;
      unburied = unburied;
    } in
    let p_is =
    ap (λ (b : MaskBox). b.area)
    (get_or_default boxes p c.index-boxes-pair.result no_box pair.ensures.overlap.poly.among) in
    let d_is =
    ap (λ (b : MaskBox). b.area)
    (get_or_default boxes d c.index-boxes-pair-2.result no_box pair.ensures.overlap.diffusion.among) in
    let improper = λ (h : CrossProperly tech boxes p d).
    c.in-None.ensures h.axis (along_alike tech h.axis _ _ _ _ (sym p_is) (sym d_is) h.along) in
    only_bad tech boxes c.args.number c.args.partner p d only improper
