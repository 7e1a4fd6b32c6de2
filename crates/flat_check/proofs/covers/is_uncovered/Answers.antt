use denote.Enum.Bare.{differs_false}
use Rattle.std.proofs.Common.{◌≡◌, false, true, inl, inr, refl, sym, ap, rules}
use Rattle.lam_geom.specs.{contracts.boxes.MaskLayer.the_type, declared.boxes.MaskLayer.TheVariants.{ND, NP, NC, NM}}
use Rattle.flat_check.proofs.Covered.{IsCoveredCut, covered_read, no_metal, covered_twice, uncovered_by_diffusion}
use Rattle.flat_check.proofs.NearAreas.{on_layer}
use Rattle.crossings.proofs.Grains.{grains_held}
use Rattle.flat_check.proofs.covers.is_uncovered.Goals as goal

pub returns-then-not-is_covered_whole : goal.returns-then-not-is_covered_whole
returns-then-not-is_covered_whole c =
    let flat = c.args.flat.now in let tech = flat.tech.now in let boxes = flat.boxes.now in let a =
    c.args.a in let margin = c.in_grains-margin in let own = c.numbered-own in
    let on : own.result.layer ≡ NC = differs_false the_type (search rules) _ _ (sym c.if-ne.ensures) in
    let cut = on_layer boxes a _ NC c.requires.among own.ensures.value on in
    let length = grains_held tech _ _ margin.result c.numbers.ensures.sound.in_range.cut_enclosure
    (ap (λ n. n.cut_enclosure) c.numbers.ensures.value) margin.ensures.not_negative margin.ensures.within
    margin.ensures.value in
    let metal = covered_read tech boxes a NM _ _ c.is_covered_whole.result own.ensures.value length
    (c.is_covered_whole.ensures flat NM c.requires.flat (inr refl) c.requires.trees.metal) in
    (λ _. no_metal tech boxes a c.is_covered_whole.result cut metal c.if-not-is_covered_whole.true, λ _. refl)

pub returns-then-is_covered_whole : goal.returns-then-is_covered_whole
returns-then-is_covered_whole c =
    let flat = c.args.flat.now in let tech = flat.tech.now in let boxes = flat.boxes.now in let a =
    c.args.a in let margin = c.in_grains-margin in let own = c.numbered-own in
    let length = grains_held tech _ _ margin.result c.numbers.ensures.sound.in_range.cut_enclosure
    (ap (λ n. n.cut_enclosure) c.numbers.ensures.value) margin.ensures.not_negative margin.ensures.within
    margin.ensures.value in
    let metal = covered_read tech boxes a NM _ _ c.is_covered_whole.result own.ensures.value length
    (c.is_covered_whole.ensures flat NM c.requires.flat (inr refl) c.requires.trees.metal) in
    let poly = covered_read tech boxes a NP _ _ c.is_covered_whole-2.result own.ensures.value length
    (c.is_covered_whole-2.ensures flat NP c.requires.flat (inl refl) c.requires.trees.poly) in (
      λ t. absurd cc,
      λ h.
          absurd (covered_twice tech boxes a (metal.0 c.if-not-is_covered_whole.false)
          (inl (poly.0 c.if-is_covered_whole.true)) h),
    )

pub returns : goal.returns
returns c =
    let flat = c.args.flat.now in let tech = flat.tech.now in let boxes = flat.boxes.now in let a =
    c.args.a in let margin = c.in_grains-margin in let own = c.numbered-own in
    let on : own.result.layer ≡ NC = differs_false the_type (search rules) _ _ (sym c.if-ne.ensures) in
    let cut = on_layer boxes a _ NC c.requires.among own.ensures.value on in
    let length = grains_held tech _ _ margin.result c.numbers.ensures.sound.in_range.cut_enclosure
    (ap (λ n. n.cut_enclosure) c.numbers.ensures.value) margin.ensures.not_negative margin.ensures.within
    margin.ensures.value in
    let metal = covered_read tech boxes a NM _ _ c.is_covered_whole.result own.ensures.value length
    (c.is_covered_whole.ensures flat NM c.requires.flat (inr refl) c.requires.trees.metal) in
    let poly = covered_read tech boxes a NP _ _ c.is_covered_whole-2.result own.ensures.value length
    (c.is_covered_whole-2.ensures flat NP c.requires.flat (inl refl) c.requires.trees.poly) in
    let diffusion = covered_read tech boxes a ND _ _ c.is_covered.result own.ensures.value length
    (c.is_covered.ensures boxes ND c.requires.trees.boxes.diffusion) in
    let no_poly = λ (h : IsCoveredCut tech boxes a NP). let t : c.is_covered_whole-2.result ≡ true =
    poly.1 h in let e : c.is_covered_whole-2.result ≡ false = c.if-is_covered_whole.false in let none : ⊥ =
    cc in none in
    uncovered_by_diffusion tech boxes a c.is_covered.result cut (metal.0 c.if-not-is_covered_whole.false) no_poly
    diffusion
