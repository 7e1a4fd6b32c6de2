use Rattle.std.{proofs.Common.{◌∙◌, ℤ, ◌+ℤ◌, ap}, specs.Int.int_max}
use Rattle.rule_table.specs.{declared.keys.Numbers.Numbers, Bounds.IsLength, Technology.numbers_of}
use Rattle.expand.specs.Variables.{half}
use Rattle.coarse_grid.proofs.Extents.{held, greatest_side, side}
use Rattle.coarse_grid.proofs.extent.fet_reach.Goals as goal

pub overflow_add-along : goal.overflow_add-along
overflow_add-along c =
    let n = c.numbers-numbers.ensures.sound.in_range in
    (side c.args.w _ _ _ _ c.requires.w n.extension_poly
    (c.implant_past-implant.ensures.not_negative, c.implant_past-implant.ensures.near) c.half.ensures.value
    c.max.ensures.value).0

pub overflow_add-across : goal.overflow_add-across
overflow_add-across c =
    let n = c.numbers-numbers.ensures.sound.in_range in
    (side c.args.l _ _ _ _ c.requires.l n.extension_diffusion
    (c.implant_past-implant.ensures.not_negative, c.implant_past-implant.ensures.near) c.half-2.ensures.value
    c.max-2.ensures.value).0

pub returns : goal.returns
returns c =
    let n = c.numbers-numbers.ensures.sound.in_range in
    let implant : IsLength c.implant_past-implant.result =
    (c.implant_past-implant.ensures.not_negative, c.implant_past-implant.ensures.near) in
    let along = side c.args.w _ _ _ _ c.requires.w n.extension_poly implant c.half.ensures.value c.max.ensures.value in
    let across = side c.args.l _ _ _ _ c.requires.l n.extension_diffusion implant c.half-2.ensures.value
    c.max-2.ensures.value in
    let F : Numbers → ℤ → ℤ = λ m i. int_max (half c.args.w +ℤ int_max m.extension_poly i)
    (half c.args.l +ℤ int_max m.extension_diffusion i) in
    let most = greatest_side (held c.half.result +ℤ held c.max.result) (held c.half-2.result +ℤ held c.max-2.result) _
    _ _ along.1 across.1 along.2 along.3 across.2 across.3 c.max-3.ensures.value in
    record {
      value = most.0
          ∙ (ap (λ m. F m c.implant_past-implant.result) c.numbers-numbers.ensures.value
          ∙ ap (λ i. F (numbers_of c.args.tech.now) i) c.implant_past-implant.ensures.value);
      not_negative = most.1;
      near = most.2;
    }
