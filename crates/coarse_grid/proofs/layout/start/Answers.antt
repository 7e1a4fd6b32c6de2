use Rattle.std.proofs.Common.{◌∙◌, All, ℤ, List, length, ap, sym, subst}
use Rattle.cell_model.specs.declared.cell.Axis2.TheVariants.{Across, Up}
use Rattle.coarse_grid.specs.{Near.{IsNear, IsPitch}, Start.start_values}
use Rattle.coarse_grid.proofs.{Lines.near_lines, Starts.{holds_pitch, start_near, counted_x, counted_y}}
use Rattle.list_facts.proofs.Elements.{all_of}
use Rattle.coarse_grid.proofs.layout.start.Goals as goal

pub returns-clause-near_x : goal.returns-clause-near_x
returns-clause-near_x c =
    let cell = c.args.cell.now in
    let pitch : IsPitch c.pitch-pitch.result = (c.pitch-pitch.ensures.positive, c.pitch-pitch.ensures.near) in
    let P : List ℤ → Type 0 = λ zs. All IsNear zs in
    let e = c.from_vec.ensures
    ∙ (c.in_ok-x.ensures.value ∙ ap (λ p. start_values p Across cell) (holds_pitch c.pitch-pitch.result pitch)) in
    subst P (sym e)
    (all_of IsNear (start_values c.pitch-pitch.result Across cell)
    (start_near c.pitch-pitch.result Across cell pitch (near_lines c.args.tech.now cell c.requires)))

pub returns-clause-near_y : goal.returns-clause-near_y
returns-clause-near_y c =
    let cell = c.args.cell.now in
    let pitch : IsPitch c.pitch-pitch.result = (c.pitch-pitch.ensures.positive, c.pitch-pitch.ensures.near) in
    let P : List ℤ → Type 0 = λ zs. All IsNear zs in
    let e = c.from_vec-2.ensures
    ∙ (c.in_ok-y.ensures.value ∙ ap (λ p. start_values p Up cell) (holds_pitch c.pitch-pitch.result pitch)) in
    subst P (sym e)
    (all_of IsNear (start_values c.pitch-pitch.result Up cell)
    (start_near c.pitch-pitch.result Up cell pitch (near_lines c.args.tech.now cell c.requires)))

pub returns-clause-counted_x : goal.returns-clause-counted_x
returns-clause-counted_x c = ap length (c.from_vec.ensures ∙ c.in_ok-x.ensures.value) ∙ counted_x _ c.args.cell.now

pub returns-clause-counted_y : goal.returns-clause-counted_y
returns-clause-counted_y c = ap length (c.from_vec-2.ensures ∙ c.in_ok-y.ensures.value) ∙ counted_y _ c.args.cell.now
