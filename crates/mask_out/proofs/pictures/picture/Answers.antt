use Rattle.std.proofs.{Common.{◌≡◌, length, sym, ap, ◌∙◌, arith}, lemmas.{List.length-map, Slice.Zip.length-zip}}
use Rattle.std.specs.List.{zip}
use Rattle.lam_geom.specs.declared.boxes.Axis.TheVariants.{X, Y}
use Rattle.rule_table.specs.Technology.{widest_of}
use Rattle.sym_items.specs.Layouts.{size_in}
use Rattle.plan_model.specs.Plan.{grids_of}
use Rattle.mask_out.{specs.Pictures.{drawing_of, drawing_in}, proofs.CallsInReach.{calls_in_reach, carried_over}}
use Rattle.mask_out.proofs.pictures.picture.Goals as goal

pub returns-clause-called : goal.returns-clause-called
returns-clause-called g c =
    let masters = c.args.masters.now in
    let layouts = c.args.coords.now in
    let symbols = c.in_ok-symbols.symbols.items in
    let counted : length masters ≡ length symbols =
    omega (
      arith,
      length-map symbols drawing_of,
      ap length c.in_ok-symbols.ensures.symbols,
      length-map
          (zip masters layouts) drawing_in,
      length-zip masters layouts,
      c.requires.counted,
    ) in
    let calls = calls_in_reach (length masters) (size_in X layouts) (size_in Y layouts) (widest_of c.args.tech.now)
    (grids_of c.args.plan.now) c.requires.of_masters c.requires.drawable in
    carried_over (length masters) (length c.from_vec.result) _ c.from_vec-2.result
    (counted ∙ ap length (sym c.from_vec.ensures)) (c.from_vec-2.ensures ∙ c.in_ok-calls.ensures) calls
