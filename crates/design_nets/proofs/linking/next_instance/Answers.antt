use Rattle.std.proofs.{Common.{ℕ, ◌+◌, length, arith, ap, sym, subst}, lemmas.List.length-map}
use Rattle.lam_geom.specs.declared.boxes.Axis.{Axis, TheVariants.X}
use Rattle.plan_model.specs.{GridNets.IsNextInstance, Plan.grids_of, Rows.rows_of}
use Rattle.design_nets.{specs.Instances.spot_no, proofs.NextInstances.{rows_read, row_read, above, beside, none_above}}
use Rattle.design_nets.proofs.{NextInstances.none_beside, Spots.instance_stands}
use Rattle.design_nets.proofs.linking.next_instance.Goals as goal

pub bounds-as_slice-instance : goal.bounds-as_slice-instance
bounds-as_slice-instance c =
    let lt =
    (instance_stands (grids_of c.args.plan.now) c.args.instances.now c.args.s c.requires.instances
    c.requires.among).spot.grid in
    omega (arith, lt, length-map c.args.plan.now.grids rows_of, ap length c.as_slice.ensures)

pub offset_bounds-as_slice-instance : goal.offset_bounds-as_slice-instance
offset_bounds-as_slice-instance c =
    let lt =
    (instance_stands (grids_of c.args.plan.now) c.args.instances.now c.args.s c.requires.instances
    c.requires.among).spot.grid in
    omega (arith, lt, length-map c.args.plan.now.grids rows_of, ap length c.as_slice.ensures)

pub bounds-rows-instance : goal.bounds-rows-instance
bounds-rows-instance c =
    let there =
    (instance_stands (grids_of c.args.plan.now) c.args.instances.now c.args.s c.requires.instances
    c.requires.among).spot in
    let lt = there.row in
    omega (
      arith,
      lt,
      (rows_read c.args.plan.now c.as_slice.result.now _ _ c.as_slice-rows.result.now c.as_slice.ensures there.grid
          c.as_slice-rows.ensures).1,
    )

pub offset_bounds-rows-instance : goal.offset_bounds-rows-instance
offset_bounds-rows-instance c =
    let there =
    (instance_stands (grids_of c.args.plan.now) c.args.instances.now c.args.s c.requires.instances
    c.requires.among).spot in
    let lt = there.row in
    omega (
      arith,
      lt,
      (rows_read c.args.plan.now c.as_slice.result.now _ _ c.as_slice-rows.result.now c.as_slice.ensures there.grid
          c.as_slice-rows.ensures).1,
    )

pub overflow_add-instance : goal.overflow_add-instance
overflow_add-instance c =
    let there =
    (instance_stands (grids_of c.args.plan.now) c.args.instances.now c.args.s c.requires.instances
    c.requires.among).spot in
    let lt = there.row in
    omega (
      arith,
      lt,
      (rows_read c.args.plan.now c.as_slice.result.now _ _ c.as_slice-rows.result.now c.as_slice.ensures there.grid
          c.as_slice-rows.ensures).1,
    )

pub overflow_add-instance-in-Y-1 : goal.overflow_add-instance-in-Y-1
overflow_add-instance-in-Y-1 c =
    let there =
    (instance_stands (grids_of c.args.plan.now) c.args.instances.now c.args.s c.requires.instances
    c.requires.among).spot in
    let rows = rows_read c.args.plan.now c.as_slice.result.now _ _ c.as_slice-rows.result.now c.as_slice.ensures
    there.grid c.as_slice-rows.ensures in
    let lt = there.col in
    omega (
      arith,
      lt,
      ap length
          (row_read c.as_slice-rows.result.now _ _ _ c.as_slice-columns.result.now rows.0 there.row
          c.as_slice-columns.ensures),
    )

pub returns-in_default-clause-none : goal.returns-in_default-clause-none
returns-in_default-clause-none c = λ t lt h.
    (let grids = grids_of c.args.plan.now in
    let instances = c.args.instances.now in
    let there = (instance_stands grids instances c.args.s c.requires.instances c.requires.among).spot in
    let past = c.if-instance-rows.false in
    none_above grids instances c.requires.instances c.args.s t lt
    (omega (
      arith,
      past,
      (rows_read c.args.plan.now c.as_slice.result.now _ _ c.as_slice-rows.result.now c.as_slice.ensures there.grid
          c.as_slice-rows.ensures).1,
    ))
    (subst (λ (axis : Axis). IsNextInstance axis (spot_no instances c.args.s) (spot_no instances t)) c.in-X.is h))

pub returns-in_default-2-clause-none : goal.returns-in_default-2-clause-none
returns-in_default-2-clause-none c = λ t lt h.
    (let grids = grids_of c.args.plan.now in
    let instances = c.args.instances.now in
    let there = (instance_stands grids instances c.args.s c.requires.instances c.requires.among).spot in
    let rows = rows_read c.args.plan.now c.as_slice.result.now _ _ c.as_slice-rows.result.now c.as_slice.ensures
    there.grid c.as_slice-rows.ensures in
    let past = c.if-instance-columns.false in
    none_beside grids instances c.requires.instances c.args.s t lt
    (omega (
      arith,
      past,
      ap length
          (row_read c.as_slice-rows.result.now _ _ _ c.as_slice-columns.result.now rows.0 there.row
          c.as_slice-columns.ensures),
    ))
    (subst (λ (axis : Axis). IsNextInstance axis (spot_no instances c.args.s) (spot_no instances t)) c.in-Y.is h))

pub returns-in-X-clause-within : goal.returns-in-X-clause-within
returns-in-X-clause-within c =
    let grids = grids_of c.args.plan.now in
    let there = (instance_stands grids c.args.instances.now c.args.s c.requires.instances c.requires.among).spot in
    let rows = rows_read c.args.plan.now c.as_slice.result.now _ _ c.as_slice-rows.result.now c.as_slice.ensures
    there.grid c.as_slice-rows.ensures in
    let more = c.if-instance-rows.true in
    let within =
    (above grids c.args.instances.now c.requires.instances c.args.s c.requires.among c.requires.rectangular
    (omega (arith, more, rows.1))).within in
    omega (
      arith,
      within,
      ap length
          (row_read c.as_slice-rows.result.now _ _ _ c.as_slice-columns.result.now rows.0 there.row
          c.as_slice-columns.ensures),
    )

pub returns-in-X-clause-found : goal.returns-in-X-clause-found
returns-in-X-clause-found c =
    let grids = grids_of c.args.plan.now in
    let instances = c.args.instances.now in
    let s = c.args.s in
    let there = (instance_stands grids instances s c.requires.instances c.requires.among).spot in
    let rows = rows_read c.args.plan.now c.as_slice.result.now _ _ c.as_slice-rows.result.now c.as_slice.ensures
    there.grid c.as_slice-rows.ensures in
    let more = c.if-instance-rows.true in
    let next =
    (above grids instances c.requires.instances s c.requires.among c.requires.rectangular
    (omega (arith, more, rows.1))).next in
    let columns =
    ap length
    (row_read c.as_slice-rows.result.now _ _ _ c.as_slice-columns.result.now rows.0 there.row
    c.as_slice-columns.ensures) in
    subst (λ (axis : Axis). IsNextInstance axis (spot_no instances s)
    (spot_no instances (s + length c.as_slice-columns.result.now))) (sym c.in-X.is)
    (subst (λ (n : ℕ). IsNextInstance X (spot_no instances s) (spot_no instances (s + n))) (sym columns) next)

pub returns-in-Y-clause-within : goal.returns-in-Y-clause-within
returns-in-Y-clause-within c =
    let grids = grids_of c.args.plan.now in
    let there = (instance_stands grids c.args.instances.now c.args.s c.requires.instances c.requires.among).spot in
    let rows = rows_read c.args.plan.now c.as_slice.result.now _ _ c.as_slice-rows.result.now c.as_slice.ensures
    there.grid c.as_slice-rows.ensures in
    let more = c.if-instance-columns.true in
    (beside grids c.args.instances.now c.requires.instances c.args.s c.requires.among
    (omega (
      arith,
      more,
      ap length
          (row_read c.as_slice-rows.result.now _ _ _ c.as_slice-columns.result.now rows.0 there.row
          c.as_slice-columns.ensures),
    ))).within

pub returns-in-Y-clause-found : goal.returns-in-Y-clause-found
returns-in-Y-clause-found c =
    let grids = grids_of c.args.plan.now in
    let instances = c.args.instances.now in
    let s = c.args.s in
    let there = (instance_stands grids instances s c.requires.instances c.requires.among).spot in
    let rows = rows_read c.args.plan.now c.as_slice.result.now _ _ c.as_slice-rows.result.now c.as_slice.ensures
    there.grid c.as_slice-rows.ensures in
    let more = c.if-instance-columns.true in
    let next = (beside grids instances c.requires.instances s c.requires.among
    (omega (
      arith,
      more,
      ap length
          (row_read c.as_slice-rows.result.now _ _ _ c.as_slice-columns.result.now rows.0 there.row
          c.as_slice-columns.ensures),
    ))).next in
    subst (λ (axis : Axis). IsNextInstance axis (spot_no instances s) (spot_no instances (s + 1))) (sym c.in-Y.is) next
