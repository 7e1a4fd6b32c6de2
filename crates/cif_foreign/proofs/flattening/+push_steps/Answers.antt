use Rattle.std.proofs.Common.{◌≡◌, ◌+◌, ◌*◌, ◌-◌, ◌<◌, ◌≤◌, ◌^◌, All, List, [], ◌++◌, map, length, get_or, take, refl}
use Rattle.std.proofs.Common.{sym, ap, ◌∙◌, subst, arith}
use Rattle.cif_lex.{specs.Transformations.{shift_of, IsNear}, proofs.Turning.nearer}
use Rattle.cif_read.specs.{Hierarchies.{Drawn, placed_box, boxes_of_steps, boxes_of_symbols, depths_of}, Files.drawn_of}
use Rattle.cif_read.specs.{Files.IsSolidWithin, declared.file.ForeignStep.{ForeignStep, TheVariants.{Own, Called}}}
use Rattle.cif_read.specs.{Foreign.{foreign_symbol, foreign_step, IsForeignStep}, Readings.called_depth}
use Rattle.cif_read.proofs.{Solid.solid_pushed, Symbols.boxes_at}
use Rattle.cif_foreign.proofs.{Flat.{Adds, adds_all, adds_more, adds_own, adds_called}, Walking.{valid_as, is_called}}
use Rattle.cif_foreign.proofs.Walking.{steps_found, call_near, call_places}
use Rattle.cif_foreign.proofs.flattening.{+push_steps.Goals.in-Own+in_ok-push-in-Own}
use Rattle.cif_foreign.proofs.flattening.+push_steps.Goals.{in-Called+in_ok-push_steps-in-Called}
use Rattle.cif_foreign.proofs.flattening.+push_steps.Goals as goal

pub placed-requires-clause-near : goal.placed-requires-clause-near
placed-requires-clause-near t c =
    nearer (2 ^ 47 * (64 - c.args.depth)) (2 ^ 54) (shift_of c.args.place) (omega arith) c.requires.near

pub placed-requires-clause-solid : goal.placed-requires-clause-solid
placed-requires-clause-solid t c =
    let lt : c.loop-i.i < length c.args.steps.now = omega (arith, c.loop-i-test.true) in
    let step = c.get-step.result in
    let at = c.get-step.ensures step in
    let n = length c.args.file.now.symbols in
    valid_as n c.args.steps.now c.loop-i.i step (Own c.in-Own.mask) c.requires.steps lt at c.in-Own.is

pub bounds-as_slice-symbol : goal.bounds-as_slice-symbol
bounds-as_slice-symbol t c =
    let d = c.in-Called in
    let lt : c.loop-i.i < length c.args.steps.now = omega (arith, c.loop-i-test.true) in
    let step = c.get-step.result in
    let at = c.get-step.ensures step in
    let n = length c.args.file.now.symbols in
    let seen = Called d.symbol d.turn d.x d.y in
    let valid = valid_as n c.args.steps.now c.loop-i.i step seen c.requires.steps lt at d.is in
    omega (arith, valid.0, ap length c.as_slice.ensures)

pub after-inner-requires-clause-inner_turn : goal.after-inner-requires-clause-inner_turn
after-inner-requires-clause-inner_turn t c =
    let d = c.in-Called in
    let lt : c.loop-i.i < length c.args.steps.now = omega (arith, c.loop-i-test.true) in
    let step = c.get-step.result in
    let at = c.get-step.ensures step in
    let n = length c.args.file.now.symbols in
    let seen = Called d.symbol d.turn d.x d.y in
    let valid = valid_as n c.args.steps.now c.loop-i.i step seen c.requires.steps lt at d.is in
    valid.1

pub after-inner-requires-clause-inner_near : goal.after-inner-requires-clause-inner_near
after-inner-requires-clause-inner_near t c =
    let d = c.in-Called in
    let lt : c.loop-i.i < length c.args.steps.now = omega (arith, c.loop-i-test.true) in
    let step = c.get-step.result in
    let at = c.get-step.ensures step in
    let n = length c.args.file.now.symbols in
    let seen = Called d.symbol d.turn d.x d.y in
    let valid = valid_as n c.args.steps.now c.loop-i.i step seen c.requires.steps lt at d.is in
    nearer (2 ^ 47) (2 ^ 61) _ (omega arith) (call_near d.x d.y valid.2 valid.3)

pub overflow_sub-depth : goal.overflow_sub-depth
overflow_sub-depth t c =
    let file = c.args.file.now in
    let d = c.in-Called in
    let it = is_called file.symbols c.args.steps.now c.loop-i.i d.symbol d.turn d.x d.y c.get-step.result
    c.requires.flat.symbols c.requires.steps (omega (arith, c.loop-i-test.true))
    (c.get-step.ensures c.get-step.result) d.is in
    omega (arith, it.shallower, c.requires.deep)

pub push_steps-requires : goal.push_steps-requires
push_steps-requires t c =
    let file = c.args.file.now in
    let n = length file.symbols in
    let depths = depths_of (map foreign_symbol file.symbols) in
    let d = c.in-Called in
    let lt : c.loop-i.i < length c.args.steps.now = omega (arith, c.loop-i-test.true) in
    let it = is_called file.symbols c.args.steps.now c.loop-i.i d.symbol d.turn d.x d.y c.get-step.result
    c.requires.flat.symbols c.requires.steps lt (c.get-step.ensures c.get-step.result) d.is in
    let step = c.get-step.result in
    let at = c.get-step.ensures step in
    let seen = Called d.symbol d.turn d.x d.y in
    let valid = valid_as n c.args.steps.now c.loop-i.i step seen c.requires.steps lt at d.is in
    let own_steps = (get_or c.as_slice.result.now d.symbol c.index-as_slice-symbol.result).steps in
    let own = steps_found file.symbols c.as_slice.result.now d.symbol c.index-as_slice-symbol.result own_steps
    it.below c.as_slice.ensures refl in
    let steps : All (IsForeignStep n) own_steps = subst (All (IsForeignStep n)) (sym own) it.valid in
    let some : 1 ≤ c.args.depth = omega (arith, it.shallower, c.requires.deep) in
    let deep : called_depth depths (map foreign_step own_steps) ≤ c.args.depth - 1 =
    subst (λ (ss : List ForeignStep). called_depth depths (map foreign_step ss) ≤ c.args.depth - 1) (sym own)
    (omega (arith, it.shallower, c.requires.deep)) in
    let near = c.after-inner.ensures.near (2 ^ 47 * (64 - c.args.depth)) (2 ^ 47) c.requires.near
    (call_near d.x d.y valid.2 valid.3) in
    let nearly : IsNear (2 ^ 47 * (64 - (c.args.depth - 1))) (shift_of c.after-inner.result) =
    nearer (2 ^ 47 * (64 - c.args.depth) + 2 ^ 47) (2 ^ 47 * (64 - (c.args.depth - 1)))
    (shift_of c.after-inner.result) (omega (arith, some, c.requires.shallow)) near in (
      omega (arith, some, c.decreases),
      (c.requires.flat, (steps, (deep, (omega (arith, c.requires.shallow), (c.after-inner.ensures.turn, nearly))))),
    )

pub loop-i-preserved : goal.loop-i-preserved
loop-i-preserved t c =
    let file = c.args.file.now in
    let boxes = boxes_of_symbols (map foreign_symbol file.symbols) in
    let n = length file.symbols in
    let i = c.loop-i.i in
    let steps = c.args.steps.now in
    let step = c.get-step.result in
    let lt : i < length steps = omega (arith, c.loop-i-test.true) in
    let at = (c.get-step.ensures c.get-step.result) in
    let before = map drawn_of c.args.out.now.items in
    let now = map drawn_of c.loop-i.out.items in
    let was = c.loop-i.invariant in
    elim c.match-step.branch [
      | in-Own+in_ok-push-in-Own w ↦
          let items = w.in_ok-push-in-Own.ensures.items in
          let one = adds_own c.loop-i.out.items w.push.new.self.items w.in-Own.mask w.placed.result c.args.place boxes
          step items w.in-Own.is w.placed.ensures.value in
          record {
            boxes = subst (λ v. Adds before (map drawn_of v.items) c.args.place boxes (take (i + 1) steps))
                (sym w.out-is)
                (adds_more before now (map drawn_of w.push.new.self.items) c.args.place boxes steps i step lt at
                was.boxes one);
            solid = λ h. subst (λ v. All (IsSolidWithin (2 ^ 55)) (map drawn_of v.items)) (sym w.out-is)
                (solid_pushed (2 ^ 55) c.loop-i.out.items w.push.new.self.items w.placed.result items
                w.placed.ensures.solid (was.solid h));
          }
      | in-Called+in_ok-push_steps-in-Called w ↦
          let d = w.in-Called in
          let it = is_called file.symbols steps i d.symbol d.turn d.x d.y step c.requires.flat.symbols
          c.requires.steps lt at d.is in
          let valid = valid_as n steps i step (Called d.symbol d.turn d.x d.y) c.requires.steps lt at d.is in
          let own_steps = (get_or w.as_slice.result.now d.symbol w.index-as_slice-symbol.result).steps in
          let own = steps_found file.symbols w.as_slice.result.now d.symbol w.index-as_slice-symbol.result own_steps
          it.below w.as_slice.ensures refl in
          let same = call_places c.args.place w.after-inner.result d.turn d.x d.y valid.2 valid.3
          w.after-inner.ensures.same in
          let found : boxes_of_steps boxes (map foreign_step own_steps) ≡ get_or boxes d.symbol [] =
          ap (λ (ss : List ForeignStep). boxes_of_steps boxes (map foreign_step ss)) own
          ∙ sym (boxes_at file.symbols d.symbol c.requires.flat.symbols it.below) in
          let added = w.in_ok-push_steps-in-Called.ensures.boxes
          ∙ ap (λ (zs : List Drawn). now ++ map (placed_box w.after-inner.result) zs) found in
          let one = adds_called now (map drawn_of w.push_steps.new.out.items) c.args.place w.after-inner.result boxes
          d.symbol d.turn d.x d.y step d.is same added in
          record {
            boxes = subst (λ v. Adds before (map drawn_of v.items) c.args.place boxes (take (i + 1) steps))
                (sym w.out-is)
                (adds_more before now (map drawn_of w.push_steps.new.out.items) c.args.place boxes steps i step lt at
                was.boxes one);
            solid = λ h. subst (λ v. All (IsSolidWithin (2 ^ 55)) (map drawn_of v.items)) (sym w.out-is)
                (w.in_ok-push_steps-in-Called.ensures.solid (was.solid h));
          }
    ]

pub returns-clause-boxes : goal.returns-clause-boxes
returns-clause-boxes t c =
    adds_all (map drawn_of c.args.out.now.items) (map drawn_of c.loop-i.out.items) c.args.place
    (boxes_of_symbols (map foreign_symbol c.args.file.now.symbols)) c.args.steps.now c.loop-i.i
    (omega (arith, c.loop-i-test.false)) c.loop-i.invariant.boxes
