use Rattle.std.proofs.Common.{◌≡◌, ℕ, ◌^◌, ◌<◌, ◌≤◌, ℤ, pos, ◌+ℤ◌, List, length, get_or, Vec, Global, refl, sym, subst}
use Rattle.std.{proofs.{Common.arith, lemmas.Result.IfOk-weaker}, specs.List.All}
use Rattle.cons_graph.specs.{Constraints.IsConstraintGraph, Solutions.value_of}
use Rattle.slack_pack.specs.{Most.{IsMost, IsAttained}, Slacks.{IsPlaced, AreFirst}}
use Rattle.slack_pack.proofs.Settled.{IsSettled, settled_after, first_capped, first_slacks_are, all_small, settled_most}
use Rattle.slack_pack.proofs.Settled.{settled_attained}
use Rattle.slack_pack.proofs.moving.most.Goals as goal

pub sort_order-requires : goal.sort_order-requires
sort_order-requires c =
    (let few = c.vars.ensures.shape.few_vars in let one = c.requires.one_each in omega (arith, few, one))

pub rounds-init : goal.rounds-init
rounds-init c =
    let shape : IsConstraintGraph c.args.g.now = c.vars.ensures.shape in
    let placed : IsPlaced c.args.g.now c.args.x.now =
    record {
      shape = shape;
      one_each = c.requires.one_each;
      solves = c.requires.solves;
      low = c.requires.low;
      high = c.requires.high;
    } in
    let first : AreFirst c.args.g.now.vars c.args.far.now c.in_ok-slacks.slacks.items =
    (let P : ℕ → Type 0 = λ n. AreFirst n c.args.far.now c.in_ok-slacks.slacks.items in subst P
    c.vars.ensures.value c.in_ok-slacks.ensures) in
    record {
      counted = first.counted;
      capped = first_capped c.args.g.now.vars c.args.far.now c.in_ok-slacks.slacks.items first;
      are = first_slacks_are c.args.g.now c.args.far.now c.args.x.now c.in_ok-slacks.slacks.items placed first;
    }

pub rounds-preserved : goal.rounds-preserved
rounds-preserved c = record {
  counted = c.if-not-lower_all.ensures.lowered.counted;
  capped = c.if-not-lower_all.ensures.lowered.capped;
  are = c.if-not-lower_all.ensures.lowered.kept c.args.far.now c.rounds.invariant.are;
}

pub moved-requires-clause-small : goal.moved-requires-clause-small
moved-requires-clause-small c =
    let placed : IsPlaced c.args.g.now c.args.x.now =
    record {
      shape = c.vars.ensures.shape;
      one_each = c.requires.one_each;
      solves = c.requires.solves;
      low = c.requires.low;
      high = c.requires.high;
    } in
    let settled : IsSettled c.args.g.now c.args.far.now c.args.x.now c.lower_all.new.slacks.items =
    settled_after c.args.g.now c.args.far.now c.args.x.now c.rounds.slacks.items c.lower_all.new.slacks.items placed
    c.rounds.invariant.are c.if-not-lower_all.ensures.lowered (c.if-not-lower_all.ensures.quiet refl)
    c.requires.among c.requires.reach in
    let P : List ℕ → Type 0 = λ l. All (λ s. s ≤ 2 ^ 62) l in
    subst P (sym c.deref-then-not-lower_all.ensures.value)
    (all_small c.args.g.now c.args.far.now c.args.x.now c.lower_all.new.slacks.items settled)

-- the values of the variables, by the slacks that no round lowers
moved_by : (vars : ℕ) (xs ys : List ℤ) (ss slacks : List ℕ) → length xs ≡ vars → ss ≡ slacks
    → ((v : ℕ) → v < length xs → value_of ys v ≡ value_of xs v +ℤ pos (get_or ss v 0)) → (v : ℕ) → v < vars
    → value_of ys v ≡ value_of xs v +ℤ pos (get_or slacks v 0)
moved_by vars xs ys ss slacks n e h =
    λ v lt. (let P : List ℕ
    → Type 0 = λ l. value_of ys v ≡ value_of xs v +ℤ pos (get_or l v 0) in subst P e (h v (omega arith)))

pub returns-then-not-lower_all-clause-most : goal.returns-then-not-lower_all-clause-most
returns-then-not-lower_all-clause-most c =
    let slacks : List ℕ = c.lower_all.new.slacks.items in
    let placed : IsPlaced c.args.g.now c.args.x.now =
    record {
      shape = c.vars.ensures.shape;
      one_each = c.requires.one_each;
      solves = c.requires.solves;
      low = c.requires.low;
      high = c.requires.high;
    } in
    let settled : IsSettled c.args.g.now c.args.far.now c.args.x.now slacks =
    settled_after c.args.g.now c.args.far.now c.args.x.now c.rounds.slacks.items c.lower_all.new.slacks.items placed
    c.rounds.invariant.are c.if-not-lower_all.ensures.lowered (c.if-not-lower_all.ensures.quiet refl)
    c.requires.among c.requires.reach in
    let By : Vec ℤ Global → Type 0 = λ y. (v : ℕ) → v < length c.args.x.now
    → value_of y.items v ≡ value_of c.args.x.now v +ℤ pos (get_or c.deref-then-not-lower_all.result.now v 0) in
    let Most : Vec ℤ Global → Type 0 =
    λ y. IsMost c.args.g.now.vars c.args.g.now.edges c.args.far.now (value_of c.args.x.now) (value_of y.items) in
    IfOk-weaker c.moved.result By Most
    (λ y h. settled_most c.args.g.now c.args.far.now c.args.x.now slacks (value_of y.items) settled
    (moved_by c.args.g.now.vars c.args.x.now y.items c.deref-then-not-lower_all.result.now slacks
    c.requires.one_each c.deref-then-not-lower_all.ensures.value h)) c.moved.ensures.values

pub returns-then-not-lower_all-clause-attained : goal.returns-then-not-lower_all-clause-attained
returns-then-not-lower_all-clause-attained c =
    let slacks : List ℕ = c.lower_all.new.slacks.items in
    let placed : IsPlaced c.args.g.now c.args.x.now =
    record {
      shape = c.vars.ensures.shape;
      one_each = c.requires.one_each;
      solves = c.requires.solves;
      low = c.requires.low;
      high = c.requires.high;
    } in
    let settled : IsSettled c.args.g.now c.args.far.now c.args.x.now slacks =
    settled_after c.args.g.now c.args.far.now c.args.x.now c.rounds.slacks.items c.lower_all.new.slacks.items placed
    c.rounds.invariant.are c.if-not-lower_all.ensures.lowered (c.if-not-lower_all.ensures.quiet refl)
    c.requires.among c.requires.reach in
    let By : Vec ℤ Global → Type 0 = λ y. (v : ℕ) → v < length c.args.x.now
    → value_of y.items v ≡ value_of c.args.x.now v +ℤ pos (get_or c.deref-then-not-lower_all.result.now v 0) in
    let Attained : Vec ℤ Global → Type 0 = λ y. (v : ℕ) → 1 ≤ v → v < c.args.g.now.vars
    → IsAttained c.args.g.now.edges c.args.far.now (value_of c.args.x.now) v (value_of y.items v) in
    IfOk-weaker c.moved.result By Attained
    (λ y h. settled_attained c.args.g.now c.args.far.now c.args.x.now slacks (value_of y.items) settled
    (moved_by c.args.g.now.vars c.args.x.now y.items c.deref-then-not-lower_all.result.now slacks
    c.requires.one_each c.deref-then-not-lower_all.ensures.value h)) c.moved.ensures.values
