use Rattle.std.proofs.Common.{◌≡◌, ℕ, ◌<◌, List, ◌++◌, slice_index_or, get_or, sym, ap, subst, ◌∙◌, arith}
use Rattle.round_log.specs.{declared.log.Entry.Entry, Looks.{latest, chain}, Logs.{raises_in, origin_entry}}
use Rattle.round_log.proofs.{Raises.latest_in_log, Ends.numbers, Walks.{IsNextBack, next_back, IsCriticalWalk}}
use Rattle.round_log.proofs.Walks.{back_at_origin}
use Rattle.round_log.proofs.walk.walk_to.Goals as goal

pub loop-n-init : goal.loop-n-init
loop-n-init c =
    let rs : List Entry = raises_in c.args.log.now in
    let here : slice_index_or c.as_slice.result.now c.args.var 0 ≡ latest rs c.args.var =
    ap (λ l. slice_index_or l c.args.var 0) c.as_slice.ensures
    ∙ c.requires.ended.of_rounds.holds.last_are c.args.var c.requires.in_range in
    record {
      in_log = omega (arith, here, latest_in_log rs c.args.var);
      left = ap (λ l. l ++ numbers (chain rs (slice_index_or c.as_slice.result.now c.args.var 0)))
          c.new-walk.ensures.items ∙ ap (λ n. numbers (chain rs n)) here;
    }

pub loop-n-smaller : goal.loop-n-smaller
loop-n-smaller c =
    let P : List Entry → Type 0 = λ l. (get_or l c.loop-n.n origin_entry).prev < c.loop-n.n in
    subst P (sym c.as_slice-entries.ensures)
    (next_back c.args.g.now c.args.log.now c.args.var c.loop-n.n c.loop-n.walk.items origin_entry
    c.vars.ensures.shape c.requires.ended (omega arith) c.loop-n.invariant.in_log c.loop-n.invariant.left).older

pub loop-n-preserved : goal.loop-n-preserved
loop-n-preserved c =
    let e : Entry = get_or c.as_slice-entries.result.now c.loop-n.n origin_entry in
    let P : List Entry → Type 0 =
    λ l. IsNextBack c.args.log.now c.args.var c.loop-n.n c.loop-n.walk.items (get_or l c.loop-n.n origin_entry) in
    let next : IsNextBack c.args.log.now c.args.var c.loop-n.n c.loop-n.walk.items e =
    subst P (sym c.as_slice-entries.ensures)
    (next_back c.args.g.now c.args.log.now c.args.var c.loop-n.n c.loop-n.walk.items origin_entry
    c.vars.ensures.shape c.requires.ended (omega arith) c.loop-n.invariant.in_log c.loop-n.invariant.left) in
    record {
      in_log = let lt = next.older in let le = c.loop-n.invariant.in_log in omega (arith, lt, le);
      left = ap (λ l. l ++ numbers (chain (raises_in c.args.log.now) e.prev)) c.in_ok-push.ensures.items ∙ next.left;
    }

pub returns : goal.returns
returns c =
    let P : List ℕ → Type 0 = λ w. IsCriticalWalk c.args.g.now c.args.log.now c.args.var w in
    let walk : IsCriticalWalk c.args.g.now c.args.log.now c.args.var c.reverse.new.self.items =
    subst P (sym c.reverse.ensures.items)
    (back_at_origin c.args.g.now c.args.log.now c.args.var c.loop-n.n c.loop-n.walk.items c.vars.ensures.shape
    c.requires.ended c.requires.in_range c.loop-n-test.false c.loop-n.invariant.left) in
    record { value = walk.value; passes = walk.passes; simple = walk.simple; as_long = walk.as_long }
