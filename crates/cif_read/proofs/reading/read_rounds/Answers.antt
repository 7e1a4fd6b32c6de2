use Rattle.std.proofs.Common.{◌≡◌, ℕ, ◌≤◌, All, List, length, sym, subst, arith}
use Rattle.cif_read.specs.{declared.ahead.Portion.Portion, Ahead.{IsPortion, fitting_end}}
use Rattle.cif_read.proofs.{Beginnings.read_none, Portions.fitting_within}
use Rattle.cif_read.proofs.reading.read_rounds.Goals as goal

end_within : (text : List ℕ) (from end : ℕ) (portions seen : List Portion) → All (IsPortion text) portions
    → from ≤ length text → seen ≡ portions → end ≡ fitting_end from seen → end ≤ length text
end_within text from end portions seen all le same is =
    let seen_all = subst (λ ps. All (IsPortion text) ps) (sym same) all in
    subst (λ n. n ≤ length text) (sym is) (fitting_within text from seen seen_all le)

pub loop-from-init : goal.loop-from-init
loop-from-init g c = record {
  so_far = read_none c.args.dialect c.args.bytes.now c.new-reading.result c.new-reading.ensures.value
      c.new-reading.ensures.sound;
  portions = c.in_ok-portions.ensures;
}

pub overflow_add-to : goal.overflow_add-to
overflow_add-to g c =
    let loop = c.loop-from in
    omega (
      arith,
      end_within c.args.bytes.now loop.from c.fitting_end-to.result loop.portions.items c.deref.result.now
          loop.invariant.portions loop.invariant.so_far.within c.deref.ensures.value c.fitting_end-to.ensures,
    )
