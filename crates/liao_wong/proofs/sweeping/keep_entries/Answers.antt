use Rattle.std.proofs.Common.{ℕ, ◌+◌, ◌<◌, List, length, get_or, refl, sym, ap, subst, arith}
use Rattle.round_log.specs.declared.log.Entry.{Entry}
use Rattle.liao_wong.{specs.Sweeping.keeps_of, proofs.Sweeps.{IsCompacted, compact_older, compact_keep, compact_drop}}
use Rattle.liao_wong.proofs.sweeping.keep_entries.Goals.{then-keeps-n, else-keeps-n}
use Rattle.liao_wong.proofs.sweeping.keep_entries.Goals as goal

pub offset_bounds-numbers-entry : goal.offset_bounds-numbers-entry
offset_bounds-numbers-entry c =
    let lt : c.loop-n.n < length c.args.entries.now.items = omega arith in
    let older = compact_older (keeps_of c.args.keeps.now) c.args.entries.now.items c.loop-n.entries.items
    c.requires.entries.vars c.loop-n.n c.loop-n.kept c.index-entry.result.now c.requires.entries.entries_are
    c.requires.entries.older c.loop-n.invariant lt c.index-entry.ensures in
    omega (arith, older, lt)

pub bounds-numbers-entry : goal.bounds-numbers-entry
bounds-numbers-entry c =
    let lt : c.loop-n.n < length c.args.entries.now.items = omega arith in
    let older = compact_older (keeps_of c.args.keeps.now) c.args.entries.now.items c.loop-n.entries.items
    c.requires.entries.vars c.loop-n.n c.loop-n.kept c.index-entry.result.now c.requires.entries.entries_are
    c.requires.entries.older c.loop-n.invariant lt c.index-entry.ensures in
    let x = c.requires.one_each in
    let y = c.requires.numbers.one_each in
    omega (arith, older, lt, x, y)

pub loop-n-preserved : goal.loop-n-preserved
loop-n-preserved c =
    let es : List Entry = c.args.entries.now.items in
    let now : List Entry = c.loop-n.entries.items in
    let flags = c.args.keeps.now in
    let n : ℕ = c.loop-n.n in
    let kept : ℕ = c.loop-n.kept in
    let lt : n < length es = omega arith in
    let long = c.requires.one_each in
    let E : List Entry → Type 0 = λ l. IsCompacted (keeps_of flags) es l (n + 1) c.if-keeps-n.kept in
    elim c.if-keeps-n.branch
    as (λ _. IsCompacted (keeps_of flags) es c.if-keeps-n.entries.items (n + 1) c.if-keeps-n.kept) [
      | then-keeps-n w ↦ (
          let e : Entry = w.index-entry.result.now in
          let older = compact_older (keeps_of flags) es now c.requires.entries.vars n kept e
          c.requires.entries.entries_are c.requires.entries.older c.loop-n.invariant lt w.index-entry.ensures in
          let number = c.requires.numbers.are e.prev (omega (arith, older, lt, long)) in
          let K : ℕ → Type 0 = λ k. IsCompacted (keeps_of flags) es c.if-keeps-n.entries.items (n + 1) k in
          let M : List Entry → Type 0 = λ l. IsCompacted (keeps_of flags) es l (n + 1) (kept + 1) in
          subst K (sym w.kept-is)
          (subst M (sym (ap (λ v. v.items) w.entries-is))
          (compact_keep (keeps_of flags) es now n kept (get_or c.args.numbers.now e.prev 0) _ e c.loop-n.invariant
          lt w.if-keeps-n.true w.index-entry.ensures number refl)))
      | else-keeps-n w ↦ (
          let K : ℕ → Type 0 = λ k. IsCompacted (keeps_of flags) es c.if-keeps-n.entries.items (n + 1) k in
          let M : List Entry → Type 0 = λ l. IsCompacted (keeps_of flags) es l (n + 1) kept in
          subst K (sym w.kept-is)
          (subst M (sym (ap (λ v. v.items) w.entries-is))
          (compact_drop (keeps_of flags) es now n kept c.loop-n.invariant lt w.if-keeps-n.false)))
    ]
