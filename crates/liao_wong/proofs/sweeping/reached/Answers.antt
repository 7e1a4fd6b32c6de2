use Rattle.std.proofs.Common.{◌≡◌, ℕ, ◌-◌, ◌<◌, Bool, true, false, List, inl, inr, length, get_or, set, sym, ap, subst}
use Rattle.std.proofs.{Common.{◌∙◌, arith}, lemmas.{Bool.{cases_eq, true≢false}, List.{length-set, get_or_read}}}
use Rattle.round_log.specs.Logs.{origin_entry}
use Rattle.liao_wong.specs.Sweeping.{keeps_of}
use Rattle.liao_wong.proofs.Sweeps.{IsMarked, set_keeps, set_here, comes_from_older, last_inside, mark_back, mark_skip}
use Rattle.liao_wong.proofs.{Sweeps.keeps_chains, sweeping.reached.Goals.{then-index, else-index}}
use Rattle.liao_wong.proofs.sweeping.reached.Goals as goal

pub index_mut-requires-in-loop-latest : goal.index_mut-requires-in-loop-latest
index_mut-requires-in-loop-latest c =
    let inside = last_inside c.args.entries.now c.args.last.now c.loop-latest.latest-index c.requires
    c.loop-latest-test.true in
    let l = c.loop-latest.invariant.one_each in
    omega (arith, inside, l)

pub loop-latest-preserved : goal.loop-latest-preserved
loop-latest-preserved c =
    let flags : List Bool = c.loop-latest.keeps.items in
    let last : List ℕ = c.args.last.now in
    let i : ℕ = c.loop-latest.latest-index in
    let n : ℕ = get_or last i 0 in
    let l = c.loop-latest.invariant.one_each in
    let entry = last_inside c.args.entries.now last i c.requires c.loop-latest-test.true in
    let inside : n < length flags = omega (arith, entry, l) in
    record {
      one_each = length-set flags n true ∙ l;
      origin = set_keeps flags n 0 inside c.loop-latest.invariant.origin;
      marked = λ v lt. elim (cases_eq v i) as (λ _. keeps_of (set flags n true) (get_or last v 0) ≡ true) [
        | inl e ↦ ap (λ j. keeps_of (set flags n true) (get_or last j 0)) e ∙ set_here flags n inside
        | inr ne ↦ set_keeps flags n (get_or last v 0) inside (c.loop-latest.invariant.marked v (omega arith))
      ];
    }

pub index_mut-requires-then-index : goal.index_mut-requires-then-index
index_mut-requires-then-index c =
    let m : IsMarked c.args.entries.now c.args.last.now c.loop-n.keeps.items c.loop-n.n = c.loop-n.invariant in
    let older = comes_from_older c.args.entries.now (length c.args.last.now) c.loop-n.n origin_entry
    c.requires.entries_are c.requires.older c.loop-n-test.true m.in_log in
    let x = m.one_each in
    let y = m.in_log in
    omega (arith, older, x, y)

pub loop-n-preserved : goal.loop-n-preserved
loop-n-preserved c =
    let entries = c.args.entries.now in
    let last : List ℕ = c.args.last.now in
    let m : IsMarked entries last c.loop-n.keeps.items c.loop-n.n = c.loop-n.invariant in
    let one_each = m.one_each in
    let in_log = m.in_log in
    let P : List Bool → Type 0 = λ flags. IsMarked entries last flags (c.loop-n.n - 1) in
    elim c.if-index.branch as (λ _. IsMarked entries last c.if-index.keeps.items (c.loop-n.n - 1)) [
      | then-index w ↦ subst P (sym (ap (λ v. v.items) w.keeps-is))
          (mark_back entries last c.loop-n.keeps.items c.loop-n.n c.requires c.loop-n.invariant c.loop-n-test.true)
      | else-index w ↦ subst P (sym (ap (λ v. v.items) w.keeps-is))
          (mark_skip entries last c.loop-n.keeps.items c.loop-n.n c.loop-n.invariant c.loop-n-test.true
          (λ t. true≢false
          (sym t ∙ (sym
          (get_or_read c.loop-n.keeps.items c.loop-n.n c.index.result.now (omega (arith, one_each, in_log))
          c.index.ensures false) ∙ w.if-index.false))))
    ]

pub returns-clause-chains : goal.returns-clause-chains
returns-clause-chains c = keeps_chains c.args.entries.now c.args.last.now c.loop-n.keeps.items c.loop-n.n c.requires
    c.loop-n.invariant c.loop-n-test.false
