use Rattle.std.proofs.Common.{◌≡◌, ◌+◌, arith, true, false, get_or, w64, to_z, of_z}
use Rattle.std.proofs.lemmas.{Int.to_z-of_z, List.get_or_read}
use Rattle.bar_rows.specs.{Rows.{no_bar}}
use Rattle.bar_sight.specs.{Sight.{last_at, no_last}}
use Rattle.bar_sight.proofs.Behind.{sought_from}
use Rattle.bar_sight.proofs.Ends.{IsWall, ends_at_last, ends_at_other, owned_next}
use Rattle.bar_sight.proofs.row.Row.end_of_others.Goals.{then-index-via-then-index}
use Rattle.bar_sight.proofs.row.Row.end_of_others.Goals.{then-index-via-else-index+then-is_other}
use Rattle.bar_sight.proofs.row.Row.end_of_others.Goals as goal

pub returns-then-index-clause-none : goal.returns-then-index-clause-none
returns-then-index-clause-none c = λ q s.
    let row = c.args.self.now in
    let place = c.args.place in
    let above = c.args.above in
    let from = c.loop-k.from in
    let k = c.in-Some.k in
    let same = c.as_slice-bars.ensures.value in
    let f = rw (same, to_z-of_z w64 above c.ranges.above) at c.in-Some.ensures in
    let solid : (get_or c.as_slice-bars.result.now k no_bar).is_solid ≡ true = c.if-not-far.false in
    let before = f.before in
    let each = c.requires.row.lasts.one_each in
    let last : c.index.result.now ≡ last_at row.lasts.items k =
    get_or_read row.lasts.items k c.index.result.now (omega (arith, before, each)) c.index.ensures no_last in
    let wall : IsWall row place above from k = record {
      is_row = c.requires.row;
      after = c.loop-k.invariant.after;
      behind = f.after;
      main = c.requires.row.only_mains k f.asked.0;
      is_free = rw same at (c.is_free.ensures.0 c.if-not-is_free.false);
      solid = rw same at solid;
      faces = rw same at (c.faces.ensures.0 c.if-not-faces.false);
      low = c.requires.above;
      there = f.asked.1.ends;
    } in
    elim c.then-index.branch [
      | then-index-via-then-index w ↦
          ends_at_last row place above from k q wall (let is = w.if-index.true in rw last at is) s
      | then-index-via-else-index+then-is_other w ↦
          let known = rw same at (w.is_other.ensures w.if-is_other.true) in
          ends_at_other row place above from k known.0 q c.loop-k.owner wall
          (rw (to_z-of_z w64 above c.ranges.above) at c.loop-k.invariant.owned) known.1 known.2 s
    ]

pub loop-k-preserved-then-not-is_free : goal.loop-k-preserved-then-not-is_free
loop-k-preserved-then-not-is_free c =
    let above = to_z w64 (of_z w64 c.args.above) in
    let from = c.loop-k.from in
    let k = c.in-Some.k in
    let h = c.loop-k.invariant in
    let after = h.after in
    let behind = c.in-Some.ensures.after in
    record {
      after = omega (arith, after, behind);
      owned = λ q o s e. h.owned q o
          (sought_from c.args.self.now c.args.place above from (k + 1) false q (omega (arith, behind)) s) e;
    }

pub loop-k-preserved : goal.loop-k-preserved
loop-k-preserved c =
    let row = c.args.self.now in
    let place = c.args.place in
    let above = c.args.above in
    let from = c.loop-k.from in
    let k = c.in-Some.k in
    let same = c.as_slice-bars.ensures.value in
    let f = rw (same, to_z-of_z w64 above c.ranges.above) at c.in-Some.ensures in
    let solid : (get_or c.as_slice-bars.result.now k no_bar).is_solid ≡ true = c.if-not-far.false in
    let wall : IsWall row place above from k = record {
      is_row = c.requires.row;
      after = c.loop-k.invariant.after;
      behind = f.after;
      main = c.requires.row.only_mains k f.asked.0;
      is_free = rw same at (c.is_free.ensures.0 c.if-not-is_free.false);
      solid = rw same at solid;
      faces = rw same at (c.faces.ensures.0 c.if-not-faces.false);
      low = c.requires.above;
      there = f.asked.1.ends;
    } in
    let after = c.loop-k.invariant.after in
    let behind = f.after in
    record {
      after = omega (arith, after, behind);
      owned = rw (same, to_z-of_z w64 above c.ranges.above) (owned_next row place above from k wall);
    }
