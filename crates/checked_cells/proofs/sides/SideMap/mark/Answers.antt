use Rattle.std.{proofs.Common.{◌≡◌, cond, map, Some, ap, ◌∙◌}, specs.Prelude.bytes_eq}
use Rattle.checked_cells.specs.{declared.sides.Taken.Taken, Sides.{TakenAt, side_entries, with_taken, taken_at}}
use Rattle.checked_cells.proofs.{Entries.{under, under-insert_entry}, SideMarks.marked}
use Rattle.checked_cells.proofs.sides.SideMap.mark.Goals as goal

pub returns : goal.returns
returns c =
    let a = c.args in
    let old : TakenAt = side_entries a.self.now in
    let path = a.path.now in
    let taken : c.with-taken.result ≡ with_taken (taken_at old path) a.layer a.along a.is_low = c.with-taken.ensures
    ∙ ap (λ (t : Taken). with_taken t a.layer a.along a.is_low) c.at.ensures in
    marked old _ path a.layer a.along a.is_low (λ other.
    ap (λ es. under other (map (λ e. (e.0.now, e.1)) es)) c.in_ok-insert.ensures.entries
    ∙ under-insert_entry (λ k. k.now) a.path c.with-taken.result other a.self.now.taken.entries
    ∙ ap (λ (t : Taken). cond (bytes_eq other path) (Some t) (under other old)) taken)
