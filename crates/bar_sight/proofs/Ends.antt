-- Where a look at bars that are not main ones ends.
use Rattle.std.proofs.Common.{◌≡◌, ◌≢◌, ℕ, ◌<◌, ◌≤◌, ◌+◌, ◌≤ℤ◌, ◌<ℤ◌, ◌+ℤ◌, ℤ, pos, false, IsTrue, arith}
use Rattle.std.proofs.{Common.{sym, ◌∙◌, Option, Some}, lemmas.Option.{same_Some}}
use Rattle.bar_rows.specs.{Facing.Faces, Rows.bar_at}
use Rattle.bar_sight.specs.{declared.row.Row.Row, Sight.{IsRow, last_at}, Looks.{IsFree, IsSought, IsOwned}}
use Rattle.bar_sight.proofs.{Laws.equal, Behind.{other_screened, other_owner_of_others, past_main, sought_from}}

-- a solid main bar with no contact that was found, and that the bar at a place faces
pub record IsWall (row : Row) (place : ℕ) (above : ℤ) (from k : ℕ) : Type 0 where
  pub is_row : IsRow row
  pub after : place < from
  pub behind : from ≤ k
  pub main : IsTrue (bar_at row.bars.items k).is_main
  pub is_free : IsFree (bar_at row.bars.items k)
  pub solid : IsTrue (bar_at row.bars.items k).is_solid
  pub faces : Faces row.self_rule (bar_at row.bars.items place) (bar_at row.bars.items k)
  pub low : (bar_at row.bars.items place).end ≤ℤ (above +ℤ pos 1)
  pub there : above <ℤ (bar_at row.bars.items k).end

-- none of another owner is sought behind it
not_past : (row : Row) (place : ℕ) (above : ℤ) (from k q : ℕ) → IsWall row place above from k
    → IsSought row place above k false q
    → (bar_at row.bars.items k).owner ≢ (bar_at row.bars.items q).owner → ⊥
not_past row place above from k q w s owners =
    let after = w.after in
    let behind = w.behind in
    other_screened row place above k q (omega (arith, after, behind)) w.main w.is_free w.solid w.faces w.low w.there
    (past_main row place above k q w.main s) owners

pub ends_at_last : (row : Row) (place : ℕ) (above : ℤ) (from k q : ℕ) → IsWall row place above from k
    → IsTrue (last_at row.lasts.items k).of_others → IsSought row place above k false q → ⊥
ends_at_last row place above from k q w last s =
    let behind = (past_main row place above k q w.main s).after in
    not_past row place above from k q w s
    (other_owner_of_others row k q w.is_row (omega (arith, behind)) s.sees.among last s.kind)

pub ends_at_other : (row : Row) (place : ℕ) (above : ℤ) (from k o q : ℕ) (owner : Option ℕ)
    → IsWall row place above from k
    → IsOwned row place above from owner → owner ≡ Some o → o ≢ (bar_at row.bars.items k).owner
    → IsSought row place above k false q → ⊥
ends_at_other row place above from k o q owner w h is apart s =
    not_past row place above from k q w s
    (λ e. apart (sym (e ∙ h q o (sought_from row place above from k false q w.behind s) is)))

pub owned_next : (row : Row) (place : ℕ) (above : ℤ) (from k : ℕ) → IsWall row place above from k
    → IsOwned row place above (k + 1) (Some (bar_at row.bars.items k).owner)
owned_next row place above from k w = λ q o s e.
    sym (equal (bar_at row.bars.items k).owner (bar_at row.bars.items q).owner (λ apart.
    not_past row place above from k q w (sought_from row place above k (k + 1) false q (omega arith) s) apart))
    ∙ same_Some (bar_at row.bars.items k).owner o e
