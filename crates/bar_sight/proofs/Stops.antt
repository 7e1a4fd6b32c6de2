-- Where a look at main bars ends.
use Rattle.std.proofs.Common.{◌≡◌, ◌≢◌, ℕ, ◌<◌, ◌+◌, ◌≤ℤ◌, ◌<ℤ◌, ◌+ℤ◌, ℤ, pos, Bool, true, false, IsTrue, arith}
use Rattle.std.proofs.Common.{refl, sym, ap, inl, inr, eqb, not, Option, Some, None, MatchOption}
use Rattle.std.{proofs.lemmas.Bool.{cases_Bool, eqb-true, eqb-false}, specs.Bool.then_some}
use Rattle.bar_rows.specs.{declared.bars.Bar.Bar, Facing.Faces, Rows.bar_at}
use Rattle.bar_sight.specs.{declared.{row.Row.Row, left.Left.Left}, Sight.{IsRow, last_at}}
use Rattle.bar_sight.specs.Looks.{IsSought, IsOf, IsLeft, AreLeft}
use Rattle.bar_sight.proofs.{Laws.equal, Behind.{main_screened, other_owner}}

-- a solid main bar that was found, and that the bar at a place faces
pub record IsFound (row : Row) (place : ℕ) (above : ℤ) (far : ℕ) : Type 0 where
  pub is_row : IsRow row
  pub rule : IsTrue row.self_rule
  pub after : place < far
  pub main : IsTrue (bar_at row.bars.items far).is_main
  pub solid : IsTrue (bar_at row.bars.items far).is_solid
  pub faces : Faces row.self_rule (bar_at row.bars.items place) (bar_at row.bars.items far)
  pub low : (bar_at row.bars.items place).end ≤ℤ (above +ℤ pos 1)
  pub there : above <ℤ (bar_at row.bars.items far).end

-- none of another key and owner is sought behind it
pub not_both : (row : Row) (place : ℕ) (above : ℤ) (far q : ℕ) → IsFound row place above far
    → IsSought row place above (far + 1) true q
    → (bar_at row.bars.items far).owner ≢ (bar_at row.bars.items q).owner
    → (bar_at row.bars.items far).key ≢ (bar_at row.bars.items q).key → ⊥
not_both row place above far q f s owners keys =
    main_screened row place above far q f.rule f.after f.main f.solid f.faces f.low f.there s owners keys

-- nor one of another key, where it is the last of its owner
pub not_past_last : (row : Row) (place : ℕ) (above : ℤ) (far q : ℕ) → IsFound row place above far
    → IsTrue (last_at row.lasts.items far).of_mains → IsSought row place above (far + 1) true q
    → (bar_at row.bars.items far).key ≢ (bar_at row.bars.items q).key → ⊥
not_past_last row place above far q f last s keys =
    let behind = s.after in
    not_both row place above far q f s
    (other_owner row far q f.is_row (omega arith) s.sees.among last s.kind) keys

-- what is sought behind it is of its key, or of its owner, where it is not the last of it
of_found : (row : Row) (place : ℕ) (above : ℤ) (far q : ℕ) (is_last : Bool) → IsFound row place above far
    → (last_at row.lasts.items far).of_mains ≡ is_last → IsSought row place above (far + 1) true q
    → IsOf (bar_at row.bars.items far).key (then_some (not is_last) (bar_at row.bars.items far).owner)
    (bar_at row.bars.items q)
of_found row place above far q true f last s =
    inl (sym (equal (bar_at row.bars.items far).key (bar_at row.bars.items q).key (λ other.
    not_past_last row place above far q f last s other)))
of_found row place above far q false f last s =
    let a = bar_at row.bars.items far in
    let b = bar_at row.bars.items q in
    elim (cases_Bool (eqb a.owner b.owner)) as (λ _. IsOf a.key (Some a.owner) b) [
      | inl t ↦ inr (ap Some (eqb-true a.owner b.owner t))
      | inr f_ ↦ inl (sym (equal a.key b.key (λ other.
          not_both row place above far q f s (eqb-false a.owner b.owner f_) other)))
    ]

pub left_behind : (row : Row) (place : ℕ) (above : ℤ) (far : ℕ) (left : Left) (behind : Option Left)
    → IsFound row place above far
    → ((b : Bar) → IsLeft left b
    → IsOf (bar_at row.bars.items far).key
    (then_some (not (last_at row.lasts.items far).of_mains) (bar_at row.bars.items far).owner) b
    → MatchOption behind ⊥ (λ fewer. IsLeft fewer b))
    → AreLeft row place above (far + 1) left
    → MatchOption behind ((q : ℕ) → IsSought row place above (far + 1) true q → ⊥)
    (AreLeft row place above (far + 1))
left_behind row place above far left None f fewer h = λ q s.
    fewer (bar_at row.bars.items q) (h q s)
    (of_found row place above far q (last_at row.lasts.items far).of_mains f refl s)
left_behind row place above far left (Some behind) f fewer h = λ q s.
    fewer (bar_at row.bars.items q) (h q s)
    (of_found row place above far q (last_at row.lasts.items far).of_mains f refl s)
