-- What is not seen behind bars that were found.
use Rattle.std.proofs.Common.{◌≡◌, ◌≢◌, ℕ, ◌<◌, ◌≤◌, ◌+◌, ◌≤ℤ◌, ◌<ℤ◌, ◌+ℤ◌, ℤ, pos}
use Rattle.std.proofs.Common.{Bool, true, false, IsTrue, length, inl, inr}
use Rattle.std.proofs.{Common.{arith, refl, sym, ◌∙◌, subst, Option, Some, None}, lemmas.{Int.{ints}}}
use Rattle.std.proofs.lemmas.Option.{none-some, same_Some}
use Rattle.std.specs.{Prelude.{unwrap_or, ◌⊎◌}, Int.int_max}
use Rattle.bar_rows.specs.{declared.bars.Bar.Bar, Facing.{KindsBind, Binds, Faces}, Rows.{bar_at}}
use Rattle.bar_sight.specs.declared.{row.Row.Row, mains.{Passed.Passed}}
use Rattle.bar_sight.specs.Sight.{IsRow, IsScreen, last_at}
use Rattle.bar_sight.specs.Looks.{IsFree, IsSought, IsPassed, IsLate}
use Rattle.bar_sight.proofs.Laws.{is_early, mains_bind, mains_bound, main_binds, other_binds, others_unbound}
use Rattle.bar_sight.proofs.Laws.{free_apart, screened}

pub sought_from : (row : Row) (place : ℕ) (above : ℤ) (from then : ℕ) (is_main : Bool) (q : ℕ) → from ≤ then
    → IsSought row place above then is_main q → IsSought row place above from is_main q
sought_from row place above from then is_main q before s =
    let after = s.after in
    record { after = omega (arith, before, after); kind = s.kind; sees = s.sees; ends = s.ends }

-- nothing is seen behind a solid bar that was found, and to which it is bound
pub none_behind : (row : Row) (place : ℕ) (above : ℤ) (from : ℕ) (is_main : Bool) (q k : ℕ)
    → IsSought row place above from is_main q → place < k → k < from → IsTrue (bar_at row.bars.items k).is_solid
    → Faces row.self_rule (bar_at row.bars.items place) (bar_at row.bars.items k)
    → (bar_at row.bars.items place).end ≤ℤ (above +ℤ pos 1)
    → (bar_at row.bars.items q).start <ℤ (bar_at row.bars.items k).end
    → Binds row.self_rule (bar_at row.bars.items k) (bar_at row.bars.items q) → ⊥
none_behind row place above from is_main q k s after before solid faces low early bound =
    let from_here = s.after in
    screened row.self_rule row.bars.items place q k above s.sees after (omega (arith, before, from_here)) solid faces
    low s.ends early bound

-- the same, where that one is there when the bar ends
pub none_behind_one : (row : Row) (place : ℕ) (above : ℤ) (from : ℕ) (is_main : Bool) (q k : ℕ)
    → IsSought row place above from is_main q → place < k → k < from → IsTrue (bar_at row.bars.items k).is_solid
    → Faces row.self_rule (bar_at row.bars.items place) (bar_at row.bars.items k)
    → (bar_at row.bars.items place).end ≤ℤ (above +ℤ pos 1) → above <ℤ (bar_at row.bars.items k).end
    → Binds row.self_rule (bar_at row.bars.items k) (bar_at row.bars.items q) → ⊥
none_behind_one row place above from is_main q k s after before solid faces low there bound =
    none_behind row place above from is_main q k s after before solid faces low
    (is_early (bar_at row.bars.items place) (bar_at row.bars.items k) (bar_at row.bars.items q) above s.sees.faces.meet
    low there)
    bound

-- ---- main bars behind one that screens one of their key

-- a bar that screens a main bar, and has no contact, is bound to all of the key of that one, by what they are
kinds_of_key : (r m f n : Bool) (k far q : Bar) → IsTrue f → IsTrue n → q.key ≡ far.key → IsFree k
    → KindsBind r m f k far → KindsBind r m n k q
kinds_of_key r true f n k far q far_main main same is_free h =
    let known = mains_bound r true f k far refl far_main h in
    mains_bind r true n k q known.0 refl main (λ e. known.1 (e ∙ same))
kinds_of_key r false f n k far q far_main main same is_free h =
    other_binds r false n k q refl main (free_apart k.contacts q.contacts is_free.0 is_free.1)

-- no main bar farther along is of the owner of the last one of it
pub other_owner : (row : Row) (k q : ℕ) → IsRow row → k < q → q < length row.bars.items
    → IsTrue (last_at row.lasts.items k).of_mains → IsTrue (bar_at row.bars.items q).is_main
    → (bar_at row.bars.items k).owner ≢ (bar_at row.bars.items q).owner
other_owner row k q is before among last main = λ e.
    (is.lasts.each k (omega (arith, before, among))).of_mains last q before among main (sym e)

pub other_owner_of_others : (row : Row) (k q : ℕ) → IsRow row → k < q → q < length row.bars.items
    → IsTrue (last_at row.lasts.items k).of_others → (bar_at row.bars.items q).is_main ≡ false
    → (bar_at row.bars.items k).owner ≢ (bar_at row.bars.items q).owner
other_owner_of_others row k q is before among last other = λ e.
    (is.lasts.each k (omega (arith, before, among))).of_others last q before among other (sym e)

pub main_hidden : (row : Row) (place : ℕ) (above : ℤ) (far k q : ℕ) → IsRow row → IsScreen row place far k
    → IsTrue (bar_at row.bars.items far).is_main → IsTrue (last_at row.lasts.items k).of_mains
    → IsFree (bar_at row.bars.items k) → (bar_at row.bars.items place).end ≤ℤ (above +ℤ pos 1)
    → IsSought row place above (far + 1) true q → (bar_at row.bars.items q).key ≡ (bar_at row.bars.items far).key
    → (bar_at row.bars.items q).start <ℤ (bar_at row.bars.items k).end → ⊥
main_hidden row place above far k q is screen far_main last is_free low s same early =
    let behind = s.after in
    let before = screen.before in
    none_behind row place above (far + 1) true q k s screen.after (omega arith) screen.screens.solid
    screen.screens.first low early (record {
      owners = other_owner row k q is (omega arith) s.sees.among last s.kind;
      kinds = kinds_of_key row.self_rule (bar_at row.bars.items k).is_main (bar_at row.bars.items far).is_main
          (bar_at row.bars.items q).is_main (bar_at row.bars.items k) (bar_at row.bars.items far)
          (bar_at row.bars.items q) far_main s.kind same is_free screen.screens.second.bound.kinds;
    })

-- the first key that was found, or that of the bar at hand
hidden_key : (row : Row) (place : ℕ) (above : ℤ) (from : ℕ) (passed : Passed) (first : Option ℕ) (key q : ℕ)
    → passed.first ≡ first → IsPassed row place above from passed → IsSought row place above from true q
    → (bar_at row.bars.items q).start <ℤ passed.late → unwrap_or first key ≡ (bar_at row.bars.items q).key → ⊥
hidden_key row place above from passed None key q is h s early same = h.low is q s early
hidden_key row place above from passed (Some first) key q is h s early same =
    h.hidden q s (record { early = early; key = subst (λ k. passed.first ≡ Some k) same is })

below_max : (a b c : ℤ) → a <ℤ int_max b c → (a <ℤ b) ⊎ (a <ℤ c)
below_max a b c h = grind (arith, ints)

pub passed_more : (row : Row) (place : ℕ) (above : ℤ) (far k : ℕ) (passed : Passed) (late : ℤ) → IsRow row
    → IsScreen row place far k
    → IsTrue (bar_at row.bars.items far).is_main → IsTrue (last_at row.lasts.items k).of_mains
    → IsFree (bar_at row.bars.items k) → (bar_at row.bars.items place).end ≤ℤ (above +ℤ pos 1)
    → unwrap_or passed.first (bar_at row.bars.items far).key ≡ (bar_at row.bars.items far).key
    → late ≡ int_max passed.late (bar_at row.bars.items k).end
    → IsPassed row place above (far + 1) passed
    → IsPassed row place above (far + 1)
    (record { first = Some (unwrap_or passed.first (bar_at row.bars.items far).key); late = late })
passed_more row place above far k passed late is screen far_main last is_free low same is_late h =
    let key = (bar_at row.bars.items far).key in
    record {
      low = λ e q s early. none-some (unwrap_or passed.first key) (sym e);
      hidden = λ q s hidden.
          let own = same_Some (unwrap_or passed.first key) (bar_at row.bars.items q).key hidden.key in
          elim (below_max (bar_at row.bars.items q).start passed.late (bar_at row.bars.items k).end
          (subst (λ z. (bar_at row.bars.items q).start <ℤ z) is_late hidden.early)) as (λ _. ⊥) [
            | inl early ↦ hidden_key row place above (far + 1) passed passed.first key q refl h s early own
            | inr early ↦ main_hidden row place above far k q is screen far_main last is_free low s (sym own ∙ same)
                early
          ];
    }

-- ---- main bars behind one of another key

pub main_screened : (row : Row) (place : ℕ) (above : ℤ) (far q : ℕ) → IsTrue row.self_rule → place < far
    → IsTrue (bar_at row.bars.items far).is_main → IsTrue (bar_at row.bars.items far).is_solid
    → Faces row.self_rule (bar_at row.bars.items place) (bar_at row.bars.items far)
    → (bar_at row.bars.items place).end ≤ℤ (above +ℤ pos 1) → above <ℤ (bar_at row.bars.items far).end
    → IsSought row place above (far + 1) true q
    → (bar_at row.bars.items far).owner ≢ (bar_at row.bars.items q).owner
    → (bar_at row.bars.items far).key ≢ (bar_at row.bars.items q).key → ⊥
main_screened row place above far q rule after main solid faces low there s owners keys =
    none_behind_one row place above (far + 1) true q far s after (omega arith) solid faces low there (record {
      owners = owners;
      kinds = mains_bind row.self_rule (bar_at row.bars.items far).is_main (bar_at row.bars.items q).is_main
          (bar_at row.bars.items far) (bar_at row.bars.items q) rule main s.kind keys;
    })

-- ---- other bars behind a main one

kinds_of_others : (r m f n : Bool) (k far q : Bar) → f ≡ false → n ≡ false → IsFree k → KindsBind r m f k far
    → KindsBind r m n k q
kinds_of_others r true f n k far q far_other other is_free h =
    main_binds r true n k q refl other (free_apart k.contacts q.contacts is_free.0 is_free.1)
kinds_of_others r false f n k far q far_other other is_free h =
    let main = others_unbound r false f k far refl h in
    absurd (cc)

pub other_hidden : (row : Row) (place : ℕ) (above : ℤ) (far k q : ℕ) → IsRow row → IsScreen row place far k
    → (bar_at row.bars.items far).is_main ≡ false → IsTrue (last_at row.lasts.items k).of_others
    → IsFree (bar_at row.bars.items k) → (bar_at row.bars.items place).end ≤ℤ (above +ℤ pos 1)
    → IsSought row place above (far + 1) false q
    → (bar_at row.bars.items q).start <ℤ (bar_at row.bars.items k).end → ⊥
other_hidden row place above far k q is screen far_other last is_free low s early =
    let behind = s.after in
    let before = screen.before in
    none_behind row place above (far + 1) false q k s screen.after (omega arith) screen.screens.solid
    screen.screens.first low early (record {
      owners = other_owner_of_others row k q is (omega arith) s.sees.among last s.kind;
      kinds = kinds_of_others row.self_rule (bar_at row.bars.items k).is_main (bar_at row.bars.items far).is_main
          (bar_at row.bars.items q).is_main (bar_at row.bars.items k) (bar_at row.bars.items far)
          (bar_at row.bars.items q) far_other s.kind is_free screen.screens.second.bound.kinds;
    })

pub late_more : (row : Row) (place : ℕ) (above : ℤ) (far k : ℕ) (late : ℤ) → IsRow row → IsScreen row place far k
    → (bar_at row.bars.items far).is_main ≡ false → IsTrue (last_at row.lasts.items k).of_others
    → IsFree (bar_at row.bars.items k) → (bar_at row.bars.items place).end ≤ℤ (above +ℤ pos 1)
    → IsLate row place above (far + 1) late
    → IsLate row place above (far + 1) (int_max late (bar_at row.bars.items k).end)
late_more row place above far k late is screen far_other last is_free low h = λ q s early.
    elim (below_max (bar_at row.bars.items q).start late (bar_at row.bars.items k).end early) as (λ _. ⊥)
    [ inl e ↦ h q s e | inr e ↦ other_hidden row place above far k q is screen far_other last is_free low s e ]

pub other_screened : (row : Row) (place : ℕ) (above : ℤ) (k q : ℕ) → place < k
    → IsTrue (bar_at row.bars.items k).is_main → IsFree (bar_at row.bars.items k)
    → IsTrue (bar_at row.bars.items k).is_solid
    → Faces row.self_rule (bar_at row.bars.items place) (bar_at row.bars.items k)
    → (bar_at row.bars.items place).end ≤ℤ (above +ℤ pos 1) → above <ℤ (bar_at row.bars.items k).end
    → IsSought row place above (k + 1) false q
    → (bar_at row.bars.items k).owner ≢ (bar_at row.bars.items q).owner → ⊥
other_screened row place above k q after main is_free solid faces low there s owners =
    none_behind_one row place above (k + 1) false q k s after (omega arith) solid faces low there (record {
      owners = owners;
      kinds = main_binds row.self_rule (bar_at row.bars.items k).is_main (bar_at row.bars.items q).is_main
          (bar_at row.bars.items k) (bar_at row.bars.items q) main s.kind
          (free_apart (bar_at row.bars.items k).contacts (bar_at row.bars.items q).contacts is_free.0 is_free.1);
    })

-- a main bar is not sought among the others
pub past_main : (row : Row) (place : ℕ) (above : ℤ) (k q : ℕ) → IsTrue (bar_at row.bars.items k).is_main
    → IsSought row place above k false q → IsSought row place above (k + 1) false q
past_main row place above k q main s =
    let after = s.after in
    let other : k ≢ q = λ e. (let same : (bar_at row.bars.items k).is_main ≡ false =
    subst (λ n. (bar_at row.bars.items n).is_main ≡ false) (sym e) s.kind in
    absurd (cc)) in
    record { after = omega (arith, after, other); kind = s.kind; sees = s.sees; ends = s.ends }
