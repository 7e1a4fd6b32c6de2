-- Laws of bars that stand behind others, as they are seen from one.
use Rattle.std.proofs.Common.{◌≡◌, ◌≢◌, ℕ, ◌<◌, ◌≤ℤ◌, ◌<ℤ◌, ◌+ℤ◌, ℤ, pos, Bool, true, false, IsTrue, List}
use Rattle.std.proofs.Common.{inl, inr, arith, refl, sym, ◌∙◌}
use Rattle.std.proofs.{Common.{eqb}, lemmas.{Int.ints, Bool.{cases_Bool, eqb-true, eqb-false}}}
use Rattle.sym_items.specs.Standing.{nowhere}
use Rattle.bar_rows.specs.{declared.bars.{Bar.Bar, Contacts.Contacts}, Contacts.{ShareContact}}
use Rattle.bar_rows.specs.{Facing.{KindsBind, Binds, Meet, Faces}, Rows.{bar_at, Sees}}

pub equal : (a b : ℕ) → (a ≢ b → ⊥) → a ≡ b
equal a b h = elim (cases_Bool (eqb a b)) as (λ _. a ≡ b) [
  | inl t ↦ eqb-true a b t
  | inr f ↦ absurd (h (eqb-false a b f))
]

-- ---- bars that meet a third one meet each other, where they are there when it ends

pub meet_behind : (a k q : Bar) (above : ℤ) → Meet a k → a.end ≤ℤ (above +ℤ pos 1) → above <ℤ q.end
    → q.start <ℤ k.end → Meet k q
meet_behind a k q above meet low there early =
    let before = meet.1 in
    (omega (arith, ints, before, low, there), early)

pub is_early : (a k q : Bar) (above : ℤ) → Meet a q → a.end ≤ℤ (above +ℤ pos 1) → above <ℤ k.end → q.start <ℤ k.end
is_early a k q above meet low there =
    let before = meet.1 in
    omega (arith, ints, before, low, there)

-- ---- what two bars are bound by

pub mains_bind : (r m n : Bool) (a b : Bar) → IsTrue r → IsTrue m → IsTrue n → a.key ≢ b.key → KindsBind r m n a b
mains_bind r true true a b rule first second other = (rule, other)
mains_bind r true false a b rule first second other = absurd (cc)
mains_bind r false n a b rule first second other = absurd (cc)

pub mains_bound : (r m n : Bool) (a b : Bar) → IsTrue m → IsTrue n → KindsBind r m n a b
    → IsTrue r × (a.key ≢ b.key)
mains_bound r true true a b first second h = h
mains_bound r true false a b first second h = absurd (cc)
mains_bound r false n a b first second h = absurd (cc)

pub main_binds : (r m n : Bool) (a b : Bar) → IsTrue m → n ≡ false → (ShareContact a.contacts b.contacts → ⊥)
    → KindsBind r m n a b
main_binds r true false a b first second apart = apart
main_binds r true true a b first second apart = absurd (cc)
main_binds r false n a b first second apart = absurd (cc)

pub main_bound : (r m n : Bool) (a b : Bar) → IsTrue m → n ≡ false → KindsBind r m n a b
    → ShareContact a.contacts b.contacts → ⊥
main_bound r true false a b first second h = h
main_bound r true true a b first second h = absurd (cc)
main_bound r false n a b first second h = absurd (cc)

pub other_binds : (r m n : Bool) (a b : Bar) → m ≡ false → IsTrue n → (ShareContact a.contacts b.contacts → ⊥)
    → KindsBind r m n a b
other_binds r false true a b first second apart = apart
other_binds r false false a b first second apart = absurd (cc)
other_binds r true n a b first second apart = absurd (cc)

pub other_bound : (r m n : Bool) (a b : Bar) → m ≡ false → IsTrue n → KindsBind r m n a b
    → ShareContact a.contacts b.contacts → ⊥
other_bound r false true a b first second h = h
other_bound r false false a b first second h = absurd (cc)
other_bound r true n a b first second h = absurd (cc)

-- of two bars that are bound one is a main one
pub others_unbound : (r m n : Bool) (a b : Bar) → m ≡ false → KindsBind r m n a b → IsTrue n
others_unbound r false true a b first h = refl
others_unbound r false false a b first h = absurd h
others_unbound r true n a b first h = absurd (cc)

pub free_apart : (a b : Contacts) → a.low ≡ nowhere → a.high ≡ nowhere → ShareContact a b → ⊥
free_apart a b low high h = elim h.1.1 as (λ _. ⊥) [
  | inl e ↦ h.1.0 (sym e ∙ low)
  | inr e ↦ h.1.0 (sym e ∙ high)
]

pub apart_turned : (a b : Contacts) → (ShareContact a b → ⊥) → ShareContact b a → ⊥
apart_turned a b apart h = apart (h.0, h.2, h.1)

-- ---- a bar is not seen behind one that it is bound to

pub screened : (r : Bool) (bars : List Bar) (place q k : ℕ) (above : ℤ) → Sees r bars place q → place < k → k < q
    → IsTrue (bar_at bars k).is_solid → Faces r (bar_at bars place) (bar_at bars k)
    → (bar_at bars place).end ≤ℤ (above +ℤ pos 1) → above <ℤ (bar_at bars q).end
    → (bar_at bars q).start <ℤ (bar_at bars k).end → Binds r (bar_at bars k) (bar_at bars q) → ⊥
screened r bars place q k above sees after before solid faces low there early bound =
    sees.clear k after before (record {
      solid = solid;
      first = faces;
      second = record {
        meet = meet_behind (bar_at bars place) (bar_at bars k) (bar_at bars q) above faces.meet low there early;
        bound = bound;
      };
    })
