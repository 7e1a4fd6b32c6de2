-- A result and what would be wrong: where it is refused that is so, and where it is not that is not.
use Rattle.std.proofs.Common.{◌≡◌, ◌≢◌, ℕ, ◌<◌, ◌≤◌, ◌==◌, ◌%◌, nat_lt, nat_le, suc, Bool, true, false, not, ◌&&◌, ℤ}
use Rattle.std.proofs.Common.{List, [], ◌∷◌, length, get_or, Result, Ok, Err, IsTrue, refl, sym, ap, subst, inl, inr}
use Rattle.std.proofs.{Common.arith, lemmas.{Bool.Decides.nat_tests, Int.ints}}
use Rattle.std.specs.{Prelude.{◌⊎◌, int_le, ◌<ℤ◌}, List.list_all}
use Rattle.stick_text.specs.{declared.fault.StickKind.StickKind, Reading.{◌>>=◌, demand}}
use Rattle.checked_cells.{specs.Lines.is_empty, proofs.Accepted.{eq_from_test, apart_from_test, both, ok_same}}

-- ---- tests

pub record Denies (b : Bool) (Wrong : Type 0) : Type 0 where
  pub bad : b ≡ false → Wrong
  pub good : b ≡ true → Wrong → ⊥

pub both_deny : {M N : Type 0} (x y : Bool) → Denies x M → Denies y N → Denies (x && y) (M ⊎ N)
both_deny {M = M} {N = N} x y m n = record { bad = λ e. wrong x y refl refl e; good = λ e w. neither (both x y e) w }
  where
    wrong : (x' y' : Bool) → x ≡ x' → y ≡ y' → (x' && y') ≡ false → M ⊎ N
    wrong true true at on e = absurd (cc)
    wrong true false at on e = inr (n.bad on)
    wrong false y' at on e = inl (m.bad at)

    neither : IsTrue x × IsTrue y → M ⊎ N → ⊥
    neither passed (inl w) = m.good passed.0 w
    neither passed (inr w) = n.good passed.1 w

pub test_denies : (b : Bool) → Denies b (IsTrue (not b))
test_denies b = record { bad = λ e. ap not e; good = λ e w. absurd (cc) }

pub not_denies : (b : Bool) → Denies (not b) (IsTrue b)
not_denies true = record { bad = λ e. refl; good = λ e w. absurd (cc) }
not_denies false = record { bad = λ e. absurd (cc); good = λ e w. absurd (cc) }

pub even_denies : (n : ℕ) → Denies (n % 2 == 0) (n % 2 ≢ 0)
even_denies n = record { bad = λ e. apart_from_test (n % 2) 0 (ap not e); good = λ e w. w (eq_from_test (n % 2) 0 e) }

pub at_most_denies : (n most : ℕ) → Denies (nat_le n most) (most < n)
at_most_denies n most = record { bad = λ e. grind (arith, nat_tests); good = λ e w. grind (arith, nat_tests) }

pub below_denies : (n most : ℕ) → Denies (nat_lt n most) (most ≤ n)
below_denies n most = record { bad = λ e. grind (arith, nat_tests); good = λ e w. grind (arith, nat_tests) }

pub some_denies : (n : ℕ) → Denies (nat_lt 0 n) (n ≡ 0)
some_denies n = record { bad = λ e. grind (arith, nat_tests); good = λ e w. grind (arith, nat_tests) }

pub apart_denies : (m n : ℕ) → Denies (not (m == n)) (m ≡ n)
apart_denies m n = record { bad = λ e. grind (arith, nat_tests); good = λ e w. apart_from_test m n e w }

pub wide_denies : (a b : ℤ) → Denies (int_le a b) (b <ℤ a)
wide_denies a b = record { bad = λ e. grind (arith, ints); good = λ e w. grind (arith, ints) }

pub empty_denies : {A : Type 0} (xs : List A) → Denies (is_empty xs) (xs ≢ [])
empty_denies [] = record { bad = λ e. absurd (cc); good = λ e w. w refl }
empty_denies (x ∷ xs) = record { bad = λ e same. absurd (cc); good = λ e w. absurd (occupied e) }
  where
    occupied : is_empty (x ∷ xs) ≡ true → ⊥
    occupied e = grind (arith, nat_tests)

-- a test that not all pass is failed by one
pub fails_at : {X : Type 0} (test : X → Bool) (xs : List X) (d : X) → list_all test xs ≡ false
    → (k : ℕ) × (k < length xs) × (test (get_or xs k d) ≡ false)
fails_at test [] d e = absurd (cc)
fails_at test (x ∷ xs) d e = by (test x) refl (fails_at test xs d) e
  where
    by : (b : Bool) → test x ≡ b
        → (list_all test xs ≡ false → (k : ℕ) × (k < length xs) × (test (get_or xs k d) ≡ false))
        → (b && list_all test xs) ≡ false
        → (k : ℕ) × (k < length (x ∷ xs)) × (test (get_or (x ∷ xs) k d) ≡ false)
    by false here rest e = (0, omega arith, here)
    by true here rest e = let after = rest e in (suc after.0, omega (arith, after.1), after.2)

-- ---- results

pub record Judges {A E : Type 0} (r : Result A E) (Wrong : E → Type 0) : Type 0 where
  pub refused : (e : E) → r ≡ Err e → Wrong e
  pub accepted : (x : A) → r ≡ Ok x → (e : E) → Wrong e → ⊥

-- where something is wrong there is a refusal
pub refused_where : {A E : Type 0} {Wrong : E → Type 0} (r : Result A E) (e : E) → Judges r Wrong → Wrong e
    → (first : E) × (r ≡ Err first)
refused_where (Ok x) e judged w = absurd (judged.accepted x refl e w)
refused_where (Err k) e judged w = (k, refl)

-- refused at once
pub fails : {A E : Type 0} {Wrong : E → Type 0} (k : E) → Wrong k → Judges {A = A} (Err k) Wrong
fails {Wrong = Wrong} k w = record { refused = λ e is. subst Wrong (cc) w; accepted = λ x is. absurd (cc) }

pub passes : {A E : Type 0} {Wrong : E → Type 0} (x : A) → ((e : E) → Wrong e → ⊥) → Judges (Ok x) Wrong
passes x none = record { refused = λ e is. absurd (cc); accepted = λ x is. none }

-- a test is judged by what it denies
pub tested : {Wrong : Type 0} (b : Bool) (kind : StickKind) → Denies b Wrong
    → Judges (demand b kind) (λ k. (k ≡ kind) × Wrong)
tested true kind denied = passes tt (λ k w. denied.good refl w.1)
tested false kind denied = fails kind (refl, denied.bad refl)

-- two steps, of which the second is told of by what the first gave
pub then_with : {A B E : Type 0} {V : E → Type 0} {P : A → Type 0} {W : A → E → Type 0} (r : Result A E)
    (f : A → Result B E) → Judges r V → ((a : A) → r ≡ Ok a → P a) → ((a : A) → P a → r ≡ Ok a)
    → ((a : A) → r ≡ Ok a → Judges (f a) (W a)) → Judges (r >>= f) (λ e. V e ⊎ ((a : A) × P a × W a e))
then_with (Err k) f first there back second = fails k (inl (first.refused k refl))
then_with {V = V} {P = P} {W = W} (Ok a) f first there back second =
    record { refused = λ e is. inr (a, there a refl, (second a refl).refused e is); accepted = neither }
  where
    only : (b : _) (e : _) (x : _) → f a ≡ Ok x → a ≡ b → W b e → ⊥
    only b e x is same w = (second a refl).accepted x is e (subst (λ c. W c e) (sym same) w)

    neither : (x : _) → f a ≡ Ok x → (e : _) → V e ⊎ ((a : _) × P a × W a e) → ⊥
    neither x is e (inl v) = first.accepted a refl e v
    neither x is e (inr (b, p, w)) = only b e x is (ok_same a b (back b p)) w

-- two steps
pub then : {A B E : Type 0} {V W : E → Type 0} (r : Result A E) (f : A → Result B E) → Judges r V
    → ((a : A) → Judges (f a) W) → Judges (r >>= f) (λ e. V e ⊎ W e)
then (Err k) f first second = fails k (inl (first.refused k refl))
then {V = V} {W = W} (Ok a) f first second =
    record { refused = λ e is. inr ((second a).refused e is); accepted = neither }
  where
    neither : (x : _) → f a ≡ Ok x → (e : _) → V e ⊎ W e → ⊥
    neither x is e (inl v) = first.accepted a refl e v
    neither x is e (inr w) = (second a).accepted x is e w

-- a step that is not refused
pub last : {A B E : Type 0} {V : E → Type 0} (r : Result A E) (g : A → B) → Judges r V → Judges (r >>= λ a. Ok (g a)) V
last (Ok a) g judged = passes (g a) (judged.accepted a refl)
last (Err k) g judged = fails k (judged.refused k refl)
