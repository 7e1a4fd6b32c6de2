-- What a call finds, and what a command's answer is.
use Rattle.std.proofs.Common.{◌≡◌, ℕ, ◌<◌, ◌^◌, ℤ, pos, negsuc, Bool, true, false, ◌||◌, int_lt, unsigned_abs}
use Rattle.std.proofs.Common.{FitsSigned, of_z, to_z, w64, Some, Result, Ok, Err, OnOk, IfErr, List, length, refl, sym}
use Rattle.std.proofs.{Common.{ap, ◌∙◌, subst, arith}, lemmas.{Int.to_z-of_z, Bool.false≢true}}
use Rattle.std.specs.{Ordering.nat_cmp, BTreeMap.{BTreeMap, get}}
use Rattle.cif_lex.specs.Commands.{is_far}
use Rattle.cif_read.specs.{Hierarchies.Symbol, Acts.{is_bad_symbol, is_bad_call, is_known, place_of}, Files.IsWithin}
use Rattle.cif_read.{specs.Readings.HasPlaces, proofs.{Scales.{neither, near_from}, Places.{known_at, place_below}}}

-- ---- the numbers of a call

pub record IsGoodCall (n x y : ℤ) : Type 0 where
  pub number : pos (unsigned_abs n) ≡ n
  pub x_near : IsWithin (2 ^ 30) x
  pub y_near : IsWithin (2 ^ 30) y

pub number_same : (n : ℤ) → int_lt n (pos 0) ≡ false → pos (unsigned_abs n) ≡ n
number_same (pos n) h = refl
number_same (negsuc n) h = absurd (false≢true (sym h))

pub good_call : (n x y : ℤ) (far : Bool) → is_bad_call n x y far ≡ false → IsGoodCall n x y
good_call n x y far h =
    let all = neither (is_bad_symbol n || far || is_far x) (is_far y) h in
    let rest = neither (is_bad_symbol n || far) (is_far x) all.0 in
    let first = neither (is_bad_symbol n) far rest.0 in
    let number = neither (int_lt n (pos 0)) (is_far n) first.0 in
    record { number = number_same n number.0; x_near = near_from x rest.1; y_near = near_from y all.1 }

pub seen_call : (n x y : ℤ) (far : Bool) → FitsSigned w64 n → FitsSigned w64 x → FitsSigned w64 y
    → is_bad_call (to_z w64 (of_z w64 n)) (to_z w64 (of_z w64 x)) (to_z w64 (of_z w64 y)) far ≡ is_bad_call n x y far
seen_call n x y far fn fx fy = rw (to_z-of_z w64 n fn, to_z-of_z w64 x fx, to_z-of_z w64 y fy) refl

-- ---- the symbol

pub record IsPlaceOf (n : ℤ) (symbols : List Symbol) (at : ℕ) : Type 0 where
  pub known : is_known n symbols ≡ true
  pub place : place_of n symbols ≡ at
  pub below : at < length symbols

place_is : (places : BTreeMap ℕ ℕ) (symbols : List Symbol) (m at : ℕ) → HasPlaces places symbols
    → get nat_cmp places m ≡ Some at → IsPlaceOf (pos m) symbols at
place_is places symbols m at h e =
    let found = known_at places symbols m at h e in
    record { known = found.0; place = found.1; below = omega (arith, place_below (pos m) symbols found.0, found.1) }

pub place_found : (places : BTreeMap ℕ ℕ) (symbols : List Symbol) (n : ℤ) (at : ℕ) → FitsSigned w64 n
    → pos (unsigned_abs n) ≡ n → HasPlaces places symbols
    → get nat_cmp places (unsigned_abs (to_z w64 (of_z w64 n))) ≡ Some at → IsPlaceOf n symbols at
place_found places symbols n at fits number h e =
    let same = ap (λ z. pos (unsigned_abs z)) (to_z-of_z w64 n fits) ∙ number in
    let word = unsigned_abs (to_z w64 (of_z w64 n)) in
    subst (λ z. IsPlaceOf z symbols at) same (place_is places symbols word at h e)

-- ---- answers

pub ok_weaker : {T E : Type 0} (r : Result T E) (P Q : Type 0) → (P → Q) → OnOk r P → OnOk r Q
ok_weaker (Ok x) P Q imp h = imp h
ok_weaker (Err e) P Q imp h = tt

pub err_weaker : {T E : Type 0} (r : Result T E) (P Q : E → Type 0) → ((e : E) → P e → Q e) → IfErr r P → IfErr r Q
err_weaker (Ok x) P Q imp h = tt
err_weaker (Err e) P Q imp h = imp e h
