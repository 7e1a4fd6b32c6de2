-- What a function answers at the elements of a list.
use Rattle.std.specs.Prelude.{◌≡◌, ◌<◌, ℕ, List, [], All, Result, Ok, Err, IsOk, Vec, flat_map}
use Rattle.std.specs.{List.{AllZip, range_with_len}, Borrow.Bor, Fn.{FnReturnsAt, Shared}}

module _ {F T U E : Type 0} (g : Shared F (Bor T × Unit {0}) (Result U E)) (f : F) where
  -- f may be called at a `&` to x
  abbrev pub AcceptsAt : T → Type 0
  AcceptsAt x = (p : Bor T) → p.now ≡ x → g.pre f (p, tt)

  -- and at each element
  abbrev pub AcceptsEach : List T → Type 0
  AcceptsEach xs = All AcceptsAt xs

  -- a call of f at a `&` to x may answer r
  abbrev pub AnswersAt : T → U → Type 0
  AnswersAt x r = FnReturnsAt g f x (Ok r)

  -- there is one answer for each element, in order, which a call of f there may give
  abbrev pub AnswersEach : List T → List U → Type 0
  AnswersEach xs rs = AllZip AnswersAt xs rs

module _ {F U E : Type 0} (g : Shared F (Bor ℕ × Unit {0}) (Result U E)) (f : F) where
  -- f may be called at each number below n
  abbrev pub AcceptsBelow : ℕ → Type 0
  AcceptsBelow n = (k : ℕ) → k < n → AcceptsAt g f k

  -- there is one answer for each of them, in order
  abbrev pub AnswersBelow : ℕ → List U → Type 0
  AnswersBelow n rs = AnswersEach g f (range_with_len 0 n) rs

-- what a share has
abbrev pub answers_in : {U A E : Type 0} → Result (Vec U A) E → List U
answers_in (Ok answers) = answers.items
answers_in (Err e) = []

-- all shares have what is theirs, and this is it, one share after another
abbrev pub ArePutTogether : {U A E : Type 0} → List (Result (Vec U A) E) → List U → Type 0
ArePutTogether parts all = All IsOk parts × (all ≡ flat_map answers_in parts)
