-- Blocks that shares take, and the places of their answers.
use Rattle.std.specs.Prelude.{ℕ, ◌<◌, List, Result, Option, Vec, IfSome, length, get_or}
use Rattle.std.specs.{Borrow.Bor, Fn.Shared, Global.Global}
use Rattle.par_phase.specs.{declared.split.Taken.Taken, Answers.AnswersEach, Blocks.block_of}

module _ {F T U E : Type 0} (g : Shared F (Bor T × Unit {0}) (Result U E)) (f : F) where
  -- one of so many blocks of a list was taken, with the answers at its elements
  abbrev pub IsTaken : List T → ℕ → Taken U → Type 0
  IsTaken xs blocks taken = (taken.block < blocks)
      × AnswersEach g f (block_of xs blocks taken.block) taken.answers.items

  -- what stands in a place is the answers at the elements of that block
  abbrev pub ArePlaced : List T → ℕ → List (Option (Vec U Global)) → Type 0
  ArePlaced xs blocks places = (k : ℕ) (d : Option (Vec U Global)) → k < length places
      → IfSome (get_or places k d) (λ answers. AnswersEach g f (block_of xs blocks k) answers.items)
