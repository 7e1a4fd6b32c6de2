-- The runs of a line: what stands between its blanks, before its comment.
use Rattle.std.specs.{Prelude.{ℕ, ◌+◌, Bool, ◌||◌, ◌==◌, List, [], ◌∷◌, length}, List.{slice_split, before_first}}

-- a space or a tab
abbrev pub is_blank : ℕ → Bool
is_blank b = b == 32 || b == 9

-- the line up to the first `#`
abbrev pub without_comment : List ℕ → List ℕ
without_comment line = before_first (λ b. b == 35) line

-- the place in the line at which a run begins, and its bytes
pub record Run : Type 0 where
  pub lo : ℕ
  pub text : List ℕ

-- of parts that a blank each stands between, from the place at which the first begins: those that are not empty
abbrev pub runs_of_parts : ℕ → List (List ℕ) → List Run
runs_of_parts lo [] = []
runs_of_parts lo ([] ∷ parts) = runs_of_parts (lo + 1) parts
runs_of_parts lo ((b ∷ bs) ∷ parts) =
    record { lo = lo; text = b ∷ bs } ∷ runs_of_parts (lo + length (b ∷ bs) + 1) parts

-- the longest runs of bytes without blanks, in order
abbrev pub runs : List ℕ → List Run
runs line = runs_of_parts 0 (slice_split is_blank (without_comment line))
