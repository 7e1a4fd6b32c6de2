-- What the code keeps while it edits a cell: this is no part of what an edit is.
use Rattle.std.specs.Prelude.{◌≡◌, ℕ, true, List, ◌∷◌, ◌++◌, length}
use Rattle.stick_text.specs.declared.design.Line.{Line}
use Rattle.limit_edits.specs.Edits.{is_limit, limits_in}

-- the line of limit number k stands at this place
pub record IsLimitAt (lines : List Line) (k at : ℕ) : Type 0 where
  pub prefix : List Line
  pub limit : Line
  pub back : List Line
  pub split : lines ≡ prefix ++ limit ∷ back
  pub place : length prefix ≡ at
  pub count : limits_in prefix ≡ k
  pub of_limit : is_limit limit.form ≡ true
