-- What may stand in the words of the command line: lists of passes, and numbers.
use Rattle.std.specs.Prelude.{ℕ, Bool, ◌&&◌, ◌||◌, ◌==◌, nat_le, List, length, map, Option, Some, None, if◌then◌else◌}
use Rattle.std.specs.{List.{list_any, list_all}, Char.is_ascii_digit, Str.Parse.digits_value}
use Rattle.lam_geom.specs.declared.boxes.Axis.{Axis, TheVariants.{X, Y}}

-- a list of passes: one to sixteen letters x and y, with both of them
abbrev pub is_x : ℕ → Bool
is_x b = b == 120

abbrev pub is_y : ℕ → Bool
is_y b = b == 121

abbrev pub is_pass_list : List ℕ → Bool
is_pass_list list = nat_le (length list) 16
    && (list_all (λ b. is_x b || is_y b) list && (list_any is_x list && list_any is_y list))

-- the axes of its letters
abbrev pub axis_of : ℕ → Axis
axis_of b = if is_x b then X else Y

abbrev pub axes_in : List ℕ → List Axis
axes_in list = map axis_of list

-- the axes of a text, where it is a list of passes
abbrev pub passes_in : List ℕ → Option (List Axis)
passes_in text = if is_pass_list text then Some (axes_in text) else None

-- a number: one to so many decimal digits
abbrev pub is_number : ℕ → List ℕ → Bool
is_number digits text = nat_le 1 (length text) && (nat_le (length text) digits && list_all is_ascii_digit text)

-- the number of a text with at most so many digits, where it is one of 1 to so many
abbrev pub number_in : ℕ → ℕ → List ℕ → Option ℕ
number_in digits most text =
    if is_number digits text && (nat_le 1 (digits_value 10 text) && nat_le (digits_value 10 text) most)
    then Some (digits_value 10 text) else None

-- a count: one to three digits, 1 to 64
abbrev pub count_in : List ℕ → Option ℕ
count_in text = number_in 3 64 text

-- how many breaks are listed at most: one to five digits, 1 to 65,536
abbrev pub most_in : List ℕ → Option ℕ
most_in text = number_in 5 65536 text
