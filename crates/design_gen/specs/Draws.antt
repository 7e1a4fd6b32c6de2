-- What is drawn for the points of a square of n columns and n rows. Point k has column k mod n and row k / n.
use Rattle.std.specs.Prelude.{ℕ, zero, suc, ◌+◌, ◌*◌, ◌/◌, ◌%◌, ◌^◌, ◌==◌, nat_le, if◌then◌else◌, List}
use Rattle.std.specs.List.{range_with_len}
use Rattle.design_gen.specs.declared.draws.{Stand.{Stand, TheVariants.{Nothing, Metal, Poly, Contact}}, Point.Point}

-- the number after x in the linear congruence
abbrev pub next_number : ℕ → ℕ
next_number x = (x * 1103515245 + 12345) % 2 ^ 31

-- the number that n has become after so many steps
unfoldable pub number_after : ℕ → ℕ → ℕ
number_after n zero = n
number_after n (suc steps) = next_number (number_after n steps)

-- three bits of a number
abbrev pub bits_of : ℕ → ℕ
bits_of x = (x / 65536) % 8

-- the draw for point k, 0 to 7: each point takes one step
unfoldable pub draw : ℕ → ℕ → ℕ
draw n k = bits_of (number_after n (k + 1))

-- what a draw lets stand at its point
abbrev pub stand_of : ℕ → Stand
stand_of v = if v % 4 == 0 then Nothing else (if v % 4 == 1 then Metal else (if v % 4 == 2 then Poly else Contact))

abbrev pub point_of : ℕ → Point
point_of v = record { stand = stand_of v; is_joined = nat_le 4 v }

-- point k
abbrev pub point_at : ℕ → ℕ → Point
point_at n k = point_of (draw n k)

-- the numbers of the points: row by row, and column by column in each
abbrev pub points : ℕ → List ℕ
points n = range_with_len 0 (n * n)
