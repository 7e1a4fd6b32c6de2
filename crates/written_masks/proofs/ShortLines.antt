-- Lines whose numbers are within 2^30 have few bytes.
use Rattle.std.proofs.Common.{ℕ, ◌+◌, ◌≤◌, ℤ, pos, negsuc, List, ◌++◌, length, arith}
use Rattle.std.proofs.lemmas.{Fmt.{length-decimal-le, length_signed_le}, Int.ints, List.length-append}
use Rattle.std.specs.{Prelude.{codes, decimal, int_div}, Fmt.signed_decimal}
use Rattle.cif_text.specs.{Cif.{box_line, scale_line}, Calls.call_line}
use Rattle.written_masks.specs.TextMeanings.{IsNumber}

-- one text after another
pub after : (prefix text : List ℕ) (m n : ℕ) → length prefix ≤ m → length text ≤ n → length (prefix ++ text) ≤ m + n
after prefix text m n first second = omega (arith, length-append prefix text, first, second)

-- ten digits and a sign
number_short : (z : ℤ) → IsNumber z → length (signed_decimal z) ≤ 11
number_short (pos n) h = length_signed_le 10 (pos n) (omega (arith, ints, h.1)) (omega (arith, ints, h.1))
number_short (negsuc n) h = length_signed_le 10 (negsuc n) (omega (arith, ints, h.0)) (omega (arith, ints, h.0))

-- the number of a symbol
symbol_number_short : (n : ℕ) → n ≤ 256 → length (decimal n) ≤ 3
symbol_number_short n le = length-decimal-le 3 n (omega arith) (omega (arith, le)) (omega (arith, le))

pub box_line_short : (w h x y : ℤ) → IsNumber w → IsNumber h → IsNumber x → IsNumber y → length (box_line w h x y) ≤ 51
box_line_short w h x y nw nh nx ny =
    after (codes "B ") _ 2 _ (omega arith)
    (after (signed_decimal w) _ 11 _ (number_short w nw)
    (after (codes " ") _ 1 _ (omega arith) (after (signed_decimal h) _ 11 _ (number_short h nh)
    (after (codes " ") _ 1 _ (omega arith)
    (after (signed_decimal x) _ 11 _ (number_short x nx)
    (after (codes " ") _ 1 _ (omega arith)
    (after (signed_decimal y) (codes ";\n") 11 2 (number_short y ny) (omega arith))))))))

pub call_line_short : (n : ℕ) (x y : ℤ) → n ≤ 256 → IsNumber x → IsNumber y → length (call_line n x y) ≤ 33
call_line_short n x y few nx ny =
    after (codes "C ") _ 2 _ (omega arith)
    (after (decimal n) _ 3 _ (symbol_number_short n few) (after (codes " T ") _ 3 _ (omega arith)
    (after (signed_decimal x) _ 11 _ (number_short x nx)
    (after (codes " ") _ 1 _ (omega arith)
    (after (signed_decimal y) (codes ";\n") 11 2 (number_short y ny) (omega arith))))))

pub scale_line_short : (n : ℕ) (unit : ℤ) → n ≤ 256 → IsNumber (int_div unit (pos 2)) → length (scale_line n unit) ≤ 22
scale_line_short n unit few half =
    after (codes "DS ") _ 3 _ (omega arith)
    (after (decimal n) _ 3 _ (symbol_number_short n few) (after (codes " ") _ 1 _ (omega arith)
    (after (signed_decimal (int_div unit (pos 2))) (codes " 1;\n") 11 4 (number_short (int_div unit (pos 2)) half)
    (omega arith))))
