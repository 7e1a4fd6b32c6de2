-- The lines of symbols and of calls are short.
use Rattle.std.proofs.Common.{ℕ, ◌+◌, ◌^◌, ◌<◌, ◌≤◌, ℤ, pos, List, [], ◌∷◌, ◌++◌, length, refl, sym, ap, ◌∙◌, arith}
use Rattle.std.proofs.{Common.{append_assoc, FitsSigned, w64}, lemmas.Fmt.{length-decimal-le, length_signed_le}}
use Rattle.std.{proofs.lemmas.List.length-append, specs.{Prelude.{codes, decimal, int_div}, Fmt.signed_decimal}}
use Rattle.cif_text.specs.{Cif.{box_line, scale_line}, Calls.call_line, Cutting.{most_bytes, EndsLine, IsOfLines}}
use Rattle.cif_text.proofs.Lines.{one_line}

pub signed_short : (z : ℤ) → FitsSigned w64 z → length (signed_decimal z) ≤ 21
signed_short z fits = length_signed_le 20 z (omega (arith, fits.sfits)) fits.sfits

pub decimal_short : (n : ℕ) → n < 2 ^ 64 → length (decimal n) ≤ 20
decimal_short n lt = length-decimal-le 20 n (omega arith) (omega (arith, lt)) lt

-- a line of at most so many bytes
pub record IsLine (most : ℕ) (line : List ℕ) : Type 0 where
  pub ended : EndsLine line
  pub short : length line ≤ most

pub after : (prefix line : List ℕ) (m n : ℕ) → length prefix ≤ m → IsLine n line → IsLine (m + n) (prefix ++ line)
after prefix line m n le is = record {
  ended = (prefix ++ is.ended.0, ap (λ l. prefix ++ l) is.ended.1 ∙ sym (append_assoc prefix is.ended.0 (10 ∷ [])));
  short = omega (arith, length-append prefix line, le, is.short);
}

pub end_line : IsLine 2 (codes ";\n")
end_line = record { ended = (59 ∷ [], refl); short = omega arith }

pub of_line : (n : ℕ) (line : List ℕ) → n ≤ most_bytes → IsLine n line → IsOfLines line
of_line n line le is = one_line line is.ended (omega (arith, le, is.short))

pub box_short : (a b c d : ℤ) → FitsSigned w64 a → FitsSigned w64 b → FitsSigned w64 c → FitsSigned w64 d
    → IsOfLines (box_line a b c d)
box_short a b c d fa fb fc fd =
    of_line _ (box_line a b c d) (omega arith)
    (after (codes "B ") _ 2 _ (omega arith)
    (after (signed_decimal a) _ 21 _ (signed_short a fa)
    (after (codes " ") _ 1 _ (omega arith) (after (signed_decimal b) _ 21 _ (signed_short b fb)
    (after (codes " ") _ 1 _ (omega arith)
    (after (signed_decimal c) _ 21 _ (signed_short c fc)
    (after (codes " ") _ 1 _ (omega arith) (after (signed_decimal d) _ 21 _ (signed_short d fd) end_line))))))))

pub call_short : (number : ℕ) (x y : ℤ) → number < 2 ^ 64 → FitsSigned w64 x → FitsSigned w64 y
    → IsOfLines (call_line number x y)
call_short number x y few fx fy =
    of_line _ (call_line number x y) (omega arith)
    (after (codes "C ") _ 2 _ (omega arith)
    (after (decimal number) _ 20 _ (decimal_short number few) (after (codes " T ") _ 3 _ (omega arith)
    (after (signed_decimal x) _ 21 _ (signed_short x fx)
    (after (codes " ") _ 1 _ (omega arith) (after (signed_decimal y) _ 21 _ (signed_short y fy) end_line))))))

pub scale_short : (number : ℕ) (unit : ℤ) → number < 2 ^ 64 → FitsSigned w64 (int_div unit (pos 2))
    → IsOfLines (scale_line number unit)
scale_short number unit few fits =
    let last : IsLine 4 (codes " 1;\n") = record { ended = (32 ∷ 49 ∷ 59 ∷ [], refl); short = omega arith } in
    of_line _ (scale_line number unit) (omega arith)
    (after (codes "DS ") _ 3 _ (omega arith)
    (after (decimal number) _ 20 _ (decimal_short number few) (after (codes " ") _ 1 _ (omega arith)
    (after (signed_decimal (int_div unit (pos 2))) _ 21 _ (signed_short (int_div unit (pos 2)) fits) last))))
