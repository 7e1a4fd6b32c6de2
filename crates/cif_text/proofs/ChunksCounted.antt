-- How many chunks a text has.
use Rattle.std.proofs.Common.{◌≡◌, ℕ, ◌+◌, ◌==◌, ◌<◌, ◌≤◌, Bool, true, false, List, [], ◌∷◌, length, refl, ap, arith}
use Rattle.std.{proofs.lemmas.List.length-append, specs.Prelude.{flat_map, if◌then◌else◌}}
use Rattle.cif_text.specs.Cutting.{most_bytes, EndsLine, first_line, IsCut}

chosen_short : (c : Bool) (b : ℕ) (line text : List ℕ) → length line ≤ length text
    → length (if c then b ∷ [] else b ∷ line) ≤ length text + 1
chosen_short true b line text le = omega (arith, le)
chosen_short false b line text le = omega (arith, le)

first_short : (text : List ℕ) → length (first_line text) ≤ length text
first_short [] = omega arith
first_short (b ∷ text) = let le =
    chosen_short (b == 10) b (first_line text) text (first_short text) in omega (arith, le)

some_bytes : (chunk : List ℕ) → EndsLine chunk → 0 < length chunk
some_bytes chunk ends = omega (arith, ap length ends.1, length-append ends.0 (10 ∷ []))

pub one_chunk : (text : List ℕ) (chunks : List (List ℕ)) → IsCut text chunks → 0 < length text
    → length text ≤ most_bytes → length chunks ≡ 1
one_chunk text [] cut some short = absurd (omega (arith, ap length cut.joined, some))
one_chunk text (p ∷ []) cut some short = refl
one_chunk text (p ∷ q ∷ rest) cut some short =
    absurd (omega (
      arith,
      cut.full 0 (omega arith),
      first_short q,
      ap length cut.joined,
      length-append p
          (flat_map (λ chunk. chunk) (q ∷ rest)),
      length-append q (flat_map (λ chunk. chunk) rest),
      short,
    ))

pub two_chunks : (text : List ℕ) (chunks : List (List ℕ)) → IsCut text chunks → length text ≡ most_bytes + 1
    → length chunks ≡ 2
two_chunks text [] cut long = absurd (omega (arith, ap length cut.joined, long))
two_chunks text (p ∷ []) cut long =
    absurd (omega (arith, ap length cut.joined, length-append p [], cut.short 0 [] (omega arith), long))
two_chunks text (p ∷ q ∷ []) cut long = refl
two_chunks text (p ∷ q ∷ r ∷ rest) cut long =
    absurd (omega (
      arith,
      cut.full 0 (omega arith),
      first_short q,
      some_bytes r (cut.whole_lines 2 [] (omega arith)),
      ap length cut.joined,
      length-append p (flat_map (λ chunk. chunk) (q ∷ r ∷ rest)),
      length-append q (flat_map (λ chunk. chunk) (r ∷ rest)),
      length-append r (flat_map (λ chunk. chunk) rest),
      long,
    ))
