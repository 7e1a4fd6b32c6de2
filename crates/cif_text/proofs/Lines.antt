-- Texts of lines: one after another, and where their line feeds stand.
use Rattle.std.proofs.Common.{◌≡◌, ℕ, ◌+◌, ◌-◌, ◌<◌, ◌≤◌, List, [], ◌∷◌, ◌++◌, length, take, refl, sym, ap, ◌∙◌, arith}
use Rattle.std.proofs.{Common.{inl, inr}, lemmas.{Bool.cases_lt, List.{length-append, append-nil, get_or_append_left}}}
use Rattle.std.proofs.lemmas.List.{get_or-append_right, get_or_push, take_more, Concat.flat_map-append}
use Rattle.std.specs.{Prelude.{slice_index, flat_map}, List.AllByRecursion}
use Rattle.list_facts.proofs.Elements.{all_append, by_number, all_of}
use Rattle.cif_text.specs.Cutting.{most_bytes, EndsLine, IsShortLine, IsOfLines}

-- ---- made of lines

abbrev join : List (List ℕ) → List ℕ
join lines = flat_map (λ line. line) lines

of_lines : (lines : List (List ℕ)) (text : List ℕ) → join lines ≡ text → AllByRecursion IsShortLine lines
    → IsOfLines text
of_lines lines text is each = record { lines = lines; joined = is; each = all_of IsShortLine lines each }

pub no_line : IsOfLines []
no_line = of_lines [] [] refl tt

pub one_line : (line : List ℕ) → EndsLine line → length line ≤ most_bytes → IsOfLines line
one_line line ends short =
    of_lines (line ∷ []) line (append-nil line)
    ((let own : IsShortLine line = record { ended = ends; short = short } in own), tt)

pub lines_append : (a b : List ℕ) → IsOfLines a → IsOfLines b → IsOfLines (a ++ b)
lines_append a b first second =
    of_lines (first.lines ++ second.lines) (a ++ b)
    (flat_map-append (λ line. line) first.lines second.lines
    ∙ (ap (λ text. text ++ join second.lines) first.joined ∙ ap (λ text. a ++ text) second.joined))
    (all_append IsShortLine first.lines second.lines
    (by_number IsShortLine first.lines [] (λ k lt. first.each k [] lt))
    (by_number IsShortLine second.lines [] (λ k lt. second.each k [] lt)))

pub flat_lines : {X : Type 0} (f : X → List ℕ) (xs : List X) → AllByRecursion (λ x. IsOfLines (f x)) xs
    → IsOfLines (flat_map f xs)
flat_lines f [] h = no_line
flat_lines f (x ∷ xs) h = lines_append (f x) (flat_map f xs) h.0 (flat_lines f xs h.1)

-- ---- line feeds

-- the prefix of a text up to a line feed ends a line
pub prefix_ends : (text : List ℕ) (n : ℕ) → n < length text → slice_index text n ≡ 10 → EndsLine (take (n + 1) text)
prefix_ends text n lt feed = (take n text, take_more text n 0 lt ∙ ap (λ b. take n text ++ (b ∷ [])) feed)

-- the last byte of a line
last_of_line : (line text : List ℕ) → EndsLine line → (0 < length line)
    × (slice_index (line ++ text) (length line - 1) ≡ 10)
last_of_line line text ends =
    let counted : length line ≡ length ends.0 + 1 = omega (arith, ap length ends.1, length-append ends.0 (10 ∷ [])) in
    let last : slice_index line (length line - 1) ≡ 10 = ap (λ l. slice_index l (length line - 1)) ends.1
    ∙ get_or_push ends.0 10 0 (length line - 1) (omega (arith, counted)) in
    (omega (arith, counted), get_or_append_left line text 0 (length line - 1) (omega (arith, counted)) ∙ last)

-- of as many bytes in a row as a chunk may have, one is a line feed
among_lines : (lines : List (List ℕ)) → AllByRecursion IsShortLine lines → (s : ℕ)
    → s + most_bytes ≤ length (join lines)
    → (k : ℕ) × (s ≤ k) × (k < s + most_bytes) × (slice_index (join lines) k ≡ 10)
among_lines [] each s le = absurd (omega (arith, le))
among_lines (line ∷ lines) each s le =
    let text = join lines in
    let last = last_of_line line text each.0.ended in
    let short = each.0.short in
    let counted = length-append line text in
    elim (cases_lt s (length line)) [
      | inl before ↦ (length line - 1, omega (arith, before), omega (arith, short, last.0), last.1)
      | inr after ↦ (
          let found = among_lines lines each.1 (s - length line) (omega (arith, counted, le, after)) in
          let back : (length line + found.0) - length line ≡ found.0 = omega arith in (
            length line + found.0,
            omega (arith, after, found.1),
            omega (arith, after, found.2),
            get_or-append_right line text (length line) (length line + found.0) 0 refl (omega arith)
                ∙ (ap (slice_index text) back ∙ found.3),
          ))
    ]

-- the last byte of a text is one
last_of_lines : (lines : List (List ℕ)) → AllByRecursion IsShortLine lines → (n : ℕ) → n + 1 ≡ length (join lines)
    → slice_index (join lines) n ≡ 10
last_of_lines [] each n e = absurd (omega (arith, e))
last_of_lines (line ∷ lines) each n e =
    let text = join lines in
    let last = last_of_line line text each.0.ended in
    let counted = length-append line text in
    elim (cases_lt n (length line)) [
      | inl before ↦
          (let here : n ≡ length line - 1 = omega (arith, counted, e, before) in ap (slice_index (line ++ text)) here
          ∙ last.1)
      | inr after ↦ get_or-append_right line text (length line) n 0 refl after
          ∙ last_of_lines lines each.1 (n - length line) (omega (arith, counted, e, after))
    ]

pub feed_among : (text : List ℕ) → IsOfLines text → (s : ℕ) → s + most_bytes ≤ length text
    → (k : ℕ) × (s ≤ k) × (k < s + most_bytes) × (slice_index text k ≡ 10)
feed_among text of s le =
    let found = among_lines of.lines (by_number IsShortLine of.lines [] (λ k lt. of.each k [] lt)) s
    (omega (arith, ap length of.joined, le)) in
    (found.0, found.1, found.2, ap (λ t. slice_index t found.0) (sym of.joined) ∙ found.3)

pub feed_last : (text : List ℕ) → IsOfLines text → (n : ℕ) → n + 1 ≡ length text → slice_index text n ≡ 10
feed_last text of n e =
    ap (λ t. slice_index t n) (sym of.joined)
    ∙ last_of_lines of.lines (by_number IsShortLine of.lines [] (λ k lt. of.each k [] lt)) n
    (omega (arith, ap length of.joined, e))
