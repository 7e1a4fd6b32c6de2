-- The canonical text of the whole design says it.
use Rattle.std.proofs.Common.{◌≡◌, ℕ, zero, suc, ◌+◌, ◌*◌, ◌/◌, ◌%◌, ◌-◌, ◌<◌, ◌≤◌, Bool, true, false, List, [], ◌∷◌}
use Rattle.std.proofs.Common.{length, Option, Some, None, inl, refl, ap, subst, ◌∙◌, arith}
use Rattle.std.specs.{Prelude.{codes, if◌then◌else◌}, List.{filter_map, cons_option, range_with_len, AllByRecursion}}
use Rattle.stick_text.specs.{declared.design.{Form.Form, Line.Line, GridText.GridText, Design.Design}, Says.SaysDesign}
use Rattle.stick_text.specs.Writable.{IsForm, IsLine, IsWritable}
use Rattle.stick_text.specs.declared.design.Form.TheVariants as forms
use Rattle.stick_text.specs.declared.design.Layer.TheVariants as layers
use Rattle.stick_print.specs.{Canonical.canonical, ReadBack.{laid_out, lines_from as numbered_from}}
use Rattle.stick_print.proofs.Whole.{said_by_canonical}
use Rattle.list_facts.proofs.Elements.{all_append}
use Rattle.design_gen.specs.{declared.draws.Stand.{Stand, TheVariants.{Nothing, Metal, Poly, Contact}}, Draws.point_at}
use Rattle.design_gen.specs.{Draws.points, Made.{name_at, node_of, node_at, is_wired, wire_at, forms_of, lines_from}}
use Rattle.design_gen.{specs.Made.made, proofs.Growing.length_lines}
use Rattle.made_designs.proofs.Names.{IsPoint, col_below, row_below, name_is, path_is}

-- ---- each form can be written

-- where there is one
abbrev IsSomeForm : Option Form → Type 0
IsSomeForm None = Unit {0}
IsSomeForm (Some form) = IsForm form

all_some : (f : ℕ → Option Form) (k m : ℕ) → ((j : ℕ) → k ≤ j → j < k + m → IsSomeForm (f j))
    → AllByRecursion IsForm (filter_map f (range_with_len k m))
all_some f k zero each = tt
all_some f k (suc m) each =
    with_prefix (f k) (filter_map f (range_with_len (k + 1) m)) (each k (omega arith) (omega arith))
    (all_some f (k + 1) m (λ j low high. each j (omega (arith, low)) (omega (arith, high))))
  where
    with_prefix : (o : Option Form) (forms : List Form) → IsSomeForm o → AllByRecursion IsForm forms
        → AllByRecursion IsForm (cons_option o forms)
    with_prefix None forms h all = all
    with_prefix (Some form) forms h all = (h, all)

node_written : (n k : ℕ) → IsPoint n k → IsSomeForm (node_at n k)
unfolding node_at
node_written n k p = by (point_at n k).stand
  where
    near_col : k % n ≤ 1000000
    near_col = omega (arith, col_below n k p, p.few)

    near_row : k / n ≤ 1000000
    near_row = omega (arith, row_below n k p, p.few)

    by : (stand : Stand) → IsSomeForm (node_of stand (name_at n k) (k % n) (k / n))
    by Nothing = tt
    by Metal = (name_is n k p, near_col, near_row, tt)
    by Poly = (name_is n k p, near_col, near_row, tt)
    by Contact = (name_is n k p, tt, near_col, near_row)

wire_written : (n k : ℕ) → IsPoint n k → IsSomeForm (wire_at n k)
unfolding wire_at
wire_written n k p = by (is_wired n k)
  where
    before : IsPoint n (k - 1)
    before = record { few = p.few; within = omega (arith, p.within) }

    by : (wired : Bool)
        → IsSomeForm (if wired then Some (forms.Wire layers.Metal (name_at n (k - 1)) (name_at n k) None) else None)
    by true = (path_is n (k - 1) before, path_is n k p, tt)
    by false = tt

pub forms_written : (n : ℕ) → n ≤ 64 → AllByRecursion IsForm (forms_of n)
unfolding forms_of
forms_written n few =
    all_append IsForm (filter_map (node_at n) (points n)) (filter_map (wire_at n) (points n))
    (all_some (node_at n) 0 (n * n)
    (λ j low high. node_written n j (record { few = few; within = omega (arith, high) })))
    (all_some (wire_at n) 0 (n * n)
    (λ j low high. wire_written n j (record { few = few; within = omega (arith, high) })))

lines_written : (number : ℕ) (forms : List Form) → AllByRecursion IsForm forms
    → AllByRecursion IsLine (lines_from number forms)
lines_written number [] h = tt
lines_written number (form ∷ forms) h = (h.0, lines_written (number + 1) forms h.1)

abbrev grid_from : ℕ → GridText
grid_from line = record { name = None; line = line; rows = record { names = codes "bench" ∷ [] } ∷ [] }

pub is_writable : (n : ℕ) → n ≤ 64 → IsWritable (made n)
unfolding made
is_writable n few = record {
  cells = ((refl, lines_written 3 (forms_of n) (forms_written n few)), tt);
  few_cells = omega arith;
  grids = ((tt, ((omega arith, (refl, tt)), tt)), tt);
  fits = inl (refl, (grid_from (4 + length (forms_of n)), refl, refl));
}

-- ---- each line stands on its number

same_lines : (number : ℕ) (forms : List Form) → numbered_from number (lines_from number forms) ≡ lines_from number forms
same_lines number [] = refl
same_lines number (form ∷ forms) =
    ap (λ lines. record { number = number; form = form } ∷ lines) (same_lines (number + 1) forms)

abbrev with_lines : List Line → ℕ → ℕ → Design
with_lines lines size line =
    record {
      version = 1;
      cells = record { name = codes "bench"; line = 2; end_line = 3 + size; lines = lines } ∷ [];
      grids = grid_from line ∷ [];
    }

pub laid_out_alike : (n : ℕ) → laid_out (made n) ≡ made n
unfolding made
laid_out_alike n =
    let forms = forms_of n in
    let line : 3 + length forms + 1 ≡ 4 + length forms = omega arith in
    ap (λ size. with_lines (numbered_from 3 (lines_from 3 forms)) size (3 + size + 1)) (length_lines 3 forms)
    ∙ ap (λ lines. with_lines lines (length forms) (3 + length forms + 1)) (same_lines 3 forms)
    ∙ ap (with_lines (lines_from 3 forms) (length forms)) line

pub said : (n : ℕ) → n ≤ 64 → SaysDesign (canonical (made n)) (made n)
said n few = subst (SaysDesign (canonical (made n))) (laid_out_alike n) (said_by_canonical (made n) (is_writable n few))
