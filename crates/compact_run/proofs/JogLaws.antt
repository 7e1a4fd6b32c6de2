-- Laws on all jogs.
use Rattle.std.proofs.Common.{◌≡◌, ℕ, suc, ℤ, ◌≤ℤ◌, Ok, List, [], ◌∷◌, refl, sym, ap, ◌∙◌, subst, arith}
use Rattle.std.proofs.lemmas.Int.{ints}
use Rattle.cons_graph.specs.Solutions.{value_of}
use Rattle.lam_geom.specs.declared.boxes.Axis.{Axis}
use Rattle.lam_io.specs.Io.{Bytes, Files}
use Rattle.rule_table.specs.declared.technology.Tech.{Tech}
use Rattle.stick_text.specs.{declared.design.Design.Design as Sticks, Order.design_of, Writable.IsWritable}
use Rattle.stick_text.proofs.Shapes.{design_read}
use Rattle.stick_print.{specs.{Canonical.canonical, ReadBack.laid_out}, proofs.Whole.said_by_canonical}
use Rattle.design_sizes.proofs.Numbered.{set_once}
use Rattle.jog_lines.specs.declared.script.JogLine.{JogLine}
use Rattle.jog_command.specs.Jogs.{IsLaidOutAs, IsNoWider, IsTried, accepted, rejected, AreJogs, widths_after}
use Rattle.compact_run.specs.{JogLaws.{JogsWidenNoCell, AreJudgedAsTexts}, Answers.{IsCompacted, masks_of}}
use Rattle.command_files.specs.{Readers.{IsTechnology, IsDesign, technology_file, design_file}, StepLists.StepsWrite}
use Rattle.command_files.proofs.{Once.says_once, Readers.{technology_once, design_once}}
use Rattle.design_layouts.{specs.Designs.{masks_text, passes_text, with_layout}, proofs.Stopping.layout_writes}

below : (a b c : ℤ) → a ≤ℤ b → b ≤ℤ c → a ≤ℤ c
below a b c p q = omega (arith, ints, p, q)

at_most : (a b : ℤ) → a ≡ b → a ≤ℤ b
at_most a b e = omega (arith, ints, e)

-- one jog leaves a design that is laid out, and no master wider
abbrev IsWell : Tech → List Axis → List ℤ → Sticks → List ℕ → List ℤ → Type 0
IsWell tech axes widths design numbers after = IsLaidOutAs tech axes design numbers after × IsNoWider widths after

one_well : (tech : Tech) (axes : List Axis) (i : ℕ) (line : JogLine) (design new : Sticks) (n m : List ℕ)
    (w v : List ℤ) (message : Bytes) → IsLaidOutAs tech axes design n w
    → IsTried tech axes i line design n w new m v message → IsWell tech axes w new m v
one_well tech axes i line design new n m w v message laid (accepted k a e) = (a.kept.laid_out, a.kept.no_wider)
one_well tech axes i line design new n m w v message laid (rejected none d f g h) =
    let L : Sticks → List ℕ → List ℤ → Type 0 = λ z ns ws. IsLaidOutAs tech axes z ns ws in
    let in_widths = subst (λ ws. L design n ws) (sym g) laid in
    let in_numbers = subst (λ ns. L design ns v) (sym f) in_widths in (
      subst (λ z. L z m v) (sym d) in_numbers,
      λ k.
          at_most (value_of v k) (value_of w k) (ap (λ (ws : List ℤ). value_of ws k) g),
    )

all_well : (tech : Tech) (axes : List Axis) (i : ℕ) (lines : List JogLine) (design last : Sticks) (n m : List ℕ)
    (w v : List ℤ) (report : Bytes) → IsLaidOutAs tech axes design n w
    → AreJogs tech axes i lines design n w last m v report → IsWell tech axes w last m v
all_well tech axes i [] design last n m w v report laid none =
    let L : Sticks → List ℕ → List ℤ → Type 0 = λ z ns ws. IsLaidOutAs tech axes z ns ws in
    let in_widths = subst (λ ws. L design n ws) (sym none.2) laid in
    let in_numbers = subst (λ ns. L design ns v) (sym none.1) in_widths in (
      subst (λ z. L z m v) (sym none.0) in_numbers,
      λ k.
          at_most (value_of v k) (value_of w k) (ap (λ (ws : List ℤ). value_of ws k) none.2),
    )
all_well tech axes i (line ∷ lines) design last n m w v report laid (new, c, x, message, rest, tried, more, e) =
    let first = one_well tech axes i line design new n c w x message laid tried in
    let then = all_well tech axes (suc i) lines new last c m x v rest first.0 more in
    (then.0, λ k. below (value_of v k) (value_of x k) (value_of w k) (then.1 k) (first.1 k))

pub widen_no_cell : JogsWidenNoCell
widen_no_cell tech axes design lines output report j =
    all_well tech axes 0 lines design j.last j.numbers j.last_numbers j.widths j.at_last report j.laid_out j.jogs

-- ---- a jogged design and its text

-- the design that a jog makes is that of its text
pub reads_itself : (new old : Sticks) → new ≡ laid_out old → IsWritable new → design_of (canonical new) ≡ Ok new
reads_itself new old made writable =
    let once : laid_out new ≡ new = ap laid_out made ∙ (set_once old ∙ sym made) in
    design_read (canonical new) (laid_out new) (said_by_canonical new writable) ∙ ap Ok once

abbrev IsLaidOutSo : Tech → List Axis → Sticks → Type 0
IsLaidOutSo technology axes design = (numbers : List ℕ) × (widths : List ℤ)
    × IsLaidOutAs technology axes design numbers widths

abbrev CompactsSo : Bytes → Bytes → List Axis → Files → Type 0
CompactsSo name tech axes files = (output : Bytes) × (report : Bytes) × IsCompacted name tech axes files output report

compacts : (technology : Tech) (axes : List Axis) (files : Files) (name tech : Bytes) (design : Sticks)
    → IsDesign files name design → IsTechnology files tech technology
    → IsLaidOutSo technology axes design → CompactsSo name tech axes files
compacts technology axes files name tech design is_design is_technology (numbers, widths, s) = (
  masks_text technology s.plan s.masters s.steps,
  passes_text technology s.plan s.masters s.steps,
  (
    technology,
    is_technology,
    (
      design,
      is_design,
      layout_writes technology axes design (masks_of technology) files _ _ s.plan s.masters s.steps
          s.are_masters s.laid_out (refl, refl),
    ),
  ),
)

is_laid_out : (technology : Tech) (axes : List Axis) (files : Files) (name tech : Bytes) (design : Sticks)
    → IsDesign files name design → IsTechnology files tech technology
    → CompactsSo name tech axes files → IsLaidOutSo technology axes design
is_laid_out technology axes files name tech design is_design is_technology (output, report, (t, is, (d, are, wrote))) =
    let one_technology : t ≡ technology =
    says_once technology_file technology_once files tech t technology is is_technology in
    let one_design : d ≡ design = says_once design_file design_once files name d design are is_design in
    let here : IsLaidOutSo t axes d = laid_so wrote in
    subst (λ (z : Sticks). IsLaidOutSo technology axes z) one_design
    (subst (λ (z : Tech). IsLaidOutSo z axes d) one_technology here)
  where
    laid_so : StepsWrite (with_layout t axes d (masks_of t)) files output report → IsLaidOutSo t axes d
    laid_so (plan, has, (masters, are_masters, (u, clean, (steps, made, (v, placed, texts))))) = (
      plan.masters,
      widths_after t masters steps,
      record {
        plan = plan;
        masters = masters;
        are_masters = are_masters;
        steps = steps;
        laid_out = placed;
        are_numbers = refl;
        are_widths = refl;
      },
    )

pub judged_as_texts : AreJudgedAsTexts
judged_as_texts design new content masters cell k row left jogged writable technology axes files name tech file
    is_technology =
    let is_design : IsDesign files name new =
    record { text = canonical new; file = file; read = reads_itself new _ jogged.made writable } in (
      compacts technology axes files name tech new is_design is_technology,
      is_laid_out technology axes files name tech
          new is_design is_technology,
    )
