-- What `jog` writes is determined.
use Rattle.std.proofs.Common.{◌≡◌, ℕ, suc, ℤ, Option, Some, List, [], ◌∷◌, ◌++◌, sym, ap, ◌∙◌, subst}
use Rattle.std.specs.Prelude.{◌==◌, position}
use Rattle.cons_graph.specs.Solutions.{value_of}
use Rattle.lam_geom.specs.declared.boxes.Axis.{Axis}
use Rattle.lam_io.specs.Io.{Bytes}
use Rattle.rule_table.specs.declared.technology.Tech.{Tech}
use Rattle.stick_text.specs.declared.design.Design.{Design as Sticks}
use Rattle.stick_print.specs.Canonical.{canonical}
use Rattle.checked_cells.specs.{CheckedCell.{CheckedCell, cell_of, known_at}, Lines.number_of}
use Rattle.jog_lines.specs.declared.script.JogLine.{JogLine}
use Rattle.jog_insert.{specs.Jogs.IsJogged, proofs.Determined.jogged_is_determined}
use Rattle.jog_command.specs.Jogs.{IsLaidOutAs, Accepts, IsTried, accepted, rejected, AreJogs, JogsTo}
use Rattle.jog_command.{specs.Jogs.accepted_line, proofs.OneLaidOut.one_layout}

-- ---- one jog

some_same : {A : Type 0} (o : Option A) (x y : A) → o ≡ Some x → o ≡ Some y → x ≡ y
some_same o x y e f = let p = sym e ∙ f in cc

abbrev AreOneJog : ℕ → ℕ → Sticks → Sticks → List ℕ → List ℕ → List ℤ → List ℤ → Type 0
AreOneJog m k new other n q w v = (m ≡ k) × (new ≡ other) × (n ≡ q) × (w ≡ v)

one_accepted : (tech : Tech) (axes : List Axis) (design : Sticks) (numbers : List ℕ) (widths : List ℤ)
    (line : JogLine) (m k : ℕ) (new other : Sticks) (n q : List ℕ) (w v : List ℤ)
    → Accepts tech axes design numbers widths line m new n w
    → Accepts tech axes design numbers widths line k other q v → AreOneJog m k new other n q w v
one_accepted tech axes design numbers widths line m k new other n q w v a b =
    let resolved = sym a.resolved ∙ b.resolved in
    let cells : a.cells ≡ b.cells = cc in
    let cell : a.cell ≡ b.cell =
    some_same (number_of a.cells line.cell) a.cell b.cell a.named
    (ap (λ (ks : List CheckedCell). number_of ks line.cell) cells ∙ b.named) in
    let master : m ≡ k = some_same (position (λ z. z == a.cell) numbers) m k a.master
    (ap (λ (c : ℕ). position (λ z. z == c) numbers) cell ∙ b.master) in
    let J : List CheckedCell → ℕ → Type 0 =
    λ ks c. IsJogged design (cell_of (known_at ks c)) numbers c line.k line.r line.left other in
    let in_cell = subst (λ c. J b.cells c) (sym cell) b.jogged in
    let in_cells = subst (λ ks. J ks a.cell) (sym cells) in_cell in
    let made : new ≡ other = jogged_is_determined design (cell_of (known_at a.cells a.cell)) numbers a.cell line.k
    line.r line.left new other a.jogged in_cells in
    let L : Sticks → Type 0 = λ z. IsLaidOutAs tech axes z q v in
    let laid = one_layout tech axes new n q w v a.kept.laid_out (subst L (sym made) b.kept.laid_out) in
    (master, made, laid.0, laid.1)

abbrev AreOneStep : Sticks → Sticks → List ℕ → List ℕ → List ℤ → List ℤ → Bytes → Bytes → Type 0
AreOneStep new other n q w v message told = (new ≡ other) × (n ≡ q) × (w ≡ v) × (message ≡ told)

one_tried : (tech : Tech) (axes : List Axis) (i : ℕ) (line : JogLine) (design : Sticks) (numbers : List ℕ)
    (widths : List ℤ) (new other : Sticks) (n q : List ℕ) (w v : List ℤ) (message told : Bytes)
    → IsTried tech axes i line design numbers widths new n w message
    → IsTried tech axes i line design numbers widths other q v told → AreOneStep new other n q w v message told
one_tried tech axes i line design numbers widths new other n q w v message told (accepted m a e) (accepted k b f) =
    let same = one_accepted tech axes design numbers widths line m k new other n q w v a b in (
      same.1,
      same.2,
      same.3,
      e
          ∙ (ap (λ (z : ℕ). accepted_line i line (value_of widths z) (value_of w z)) same.0
          ∙ (ap (λ (z : List ℤ). accepted_line i line (value_of widths k) (value_of z k)) same.3 ∙ sym f)),
    )
one_tried tech axes i line design numbers widths new other n q w v message told (accepted m a e)
    (rejected none d f g h) = absurd (none m new n w a)
one_tried tech axes i line design numbers widths new other n q w v message told (rejected none d f g h)
    (accepted k b e) = absurd (none k other q v b)
one_tried tech axes i line design numbers widths new other n q w v message told (rejected none d f g h)
    (rejected also e k l p) = (d ∙ sym e, f ∙ sym k, g ∙ sym l, h ∙ sym p)

-- ---- all jogs

one_jogs : (tech : Tech) (axes : List Axis) (i : ℕ) (lines : List JogLine) (design : Sticks) (numbers : List ℕ)
    (widths : List ℤ) (last other : Sticks) (n q : List ℕ) (w v : List ℤ) (report told : Bytes)
    → AreJogs tech axes i lines design numbers widths last n w report
    → AreJogs tech axes i lines design numbers widths other q v told → (last ≡ other) × (report ≡ told)
one_jogs tech axes i [] design numbers widths last other n q w v report told a b = (a.0 ∙ sym b.0, a.3 ∙ sym b.3)
one_jogs tech axes i (line ∷ lines) design numbers widths last other n q w v report told
    (new, c, x, message, rest, a, more, e) (next, d, y, said, after, b, others, f) =
    let same = one_tried tech axes i line design numbers widths new next c d x y message said a b in
    let S : Sticks → List ℕ → List ℤ → Type 0 = λ z ns ws. AreJogs tech axes (suc i) lines z ns ws other q v after in
    let in_widths = subst (λ ws. S next d ws) (sym same.2) others in
    let in_numbers = subst (λ ns. S next ns x) (sym same.1) in_widths in
    let in_design = subst (λ z. S z c x) (sym same.0) in_numbers in
    let then = one_jogs tech axes (suc i) lines new c x last other n q w v rest after more in_design in
    (then.0, e ∙ (ap (λ (z : Bytes). z ++ rest) same.3 ∙ (ap (λ (z : Bytes). said ++ z) then.1 ∙ sym f)))

pub one_script : (tech : Tech) (axes : List Axis) (design : Sticks) (lines : List JogLine) (o p r s : Bytes)
    → JogsTo tech axes design lines o r → JogsTo tech axes design lines p s → (o ≡ p) × (r ≡ s)
one_script tech axes design lines o p r s a b =
    let laid = one_layout tech axes design a.numbers b.numbers a.widths b.widths a.laid_out b.laid_out in
    let S : List ℕ → List ℤ → Type 0 =
    λ ns ws. AreJogs tech axes 0 lines design ns ws b.last b.last_numbers b.at_last s in
    let in_widths = subst (λ ws. S b.numbers ws) (sym laid.1) b.jogs in
    let in_numbers = subst (λ ns. S ns a.widths) (sym laid.0) in_widths in
    let same = one_jogs tech axes 0 lines design a.numbers a.widths a.last b.last a.last_numbers b.last_numbers
    a.at_last b.at_last r s a.jogs in_numbers in
    (a.written ∙ (ap (λ (z : Sticks). canonical z) same.0 ∙ sym b.written), same.1)
