-- One jog after another.
use Rattle.std.proofs.Common.{◌≡◌, ℕ, suc, ◌+◌, ◌<◌, ◌≤◌, ℤ, ◌<ℤ◌, ◌≤ℤ◌, Option, Some, None, Result, Ok, Err, List, []}
use Rattle.std.proofs.Common.{◌∷◌, ◌++◌, length, take, get_or, refl, sym, ap, ◌∙◌, subst, arith}
use Rattle.std.proofs.lemmas.List.{append_assoc, append-nil, length-take-le, take_more}
use Rattle.std.specs.Prelude.{IfOk, IfErr, IfSome, IfNone, ◌==◌, position}
use Rattle.lam_geom.specs.declared.boxes.Axis.{Axis}
use Rattle.lam_io.specs.Io.{Bytes}
use Rattle.cons_graph.specs.Solutions.{value_of}
use Rattle.rule_table.specs.declared.technology.Tech.{Tech}
use Rattle.stick_text.specs.declared.design.Design.{Design}
use Rattle.stick_print.specs.Canonical.{canonical}
use Rattle.checked_cells.specs.{CheckedCell.{CheckedCell, cell_of, known_at}, Lines.number_of, Grids.resolved_cells}
use Rattle.jog_lines.specs.declared.script.JogLine.{JogLine}
use Rattle.jog_insert.{specs.Jogs.IsJogged, proofs.Determined.jogged_is_determined}
use Rattle.jog_command.specs.{declared.jog.{Accepted.Accepted, Bent.Bent, Sizes.Sizes}, Jogs.{IsLaidOutAs, IsKept}}
use Rattle.jog_command.specs.Jogs.{Accepts, IsRejected, IsTried, accepted, rejected, AreJogs, IsNextJog, JogsTo}
use Rattle.jog_command.{specs.Jogs.{accepted_line, rejected_line}, proofs.OneLaidOut.one_layout}
use Rattle.command_files.specs.{declared.output.Output.Output, Outputs.text_of}

-- ---- the cells

one_resolved : (tech : Tech) (design : Design) (cells others : List CheckedCell)
    → resolved_cells tech design ≡ Ok cells → resolved_cells tech design ≡ Ok others → cells ≡ others
one_resolved tech design cells others a b = let e = sym a ∙ b in cc

-- ---- no jog

no_number : (o : Option ℕ) (n : ℕ) → o ≡ None → o ≡ Some n → ⊥
no_number o n e f = let p = sym e ∙ f in cc

one_number : (o : Option ℕ) (n m : ℕ) → o ≡ Some n → o ≡ Some m → n ≡ m
one_number o n m e f = let p = sym e ∙ f in cc

-- what a call answered, of what it was given
pub of_call : {A B : Type 0} (f : A → B) (given of : A) (answer is : B) → given ≡ of → answer ≡ f given → answer ≡ is
    → f of ≡ is
of_call f given of answer is same by told = ap f (sym same) ∙ (sym by ∙ told)

-- no cell has the name
pub no_cell : (tech : Tech) (axes : List Axis) (design : Design) (numbers : List ℕ) (widths : List ℤ) (line : JogLine)
    (cells : List CheckedCell) → resolved_cells tech design ≡ Ok cells
    → number_of cells line.cell ≡ None → IsRejected tech axes design numbers widths line
no_cell tech axes design numbers widths line cells resolved none m new ns ws a =
    let same = one_resolved tech design a.cells cells a.resolved resolved in
    no_number (number_of cells line.cell) a.cell none
    (ap (λ (ks : List CheckedCell). number_of ks line.cell) (sym same) ∙ a.named)

-- the cell that a jog is in
cell_same : (tech : Tech) (axes : List Axis) (design : Design) (numbers : List ℕ) (widths : List ℤ) (line : JogLine)
    (cells : List CheckedCell) (cell m : ℕ) (new : Design) (ns : List ℕ) (ws : List ℤ)
    → resolved_cells tech design ≡ Ok cells → number_of cells line.cell ≡ Some cell
    → (a : Accepts tech axes design numbers widths line m new ns ws) → (a.cells ≡ cells) × (a.cell ≡ cell)
cell_same tech axes design numbers widths line cells cell m new ns ws resolved named a =
    let same = one_resolved tech design a.cells cells a.resolved resolved in (
      same,
      one_number (number_of cells line.cell) a.cell cell
          (ap (λ (ks : List CheckedCell). number_of ks line.cell) (sym same) ∙ a.named) named,
    )

-- it is no master
pub no_master : (tech : Tech) (axes : List Axis) (design : Design) (numbers : List ℕ) (widths : List ℤ)
    (line : JogLine) (cells : List CheckedCell) (cell : ℕ) → resolved_cells tech design ≡ Ok cells
    → number_of cells line.cell ≡ Some cell → position (λ n. n == cell) numbers ≡ None
    → IsRejected tech axes design numbers widths line
no_master tech axes design numbers widths line cells cell resolved named none m new ns ws a =
    let same = cell_same tech axes design numbers widths line cells cell m new ns ws resolved named a in
    no_number (position (λ n. n == cell) numbers) m none
    (ap (λ (c : ℕ). position (λ n. n == c) numbers) (sym same.1) ∙ a.master)

-- a jog in its cell
jogged_in : (tech : Tech) (axes : List Axis) (design : Design) (numbers : List ℕ) (widths : List ℤ) (line : JogLine)
    (cells : List CheckedCell) (cell m : ℕ) (new : Design) (ns : List ℕ) (ws : List ℤ)
    → resolved_cells tech design ≡ Ok cells → number_of cells line.cell ≡ Some cell
    → Accepts tech axes design numbers widths line m new ns ws
    → IsJogged design (cell_of (known_at cells cell)) numbers cell line.k line.r line.left new
jogged_in tech axes design numbers widths line cells cell m new ns ws resolved named a =
    let same = cell_same tech axes design numbers widths line cells cell m new ns ws resolved named a in
    let J : List CheckedCell → ℕ → Type 0 =
    λ ks c. IsJogged design (cell_of (known_at ks c)) numbers c line.k line.r line.left new in
    let in_cells = subst (λ ks. J ks a.cell) same.0 a.jogged in
    subst (λ c. J cells c) same.1 in_cells

-- it can't be bent
pub no_jog : (tech : Tech) (axes : List Axis) (design : Design) (numbers : List ℕ) (widths : List ℤ) (line : JogLine)
    (cells : List CheckedCell) (cell : ℕ) → resolved_cells tech design ≡ Ok cells
    → number_of cells line.cell ≡ Some cell
    → ((new : Design) → IsJogged design (cell_of (known_at cells cell)) numbers cell line.k line.r line.left new → ⊥)
    → IsRejected tech axes design numbers widths line
no_jog tech axes design numbers widths line cells cell resolved named none m new ns ws a =
    none new (jogged_in tech axes design numbers widths line cells cell m new ns ws resolved named a)

-- the new design is not kept
pub not_kept : (tech : Tech) (axes : List Axis) (design : Design) (numbers : List ℕ) (widths : List ℤ)
    (line : JogLine) (cells : List CheckedCell) (cell m : ℕ) (new : Design) → resolved_cells tech design ≡ Ok cells
    → number_of cells line.cell ≡ Some cell → position (λ n. n == cell) numbers ≡ Some m
    → IsJogged design (cell_of (known_at cells cell)) numbers cell line.k line.r line.left new
    → ((ns : List ℕ) (ws : List ℤ) → IsKept tech axes widths m new ns ws → ⊥)
    → IsRejected tech axes design numbers widths line
not_kept tech axes design numbers widths line cells cell m new resolved named master jogged none k other ns ws a =
    let same = cell_same tech axes design numbers widths line cells cell k other ns ws resolved named a in
    let also = jogged_in tech axes design numbers widths line cells cell k other ns ws resolved named a in
    let made : other ≡ new = jogged_is_determined design (cell_of (known_at cells cell)) numbers cell line.k line.r
    line.left other new also jogged in
    let is : k ≡ m = one_number (position (λ n. n == cell) numbers) k m
    (ap (λ (c : ℕ). position (λ n. n == c) numbers) (sym same.1) ∙ a.master) master in
    let K : ℕ → Design → Type 0 = λ c z. IsKept tech axes widths c z ns ws in
    none ns ws (subst (λ z. K m z) made (subst (λ c. K c other) is a.kept))

-- a layout in which the jog's master is not narrower, or another one is wider
pub not_better : (tech : Tech) (axes : List Axis) (before : List ℤ) (m : ℕ) (design : Design) (numbers : List ℕ)
    (widths : List ℤ) → IsLaidOutAs tech axes design numbers widths
    → ((value_of widths m <ℤ value_of before m) × ((k : ℕ) → value_of widths k ≤ℤ value_of before k) → ⊥)
    → (ns : List ℕ) (ws : List ℤ) → IsKept tech axes before m design ns ws → ⊥
not_better tech axes before m design numbers widths laid none ns ws k =
    let same : ws ≡ widths = (one_layout tech axes design ns numbers ws widths k.laid_out laid).1 in
    let B : List ℤ → Type 0 = λ vs. (value_of vs m <ℤ value_of before m)
    × ((j : ℕ) → value_of vs j ≤ℤ value_of before j) in
    none (subst B same (k.narrower, k.no_wider))

-- ---- a jog that is tried

abbrev pub IsKeptAs : Tech → List Axis → List ℤ → ℕ → Design → Accepted → Type 0
IsKeptAs tech axes widths m new a = (a.design ≡ new) × (a.master ≡ m)
    × IsKept tech axes widths m new a.sizes.numbers.items a.sizes.widths.items

-- what holds of the new design holds of the one that is kept
pub kept_with : {E : Type 0} (P : Design → Type 0) (tech : Tech) (axes : List Axis) (widths : List ℤ) (m : ℕ)
    (new : Design) (r : Result (Option Accepted) E) → P new
    → IfOk r (λ o. IfSome o (IsKeptAs tech axes widths m new)) → IfOk r (λ o. IfSome o (λ a. P a.design))
kept_with P tech axes widths m new (Ok (Some a)) of_new kept = subst P (sym kept.0) of_new
kept_with P tech axes widths m new (Ok None) of_new kept = tt
kept_with P tech axes widths m new (Err e) of_new kept = tt

pub none_kept : {E X Y : Type 0} (r : Result (Option Accepted) E) → (X → Y) → IfOk r (λ o. IfNone o X)
    → IfOk r (λ o. IfNone o Y)
none_kept (Ok (Some a)) f none = tt
none_kept (Ok None) f none = f none
none_kept (Err e) f none = tt

pub if_wanted : {A E N : Type 0} (r : Result A E) → N → IfErr r (λ _. N)
if_wanted (Ok a) n = tt
if_wanted (Err e) n = n

-- a jog that is kept is accepted
pub accepts : {E : Type 0} (tech : Tech) (axes : List Axis) (design : Design) (numbers : List ℕ) (widths : List ℤ)
    (line : JogLine) (cells : List CheckedCell) (cell m : ℕ) (new : Design)
    (r : Result (Option Accepted) E) → resolved_cells tech design ≡ Ok cells → number_of cells line.cell ≡ Some cell
    → position (λ n. n == cell) numbers ≡ Some m
    → IsJogged design (cell_of (known_at cells cell)) numbers cell line.k line.r line.left new
    → IfOk r (λ o. IfSome o (IsKeptAs tech axes widths m new))
    → IfOk r
    (λ o. IfSome o
    (λ a. Accepts tech axes design numbers widths line a.master a.design a.sizes.numbers.items
    a.sizes.widths.items))
accepts tech axes design numbers widths line cells cell m new (Ok (Some a)) resolved named master jogged kept =
    let A : ℕ → Design → Type 0 =
    λ k z. Accepts tech axes design numbers widths line k z a.sizes.numbers.items a.sizes.widths.items in
    let message : A m new =
    record {
      cells = cells;
      resolved = resolved;
      cell = cell;
      named = named;
      master = master;
      jogged = jogged;
      kept = kept.2;
    } in
    subst (λ z. A a.master z) (sym kept.0) (subst (λ k. A k new) (sym kept.1) message)
accepts tech axes design numbers widths line cells cell m new (Ok None) resolved named master jogged kept = tt
accepts tech axes design numbers widths line cells cell m new (Err e) resolved named master jogged kept = tt

-- ---- one line more

abbrev pub IsAfter : ℕ → JogLine → Bent → Bent → Accepted → Type 0
IsAfter i line old next a = (next.design ≡ a.design) × (next.sizes ≡ a.sizes)
    × (next.report.items ≡ old.report.items ++ accepted_line i line (value_of old.sizes.widths.items a.master)
    (value_of a.sizes.widths.items a.master))

abbrev pub IsAsBefore : ℕ → JogLine → Bent → Bent → Type 0
IsAsBefore i line old next = (next.design ≡ old.design) × (next.sizes ≡ old.sizes)
    × (next.report.items ≡ old.report.items ++ rejected_line i line)

abbrev pub AcceptsNext : Tech → List Axis → JogLine → Bent → Accepted → Type 0
AcceptsNext tech axes line old a =
    Accepts tech axes old.design old.sizes.numbers.items old.sizes.widths.items line a.master a.design
    a.sizes.numbers.items a.sizes.widths.items

-- what becomes of the design, and what is told
pub stepped : (tech : Tech) (axes : List Axis) (i : ℕ) (line : JogLine) (old next : Bent) (o : Option Accepted)
    → IfSome o (AcceptsNext tech axes line old)
    → IfNone o (IsRejected tech axes old.design old.sizes.numbers.items old.sizes.widths.items line)
    → IfSome o (IsAfter i line old next) → IfNone o (IsAsBefore i line old next)
    → IsNextJog tech axes i line old next
stepped tech axes i line old next (Some a) takes none after same =
    let message = accepted_line i line (value_of old.sizes.widths.items a.master)
    (value_of a.sizes.widths.items a.master) in
    let T : Design → Sizes → Type 0 =
    λ d s. IsTried tech axes i line old.design old.sizes.numbers.items old.sizes.widths.items d s.numbers.items
    s.widths.items message in
    let in_design = subst (λ d. T d a.sizes) (sym after.0) (accepted a.master takes refl) in
    record { message = message; told = after.2; tried = subst (λ s. T next.design s) (sym after.1) in_design }
stepped tech axes i line old next None takes none after same =
    let message = rejected_line i line in
    let T : Design → Sizes → Type 0 =
    λ d s. IsTried tech axes i line old.design old.sizes.numbers.items old.sizes.widths.items d s.numbers.items
    s.widths.items message in
    let in_design = subst (λ d. T d old.sizes) (sym same.0) (rejected none refl refl refl refl) in
    record { message = message; told = same.2; tried = subst (λ s. T next.design s) (sym same.1) in_design }

-- what is told of each next one
pub stepped_all : {E : Type 0} (tech : Tech) (axes : List Axis) (i : ℕ) (line : JogLine) (old : Bent)
    (o : Option Accepted) (r : Result Bent E) → IfSome o (AcceptsNext tech axes line old)
    → IfNone o (IsRejected tech axes old.design old.sizes.numbers.items old.sizes.widths.items line)
    → IfOk r (λ next. IfSome o (IsAfter i line old next))
    → IfOk r (λ next. IfNone o (IsAsBefore i line old next)) → IfOk r (IsNextJog tech axes i line old)
stepped_all tech axes i line old o (Ok next) takes none after same =
    stepped tech axes i line old next o takes none after same
stepped_all tech axes i line old o (Err e) takes none after same = tt

-- ---- all lines

-- one line after the others
pub jogs_more : (tech : Tech) (axes : List Axis) (i : ℕ) (lines : List JogLine) (line : JogLine)
    (design mid last : Design) (n m q : List ℕ) (w u v : List ℤ) (report message : Bytes)
    → AreJogs tech axes i lines design n w mid m u report
    → IsTried tech axes (i + length lines) line mid m u last q v message
    → AreJogs tech axes i (lines ++ line ∷ []) design n w last q v (report ++ message)
jogs_more tech axes i [] line design mid last n m q w u v report message none tried =
    let T : Design → List ℕ → List ℤ → Type 0 = λ d ns ws. IsTried tech axes i line d ns ws last q v message in
    let here : IsTried tech axes i line mid m u last q v message =
    subst (λ (k : ℕ). IsTried tech axes k line mid m u last q v message) (omega arith) tried in
    let in_design = subst (λ d. T d m u) none.0 here in
    let in_numbers = subst (λ ns. T design ns u) none.1 in_design in (
      last,
      q,
      v,
      message,
      [],
      subst (λ ws. T design n ws) none.2 in_numbers,
      (refl, refl, refl, refl),
      ap
          (λ (z : Bytes). z ++ message) none.3 ∙ sym (append-nil message),
    )
jogs_more tech axes i (first ∷ lines) line design mid last n m q w u v report message
    (new, c, x, its, rest, one, more, e) tried =
    let there : IsTried tech axes (suc i + length lines) line mid m u last q v message =
    subst (λ (k : ℕ). IsTried tech axes k line mid m u last q v message) (omega arith) tried in
    let after = jogs_more tech axes (suc i) lines line new mid last c m q x u v rest message more there in
    (new, c, x, its, rest ++ message, one, after, ap (λ (z : Bytes). z ++ message) e ∙ append_assoc its rest message)

-- one more of a script
pub jogs_next : (tech : Tech) (axes : List Axis) (lines : List JogLine) (i : ℕ) (d line : JogLine) (design : Design)
    (n : List ℕ) (w : List ℤ) (old next : Bent) → i < length lines
    → line ≡ get_or lines i d
    → AreJogs tech axes 0 (take i lines) design n w old.design old.sizes.numbers.items old.sizes.widths.items
    old.report.items → IsNextJog tech axes i line old next
    → AreJogs tech axes 0 (take (i + 1) lines) design n w next.design next.sizes.numbers.items next.sizes.widths.items
    next.report.items
jogs_next tech axes lines i d line design n w old next lt is before s =
    let count : i ≡ 0 + length (take i lines) = let e =
    length-take-le i lines (omega (arith, lt)) in omega (arith, e) in
    let T : ℕ → Type 0 = λ k. IsTried tech axes k line old.design old.sizes.numbers.items old.sizes.widths.items
    next.design next.sizes.numbers.items next.sizes.widths.items s.message in
    let all = jogs_more tech axes 0 (take i lines) line design old.design next.design n old.sizes.numbers.items
    next.sizes.numbers.items w old.sizes.widths.items next.sizes.widths.items
    old.report.items s.message before (subst T count s.tried) in
    let A : List JogLine → Bytes → Type 0 =
    λ ls r. AreJogs tech axes 0 ls design n w next.design next.sizes.numbers.items next.sizes.widths.items r in
    let more : take i lines ++ line ∷ [] ≡ take (i + 1) lines = ap (λ l. take i lines ++ l ∷ []) is
    ∙ sym (take_more lines i d lt) in
    subst (λ r. A (take (i + 1) lines) r) (sym s.told) (subst (λ ls. A ls (old.report.items ++ s.message)) more all)

-- the last design and what was told
pub jogs_to : {E : Type 0} (tech : Tech) (axes : List Axis) (lines seen : List JogLine) (design : Design) (n : List ℕ)
    (w : List ℤ) (last : Bent) (text report : Bytes) (r : Result Output E) → seen ≡ lines
    → IsLaidOutAs tech axes design n w
    → AreJogs tech axes 0 seen design n w last.design last.sizes.numbers.items last.sizes.widths.items
    last.report.items → text ≡ canonical last.design
    → report ≡ last.report.items → IfOk r (λ output. text_of output ≡ text) → IfOk r (λ output. output.report ≡ report)
    → IfOk r (λ output. JogsTo tech axes design lines (text_of output) output.report)
jogs_to tech axes lines seen design n w last text report (Ok output) all laid jogs is told written reported =
    let A : List JogLine → Bytes → Type 0 =
    λ ls z. AreJogs tech axes 0 ls design n w last.design last.sizes.numbers.items last.sizes.widths.items z in
    record {
      numbers = n;
      widths = w;
      laid_out = laid;
      last = last.design;
      last_numbers = last.sizes.numbers.items;
      at_last = last.sizes.widths.items;
      jogs = subst (λ z. A lines z) (sym (reported ∙ told)) (subst (λ ls. A ls last.report.items) all jogs);
      written = written ∙ is;
    }
jogs_to tech axes lines seen design n w last text report (Err e) all laid jogs is told written reported = tt
