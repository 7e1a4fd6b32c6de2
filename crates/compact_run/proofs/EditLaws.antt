-- Laws on all edits.
use Rattle.std.{proofs.Common.{◌≡◌, ◌≤◌, ◌<◌, Some, Ok, inl, inr, List, length, sym, ap, ◌∙◌, subst}, specs.FinMap.get}
use Rattle.lam_geom.specs.declared.boxes.Axis.{Axis}
use Rattle.lam_io.specs.Io.{Bytes, Files}
use Rattle.rule_table.specs.declared.technology.Tech.{Tech}
use Rattle.stick_text.specs.{declared.design.Design.Design as Sticks, Order.design_of}
use Rattle.stick_print.specs.Canonical.{canonical}
use Rattle.command_files.specs.{declared.status.{File.File, Status.Status}, Limits.most_design_bytes}
use Rattle.command_files.specs.{StepLists.RefusesFile, Readers.{IsTechnology, IsDesign, technology_file, design_file}}
use Rattle.command_files.{specs.Fetches.IsDecided, proofs.{Once.{says_once, read_not_refused}, Readers.technology_once}}
use Rattle.design_layouts.{specs.Designs.{RefusesDesign, last_layouts}, proofs.OneLayout.has_memory}
use Rattle.edit_command.specs.Edits.{IsAnswered, done, too_long, code_word}
use Rattle.edit_command.proofs.{LeastLayouts.placed_least, OneEdits.one_word}
use Rattle.compact_run.specs.{Answers.RefusesCompact, EditLaws.{AreEditsJudgedAsTexts, CompactAnswers, compacted}}
use Rattle.compact_run.{specs.EditLaws.refused, proofs.JogLaws.reads_itself}
use Rattle.command_files.specs.declared.status.Status.TheVariants as statuses
use Rattle.edit_command.specs.Edits as edits

-- ---- from an answer

same_text : (files : Files) (name s t : Bytes) → get files name ≡ Some s → get files name ≡ Some t → s ≡ t
same_text files name s t a b = let p = sym a ∙ b in cc

-- the design in the file is the new one
short_text : (files : Files) (name : Bytes) (new sticks : Sticks) → get files name ≡ Some (canonical new)
    → (d : IsDesign files name sticks) → length (canonical new) ≤ most_design_bytes
short_text files name new sticks file d =
    let short = d.file.short in
    subst (λ (t : Bytes). length t ≤ most_design_bytes)
    (same_text files name d.text (canonical new) d.file.there file) short

same_design : (files : Files) (name : Bytes) (new sticks : Sticks) → design_of (canonical new) ≡ Ok new
    → get files name ≡ Some (canonical new) → IsDesign files name sticks → sticks ≡ new
same_design files name new sticks itself file d =
    let p = sym d.read ∙ (ap design_of (same_text files name d.text (canonical new) d.file.there file) ∙ itself) in cc

of_sticks : (technology : Tech) (axes : List Axis) (files : Files) (name word : Bytes) (new : Sticks)
    (status : Status) (message : Bytes) → design_of (canonical new) ≡ Ok new
    → get files name ≡ Some (canonical new) → RefusesFile design_file name files status message → IsDecided status
    → word ≡ code_word status → IsAnswered technology axes new word
of_sticks technology axes files name word new statuses.OutOfMemory message itself file why d e = absurd d
of_sticks technology axes files name word new (statuses.ReadFault f) message itself file why d e = absurd d
of_sticks technology axes files name word new (statuses.TooLong f) message itself file why d e =
    let L : Bytes → Type 0 = λ t. most_design_bytes < length t in
    too_long (subst L (same_text files name why.1.text (canonical new) why.1.there file) why.1.long)
    (e ∙ ap (λ (z : File). code_word (statuses.TooLong z)) why.0)
of_sticks technology axes files name word new (statuses.BadSticks fault) message itself file why d e =
    absurd (let p = sym why.read.0
    ∙ (ap design_of (same_text files name why.text (canonical new) why.file.there file) ∙ itself) in cc)
of_sticks technology axes files name word new other message itself file why d e = absurd why.read

of_answer : (technology : Tech) (axes : List Axis) (files : Files) (name tech word : Bytes) (new : Sticks)
    → design_of (canonical new) ≡ Ok new → get files name ≡ Some (canonical new)
    → IsTechnology files tech technology → CompactAnswers name tech axes files word
    → IsAnswered technology axes new word
of_answer technology axes files name tech word new itself file is (compacted t x also there output report s e) =
    let design = same_design files name new x itself file there in
    let here : IsAnswered t axes x word =
    done (subst (λ (d : Sticks). length (canonical d) ≤ most_design_bytes) (sym design)
    (short_text files name new x file there))
    s.plan s.masters s.are_masters (last_layouts t s.masters s.steps)
    (placed_least t s.plan s.masters axes s.steps s.laid_out) e in
    subst (λ (d : Sticks). IsAnswered technology axes d word) design
    (subst (λ (z : Tech). IsAnswered z axes x word)
    (says_once technology_file technology_once files tech t technology also is) here)
of_answer technology axes files name tech word new itself file is (refused status message why d e) = go why
  where
    go : RefusesCompact name tech axes files status message → IsAnswered technology axes new word
    go (inl none) = absurd (subst IsDecided none d)
    go (inr (inl why)) =
        absurd (read_not_refused technology_file technology_once files tech technology status message is why d)
    go (inr (inr (t, also, inl why))) = of_sticks technology axes files name word new status message itself file why d e
    go (inr (inr (t, also, inr (x, there, why)))) =
        let R : Tech → Sticks → Type 0 = λ z y. RefusesDesign z axes y status message in
        let in_design : R t new = subst (λ y. R t y) (same_design files name new x itself file there) (inr why) in
        let here : R technology new =
        subst (λ z. R z new) (says_once technology_file technology_once files tech t technology also is)
        in_design in
        edits.no_masks (short_text files name new x file there) status message here (has_memory status d) e

pub judged_as_texts : AreEditsJudgedAsTexts
judged_as_texts technology axes design new numbers line change writable files name tech answer file is answers word =
    let itself = reads_itself new _ change.edited.made writable in
    let message = of_answer technology axes files name tech answer new itself file is answers in
    let A : Bytes → Type 0 = λ w. IsAnswered technology axes new w in
    (λ told. one_word technology axes new word answer told message, λ same. subst A (sym same) message)
