-- What files are read as is determined.
use Rattle.std.proofs.{Common.{◌≡◌, Result, Ok, Err, refl, sym, ap, ◌∙◌, Option, None}, Props.props}
use Rattle.lam_io.specs.Io.{Bytes}
use Rattle.rule_table.specs.{Technology.numbers_of, declared.{faults.TechFault.TechFault, technology.Tech.Tech}}
use Rattle.rule_table.specs.Faults.{fault_of}
use Rattle.tech_file.specs.Technology.{technology_of}
use Rattle.stick_text.specs.Order.{design_of}
use Rattle.command_files.specs.{declared.status.Status.Status, StepLists.Reader, Readers.{Reading, technology_file}}
use Rattle.command_files.specs.Readers.{design_file, script_file, cif_file, is_no_technology, is_no_design}
use Rattle.command_files.{specs.Readers.is_no_script, proofs.Once.ReadsOnce}
use Rattle.fault_lines.specs.FaultLines.{stick_line, tech_line, script_line}
use Rattle.command_files.specs.declared.status.Status.TheVariants as statuses
use mathlib.Core.HLevel.{is_prop→PathP}

-- that there is no fault has one proof at most
no_fault_once : (o : Option TechFault) → IsProp (o ≡ None)
no_fault_once o = hlevel props

-- technologies with the same numbers are equal
pub same_tech : (a b : Tech) → a.numbers ≡ b.numbers → a ≡ b
same_tech a b p =
    λ i. record {
      numbers = p i;
      sound = is_prop→PathP (λ j. fault_of (p j) ≡ None)
          (λ j. no_fault_once (fault_of (p j))) a.sound b.sound i;
    }

-- the first fault of a text, by a status and a line
abbrev IsFault : {B F : Type 0} → (Bytes → Result B F) → (F → Status) → (F → Bytes) → Bytes → Status → Bytes → Type 0
IsFault {B} {F} read bad says text status message = (fault : F) × (read text ≡ Err fault) × (status ≡ bad fault)
    × (message ≡ says fault)

-- a text that a function reads is read in one way
reads_once : {A B F : Type 0} (reader : Reader A) (read : Bytes → Result B F) (view : A → B) (bad : F → Status)
    (says : F → Bytes) → ((x y : A) → view x ≡ view y → x ≡ y)
    → ((text : Bytes) (x : A) → reader.says text x → read text ≡ Ok (view x))
    → ((text : Bytes) (status : Status) (message : Bytes) → reader.fails text status message
    → IsFault read bad says text status message) → ReadsOnce reader
reads_once reader read view bad says one is faulty = record {
  one = λ text x y a b. one x y (same_value _ _ (sym (is text x a) ∙ is text y b));
  not_both = λ text x status message a f. not_fault _ _ (sym (is text x a) ∙ (faulty text status message f).1);
  one_fault = λ text status other message told f g.
      (let first = faulty text status message f in
      let then = faulty text other told g in
      let same = same_fault first.0 then.0 (sym first.1 ∙ then.1) in
      (first.2 ∙ (ap bad same ∙ sym then.2), first.3 ∙ (ap says same ∙ sym then.3)));
}
  where
    same_value : {B F : Type 0} (x y : B) → (let r : Result B F = Ok x in r) ≡ Ok y → x ≡ y
    same_value x y e = cc

    not_fault : {B F : Type 0} (x : B) (f : F) → (let r : Result B F = Ok x in r) ≡ Err f → ⊥
    not_fault x f e = cc

    same_fault : {B F : Type 0} (f g : F) → (let r : Result B F = Err f in r) ≡ Err g → f ≡ g
    same_fault f g e = cc

technology_fault : (text : Bytes) (status : Status) (message : Bytes) → is_no_technology text status message
    → IsFault technology_of (λ f. statuses.BadTech f) tech_line text status message
technology_fault text (statuses.BadTech fault) message why = (fault, why.0, refl, why.1)
technology_fault text other message why = absurd why

pub technology_once : ReadsOnce technology_file
technology_once = reads_once technology_file technology_of numbers_of (λ f. statuses.BadTech f) tech_line same_tech
    (λ text x a. a) technology_fault

design_fault : (text : Bytes) (status : Status) (message : Bytes) → is_no_design text status message
    → IsFault design_of (λ f. statuses.BadSticks f) stick_line text status message
design_fault text (statuses.BadSticks fault) message why = (fault, why.0, refl, why.1)
design_fault text other message why = absurd why

pub design_once : ReadsOnce design_file
design_once = reads_once design_file design_of (λ x. x) (λ f. statuses.BadSticks f) stick_line (λ x y e. e)
    (λ text x a. a) design_fault

script_fault : {Line : Type 0} (lines_of : Reading Line) (text : Bytes) (status : Status) (message : Bytes)
    → is_no_script lines_of text status message
    → IsFault lines_of (λ line. statuses.BadScript line) script_line text status message
script_fault lines_of text (statuses.BadScript line) message why = (line, why.0, refl, why.1)
script_fault lines_of text other message why = absurd why

pub script_once : {Line : Type 0} (lines_of : Reading Line) → ReadsOnce (script_file lines_of)
script_once lines_of = reads_once (script_file lines_of) lines_of (λ x. x) (λ line. statuses.BadScript line)
    script_line (λ x y e. e) (λ text x a. a) (script_fault lines_of)

pub cif_once : ReadsOnce cif_file
cif_once =
    record {
      one = λ text x y a b. a ∙ sym b;
      not_both = λ text x status message a f. f;
      one_fault = λ text status other message told f g. absurd f;
    }
