-- What `breaks` lists is what `check` tells first.
use Rattle.std.proofs.Common.{◌≡◌, ℕ, ◌^◌, ◌≤◌, length, inl, inr, refl, sym, subst, codes}
use Rattle.lam_io.specs.Io.{Bytes, Files}
use Rattle.rule_table.specs.declared.technology.Tech.{Tech}
use Rattle.rule_breaks.specs.declared.rule.Break.{Break}
use Rattle.cif_answers.specs.Texts.{HasBreaks, HasVerdict, IsFirstBreakOf, TellsVerdict}
use Rattle.compact_run.specs.{declared.cif.CifJob.TheVariants.{Check, Breaks}, Answers.IsCheckedOrExtracted}
use Rattle.compact_run.specs.{Answers.cif_steps, BreakLaws.{BeginsOver, BreaksAreThoseOfCheck}}
use Rattle.command_files.specs.{StepLists.Refuses, Readers.{cif_file, technology_file}}
use Rattle.command_files.proofs.{Once.says_once, Readers.{cif_once, technology_once}}
use Rattle.command_files.specs.declared.status.Status.TheVariants as statuses

-- the law on texts
abbrev BreaksTellVerdicts : Type 0
BreaksTellVerdicts =
    (tech : Tech) (most : ℕ) (text output : Bytes) → length text ≤ 2 ^ 26 → 1 ≤ most → most ≤ 65536
    → HasBreaks tech most text output → TellsVerdict tech text output

-- a text of the shelf is not too long
short_text : (text message : Bytes) → message ≡ text → length text ≤ 2 ^ 26 → length message ≤ 2 ^ 26
short_text text message is short = subst (λ (s : Bytes). length s ≤ 2 ^ 26) (sym is) short

none_of_check : BreaksTellVerdicts → (cif tech : Bytes) (most : ℕ) (files : Files) (output : Bytes) → 1 ≤ most
    → most ≤ 65536 → IsCheckedOrExtracted (Breaks most) cif tech files output
    → (output ≡ codes "breaks 0\n" → IsCheckedOrExtracted Check cif tech files (codes "ok\n"))
    × (IsCheckedOrExtracted Check cif tech files (codes "ok\n") → output ≡ codes "breaks 0\n")
none_of_check law cif tech most files output some few (u, also, (y, are, (bs, have, (made, holds, w)))) =
    let lists : HasBreaks u most y output = subst (λ o. HasBreaks u most y o) (sym w.0) holds in
    let tells : TellsVerdict u y output =
    law u most y output (short_text are.text y are.read are.file.short) some few lists in (
      λ e. (let v = tells.kept.0 e in (u, also, (y, are, (v.boxes, v.are_boxes, (codes "ok\n", v, (refl, refl)))))),
      λ told.
          (let one_tech = says_once technology_file technology_once files tech told.0 u told.1 also in
          let one_text = says_once cif_file cif_once files cif told.2.0 y told.2.1 are in
          let V : Tech → Bytes → Type 0 = λ t s. HasVerdict t s (codes "ok\n") in
          let verdict : V told.0 told.2.0 =
          subst (λ o. HasVerdict told.0 told.2.0 o) (sym told.2.2.2.2.0) told.2.2.2.1 in
          tells.kept.1 (subst (λ t. V t y) one_tech (subst (λ s. V told.0 s) one_text verdict))),
    )

first_of_check : BreaksTellVerdicts
    → (cif tech : Bytes) (most : ℕ) (files : Files) (output message : Bytes) (rule a b : ℕ) → 1 ≤ most → most ≤ 65536
    → IsCheckedOrExtracted (Breaks most) cif tech files output
    → Refuses (cif_steps Check cif tech) files (statuses.RuleBroken rule a b) message
    → BeginsOver cif tech files (record { rule = rule; a = a; b = b }) output
first_of_check law cif tech most files output message rule a b some few told (inl none) = absurd (cc)
first_of_check law cif tech most files output message rule a b some few told (inr (inl bad)) = absurd bad.read
first_of_check law cif tech most files output message rule a b some few told (inr (inr (t, is, inl bad))) =
    absurd bad.read
first_of_check law cif tech most files output message rule a b some few
    (u, also, (y, are, (bs, have, (made, holds, w))))
    (inr (inr (t, is, inr (x, there, inr (boxes, drawn, inl why))))) =
    let one_tech = says_once technology_file technology_once files tech t u is also in
    let one_text = says_once cif_file cif_once files cif x y there are in
    let first : Break = record { rule = rule; a = a; b = b } in
    let B : Tech → Bytes → Type 0 = λ z s. IsFirstBreakOf z s first in
    let broken : IsFirstBreakOf u y first = subst (λ z. B z y) one_tech (subst (λ s. B t s) one_text why.1.0) in
    let tells : TellsVerdict u y output =
    law u most y output (short_text are.text y are.read are.file.short) some few
    (subst (λ o. HasBreaks u most y o) (sym w.0) holds) in
    record { technology = u; is_technology = also; text = y; is_text = are; begins = tells.broken first broken }
first_of_check law cif tech most files output message rule a b some few told
    (inr (inr (t, is, inr (x, there, inl bad)))) = absurd bad.1
first_of_check law cif tech most files output message rule a b some few told
    (inr (inr (t, is, inr (x, there, inr (boxes, drawn, inr (made, has, end)))))) = absurd end

pub breaks_are_those_of_check : BreaksTellVerdicts → BreaksAreThoseOfCheck
breaks_are_those_of_check law = record { none = none_of_check law; first = first_of_check law }
