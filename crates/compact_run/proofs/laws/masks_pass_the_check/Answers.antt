use Rattle.std.{proofs.Common.{◌≡◌, ◌≤◌, length, refl, sym, ◌∙◌, subst}, specs.Prelude.codes}
use Rattle.command_files.specs.Limits.{most_cif_bytes}
use Rattle.compact_run.specs.{Answers.HasOutput, declared.cif.CifJob.TheVariants.Check}
use Rattle.cif_foreign.specs.Meaning.{Means}
use Rattle.lam_io.specs.Io.{Bytes}
use Rattle.compact_run.proofs.laws.masks_pass_the_check.Goals as goal

pub returns : goal.returns
returns c = λ design tech axes files output report done others cif rules there same.
    (let t = done.1 in
    let laid = done.2.2.2.2.2.2.1 in
    let written : output ≡ _ = done.2.2.2.2.2.2.2.0 in
    let S : Bytes → Type 0 = λ text. length text ≤ most_cif_bytes in
    let verdict : HasOutput Check done.0 output (codes "ok\n") = record {
      boxes = laid.nets.boxes;
      are_boxes =
          record {
            hierarchy = laid.nets.hierarchy;
            means = subst (λ text. Means text laid.nets.hierarchy) (sym written) laid.nets.means;
            drawn =
                laid.nets.drawn;
            few = laid.few;
          };
      keep = laid.rules;
      written = refl;
    } in (
      done.0,
      record { text = t.text; file = record { there = same ∙ t.file.there; short = t.file.short }; read = t.read },
      (
        output,
        record {
          text = output;
          file = record { there = there; short = subst S (sym written) laid.short };
          read = refl;
        },
        (verdict.boxes, verdict.are_boxes, (codes "ok\n", verdict, (refl, refl))),
      ),
    ))
