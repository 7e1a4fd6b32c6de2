use Rattle.std.proofs.{Common.{◌≡◌, List, ℕ, sym, subst}, lemmas.Result.IfOk-weaker}
use Rattle.stick_text.specs.Writable.{IsWritable}
use Rattle.stick_print.{specs.{Canonical.canonical, ReadBack.ReadsAs}, proofs.Whole.reads_back}
use Rattle.stick_print.proofs.printing.print.Goals as goal

pub returns-clause-reads_back : goal.returns-clause-reads_back
returns-clause-reads_back c =
    let d = c.args.design.now in
    IfOk-weaker c.canonical_text.result (λ text. text.items ≡ canonical d)
    (λ text. IsWritable d → ReadsAs text.items d)
    (λ text e w. subst (λ (t : List ℕ). ReadsAs t d) (sym e) (reads_back d w)) c.canonical_text.ensures
