use Rattle.std.proofs.Common.{refl}
use Rattle.stick_text.specs.Order.{design_of}
use Rattle.stick_parse.proofs.Faults.{some_answer, one_design, one_fault, not_both}
use Rattle.stick_parse.proofs.laws.has_one_answer.Goals as goal

pub returns : goal.returns
returns c =
    let text = c.args.text.now in
    record {
      some = some_answer text (design_of text) refl;
      one_design = one_design text;
      one_fault = one_fault text;
      not_both = not_both text;
    }
