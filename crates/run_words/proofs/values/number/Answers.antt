use Rattle.std.proofs.Common.{sym}
use Rattle.run_words.proofs.Numbers.{parsed}
use Rattle.run_words.proofs.values.number.Goals as goal

pub returns-in-Err : goal.returns-in-Err
returns-in-Err c =
    let ok = parsed c.args.most_digits c.args.word.now c.parse.result c.parse.ensures.value.0 c.requires
    (sym c.if-not-is_number.ensures) in
    let err = c.in-Err.is in
    cc
