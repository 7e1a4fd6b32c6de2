use Rattle.std.proofs.{Common.{◌≡◌, ◌∙◌, false, Some, ap}, lemmas.Result.IfOk-weaker}
use Rattle.clap.specs.{Words.{Rule, app_of, rule_of, with_rule}, declared.builder.action.ArgAction.TheVariants.Set}
use Rattle.run_words.specs.Lines.{option}
use Rattle.run_words.proofs.lines.with_option.Goals as goal

pub returns : goal.returns
returns c =
    let name = c.args.name.now in
    let rule : rule_of c.action-option.result ≡ record (option name) { required = c.args.required } =
    rw (c.action-option.ensures, c.required.ensures, c.long.ensures)
    (ap (λ (r : Rule). record r { long = Some name; required = c.args.required; action = Some Set })
    c.new.ensures.rule) in
    let single : c.action-option.result.global ≡ false =
    rw (c.action-option.ensures, c.required.ensures, c.long.ensures) c.new.ensures.optional.1 in
    rw c.in_ok-line.was
    (IfOk-weaker c.arg.result _ _ (λ made adds. adds.shape single
    ∙ ap (with_rule (app_of c.in_ok-line.line)) rule) c.arg.ensures)
