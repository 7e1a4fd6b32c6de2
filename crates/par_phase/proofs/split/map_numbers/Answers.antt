use Rattle.std.proofs.Common.{◌≡◌, ◌<◌, ℕ, List, length, get_or, refl, ap, subst, ◌∙◌}
use Rattle.std.specs.{Prelude.IfOk, List.range_with_len}
use Rattle.par_phase.{specs.Answers.AnswersEach, proofs.Numbers.is_below}
use Rattle.par_phase.proofs.split.map_numbers.Goals as goal

pub map_split-requires-clause-accepts : goal.map_split-requires-clause-accepts
map_split-requires-clause-accepts g c = λ κs le k d lt p is.
    let are : c.deref.result.now ≡ range_with_len 0 c.args.count = c.deref.ensures.value ∙ c.in_ok-numbers.ensures in
    c.requires.accepts p.now
    (is_below c.args.count k d p.now (subst (λ (ns : List ℕ). k < length ns) are lt)
    (is ∙ ap (λ (ns : List ℕ). get_or ns k d) are)) p refl

pub returns : goal.returns
returns g c = record {
  answers = subst (λ (ns : List ℕ). IfOk c.map_split.result (λ answers. AnswersEach g.F.Fn c.args.f.now ns answers.items))
      (c.deref.ensures.value ∙ c.in_ok-numbers.ensures) c.map_split.ensures.answers;
}
