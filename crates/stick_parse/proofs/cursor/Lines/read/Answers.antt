use Rattle.std.proofs.Common.{◌≡◌, ℕ, List, [], ◌∷◌, map, Option, Result, Bor, refl, ap, ◌∙◌}
use Rattle.stick_text.specs.{declared.{design.Statement.Statement, fault.StickKind.StickKind}, Lines.said_by}
use Rattle.par_phase.proofs.Answers.{answers_are}
use Rattle.stick_parse.proofs.cursor.Lines.read.Goals as goal

said_each : (ls : List (Bor (List ℕ)))
    → map (λ (line : Bor (List ℕ)). said_by line.now) ls ≡ map said_by (map (λ (line : Bor (List ℕ)). line.now) ls)
said_each [] = refl
said_each (l ∷ ls) = ap (λ ss. said_by l.now ∷ ss) (said_each ls)

pub returns-clause-said : goal.returns-clause-said
returns-clause-said g c =
    let v : Bor (List ℕ) → Result (Option Statement) StickKind = λ line. said_by line.now in
    let all = answers_are _ _ v (λ p said says. says) c.deref.result.now c.in_ok-said.said.items
    c.in_ok-said.ensures.answers in
    c.from_vec.ensures.items
    ∙ (all
    ∙ (ap (map v) c.deref.ensures.value
    ∙ (said_each c.in_ok-lines.lines.items ∙ ap (map said_by) c.in_ok-lines.ensures.lines)))
