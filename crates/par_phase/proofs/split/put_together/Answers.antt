use Rattle.std.proofs.{Common.{◌≡◌, List, [], ◌∷◌, ◌++◌, refl, append-nil}, lemmas.List.Elements.All-push}
use Rattle.std.{proofs.lemmas.Grind.flat_map-append, specs.Prelude.{Result, Ok, Err, IsOk, Vec}}
use Rattle.par_phase.specs.Answers.{ArePutTogether, answers_in}
use Rattle.par_phase.proofs.split.put_together.Goals as goal

-- one share more
one_part : {U A E : Type 0} (parts : List (Result (Vec U A) E)) (part : Result (Vec U A) E) (answers : Vec U A)
    (all next : List U) → part ≡ Ok answers → next ≡ all ++ answers.items → ArePutTogether parts all
    → ArePutTogether (parts ++ part ∷ []) next
one_part parts (Err e) answers all next is added h = absurd cc
one_part parts (Ok v) answers all next is added h =
    let both = flat_map-append answers_in parts (Ok v ∷ []) in
    let end = append-nil v.items in
    (All-push IsOk parts (Ok v) h.0 refl, cc h.1)

pub loop-part-preserved : goal.loop-part-preserved
loop-part-preserved g c = one_part c.loop-part.yielded c.in-Some.part c.in_ok-part.field-0 c.loop-part.all.items _
    c.in_ok-part.was c.in_ok-append.ensures.items c.loop-part.invariant
