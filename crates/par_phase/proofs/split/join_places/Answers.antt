use Rattle.std.{proofs.{Common.{ℕ, sym, ◌∙◌, subst, arith, Vec, get_or}, lemmas.List.length-set}, specs.Global.Global}
use Rattle.par_phase.{specs.{Answers.{AnswersAt, AnswersEach}, Blocks.block_of}, proofs.Cuts.{belong_all, belong_more}}
use Rattle.par_phase.proofs.{Cuts.{placed_more, taken_out}, split.join_places.Goals.After-drop-answers-in-loop-block}
use Rattle.par_phase.proofs.split.join_places.Goals.{in-Some, in-None+in_ok-answers-in-None}
use Rattle.par_phase.proofs.split.join_places.Goals as goal

-- what is put to the answers so far are those of the block
of_block : (g : _) (c : After-drop-answers-in-loop-block g)
    → AnswersEach g.F.Fn c.args.f.now (block_of c.args.items.now c.len-blocks.result c.loop-block.block)
    c.match-take.answers.items
of_block g c =
    let Fits : Vec g.row.U.Denot Global → Type 0 = λ answers.
    AnswersEach g.F.Fn c.args.f.now (block_of c.args.items.now c.len-blocks.result c.loop-block.block) answers.items in
    elim c.match-take.branch [
      | in-Some w ↦
          let seen = c.index_mut.result.now in
          let place = get_or c.loop-block.places.items c.loop-block.block seen in
          let stood = c.loop-block.invariant.placed c.loop-block.block seen (omega arith) in
          subst Fits (sym w.answers-is)
          (taken_out Fits place seen w.in-Some.answers c.index_mut.ensures.value w.in-Some.ensures.value stood)
      | in-None+in_ok-answers-in-None w ↦
          subst Fits (sym w.answers-is)
          (subst (λ xs. AnswersEach g.F.Fn c.args.f.now xs w.in_ok-answers-in-None.answers.items) w.block_of.ensures
          w.in_ok-answers-in-None.ensures)
    ]

pub loop-block-preserved : goal.loop-block-preserved
loop-block-preserved g c =
    let places = c.loop-block.places.items in
    let Fits : ℕ → Vec g.row.U.Denot Global → Type 0 = λ k answers.
    AnswersEach g.F.Fn c.args.f.now (block_of c.args.items.now c.len-blocks.result k) answers.items in
    record {
      so_far = belong_more (AnswersAt g.F.Fn c.args.f.now) c.args.items.now c.len-blocks.result c.loop-block.block
          c.loop-block.all.items c.match-take.answers.items _ (omega arith) c.loop-block.invariant.so_far (of_block g c)
          c.in_ok-append.ensures.items;
      count = length-set places c.loop-block.block _ ∙ c.loop-block.invariant.count;
      placed = placed_more Fits places c.loop-block.block _ (rw c.take.ensures.after tt) c.loop-block.invariant.placed;
    }

pub returns : goal.returns
returns g c =
    belong_all (AnswersAt g.F.Fn c.args.f.now) c.args.items.now c.len-blocks.result c.loop-block.block
    c.loop-block.all.items (omega arith) (omega arith) c.loop-block.invariant.so_far
