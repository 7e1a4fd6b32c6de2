use Rattle.std.proofs.Common.{arith, ◌≡◌, ◌<◌, length, ◌∙◌, sym}
use Rattle.box_pieces.{specs.Pieces.diffusion_at, proofs.{Areas.diffusion_read, BoxByBox.{not_crossed, cursor_stays}}}
use Rattle.box_pieces.proofs.placing.crossing_of.Goals.{else-next-crossings-via-then-next-crossings+else-crossings-next}
use Rattle.box_pieces.proofs.placing.crossing_of.Goals.{else-next-crossings-via-else-next-crossings}
use Rattle.box_pieces.proofs.placing.crossing_of.Goals as goal

pub returns-else-next-crossings-clause-crossed : goal.returns-else-next-crossings-clause-crossed
returns-else-next-crossings-clause-crossed c =
    let crossings = c.args.crossings.now in
    let not_next : c.args.next < length crossings → diffusion_at crossings c.args.next ≡ c.args.k
    → ⊥ = elim c.else-next-crossings.branch [
      | else-next-crossings-via-then-next-crossings+else-crossings-next w ↦
          (λ lt e. w.if-crossings-next.false
          (sym (diffusion_read crossings c.args.next w.index-crossings-next.result lt) ∙ e))
      | else-next-crossings-via-else-next-crossings w ↦ (let past = w.if-next-crossings.false in λ lt e. omega arith)
    ] in
    not_crossed crossings c.args.next c.args.k c.requires.in_order c.requires.cursor not_next

pub returns-else-next-crossings-clause-cursor : goal.returns-else-next-crossings-clause-cursor
returns-else-next-crossings-clause-cursor c =
    let crossings = c.args.crossings.now in
    let not_next : c.args.next < length crossings → diffusion_at crossings c.args.next ≡ c.args.k
    → ⊥ = elim c.else-next-crossings.branch [
      | else-next-crossings-via-then-next-crossings+else-crossings-next w ↦
          (λ lt e. w.if-crossings-next.false
          (sym (diffusion_read crossings c.args.next w.index-crossings-next.result lt) ∙ e))
      | else-next-crossings-via-else-next-crossings w ↦ (let past = w.if-next-crossings.false in λ lt e. omega arith)
    ] in
    cursor_stays crossings c.args.next c.args.k c.requires.in_order c.requires.cursor not_next
