use Rattle.std.proofs.{Common.{pos, get_or, [], ◌++◌, ap, ◌∙◌, arith}, lemmas.List.take_all}
use Rattle.std.specs.Prelude.{codes, flat_map}
use Rattle.rule_table.specs.Technology.{numbers_of}
use Rattle.mask_out.specs.declared.drawing.Call.{Call}
use Rattle.cif_text.{specs.Calls.call_text, proofs.Chunks.chunk_added}
use Rattle.cif_text.proofs.calls.text_of_calls.Goals as goal

abbrev no_call : Call
no_call = record { symbol = 0; x = pos 0; y = pos 0 }

pub loop-call-preserved : goal.loop-call-preserved
loop-call-preserved c =
    let unit = (numbers_of c.args.tech.now).unit in
    let call = get_or c.args.calls.now c.loop-call.call-index no_call in
    record {
      text =
          chunk_added (call_text unit) c.args.calls.now c.loop-call.call-index no_call [] c.loop-call.out.items _
          c.loop-call-test.true c.loop-call.invariant.text
          (c.in_ok-push_call.ensures
          ∙ ap (λ u. c.loop-call.out.items ++ call_text u call) c.loop-call.invariant.unit);
      unit = c.loop-call.invariant.unit;
    }

pub returns : goal.returns
returns c =
    let calls = c.args.calls.now in
    c.in_ok-extend_from_slice.ensures.items
    ∙ ap (λ text. text ++ codes "E\n") (c.loop-call.invariant.text
    ∙ ap (flat_map (call_text (numbers_of c.args.tech.now).unit))
    (take_all c.loop-call.call-index calls (omega arith)))
