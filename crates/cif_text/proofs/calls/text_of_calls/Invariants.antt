use Rattle.std.{proofs.Common.{◌≡◌, take}, specs.Prelude.flat_map}
use Rattle.rule_table.specs.Technology.{numbers_of}
use Rattle.cif_text.specs.Calls.{call_text}
use Rattle.cif_text.proofs.calls.text_of_calls.Given as goal

abbrev pub invariant-loop-call : goal.invariant-loop-call
invariant-loop-call l = record {
  text : l.out.items ≡ flat_map (call_text (numbers_of l.tech).unit) (take l.call-index l.calls);
  unit : l.unit ≡ (numbers_of l.tech).unit;
}
