use Rattle.design_commands.proofs.Symbols.{can_be_written, few_symbols}
use Rattle.design_commands.proofs.compact.written.Goals as goal

pub cif_chunks-requires-clause-writable : goal.cif_chunks-requires-clause-writable
cif_chunks-requires-clause-writable g c = λ κs lives.
    (let q = c.in_ok-picture.ensures in
    let same = rw c.as_slice.ensures at q.symbols in
    let symbols = c.in_ok-picture.picture.symbols in
    let masters = c.args.masters.now in
    record {
      few = few_symbols symbols masters c.args.passes.coords same c.requires.few_masters;
      drawn = can_be_written symbols masters c.args.passes.coords same c.requires.named q.placed;
      called = q.called;
    })
