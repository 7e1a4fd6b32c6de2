use Rattle.std.{proofs.Common.{◌≡◌, ap, sym, ◌∙◌, get_or, arith}, specs.{Prelude.Some, Str.bytes_eq}}
use Rattle.lam_io.proofs.StoredFiles.{get-files, found-here, found-later, found-end}
use Rattle.lam_io.proofs.mem_shelf.MemShelf.find.Goals as goal

pub returns-then-eq : goal.returns-then-eq
returns-then-eq c =
    let is : c.file-item.result ≡ get_or c.args.self.now.files.items c.loop-file.file-index c.file-item.result = cc in
    let here = found-here c.args.name.now c.args.self.now.files.items c.loop-file.file-index c.file-item.result
    (omega arith) is (ap (bytes_eq c.args.name.now) (sym c.as_str.ensures.value) ∙ sym c.eq.ensures
    ∙ c.if-eq.true) in
    ap Some c.as_slice.ensures.value ∙ sym here ∙ c.loop-file.invariant ∙ sym (get-files _ _)

pub loop-file-preserved : goal.loop-file-preserved
loop-file-preserved c =
    let is : c.file-item.result ≡ get_or c.args.self.now.files.items c.loop-file.file-index c.file-item.result = cc in
    let later = found-later c.args.name.now c.args.self.now.files.items c.loop-file.file-index c.file-item.result
    (omega arith) is (ap (bytes_eq c.args.name.now) (sym c.as_str.ensures.value) ∙ sym c.eq.ensures
    ∙ c.if-eq.false) in
    sym later ∙ c.loop-file.invariant

pub returns : goal.returns
returns c =
    sym (found-end c.args.name.now c.args.self.now.files.items c.loop-file.file-index (omega arith))
    ∙ c.loop-file.invariant ∙ sym (get-files _ _)
