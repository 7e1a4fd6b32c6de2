use Rattle.std.proofs.Common.{◌≡◌, arith, true, get_or}
use Rattle.std.proofs.lemmas.List.{get_or_read}
use Rattle.bar_rows.specs.{Rows.{no_bar}}
use Rattle.bar_sight.specs.{Sight.{last_at, no_last}}
use Rattle.bar_sight.proofs.Stops.{left_behind}
use Rattle.bar_sight.proofs.row.Row.left_behind.Goals as goal

pub returns : goal.returns
returns c = λ above low there h.
    let row = c.args.self.now in
    let far = c.args.far in
    let same = c.as_slice-bars.ensures.value in
    let solid : (get_or c.as_slice-bars.result.now far no_bar).is_solid ≡ true = c.if-not-bar.false in
    let among = c.requires.among in
    let each = c.requires.row.lasts.one_each in
    let last : c.index.result.now ≡ last_at row.lasts.items far =
    get_or_read row.lasts.items far c.index.result.now (omega (arith, among, each)) c.index.ensures no_last in
    left_behind row c.args.place above far c.args.left c.behind.result (record {
      is_row = c.requires.row;
      rule = c.if-not-self.false;
      after = c.requires.in_order;
      main = c.requires.main;
      solid = rw same at solid;
      faces = c.requires.faces;
      low = low;
      there = there;
    }) (rw (c.then_some.ensures, last, same) at c.behind.ensures) h
