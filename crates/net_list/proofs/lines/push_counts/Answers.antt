use Rattle.std.proofs.{Common.{sym}, lemmas.Fmt.decimal_digit}
use Rattle.net_list.proofs.lines.push_counts.Goals as goal

pub returns-then-metal-lt10 : goal.returns-then-metal-lt10
returns-then-metal-lt10 c =
    rw (
      decimal_digit c.args.diffusion c.if-diffusion-lt10.true,
      decimal_digit c.args.poly c.if-poly-lt10.true,
      decimal_digit c.args.metal c.if-metal-lt10.true,
      sym c.digit-nd.ensures,
      sym c.digit-np.ensures,
      sym c.digit-nm.ensures,
    ) c.in_ok-extend_from_slice.ensures.items
