use Rattle.std.proofs.Common.{ap}
use Rattle.crossings.proofs.Grains.{grains_held}
use Rattle.crossings.proofs.windows.window_margin.Goals as goal

pub returns-clause-value : goal.returns-clause-value
returns-clause-value c =
    let numbers = c.numbers.ensures in
    let margin = c.in_grains.ensures in
    grains_held c.args.tech.now _ _ c.in_grains.result numbers.sound.in_range.extension_buried
    (ap (λ n. n.extension_buried) numbers.value) margin.not_negative margin.within margin.value
