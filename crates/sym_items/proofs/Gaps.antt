-- The boxes of two items lie as far apart as the items.
use Rattle.std.proofs.Common.{◌≡◌, ◌∙◌}
