use Rattle.std.proofs.Common.{arith}
use Rattle.costs.proofs.Products.{bits_product}
use Rattle.costs.proofs.whole.multiple_of.Goals as goal

pub returns : goal.returns
returns c = bits_product c.args.n c.args.a c.cast_signed.result (omega arith) c.ranges.a c.cast_signed.ensures
