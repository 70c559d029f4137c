use Rattle.rows.proofs.Lawful.{by_dollars_laws, by_dollars_then_tonnes_laws}
use Rattle.rows.proofs.orders_keep_laws.Goals as goal

pub returns : goal.returns
returns c = record { money = by_dollars_laws; tonnes = by_dollars_then_tonnes_laws }
