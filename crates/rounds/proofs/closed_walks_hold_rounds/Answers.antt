use Rattle.rounds.proofs.Theorems.{closed_walks_hold, cheaper_walks_hold}
use Rattle.rounds.proofs.closed_walks_hold_rounds.Goals as goal

pub returns : goal.returns
returns c = record { rounds = closed_walks_hold; cheaper = cheaper_walks_hold }
