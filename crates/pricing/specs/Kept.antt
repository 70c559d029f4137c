-- A kept leg, as the definitions have it. Assumes nothing.
use Rattle.rounds.specs.Standing.{Joined}
use Rattle.pricing.specs.declared.kept.KeptLeg.{KeptLeg}

abbrev pub kept_joined : KeptLeg → Joined
kept_joined l = record { number = l.number; from = l.from; to = l.to }
