use Rattle.triangle_facts.proofs.Figures.{triangle_figures}
use Rattle.triangle_facts.proofs.triangle_figures_stand.Goals as goal

pub returns : goal.returns
returns c = triangle_figures
