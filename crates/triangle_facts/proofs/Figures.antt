-- The figures of the triangle, from their lemmas. Assumes nothing.
use Rattle.std.proofs.Common.{refl}
use Rattle.triangle_facts.specs.Figures.{TriangleFigures}
use Rattle.triangle_facts.proofs.Rounds.{
  long_round_at,
  short_round_at,
  short_cheaper,
  both_close,
  both_rate,
  both_not_cheaper,
  closed_short,
  stayed_long,
  hired_stayed_long,
  stayed_hired_long,
  tonnes_short,
  tonnes_long,
  tonnes_cheaper,
}
use Rattle.triangle_facts.proofs.Settled.{triangle_best, level_best, other_best, closed_best, mark_0, mark_1, mark_2}
use Rattle.triangle_facts.proofs.NoRound.{no_round_back, idle_round_at_port_1}

pub triangle_figures : TriangleFigures
triangle_figures = record {
  best_round = record { round = long_round_at _; best = triangle_best };
  mark_of_port_0 = mark_0;
  mark_of_port_1 = mark_1;
  mark_of_port_2 = mark_2;
  both_rounds_close = both_close;
  both_rounds_cost = both_rate;
  both_rounds_not_cheaper = both_not_cheaper;
  long_round_still_there = refl;
  long_round_still_best = record { round = long_round_at _; best = level_best };
  short_round_best = record { round = short_round_at; best = other_best };
  short_round_cheaper = short_cheaper;
  closures_for_each_port = refl;
  closed_round_best = record { round = closed_short; best = closed_best };
  stays_for_each_port = refl;
  stays_accepted = refl;
  hire_accepted = refl;
  stay_adds_hours = stayed_long;
  hire_on_top = hired_stayed_long;
  hire_beneath = stayed_hired_long;
  no_round = no_round_back;
  idle_round = idle_round_at_port_1;
  short_with_tonnes = tonnes_short;
  long_with_tonnes = tonnes_long;
  short_cheaper_with_tonnes = tonnes_cheaper;
}
