-- The kinds at hand: which row is below which, and the size of a row. Assumes nothing.
use Rattle.std.specs.Prelude.{max, not, ◌&&◌, ◌||◌, int_lt, unsigned_abs}
use Rattle.rows.specs.Kinds.{Kind}

-- dollars, in the usual order
abbrev pub by_dollars : Kind
by_dollars = record {
  places = 1;
  below = λ a b. int_lt a.first b.first;
  size = λ a. unsigned_abs a.first;
}

-- dollars, then tonnes, which decide only where the dollars are equal; the size is the greater magnitude
abbrev pub by_dollars_then_tonnes : Kind
by_dollars_then_tonnes = record {
  places = 2;
  below = λ a b. int_lt a.first b.first || (not (int_lt b.first a.first) && int_lt a.second b.second);
  size = λ a. max (unsigned_abs a.first) (unsigned_abs a.second);
}
