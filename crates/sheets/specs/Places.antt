-- The row of places that the code holds as plain numbers, and the largest place of a row. Assumes nothing.
use Rattle.std.specs.Prelude.{◌≡◌, ℕ, ◌<◌, max, pos, slice_index_or, unsigned_abs}
use Rattle.rows.specs.Rows.{Row, place}
use Rattle.sheets.specs.declared.places.Places.{Places}

abbrev pub row_of : Places → Row
row_of p = record {
  first = slice_index_or p.numbers 0 (pos 0);
  second = slice_index_or p.numbers 1 (pos 0);
  third = slice_index_or p.numbers 2 (pos 0);
  fourth = slice_index_or p.numbers 3 (pos 0);
}

-- two rows agree in their first n places
abbrev pub SamePlaces : ℕ → Row → Row → Type 0
SamePlaces n a b = (i : ℕ) → i < n → place a i ≡ place b i

-- the largest magnitude of a place
abbrev pub largest : Row → ℕ
largest r = max (max (unsigned_abs r.first) (unsigned_abs r.second)) (max (unsigned_abs r.third) (unsigned_abs r.fourth))
