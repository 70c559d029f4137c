-- Rows read and written at the places of a list. Assumes nothing.
use Rattle.std.proofs.Common.{◌≡◌, ℕ, zero, suc, ◌<◌, ◌≢◌, List, [], ◌∷◌, map, length, get_or, set, sym, ap, ◌∙◌, subst, arith}
use lib.ListN.{length-map}
use Rattle.std.proofs.lemmas.List.{get_or-map, get_or-set_same, get_or-set_other, map-set}
use Rattle.std.specs.List.{FoldsTo}
use Rattle.rows.specs.Rows.{Row, zero_row}
use Rattle.search.specs.Layer.{row_at}

-- a place read, written, and left alone
pub row_read : {K : Type 0} (row : K → Row) (xs : List K) (i : ℕ) (x : K) → i < length xs → x ≡ get_or xs i x → row_at row xs i ≡ row x
unfolding row_at
row_read row xs i x h e = get_or-map row xs i x zero_row h ∙ ap row (sym e)

pub row_set : {K : Type 0} (row : K → Row) (xs : List K) (i : ℕ) (x : K) → i < length xs → row_at row (set xs i x) i ≡ row x
unfolding row_at
row_set row xs i x h = ap (λ (l : List Row). get_or l i zero_row) (map-set row xs i x) ∙ get_or-set_same (map row xs) i (row x) zero_row (omega (arith, length-map xs row))

pub row_other : {K : Type 0} (row : K → Row) (xs : List K) (i v : ℕ) (x : K) → v ≢ i → row_at row (set xs i x) v ≡ row_at row xs v
unfolding row_at
row_other row xs i v x h = ap (λ (l : List Row). get_or l v zero_row) (map-set row xs i x) ∙ get_or-set_other (map row xs) i v (row x) zero_row h

-- each call of the closure gives x and leaves it as it was
pub row_filled : {K F : Type 0} (row : K → Row) (R : F → K → F → Type 0) (f last : F) (x : K) → ((y : K) (q : F) → R f y q → (y ≡ x) × (q ≡ f)) → (xs : List K) → FoldsTo R f xs last
    → (i : ℕ) → i < length xs → row_at row xs i ≡ row x
unfolding row_at
row_filled row R f last x same [] o i h = absurd (omega arith)
row_filled row R f last x same (y ∷ xs) o zero h = ap row (same y o.0 o.1).0
row_filled {K} {F} row R f last x same (y ∷ xs) o (suc i) h = row_filled row R f last x same xs (subst (λ (q : F). FoldsTo R q xs last) (same y o.0 o.1).1 o.2) i (omega arith)
