-- What a grid of hours shows. Assumes nothing.
use Rattle.std.proofs.Common.{◌≡◌, ℕ, zero, suc, ◌+◌, ◌/◌, ◌%◌, ◌≤◌, Bool, true, false, cond, eqb, List, [], ◌∷◌, length, get_or, take, sym, refl, ap, ◌∙◌, arith, length-take}
use Rattle.std.proofs.lemmas.Bool.Decides.{nat_tests}
use Rattle.limits.specs.Numbers.{most_ports, most_legs}
use Rattle.rows.specs.Rows.{Row}
use Rattle.rows.specs.Kinds.{Kind}
use Rattle.charts.specs.Meaning.{Figures, blank, leg, Allowed, Within, shown_at}
use Rattle.charts.specs.Limits.{limited}
use Rattle.charts.specs.Grid.{hours_shown, hours_from, grid}
use Rattle.charts.proofs.Allowed.{limited_allowed, blank_no_leg}

module _ (k : Kind) (p : ℕ) (c : Row) where
  from_number : (i n : ℕ) (hs : List ℕ) → get_or (hours_from k p c i hs) n blank ≡ hours_shown k p c (i + n) (get_or hs n 0)
  from_number i n [] = refl
  from_number i zero (h ∷ hs) = ap (λ (j : ℕ). hours_shown k p c j h) (omega arith)
  from_number i (suc n) (h ∷ hs) = from_number (suc i) n hs ∙ ap (λ (j : ℕ). hours_shown k p c j (get_or hs n 0)) (omega arith)

  pub shown_hours : (hours : List ℕ) (n h : ℕ) → h ≡ get_or (take most_legs hours) n 0 → hours_shown k p c n h ≡ shown_at (grid k p c hours) n
  shown_hours hours n h e =
      ap (hours_shown k p c n) e ∙ ap (λ (j : ℕ). hours_shown k p c j (get_or (take most_legs hours) n 0)) (omega arith) ∙ sym (from_number 0 n (take most_legs hours))

  length_from : (i : ℕ) (hs : List ℕ) → length (hours_from k p c i hs) ≡ length hs
  length_from i [] = refl
  length_from i (h ∷ hs) = ap suc (length_from (suc i) hs)

  pub length_grid : (hours : List ℕ) → length (grid k p c hours).entries ≡ length (take most_legs hours)
  length_grid hours = length_from 0 (take most_legs hours)

  hours_allowed : (n h : ℕ) (f : Figures) → hours_shown k p c n h ≡ leg f → Allowed k p f
  hours_allowed n h f = by_test (eqb h 0)
    where
      by_test : (b : Bool) → cond b blank (limited k p (record { from = n / p; to = n % p; hours = h; cost = c })) ≡ leg f → Allowed k p f
      by_test true e = blank_no_leg e
      by_test false e = limited_allowed k p _ f e

  pub grid_within : (hours : List ℕ) → 1 ≤ p → p ≤ most_ports → Within k (grid k p c hours)
  grid_within hours some few = record {
    some_port = some;
    few_ports = few;
    few_entries = omega (arith, length_grid hours, length-take most_legs hours);
    legs_allowed = λ n f e. hours_allowed n (get_or (take most_legs hours) n 0) f (shown_hours hours n _ refl ∙ e);
  }

  -- some hours are the leg under the limits
  pub some_hours : (n h : ℕ) → (h ≡ 0 → ⊥) → limited k p (record { from = n / p; to = n % p; hours = h; cost = c }) ≡ hours_shown k p c n h
  some_hours n h some = let e : eqb h 0 ≡ false = grind (arith, nat_tests) in rw e refl
