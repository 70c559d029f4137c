use Rattle.std.proofs.Common.{rules, ◌≡◌, ℕ, ◌<◌, ◌≢◌, length, get_or, pos, ◌+ℤ◌, refl, sym, ap, ◌∙◌, get_or-set_same, get_or-set_other, below_more, length-set, arith, w64, SFits, to_z, of_z}
use Rattle.std.proofs.lemmas.Int.{to_z-of_z}
use Rattle.rows.specs.Rows.{place, sum}
use Rattle.rows.proofs.Group.{by_places}
use Rattle.sheets.specs.Places.{row_of, largest}
use Rattle.sheets.proofs.Sums.{fits_64, abs_sum, sum_64, place_at, place_sum, largest_sum}
use Rattle.sheets.proofs.Writing.{place_small}
use Rattle.sheets.proofs.places.Places.plus.Goals as goal

pub loop-i-init : goal.loop-i-init
loop-i-init c =
    let few : length c.args.self.numbers ≡ 4 = search rules in
    record { long = few; summed = λ k h. absurd (omega arith); left = λ k h. sym (place_at c.args.self k (omega arith)) }

pub overflow_add-number : goal.overflow_add-number
overflow_add-number c =
    let a = row_of c.args.self in
    let b = row_of c.args.other in
    let i = c.loop-i.i in
    let fit : SFits w64 (get_or c.loop-i.number-items i (pos 0)) = search rules in
    let fit2 : SFits w64 c.place.result = search rules in
    let x : to_z w64 (of_z w64 (get_or c.loop-i.number-items i (pos 0))) ≡ place a i = to_z-of_z w64 _ fit ∙ c.loop-i.invariant.left i (omega arith) in
    let y : to_z w64 (of_z w64 c.place.result) ≡ place b i = to_z-of_z w64 _ fit2 ∙ c.place.ensures in
    rw (x, y) (fits_64 (place a i +ℤ place b i) (omega (arith, abs_sum (place a i) (place b i), place_small a i, place_small b i)))

pub loop-i-preserved : goal.loop-i-preserved
loop-i-preserved c =
    let a = row_of c.args.self in
    let b = row_of c.args.other in
    let i = c.loop-i.i in
    let x : get_or c.loop-i.number-items i (pos 0) ≡ place a i = c.loop-i.invariant.left i (omega arith) in
    let y : c.place.result ≡ place b i = c.place.ensures in
    let within : i < length c.loop-i.number-items = omega arith in
    record {
      long = rw length-set c.loop-i.invariant.long;
      summed = below_more _ _ (λ k h. let ne : k ≢ i = omega arith in rw get_or-set_other (c.loop-i.invariant.summed k h)) (rw (get_or-set_same, x, y) (sum_64 (place a i) (place b i) _ (omega (arith, place_small a i, place_small b i)) refl));
      left = λ k h. let ne : k ≢ i = omega arith in rw get_or-set_other (c.loop-i.invariant.left k (omega arith));
    }

pub returns : goal.returns
returns c =
    let a = row_of c.args.self in
    let b = row_of c.args.other in
    let at : (i : ℕ) → i < 4 → get_or c.loop-i.number-items i (pos 0) ≡ place (sum a b) i =
    λ i h. c.loop-i.invariant.summed i (omega arith) ∙ sym (place_sum a b i) in
    let same : row_of (record { numbers = c.loop-i.number-items }) ≡ sum a b =
    by_places (at 0 (omega arith)) (at 1 (omega arith)) (at 2 (omega arith)) (at 3 (omega arith)) in
    record { sum = same; small = omega (arith, ap largest same, largest_sum a b) }
