-- A part of a list written anew, and a row of a table. Assumes nothing.
use Rattle.std.proofs.Common.{◌≡◌, ℕ, ◌+◌, ◌-◌, ◌*◌, ◌<◌, ◌≤◌, List, ◌++◌, map, length, get_or, take, drop, Some, None, Option, sym, ap, ◌∙◌, subst, mul-le-mul_right, suc-mul, add-one, arith}
use mathlib.Core.List.{map-append}
use lib.ListN.{length-map}
use borrow.Rule.Slice.PartMut.{put_mid, post_of}
use Rattle.std.proofs.lemmas.List.{get_or_append_left, get_or-append_right, get_or-take, length-take-le, length-append, length-drop, drop-drop, drop_at}
use Rattle.rows.specs.Rows.{Row, zero_row}
use Rattle.rows.specs.Kinds.{Kind}
use Rattle.costs.specs.declared.rate.Rate.{Rate}
use Rattle.charts.specs.Meaning.{Meaning}
use Rattle.rounds.specs.Marks.{Mark}
use Rattle.search.specs.Layer.{row_at}
use Rattle.search.specs.declared.round.Held.{Held}
use Rattle.search.specs.Search.{Least, Searched}
use Rattle.search.specs.Improve.{Improvement}

-- row i of a table of p columns and p rows
pub row_ends : (i p q len : ℕ) → p ≡ q → i < p → len ≡ q * q → ((i + 1) * p ≤ len) × ((i + 1) * p - i * p ≡ p)
row_ends i p q len e h l =
    let x : (i + 1) * p ≤ p * p = mul-le-mul_right p (rw add-one h) in
    let y : (i + 1) * p ≡ i * p + p = ap (λ n. n * p) (add-one i) ∙ suc-mul i p in
    (omega (arith, ap (λ n. n * n) e), omega arith)

pub put_below : {A : Type 0} (a n : ℕ) (xs ys : List A) (i : ℕ) (d : A) → i < a → a ≤ length xs → get_or (put_mid a n xs ys) i d ≡ get_or xs i d
put_below a n xs ys i d h l = get_or_append_left (take a xs) _ d i (omega (arith, length-take-le a xs l)) ∙ get_or-take a xs i d h

pub put_in : {A : Type 0} (a n : ℕ) (xs ys : List A) (v : ℕ) (d : A) → v < length ys → a ≤ length xs → get_or (put_mid a n xs ys) (a + v) d ≡ get_or ys v d
put_in a n xs ys v d h l =
    let e : a + v - a ≡ v = omega arith in
    get_or-append_right (take a xs) _ a (a + v) d (length-take-le a xs l) (omega arith) ∙ ap (λ i. get_or (ys ++ post_of a n xs) i d) e ∙ get_or_append_left ys _ d v h

pub length_put : {A : Type 0} (a n : ℕ) (xs ys : List A) → a + n ≤ length xs → length ys ≡ n → length (put_mid a n xs ys) ≡ length xs
length_put a n xs ys h e =
    let x = length-append (take a xs) (ys ++ post_of a n xs) in
    let y = length-append ys (post_of a n xs) in
    let z : length (post_of a n xs) ≡ length xs - a - n = length-drop n (drop a xs) ∙ ap (λ l. l - n) (length-drop a xs) in
    omega (arith, x, y, z, length-take-le a xs (omega arith))

-- two rows fit in the numbers of the area
pub two_rows : (p : ℕ) → 1 ≤ p → 2 * p ≤ (p + 1) * p
two_rows p h = let x : 1 * p ≤ p * p = mul-le-mul_right p h in let y : (p + 1) * p ≡ p * p + p = ap (λ n. n * p) (add-one p) ∙ suc-mul p p in omega arith

-- the front of a list written anew, as a slice from 0 on leaves it
module _ {A : Type 0} (n : ℕ) (xs ys : List A) (suffice : n ≤ length xs) (kept : length ys ≡ length (take (n - 0) xs)) where
  pub front_length : length ys ≡ n
  front_length = omega (arith, length-take-le (n - 0) xs (omega arith))

  pub front_rest : (e : ℕ) → n ≤ e → drop e (ys ++ post_of 0 (n - 0) xs) ≡ drop e xs
  front_rest e h =
      let i : e ≡ n + (e - n) = omega arith in
      let j : n - 0 + (e - n) ≡ e = omega arith in
      ap (λ u. drop u (ys ++ post_of 0 (n - 0) xs)) i
      ∙ sym (drop-drop (e - n) n (ys ++ post_of 0 (n - 0) xs))
      ∙ ap (drop (e - n)) (drop_at ys (post_of 0 (n - 0) xs) n front_length)
      ∙ drop-drop (e - n) (n - 0) xs
      ∙ ap (λ u. drop u xs) j

pub row_front : {K : Type 0} (row : K → Row) (xs ys : List K) (i : ℕ) → i < length xs → row_at row (xs ++ ys) i ≡ row_at row xs i
unfolding row_at
row_front row xs ys i h = ap (λ (l : List Row). get_or l i zero_row) (map-append row xs ys) ∙ get_or_append_left (map row xs) (map row ys) zero_row i (omega (arith, length-map xs row))

-- marks in the front of a longer list
pub least_front : {K : Type 0} (k : Kind) (row : K → Row) (m : Meaning) (rate : Rate K) (xs ys : List K) → m.ports ≤ length xs → Least k row m rate xs → Least k row m rate (xs ++ ys)
least_front k row m rate xs ys h l = record {
  best = l.best;
  marks = λ v b. subst (Mark k m (row rate.cost) rate.hours v) (sym (row_front row xs ys v (omega arith))) (l.marks v b);
}

pub searched_front : {K : Type 0} (k : Kind) (row : K → Row) (m : Meaning) (rate : Rate K) (xs ys : List K) (was buffer : List ℕ) → m.ports ≤ length xs → (r : Option (Held K))
    → Searched k row m rate xs was buffer r → Searched k row m rate (xs ++ ys) was buffer r
searched_front k row m rate xs ys was buffer h (Some held) s = s
searched_front k row m rate xs ys was buffer h None s = (s.0, least_front k row m rate xs ys h s.1)

pub improved_front : {K : Type 0} (k : Kind) (row : K → Row) (m : Meaning) (was : Held K) (old : List ℕ) (xs ys : List K) (buffer : List ℕ) → m.ports ≤ length xs → (r : Option (Held K))
    → Improvement k row m was old xs buffer r → Improvement k row m was old (xs ++ ys) buffer r
improved_front k row m was old xs ys buffer h (Some new) o = record { holds = o.holds; cheaper_than = o.cheaper_than; least = least_front k row m new.rate xs ys h o.least }
improved_front k row m was old xs ys buffer h None o = record { unchanged = o.unchanged; holds = o.holds; least = least_front k row m was.rate xs ys h o.least }
