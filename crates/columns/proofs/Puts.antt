-- Bytes put after those that were put already. Assumes nothing.
use Rattle.std.proofs.Common.{◌≡◌, ℕ, ◌+◌, ◌<◌, ◌≤◌, List, [], ◌∷◌, ◌++◌, length, take, drop, set, sym, ap, ◌∙◌, add-one, arith}
use borrow.Rule.Slice.PartMut.{put_mid}
use Rattle.std.proofs.lemmas.List.{append_assoc, set_split, length-append, length-take-le, length-drop, drop-drop, take_at, drop_at}
use Rattle.columns.specs.Put.{put}

pub put_one : (d : List ℕ) (at b : ℕ) → at < length d → set d at b ≡ put d at (b ∷ [])
unfolding put
put_one d at b within = set_split d at b within ∙ ap (λ (n : ℕ). take at d ++ (b ∷ drop n d)) (sym (add-one at))

-- what a write to `out[at..at + k]` leaves
pub put_part : (d s : List ℕ) (at k : ℕ) → length s ≡ k → put_mid at k d s ≡ put d at s
unfolding put
put_part d s at k e = ap (λ (rest : List ℕ). take at d ++ (s ++ rest)) (drop-drop k at d ∙ ap (λ (n : ℕ). drop (at + n) d) (sym e))

pub length_put : (d s : List ℕ) (at : ℕ) → at + length s ≤ length d → length (put d at s) ≡ length d
unfolding put
length_put d s at room =
    omega (arith, length-append (take at d) (s ++ drop (at + length s) d), length-append s (drop (at + length s) d), length-take-le at d (omega arith), length-drop (at + length s) d)

-- t put right after s
pub put_after : (d s t : List ℕ) (at m : ℕ) → m ≡ at + length s → at ≤ length d → put (put d at s) m t ≡ put d at (s ++ t)
unfolding put
put_after d s t at m e room =
    let whole : put d at s ≡ (take at d ++ s) ++ drop (at + length s) d = sym (append_assoc (take at d) s (drop (at + length s) d)) in
    let len : length (take at d ++ s) ≡ m = omega (arith, length-append (take at d) s, length-take-le at d room) in
    let front : take m (put d at s) ≡ take at d ++ s = ap (take m) whole ∙ take_at (take at d ++ s) (drop (at + length s) d) m len in
    let end : at + length s + length t ≡ at + length (s ++ t) = omega (arith, length-append s t) in
    let rest : drop m (put d at s) ≡ drop (at + length s) d = ap (drop m) whole ∙ drop_at (take at d ++ s) (drop (at + length s) d) m len in
    let back : drop (m + length t) (put d at s) ≡ drop (at + length (s ++ t)) d =
    sym (drop-drop (length t) m (put d at s)) ∙ ap (drop (length t)) rest ∙ drop-drop (length t) (at + length s) d ∙ ap (λ (k : ℕ). drop k d) end in
    rw (front, back) (append_assoc (take at d) s (t ++ drop (at + length (s ++ t)) d) ∙ ap (λ (rest : List ℕ). take at d ++ rest) (sym (append_assoc s t (drop (at + length (s ++ t)) d))))
