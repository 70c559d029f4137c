-- The legs of a table are those that were put into it. Assumes nothing.
use Rattle.std.proofs.Common.{◌≡◌, ℕ, zero, suc, ◌+◌, ◌-◌, ◌<◌, List, [], ◌∷◌, ◌++◌, length, set, replicate, Some, None, Option, sym, refl, ap, ◌∙◌, subst, arith}
use Rattle.std.specs.List.{AllByRecursion}
use Rattle.std.proofs.lemmas.List.{append_assoc, length-append, length-replicate, set_at}
use Rattle.rows.specs.Kinds.{Kind}
use Rattle.charts.specs.Meaning.{Figures}
use Rattle.sheets.specs.declared.form.Form.TheVariants.{Chart}
use Rattle.sheets.specs.Form.{Numbered}
use Rattle.sheets.specs.Proper.{ProperLegs}
use Rattle.sheet_reader.specs.Tables.{placed, table_of, legs_from}

abbrev blanks : ℕ → List (Option Figures)
blanks m = replicate m None

legs_append : (n : ℕ) (xs ys : List (Option Figures)) → legs_from n (xs ++ ys) ≡ legs_from n xs ++ legs_from (n + length xs) ys
legs_append n [] ys = ap (λ (i : ℕ). legs_from i ys) (omega arith)
legs_append n (None ∷ xs) ys =
    let i : n + 1 + length xs ≡ n + suc (length xs) = omega arith in
    legs_append (n + 1) xs ys ∙ ap (λ (j : ℕ). legs_from (n + 1) xs ++ legs_from j ys) i
legs_append n (Some f ∷ xs) ys =
    let i : n + 1 + length xs ≡ n + suc (length xs) = omega arith in
    ap (λ (ls : List Numbered). record { number = n; leg = f } ∷ ls) (legs_append (n + 1) xs ys ∙ ap (λ (j : ℕ). legs_from (n + 1) xs ++ legs_from j ys) i)

legs_blank : (n m : ℕ) → legs_from n (blanks m) ≡ []
legs_blank n zero = refl
legs_blank n (suc m) = legs_blank (n + 1) m

split_blanks : (j m : ℕ) → j < m → blanks m ≡ blanks j ++ (None ∷ blanks (m - j - 1))
split_blanks j zero below = absurd (omega arith)
split_blanks zero (suc m) below = ap (λ (i : ℕ). None ∷ blanks i) (omega arith)
split_blanks (suc j) (suc m) below =
    let i : suc m - suc j - 1 ≡ m - j - 1 = omega arith in
    ap (λ (t : List (Option Figures)). None ∷ t) (split_blanks j m (omega arith) ∙ ap (λ (r : ℕ). blanks j ++ (None ∷ blanks r)) (sym i))

-- a leg put among the blanks behind a front
set_blank : (front : List (Option Figures)) (j m : ℕ) (f : Figures) → j < m
    → set (front ++ blanks m) (length front + j) (Some f) ≡ (front ++ (blanks j ++ (Some f ∷ []))) ++ blanks (m - j - 1)
set_blank front j m f below =
    let rest = blanks (m - j - 1) in
    ap (λ (t : List (Option Figures)). set (front ++ t) (length front + j) (Some f)) (split_blanks j m below)
    ∙ ap (λ (t : List (Option Figures)). set t (length front + j) (Some f)) (sym (append_assoc front (blanks j) (None ∷ rest)))
    ∙ set_at (front ++ blanks j) None rest (Some f) (length front + j) (length-append front (blanks j) ∙ ap (λ (i : ℕ). length front + i) (length-replicate j None))
    ∙ sym (append_assoc (front ++ blanks j) (Some f ∷ []) rest)
    ∙ ap (λ (t : List (Option Figures)). t ++ rest) (append_assoc front (blanks j) (Some f ∷ []))

-- the legs of a front with one leg more behind some blanks
legs_more : (front : List (Option Figures)) (j : ℕ) (l : Numbered) → l.number ≡ length front + j
    → legs_from 0 (front ++ (blanks j ++ (Some l.leg ∷ []))) ≡ legs_from 0 front ++ (l ∷ [])
legs_more front j l is =
    let at : 0 + length front + length (blanks j) ≡ l.number = omega (arith, is, length-replicate {A = Option Figures} j None) in
    legs_append 0 front (blanks j ++ (Some l.leg ∷ []))
    ∙ ap (λ (ls : List Numbered). legs_from 0 front ++ ls)
    (legs_append (0 + length front) (blanks j) (Some l.leg ∷ [])
    ∙ ap (λ (ls : List Numbered). ls ++ legs_from (0 + length front + length (blanks j)) (Some l.leg ∷ [])) (legs_blank (0 + length front) j)
    ∙ ap (λ (n : ℕ). record { number = n; leg = l.leg } ∷ []) at)

legs_placed : (k : Kind) (p : ℕ) (front : List (Option Figures)) (m : ℕ) (ls : List Numbered) → ProperLegs k Chart p (length front) ls
    → AllByRecursion (λ (l : Numbered). l.number < length front + m) ls → legs_from 0 (placed ls (front ++ blanks m)) ≡ legs_from 0 front ++ ls
legs_placed k p front m [] proper below =
    legs_append 0 front (blanks m) ∙ ap (λ (ls : List Numbered). legs_from 0 front ++ ls) (legs_blank (0 + length front) m)
legs_placed k p front m (l ∷ ls) proper below =
    let j : ℕ = l.number - length front in
    let at : length front + j ≡ l.number = omega (arith, proper.0.from_least) in
    let within : j < m = omega (arith, proper.0.from_least, below.0) in
    let front' : List (Option Figures) = front ++ (blanks j ++ (Some l.leg ∷ [])) in
    let long : length front' ≡ l.number + 1 =
    length-append front (blanks j ++ (Some l.leg ∷ [])) ∙ omega (arith, at, length-append (blanks j) (Some l.leg ∷ []), length-replicate {A = Option Figures} j None) in
    let room : length front + m ≡ length front' + (m - j - 1) = omega (arith, long, at, within) in
    ap (λ (n : ℕ). legs_from 0 (placed ls (set (front ++ blanks m) n (Some l.leg)))) (sym at)
    ∙ ap (λ (t : List (Option Figures)). legs_from 0 (placed ls t)) (set_blank front j m l.leg within)
    ∙ legs_placed k p front' (m - j - 1) ls (subst (λ (n : ℕ). ProperLegs k Chart p n ls) (sym long) proper.1)
    (subst (λ (n : ℕ). AllByRecursion (λ (x : Numbered). x.number < n) ls) room below.1)
    ∙ ap (λ (xs : List Numbered). xs ++ ls) (legs_more front j l (sym at))
    ∙ append_assoc (legs_from 0 front) (l ∷ []) ls

-- a table of legs that rise lists just them
pub legs_listed : (k : Kind) (p size : ℕ) (ls : List Numbered) → ProperLegs k Chart p 0 ls → AllByRecursion (λ (l : Numbered). l.number < size) ls → legs_from 0 (table_of size ls) ≡ ls
legs_listed k p size ls proper below =
    let none : size ≡ length {A = Option Figures} [] + size = omega arith in
    legs_placed k p [] size ls proper (subst (λ (n : ℕ). AllByRecursion (λ (l : Numbered). l.number < n) ls) none below)
