-- A listing in dollars tells each entry as what it shows.
use lib.Chars.{codes}
use Rattle.std.proofs.Common.{◌≡◌, ℕ, suc, ◌+◌, List, ◌++◌, Option, Some, IfSome, true, refl, sym, ap, ◌∙◌, subst, append_assoc, arith}
use Rattle.std.specs.Fmt.{decimal, ◌++?◌, IsPlainFormatter, HasWritten}
use Rattle.std.specs.declared.fmt.Formatter.{Formatter}
use Rattle.std.proofs.Output.{has_written_append, has_written_of_eq}
use Rattle.rows.specs.Rows.{Row, one_place}
use Rattle.costs.specs.declared.money.Money.{Money}
use Rattle.costs.specs.Texts.{money_text}
use Rattle.charts.specs.Meaning.{Meaning, shown_at}
use Rattle.charts.specs.Reading.{entry_shown}
use Rattle.charts.specs.Texts.{entry_text}
use Rattle.charts.specs.declared.leg.Entry.{Entry}
use Rattle.charts.specs.declared.leg.Entry.TheVariants.{Blank, Leg, Over}
use Rattle.triangle_facts.specs.Listing.{shown_text, line_text, lines_below, counts_text}

abbrev row : Money → Row
row c = one_place c.dollars

-- what is written for an entry
abbrev told : Entry Money → Option (List ℕ)
told = entry_text (λ c. Some (money_text c))

entry_told : (e : Entry Money) → Some (shown_text (entry_shown row e)) ≡ told e
entry_told Blank = refl
entry_told (Leg l) = simp append_assoc
entry_told Over = refl

-- what is written for a line, by what is written for its entry
abbrev line_told : ℕ → Option (List ℕ) → Option (List ℕ)
line_told n o = Some (codes "  ") ++? Some (decimal n) ++? Some (codes ": ") ++? o ++? Some (codes "\n")

-- the lines so far and the line of number n are the lines below n + 1
lines_more : (m : Meaning) (n : ℕ) (e : Entry Money) → entry_shown row e ≡ shown_at m n
    → (counts_text m ++ lines_below m n) ++ line_text n (entry_shown row e) ≡ counts_text m ++ lines_below m (n + 1)
lines_more m n e shows =
    let next : suc n ≡ n + 1 = omega arith in
    append_assoc (counts_text m) (lines_below m n) _
    ∙ ap (λ s. counts_text m ++ (lines_below m n ++ line_text n s)) shows
    ∙ ap (λ k. counts_text m ++ lines_below m k) next

-- the same as writes to a formatter
pub line_written : {W : Type 0} (took : W → List ℕ → W → Type 0) (f g h : Formatter W) (m : Meaning) (n : ℕ) (e : Entry Money)
    → entry_shown row e ≡ shown_at m n
    → HasWritten took f (counts_text m ++ lines_below m n) g
    → IfSome (line_told n (told e)) (λ bs. IsPlainFormatter g → true ≡ true → HasWritten took g bs h)
    → HasWritten took f (counts_text m ++ lines_below m (n + 1)) h
line_written took f g h m n e shows so_far writes =
    let line = subst (λ o. IfSome (line_told n o) (λ bs. IsPlainFormatter g → true ≡ true → HasWritten took g bs h)) (sym (entry_told e)) writes in
    has_written_of_eq took _ _ _ _ (lines_more m n e shows) (has_written_append took _ _ _ _ _ so_far (line so_far.plain refl))
