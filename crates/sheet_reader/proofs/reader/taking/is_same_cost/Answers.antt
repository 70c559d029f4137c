use Rattle.std.proofs.Common.{List, ℤ, sym, ap, ◌∙◌, rules}
use Rattle.std.specs.Cmp.Rules.{signed_items}
use Rattle.sheets.specs.Places.{row_of}
use Rattle.sheets.proofs.Sums.{same_numbers}
use Rattle.sheet_reader.proofs.reader.taking.is_same_cost.Goals as goal

pub returns : goal.returns
returns c =
    let decides = signed_items c.args.a.numbers c.args.b.numbers in (
      λ t. ap (λ (xs : List ℤ). row_of (record { numbers = xs })) (decides.0 (sym c.eq.ensures ∙ t)),
      λ e. c.eq.ensures ∙ decides.1 (same_numbers c.args.a c.args.b (search rules) (search rules) e),
    )
