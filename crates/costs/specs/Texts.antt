-- How costs are told. Assumes nothing.
use lib.Chars.{codes}
use Rattle.std.specs.Prelude.{List, ◌++◌, ℕ}
use Rattle.std.specs.Fmt.{signed_decimal}
use Rattle.costs.specs.declared.money.Money.{Money}
use Rattle.costs.specs.declared.money_tonnes.MoneyTonnes.{MoneyTonnes}

abbrev pub money_text : Money → List ℕ
money_text c = signed_decimal c.dollars ++ codes " dollars"

abbrev pub money_tonnes_text : MoneyTonnes → List ℕ
money_tonnes_text c = signed_decimal c.dollars ++ (codes " dollars and " ++ (signed_decimal c.tonnes ++ codes " tonnes"))
