-- What stands in the columns of a line, past its letter. Assumes nothing.
use Rattle.std.specs.Prelude.{◌≡◌, ℕ, ◌+◌, ◌*◌, ◌<◌, List, pos, slice_index_or}
use Rattle.rows.specs.Rows.{Row, place}
use Rattle.columns.specs.Columns.{Shows}
use Rattle.sheets.specs.Form.{number_width, hours_width, cost_width, summed_hours_width, summed_cost_width, line_feed, Numbered}

-- the first n places of a row stand one after the other from a place on, each in a column of w
abbrev pub ShowsPlaces : List ℕ → ℕ → ℕ → ℕ → Row → Type 0
ShowsPlaces text at w n r = (i : ℕ) → i < n → Shows text (at + w * i) w (place r i)

-- the first line of a sheet whose costs have n places
pub record HeadColumns (n : ℕ) (text : List ℕ) (ports : ℕ) : Type 0 where
  pub ports_shown : Shows text 0 number_width (pos ports)
  pub places_shown : Shows text number_width number_width (pos n)
  pub line_ends : slice_index_or text (2 * number_width) 0 ≡ line_feed

pub record LegColumns (n : ℕ) (text : List ℕ) (l : Numbered) : Type 0 where
  pub number_shown : Shows text 0 number_width (pos l.number)
  pub from_shown : Shows text number_width number_width (pos l.leg.from)
  pub to_shown : Shows text (2 * number_width) number_width (pos l.leg.to)
  pub hours_shown : Shows text (3 * number_width) hours_width (pos l.leg.hours)
  pub cost_shown : ShowsPlaces text (3 * number_width + hours_width) cost_width n l.leg.cost
  pub line_ends : slice_index_or text (3 * number_width + hours_width + cost_width * n) 0 ≡ line_feed

pub record EndColumns (n : ℕ) (text : List ℕ) (legs hours : ℕ) (cost : Row) : Type 0 where
  pub legs_shown : Shows text 0 number_width (pos legs)
  pub hours_shown : Shows text number_width summed_hours_width (pos hours)
  pub cost_shown : ShowsPlaces text (number_width + summed_hours_width) summed_cost_width n cost
  pub line_ends : slice_index_or text (number_width + summed_hours_width + summed_cost_width * n) 0 ≡ line_feed
