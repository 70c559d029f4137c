-- A whole sheet at once: why it is refused, and what is then in the buffer. Assumes nothing.
use Rattle.std.specs.Prelude.{◌≡◌, ℕ, List, [], ◌∷◌, map, length, Some, None, Option, Result}
use Rattle.limits.specs.Refusals.{or_refusal, answer}
use Rattle.limits.specs.declared.refusal.Refusal.{Refusal}
use Rattle.rows.specs.Rows.{Row}
use Rattle.rows.specs.Kinds.{Kind}
use Rattle.columns.specs.Put.{put}
use Rattle.sheets.specs.declared.form.Form.{Form}
use Rattle.sheets.specs.declared.numbered.NumberedLeg.{NumberedLeg}
use Rattle.sheets.specs.Form.{Numbered, Sheet, sheet_bytes}
use Rattle.sheets.specs.Proper.{Proper}
use Rattle.sheets.specs.Begun.{Begun, opened, with_leg, begin_refusal, line_refusal}
use Rattle.sheets.specs.Writing.{numbered_of, struck}

abbrev pub listed : {K : Type 0} → (K → Row) → Form → ℕ → List (NumberedLeg K) → Sheet
listed row form ports legs = record { form = form; ports = ports; legs = map (numbered_of row) legs }

-- the first refusal among leg lines that are put one after the other
abbrev pub lines_refusal : Kind → Begun → List Numbered → ℕ → Option Refusal
lines_refusal k b [] len = None
lines_refusal k b (l ∷ ls) len = or_refusal (line_refusal k b l len) (lines_refusal k (with_leg k.places b l) ls len)

abbrev pub sheet_refusal : Kind → Sheet → ℕ → Option Refusal
sheet_refusal k s len = or_refusal (begin_refusal k.places s.ports len) (lines_refusal k (opened s.form s.ports) s.legs len)

-- a whole sheet is put at the front of a buffer, or struck where a line of it is refused
pub record PutsSheet (k : Kind) (s : Sheet) (out : List ℕ) (r : Result ℕ Refusal) (out' : List ℕ) : Type 0 where
  pub answered : r ≡ answer (sheet_refusal k s (length out)) (length (sheet_bytes k.places s))
  -- the sheet at the front, all else as it was
  pub bytes : sheet_refusal k s (length out) ≡ None → out' ≡ put out 0 (sheet_bytes k.places s)
  -- zeros at the front, all else as it was
  pub zeros : (e : Refusal) → sheet_refusal k s (length out) ≡ Some e → (m : ℕ) × (out' ≡ struck m out)
  pub proper : sheet_refusal k s (length out) ≡ None → Proper k s
