-- How far a text is read. Assumes nothing.
use Rattle.std.specs.Prelude.{◌≡◌, ℕ, ◌+◌, ◌<◌, ◌≤◌, List, [], ◌++◌, length, drop, Option, Some, None, Result, MatchResult, ◌≢◌}
use Rattle.limits.specs.declared.refusal.Refusal.{Refusal}
use Rattle.rows.specs.Kinds.{Kind}
use Rattle.sheets.specs.Form.{Sheet, sheet_bytes, head_length, end_length}
use Rattle.sheets.specs.Begun.{Begun, tallied}
use Rattle.sheets.specs.Writing.{numbers_of}
use Rattle.sheet_texts.specs.Faults.{Limits, Readable, front_bytes, FaultAt}
use Rattle.sheets.specs.declared.tally.Tally.{Tally}
use Rattle.sheet_reader.specs.declared.fault.Bounds.{Bounds}
use Rattle.sheet_reader.specs.declared.fault.Fault.{Fault}
use Rattle.sheet_reader.specs.declared.reader.Reader.{Reader}
use Rattle.sheet_reader.specs.declared.reader.Reader.TheVariants.{Head, Legs, Ended}

abbrev pub limits_of : Bounds → Limits
limits_of b = record { ports = b.ports; numbers = b.numbers }

module _ (k : Kind) (m : Limits) (text : List ℕ) where
  -- the first line and some leg lines are read, and the numbers b are theirs: `rest` is what is left, and `line` comes next
  pub record InLegs (b : Begun) (rest : List ℕ) (line : ℕ) : Type 0 where
    pub sheet : Sheet
    pub readable : Readable k m sheet
    pub numbers : b ≡ numbers_of k.places sheet
    pub front : text ≡ front_bytes k.places sheet ++ rest
    pub line_is : line ≡ length sheet.legs + 2

  -- a whole sheet is read
  pub record AtEnd (b : Begun) (rest : List ℕ) (line : ℕ) : Type 0 where
    pub sheet : Sheet
    pub readable : Readable k m sheet
    pub numbers : b ≡ numbers_of k.places sheet
    pub whole : text ≡ sheet_bytes k.places sheet ++ rest
    pub line_is : line ≡ length sheet.legs + 3

  -- where a reader stands
  abbrev pub Stands : Reader → List ℕ → ℕ → Type 0
  Stands Head rest line = (rest ≡ text) × (line ≡ 1)
  Stands (Legs t) rest line = InLegs (tallied t) rest line
  Stands (Ended t) rest line = AtEnd (tallied t) rest line

-- a line of n bytes takes a reader on
pub record Advances (k : Kind) (m : Limits) (r r' : Reader) (rest : List ℕ) (n : ℕ) : Type 0 where
  pub some : 0 < n
  pub within : n ≤ length rest
  pub stands : (text : List ℕ) (line : ℕ) → Stands k m text r rest line → Stands k m text r' (drop n rest) (line + 1)

-- a reader that wants nothing more
abbrev pub HasEnded : Reader → Type 0
HasEnded Head = ⊥
HasEnded (Legs t) = ⊥
HasEnded (Ended t) = Unit {0}

-- the next line is at fault, unless the reader wants nothing more and nothing is left
abbrev pub Stops : Kind → Limits → Reader → List ℕ → Refusal → Type 0
Stops k m r rest e = (text : List ℕ) (line : ℕ) → (HasEnded r → rest ≢ []) → Stands k m text r rest line → FaultAt k m text e line

-- what comes of one line: its length, or why it is at fault
abbrev pub TakesLine : Kind → Limits → Reader → Reader → List ℕ → Result ℕ Refusal → Type 0
TakesLine k m r r' rest answer = MatchResult answer (λ n. Advances k m r r' rest n) (λ e. Stops k m r rest e)

-- what comes of a first line: the tally after it, or why it is at fault
abbrev pub TakesHead : Kind → Limits → List ℕ → Result Tally Refusal → Type 0
TakesHead k m rest answer = MatchResult answer (λ t. Advances k m Head (Legs t) rest head_length) (λ e. Stops k m Head rest e)

-- what comes of an end line after the lines of a tally
abbrev pub TakesEnd : Kind → Limits → Tally → List ℕ → Result (Unit {0}) Refusal → Type 0
TakesEnd k m t rest answer = MatchResult answer (λ _. Advances k m (Legs t) (Ended t) rest (end_length k.places)) (λ e. Stops k m (Legs t) rest e)

-- a text is a chart sheet that can be read, and the numbers b are its own
pub record Whole (k : Kind) (m : Limits) (text : List ℕ) (b : Begun) : Type 0 where
  pub sheet : Sheet
  pub readable : Readable k m sheet
  pub numbers : b ≡ numbers_of k.places sheet
  pub whole : text ≡ sheet_bytes k.places sheet

-- a text is at fault in the line that is told
abbrev pub FaultIn : Kind → Limits → List ℕ → Refusal → Option ℕ → Type 0
FaultIn k m text e (Some line) = FaultAt k m text e line
FaultIn k m text e None = ⊥

-- a text that is at fault in a line is no sheet that can be read
pub record AtFault (k : Kind) (m : Limits) (text : List ℕ) (f : Fault) : Type 0 where
  pub fault : FaultIn k m text f.refusal f.line
  pub no_sheet : (s : Sheet) → Readable k m s → text ≢ sheet_bytes k.places s

-- what comes of a whole text: the tally of its sheet, or its first line at fault
abbrev pub Checks : Kind → Limits → List ℕ → Result Tally Fault → Type 0
Checks k m text answer = MatchResult answer (λ t. Whole k m text (tallied t)) (λ f. AtFault k m text f)
