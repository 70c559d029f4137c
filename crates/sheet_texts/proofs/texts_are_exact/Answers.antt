use Rattle.sheet_texts.proofs.OneSheet.{one_sheet, sound_sheet, one_fault}
use Rattle.sheet_texts.proofs.texts_are_exact.Goals as goal

pub returns : goal.returns
returns c = record { one = one_sheet; sound = sound_sheet; fault = one_fault }
