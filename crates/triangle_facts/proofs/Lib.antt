pub mod Rounds
pub mod Settled
pub mod NoRound
pub mod Figures
pub mod Written
pub mod Told
