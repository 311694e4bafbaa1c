pub mod Readings
pub mod OneBlock
pub mod CallTexts
pub mod Through
pub mod StartsMore
pub mod Rests
pub mod Windows
pub mod Coming
