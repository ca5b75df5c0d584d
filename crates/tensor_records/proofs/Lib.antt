pub mod LentAgain
pub mod Chosen
pub mod SeveralFacts
pub mod Filled
pub mod Listed
pub mod Within
