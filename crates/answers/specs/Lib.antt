pub mod Choice
pub mod Answers
pub mod Firm
pub mod Table
pub mod Outcome
