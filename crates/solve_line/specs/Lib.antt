pub mod AnswerOf
pub mod Claims
pub mod Laws
pub mod Solved
