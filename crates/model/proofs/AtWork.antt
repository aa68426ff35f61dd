-- The definitions at work: tables of examples and tests of demand 3's sentences, each claim proved by computing.
pub mod Cases
pub mod Demand3
pub mod Marked
pub mod Open
pub mod Nested
pub mod Text
pub mod Where
pub mod Worked
