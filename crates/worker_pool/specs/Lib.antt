pub mod Pool
pub mod RoundMachine
