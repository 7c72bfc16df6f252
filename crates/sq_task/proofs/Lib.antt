pub mod TaskRates
