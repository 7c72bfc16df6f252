mod LookUps
mod Views
mod Readings
