pub mod LaidUnder
