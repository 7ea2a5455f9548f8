pub mod FormsLaid
