pub mod HideSets
pub mod Views
pub mod Gathering
