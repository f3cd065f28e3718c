pub mod PunctLevels
