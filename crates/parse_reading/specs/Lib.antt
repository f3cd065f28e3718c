pub mod Reading
pub mod ReadingDeclarators
pub mod ReadingStatements
pub mod ReadingFile
