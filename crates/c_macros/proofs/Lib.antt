pub mod Starting
pub mod Included
pub mod Carried
pub mod DirectiveAnswers
