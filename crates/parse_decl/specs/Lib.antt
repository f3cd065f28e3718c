pub mod IsRead
