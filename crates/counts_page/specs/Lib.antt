pub mod CountsPage
pub mod Becoming
