pub mod Posts
pub mod Takes
pub mod Totals
pub mod Reports
