pub mod Budgets
pub mod Known
pub mod Least
pub mod LeastBudgets
pub mod Made
pub mod Tests
