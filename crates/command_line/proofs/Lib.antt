pub mod BudgetsRead
pub mod Commands
pub mod FlagsRead
pub mod NumbersRead
