pub mod Trees
pub mod Executions
