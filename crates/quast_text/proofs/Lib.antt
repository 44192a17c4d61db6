pub mod Names
mod Quasts
mod PendingParts
