pub mod Least
pub mod RuleChosen
